-- Faults of a text.
use Rattle.std.proofs.Common.{◌≡◌, ◌∙◌, ap, ℕ, List, Some}
use Rattle.base.specs.declared.range.Range.{Range}
use Rattle.es_token.specs.declared.token.Token.{Token}
use Rattle.es_lexer.specs.declared.error.LexicalError.{LexicalError}
use Rattle.es_lexer.specs.Reads.{ReadsTokens}
use Rattle.es_lexer.specs.Stops.{Stops}
use Rattle.grammar_theory.specs.declared.error.Lang.{Lang}
use Rattle.grammar_theory.specs.declared.error.Mode.{Mode}
use Rattle.es_ast.specs.declared.ast.Program.{Program}
use Rattle.parse_diagnostic.specs.declared.kind.SyntaxErrorKind.{SyntaxErrorKind}
use Rattle.parse_diagnostic.specs.declared.kind.SyntaxErrorKind.TheVariants.{Lexical, Syntax}
use Rattle.parse_diagnostic.specs.declared.diagnostic.ParseFault.{ParseFault}
use Rattle.parse_diagnostic.specs.declared.diagnostic.ParseFault.TheVariants.{Diagnostic, OutOfMemory}
use Rattle.parse_diagnostic.specs.Diagnosis.{Diagnosis, IsDiagnosis, told_range}
use Rattle.source_reading.specs.Tree.{IsFirstTree}
use Rattle.source_reading.specs.Read.{no_tokens, no_tree, at_place}
use Rattle.source_reading.specs.Fault.{IsFaultIn, Refuses}

pub Refuses-weaker : (P Q : Diagnosis → Type 0) → ((d : Diagnosis) → P d → Q d) → (f : ParseFault) → Refuses P f
    → Refuses Q f
Refuses-weaker P Q step (Diagnostic d) is = step d is
Refuses-weaker P Q step OutOfMemory is = tt

-- that memory ran out
pub refuses_memory : (P : Diagnosis → Type 0) (f : ParseFault) → f ≡ OutOfMemory → Refuses P f
refuses_memory P (Diagnostic d) is = absurd (let bad : ⊥ = cc in bad)
refuses_memory P OutOfMemory is = tt

module _ (specifier : List ℕ) (lang : Lang) (modes : List Mode) (text : List ℕ) where
  -- the first lexical fault
  pub lexical_refusal : (d : Diagnosis) (fault : LexicalError) → Stops text fault.kind fault.at
      → IsDiagnosis text specifier (Lexical fault.kind) (at_place fault.at) d
      → IsFaultIn specifier lang modes text d
  lexical_refusal d fault stops is = (
    is.specifier,
    no_tokens fault.kind fault.at stops is.kind
        (ap (λ (k : SyntaxErrorKind). told_range k d.range) is.kind ∙ ap (λ (r : Range). Some r) is.range),
    is.shown,
  )

  -- tokens without a tree
  pub syntax_refusal : (d : Diagnosis) (range : Range) (tokens : List Token) → ReadsTokens text tokens
      → ((tree : Program) → ¬ IsFirstTree lang text tokens modes tree)
      → IsDiagnosis text specifier Syntax range d → IsFaultIn specifier lang modes text d
  syntax_refusal d range tokens reads none is = (
    is.specifier,
    no_tree tokens reads none is.kind (ap (λ (k : SyntaxErrorKind). told_range k d.range) is.kind),
    is.shown,
  )
