-- What the plain tree that is read and the typed tree that is made of it tell of the trees that are derived.
use Rattle.std.specs.Prelude.{List, Some, Result, Err}
use Rattle.std.proofs.Common.{◌≡◌, ℕ, refl, sym, ap, ◌∙◌, subst}
use Rattle.std.proofs.lemmas.Option.{same_Some}
use Rattle.es_token.specs.declared.token.Token.{Token}
use Rattle.grammar_theory.specs.declared.error.Lang.{Lang}
use Rattle.grammar_theory.specs.declared.error.Mode.{Mode}
use Rattle.grammar_theory.specs.Key.{keys_of}
use Rattle.grammar_theory.specs.declared.error.SyntaxError.{SyntaxError}
use Rattle.grammar_theory.specs.declared.error.SyntaxError.TheVariants.{Syntax, OutOfMemory}
use Rattle.es_ast.specs.declared.ast.Program.{Program}
use Rattle.es_grammar.proofs.Theorems.{one_program}
use Rattle.es_grammar.specs.declared.cst.tree.Cst.{Cst}
use Rattle.es_grammar.specs.cst.Slim.{tree_of}
use Rattle.es_syntax.specs.declared.entry.Entry.{Entry}
use Rattle.es_program_reader.specs.Program.{IsKept, HoldsKept}
use Rattle.es_program_reader.specs.Derived.{IsRowOf, GivesTree as GivesPlain}
use Rattle.es_program.specs.Typed.{program_at}
use Rattle.es_program.specs.Owned.{Owned}
use Rattle.es_lowering.specs.Lowering.{value_of}
use Rattle.es_lowering.specs.derives.Derives.{program_in, Derives}
use Rattle.es_law_programs.proofs.sites.Theorems.{kept_sites}
use Rattle.es_parser.specs.Answers.{GivesTree, IsOwn}
use Rattle.es_parser.specs.Made.{IsTyped, HoldsTyped}
use Rattle.es_parser.proofs.RowLemmas.{row_typed}

module _ (l : Lang) (m : Mode) (x : List ℕ) (ts : List Token) where
  -- a derived tree is that of a plain tree which is kept
  pub kept_of : (p : Program) → (derived : Derives l m x ts p) → IsKept l m (keys_of ts) (tree_of derived.plain)
  kept_of p derived = record { plain = derived.plain; program = derived.program; kept = refl }

  -- what is made of a row that is kept is derived
  pub derived_of : (es : List Entry) (p : Program) → HoldsKept l m (keys_of ts) es → program_at x ts es ≡ Some p
      → Derives l m x ts p
  derived_of es p held made = record {
    plain = held.kept.plain;
    program = held.kept.program;
    lowered = ap (λ t. program_in (value_of x ts t)) held.kept.kept ∙ (sym (row_typed x ts es held.tree held.row) ∙ made);
  }

  -- and it is the text's own
  pub own_of : (es : List Entry) (p : Owned Program) → HoldsKept l m (keys_of ts) es → p.text ≡ x → p.tokens ≡ ts
      → p.entries ≡ es → program_at x ts es ≡ Some p.typed → IsOwn l x ts p
  own_of es p held text tokens entries typed = record {
    text_is = text;
    tokens_are = tokens;
    mode = m;
    kept = subst (HoldsKept l m (keys_of ts)) (sym entries) held;
    derived = derived_of es p.typed held typed;
  }

  -- what is derived is made of the row that was read
  pub one_made : (es : List Entry) (q p : Program) → (derived : Derives l m x ts p) → IsRowOf (tree_of derived.plain) es
      → program_at x ts es ≡ Some q → q ≡ p
  one_made es q p derived row made =
      same_Some q p (sym made ∙ (row_typed x ts es (tree_of derived.plain) row ∙ derived.lowered))

  -- what is kept has a typed tree, whose sites are its own
  typed_of : (tree : Cst) → IsKept l m (keys_of ts) tree → IsTyped x ts tree
  typed_of tree kept =
      let typed = kept_sites l m x ts kept.plain tree kept.program kept.kept in
      let one = one_program l m (keys_of ts) kept.plain typed.1.plain kept.program typed.1.program in
      record {
        program = typed.0;
        typed = ap (λ t. program_in (value_of x ts t)) (sym kept.kept ∙ ap tree_of one) ∙ typed.1.lowered;
        sites = typed.2;
      }

  -- so has the row of it
  pub held_of : (es : List Entry) → HoldsKept l m (keys_of ts) es → HoldsTyped x ts es
  held_of es held = record { tree = held.tree; row = held.row; made = typed_of held.tree held.kept }

-- a refusal of the plain tree is one of the typed tree
pub refused : (r : Result (Owned Program) SyntaxError) (y e : SyntaxError) (p : Program) (tree : Cst) → r ≡ Err y → y ≡ e
    → GivesPlain (Err e) tree → GivesTree r p
refused r y e p tree is_err same given =
    let P : Result (Owned Program) SyntaxError → Type 0 = λ r. GivesTree r p in
    subst P (sym (is_err ∙ ap Err same)) (at_error e given)
  where
    at_error : (e : SyntaxError) → GivesPlain (Err e) tree → GivesTree (Err e) p
    at_error (Syntax token) given = absurd given
    at_error OutOfMemory given = tt
