-- What the parser answers for a tree that is derived.
use Rattle.std.specs.Prelude.{◌≡◌, ℕ, List, Result, Ok, Err}
use Rattle.es_token.specs.declared.token.Token.{Token}
use Rattle.grammar_theory.specs.declared.error.Lang.{Lang}
use Rattle.grammar_theory.specs.declared.error.Mode.{Mode}
use Rattle.grammar_theory.specs.Key.{keys_of}
use Rattle.grammar_theory.specs.declared.error.SyntaxError.{SyntaxError}
use Rattle.grammar_theory.specs.declared.error.SyntaxError.TheVariants.{Syntax, OutOfMemory}
use Rattle.es_ast.specs.declared.ast.Program.{Program}
use Rattle.es_lowering.specs.derives.Derives.{Derives}
use Rattle.es_program_reader.specs.Program.{HoldsKept}
use Rattle.es_program.specs.Owned.{Owned}

-- a program of this text and these tokens, which is derived from them, and whose row is the tree that they have
pub record IsOwn (lang : Lang) (text : List ℕ) (tokens : List Token) (p : Owned Program) : Type 0 where
  pub text_is : p.text ≡ text
  pub tokens_are : p.tokens ≡ tokens
  pub mode : Mode
  pub kept : HoldsKept lang mode (keys_of tokens) p.entries
  pub derived : Derives lang mode text tokens p.typed

-- this tree, or "out of memory"
abbrev pub GivesTree : Result (Owned Program) SyntaxError → Program → Type 0
GivesTree (Ok answer) tree = answer.typed ≡ tree
GivesTree (Err (Syntax token)) tree = ⊥
GivesTree (Err OutOfMemory) tree = Unit {0}
