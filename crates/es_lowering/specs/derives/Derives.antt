-- When a tree is derived from the tokens of a text.
use Rattle.std.specs.Prelude.{◌≡◌, ℕ, List, Option, Some}
use Rattle.es_token.specs.declared.token.Token.{Token}
use Rattle.grammar_theory.specs.declared.error.Lang.{Lang}
use Rattle.grammar_theory.specs.declared.error.Mode.{Mode}
use Rattle.es_ast.specs.declared.ast.Program.{Program}
use Rattle.grammar_theory.specs.Key.{keys_of}
use Rattle.grammar_theory.specs.Plain.{Plain}
use Rattle.es_grammar.specs.declared.rows.NodeKind.{NodeKind}
use Rattle.es_grammar.specs.Conditions.{IsProgram}
use Rattle.es_grammar.specs.cst.Slim.{tree_of}
use Rattle.es_lowering.specs.Value.{Value, given, typed}
use Rattle.es_lowering.specs.Lowering.{value_of}

-- what it is as a program
abbrev pub program_in : Value → Option Program
program_in v = given (typed v) (λ m. m.program)

-- the tree is the typed tree of a plain tree of a program over the keys of all tokens
pub record Derives (lang : Lang) (mode : Mode) (text : List ℕ) (tokens : List Token) (tree : Program) : Type 0 where
  pub plain : Plain NodeKind
  pub program : IsProgram lang mode (keys_of tokens) plain
  pub lowered : program_in (value_of text tokens (tree_of plain)) ≡ Some tree
