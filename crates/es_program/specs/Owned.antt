-- What contracts see of an owner of a program: a text, the tokens that read it, a row of entries over them, and the
-- program, module or script that the row is.
use Rattle.std.specs.Prelude.{ℕ, List}
use Rattle.es_token.specs.declared.token.Token.{Token}
use Rattle.es_ast.specs.declared.ast.Program.{Program}
use Rattle.es_ast.specs.declared.ast.Program.TheVariants as vProgram
use Rattle.es_ast.specs.declared.ast.Module.{Module}
use Rattle.es_ast.specs.declared.ast.Script.{Script}
use Rattle.es_syntax.specs.declared.entry.Entry.{Entry}

pub record Owned (T : Type 0) : Type 0 where
  pub text : List ℕ
  pub tokens : List Token
  pub entries : List Entry
  pub typed : T

-- the same text, tokens and row, as something else
abbrev pub as_typed : {A B : Type 0} → Owned A → B → Owned B
as_typed p it = record { text = p.text; tokens = p.tokens; entries = p.entries; typed = it }

-- the program that a module is, and that a script is
abbrev pub of_module : Owned Module → Owned Program
of_module m = as_typed m (vProgram.Module m.typed)

abbrev pub of_script : Owned Script → Owned Program
of_script s = as_typed s (vProgram.Script s.typed)
