-- What a view of a program tells.
use Rattle.std.specs.Prelude.{ℕ, List, [], ◌∷◌, Option, Some, None}
use Rattle.base.specs.declared.range.Range.{Range}
use Rattle.es_token.specs.declared.token.Token.{Token}
use Rattle.es_grammar.specs.declared.rows.NodeKind.{NodeKind}
use Rattle.es_grammar.specs.declared.rows.NodeKind.TheVariants as l
use Rattle.es_ast.specs.declared.ast.Program.{Program as AProgram}
use Rattle.es_ast.specs.declared.ast.Program.TheVariants as vProgram
use Rattle.es_lowering.specs.Value.{Value, given, optional, turns, item_at, stmt_at}
use Rattle.es_lowering.specs.Texts.{shebang_at}
use Rattle.es_syntax.specs.declared.cursor.Siblings.{Siblings}
use Rattle.es_syntax.specs.Held.{held}
use Rattle.es_syntax.specs.Views.{Within}
use Rattle.es_view_modules.specs.declared.items.program.Program.{Program}
use Rattle.es_view_modules.specs.declared.items.program.Program.TheVariants as view

-- the alternatives
abbrev pub programs : List NodeKind
programs = l.Module ∷ l.Script ∷ []

-- ---- each form, of what its parts are
unfoldable pub module_of : List ℕ → List Token → Range → Value → Value → Option AProgram
module_of x ts r shebang body =
    given (optional (shebang_at x ts) shebang) (λ shebang.
    given (turns (λ turn. item_at turn 0) body) (λ body.
    Some (vProgram.Module (record { shebang = shebang; body = body; span = r }))))

unfoldable pub script_of : List ℕ → List Token → Range → Value → Value → Option AProgram
script_of x ts r shebang body =
    given (optional (shebang_at x ts) shebang) (λ shebang.
    given (turns (λ turn. stmt_at turn 0) body) (λ body.
    Some (vProgram.Script (record { shebang = shebang; body = body; span = r }))))

-- what a view tells
abbrev pub the_program : List ℕ → List Token → Range → Program → Option AProgram
the_program x ts r (view.Module shebang body) =
    module_of x ts r (held x ts shebang.entries.now) (held x ts body.entries.now)
the_program x ts r (view.Script shebang body) =
    script_of x ts r (held x ts shebang.entries.now) (held x ts body.entries.now)
the_program x ts r view.Broken = None

-- the parts take fewer entries
abbrev pub IsBelow : Siblings → Program → Type 0
IsBelow n (view.Module shebang body) = Within shebang n × Within body n
IsBelow n (view.Script shebang body) = Within shebang n × Within body n
IsBelow n view.Broken = Unit {0}
