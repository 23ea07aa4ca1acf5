-- What is written of variables, by whatever the rules go.
use Rattle.std.specs.Prelude.{ℕ, List, Option}
use Rattle.base.specs.declared.range.Range.{Range}
use Rattle.es_ast.specs.declared.ast.Expr.{Expr}
use Rattle.es_ast.specs.declared.ast.VarDeclarator.{VarDeclarator}
use Rattle.dts_rules.specs.Rules as rules
use Rattle.dts_rules.specs.Rules.{in_turn}
use Rattle.dts_rules.specs.Programs.{shown_declarator}
use Rattle.dts_draft.specs.declared.draft.Draft.{Draft}
use Rattle.dts_draft.specs.Written.{IfThere}
use Rattle.dts_names.specs.declared.env.Env.{Env}
use Rattle.dts_names.specs.Names.{Knows}
use Rattle.dts_parts.specs.Params.{Made, AllMade}
use Rattle.dts_variables.specs.Declarators.{declarator_turn, declarators_in, Typed, DeclaratorMade}

abbrev pub TypedBy : Env → Draft → Draft → ℕ → Range → Option (Option Expr) → Type 0
TypedBy it old new to r o =
    (by : rules.Env) → Knows it by → IfThere (Typed it.text.now it.tokens.now by old new to r) o

abbrev pub DeclaratorBy : Env → Draft → Draft → Option VarDeclarator → Type 0
DeclaratorBy it old new o =
    (by : rules.Env) → Knows it by → IfThere (DeclaratorMade it.text.now it.tokens.now by old new) o

abbrev pub TurnBy : Env → Draft → Draft → Option VarDeclarator → Type 0
TurnBy it old new o =
    (by : rules.Env) → Knows it by
    → IfThere (Made it.text.now it.tokens.now declarator_turn (shown_declarator by) old new) o

abbrev pub TurnsBy : Env → Draft → Draft → Option (List VarDeclarator) → Type 0
TurnsBy it old new o =
    (by : rules.Env) → Knows it by
    → IfThere (AllMade it.text.now it.tokens.now declarator_turn (shown_declarator by) old new) o

abbrev pub OthersBy : Env → Draft → Draft → Option (List VarDeclarator) → Type 0
OthersBy it old new o =
    (by : rules.Env) → Knows it by
    → IfThere (Made it.text.now it.tokens.now declarators_in (in_turn (shown_declarator by)) old new) o
