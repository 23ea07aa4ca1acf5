-- What is written of parameters and functions, by whatever the rules go.
use Rattle.std.specs.Prelude.{List, Option}
use Rattle.es_ast.specs.declared.ast.Param.{Param}
use Rattle.es_syntax.specs.Roles.{param_in, params_in}
use Rattle.dts_rules.specs.Rules as rules
use Rattle.dts_rules.specs.Rules.{in_turn}
use Rattle.dts_draft.specs.declared.draft.Draft.{Draft}
use Rattle.dts_draft.specs.Written.{IfThere}
use Rattle.dts_names.specs.declared.env.Env.{Env}
use Rattle.dts_names.specs.Names.{Knows}
use Rattle.dts_parts.specs.Params.{param_rule, param_turn, Made, AllMade}

abbrev pub ParamMade : Env → Draft → Draft → Option Param → Type 0
ParamMade it old new o =
    (by : rules.Env) → Knows it by
    → IfThere (Made it.text.now it.tokens.now param_in (param_rule by) old new) o

abbrev pub TurnMade : Env → Draft → Draft → Option Param → Type 0
TurnMade it old new o =
    (by : rules.Env) → Knows it by
    → IfThere (Made it.text.now it.tokens.now (param_turn it.text.now it.tokens.now) (param_rule by) old new) o

abbrev pub TurnsMade : Env → Draft → Draft → Option (List Param) → Type 0
TurnsMade it old new o =
    (by : rules.Env) → Knows it by
    → IfThere (AllMade it.text.now it.tokens.now (param_turn it.text.now it.tokens.now) (param_rule by) old new) o

abbrev pub ParamsMade : Env → Draft → Draft → Option (List Param) → Type 0
ParamsMade it old new o =
    (by : rules.Env) → Knows it by
    → IfThere (Made it.text.now it.tokens.now params_in (in_turn (param_rule by)) old new) o
