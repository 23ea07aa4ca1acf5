-- A name that may stand behind `as`.
use Rattle.std.specs.Prelude.{ℕ, List, Option}
use Rattle.es_token.specs.declared.token.Token.{Token}
use Rattle.es_ast.specs.declared.leaf.ModuleExportName.{ModuleExportName}
use Rattle.es_lowering.specs.Value.{Value, group, optional}
use Rattle.es_lowering.specs.Texts.{name_at}

unfoldable pub named_as : List ℕ → List Token → Value → Option (Option ModuleExportName)
named_as x ts v = optional (λ g n. name_at x ts (group g n) 0) v
