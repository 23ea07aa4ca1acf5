-- The first of the items that are to come.
use Rattle.std.specs.Prelude.{List, [], ◌∷◌, Option, Some, None}
use Rattle.es_ast.specs.declared.ast.ModuleItem.{ModuleItem}
use Rattle.es_program.specs.declared.items.item.ModuleItemRef.{ModuleItemRef}
use Rattle.es_program.specs.declared.items.body.Body.{Body}
use Rattle.es_program.specs.items.Lent.{lent_item, items_left}

-- a first item and those behind it, or none
abbrev pub first_of : Option (ModuleItemRef × Body) → List ModuleItem
first_of None = []
first_of (Some p) = lent_item p.0 ∷ items_left p.1
