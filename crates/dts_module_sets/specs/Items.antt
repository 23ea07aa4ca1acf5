-- What the items of a module add to its sets.
use Rattle.std.specs.Prelude.{◌≡◌, false, Bool, List, map}
use Rattle.es_ast.specs.declared.ast.ModuleItem.{ModuleItem}
use Rattle.es_ast.specs.declared.ast.Program.{Program}
use Rattle.es_ast.specs.declared.ast.Program.TheVariants as vProgram
use Rattle.es_syntax.specs.declared.entry.What.{What}
use Rattle.es_syntax.specs.declared.entry.What.TheVariants as vWhat
use Rattle.es_syntax.specs.Views.{is_one_of}
use Rattle.es_view_statements.specs.decl.Decl.{declarations}
use Rattle.dts_rules.specs.Sets.{Id, Numbers, Sets, no_sets, all_sets, is_in, sets_of}
use Rattle.dts_sets.specs.declared.known.Known.{Known}
use Rattle.dts_sets.specs.Ids.{holds}
use Rattle.dts_sets.specs.Known.{item_sets}

-- the node is a declaration
abbrev pub is_declared : What → Bool
is_declared (vWhat.Node label) = is_one_of declarations label
is_declared _ = false

abbrev pub items_of : Numbers → List ModuleItem → Sets
items_of number items = all_sets (map (item_sets number) items)

-- those of a module; a script has none
abbrev pub program_sets : Numbers → Program → Sets
program_sets number (vProgram.Module it) = sets_of number it.body
program_sets number (vProgram.Script it) = no_sets

-- the sets are exactly these names
pub record Knows (known : Known) (s : Sets) : Type 0 where
  pub typeofs : (id : Id) → holds known.typeofs id ≡ is_in s.typeofs id
  pub plain : (id : Id) → holds known.plain id ≡ is_in s.plain id
  pub arrays : (id : Id) → holds known.arrays id ≡ is_in s.arrays id
