-- Items that are lent.
use Rattle.std.specs.Prelude.{List, Option, Some, None, option_map}
use Rattle.base.specs.declared.range.Range.{Range}
use Rattle.es_ast.specs.declared.ast.ModuleItem.{ModuleItem}
use Rattle.es_ast.specs.declared.ast.ModuleItem.TheVariants as vItem
use Rattle.es_syntax.specs.Held.{valued}
use Rattle.es_syntax.specs.Roles.{stmt_in}
use Rattle.es_program.specs.items.Spans.{span_of_lent}
use Rattle.es_program.specs.items.Items.{decl_in, the_item, the_items, items_in}
use Rattle.es_program.specs.declared.items.place.Place.{Place}
use Rattle.es_program.specs.declared.items.item.ModuleItemRef.{ModuleItemRef}
use Rattle.es_program.specs.declared.items.item.ModuleItemRef.TheVariants.{ModuleDecl, Stmt}
use Rattle.es_program.specs.declared.items.body.Body.{Body}

abbrev pub lent_in : ModuleItemRef → Option ModuleItem
lent_in (ModuleDecl d) = option_map vItem.ModuleDecl (decl_in (valued d.at.text.now d.at.tokens.now d.at.node))
lent_in (Stmt s) = option_map vItem.Stmt (stmt_in (valued s.at.text.now s.at.tokens.now s.at.node))

-- the item itself
abbrev pub lent_item : ModuleItemRef → ModuleItem
lent_item item = the_item (lent_in item)

-- where it stands: what it keeps
abbrev pub span_of_item : ModuleItemRef → Range
span_of_item item = span_of_lent (lent_item item)

-- the items that are still to come
abbrev pub items_left : Body → List ModuleItem
items_left b = the_items (items_in b.is_script b.text.now b.tokens.now b.turns.entries.now)
