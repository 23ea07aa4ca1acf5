use Rattle.std.specs.Prelude.{Option}
use Rattle.std.proofs.Common.{◌≡◌, sym, ap, ◌∙◌, ◌∷◌, subst, true}
use Rattle.es_ast.specs.declared.ast.ModuleItem.{ModuleItem}
use Rattle.es_program.specs.items.Items.{is_some, the_item, the_items, item_of, items_in}
use Rattle.es_program.proofs.items_lemmas.Bodies.{the_some, first_typed, nothing_typed}
use Rattle.es_program.proofs.items.items.first_item.Goals as goal

-- a turn holds an item
pub unreachable-requires : goal.unreachable-requires
unreachable-requires c =
    let b = c.args.body.now in
    let x = b.text.now in
    let ts = b.tokens.now in
    nothing_typed x ts b.is_script
    (subst (λ v. is_some (item_of b.is_script v) ≡ true) (c.in_default-node_in.ensures x ts)
    (first_typed x ts b.is_script b.turns.entries.now c.in-Some.turns.entries.now _ (c.in-Some.ensures.value x ts)
    b.typed))

-- the item of the first turn, before those of the others
pub returns-clause-value : goal.returns-clause-value
returns-clause-value c =
    let b = c.args.body.now in
    let x = b.text.now in
    let ts = b.tokens.now in
    let rest = c.in-Some.turns.entries.now in
    the_some x ts b.is_script b.turns.entries.now rest _ (c.in-Some.ensures.value x ts) b.typed
    ∙ ap (λ (o : Option ModuleItem). the_item o ∷ the_items (items_in b.is_script x ts rest))
    (ap (item_of b.is_script) (c.in-Some-node_in.ensures x ts) ∙ sym c.item_at.ensures)
