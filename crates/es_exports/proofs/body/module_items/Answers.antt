use Rattle.es_exports.proofs.Bodies.{is_there, items_told}
use Rattle.es_exports.proofs.body.module_items.Goals as goal

-- a module has a node
pub unreachable-requires : goal.unreachable-requires
unreachable-requires c =
    is_there c.parts.result.0.now c.parts.result.1.now c.parts.result.2.entries.now c.args.it.now.typed
    c.parts.ensures.typed
    (c.in_default.ensures.value c.parts.result.0.now c.parts.result.1.now)

-- its items are the second part of the node
pub returns-clause-items : goal.returns-clause-items
returns-clause-items c =
    items_told c.parts.result.0.now c.parts.result.1.now c.parts.result.2.entries.now _ c.in-Some.node
    c.args.it.now.typed
    c.parts.ensures.typed
    (c.in-Some.ensures.value c.parts.result.0.now c.parts.result.1.now)
    (c.group_at.ensures.value c.parts.result.0.now c.parts.result.1.now)
