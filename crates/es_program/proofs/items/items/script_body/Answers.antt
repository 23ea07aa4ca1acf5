use Rattle.std.proofs.Common.{ap}
use Rattle.es_program.specs.items.Items.{is_some, the_items}
use Rattle.es_program.proofs.items_lemmas.Bodies.{script_items}
use Rattle.es_program.proofs.items.items.script_body.Goals as goal

-- what is lent are the items
pub invariant_of-result : goal.invariant_of-result
invariant_of-result c =
    record {
      typed = ap is_some
          (script_items c.body.result.0.now c.body.result.1.now c.body.result.2.entries.now _ c.body.ensures);
    }

pub returns : goal.returns
returns c = ap the_items
    (script_items c.body.result.0.now c.body.result.1.now c.body.result.2.entries.now _ c.body.ensures)
