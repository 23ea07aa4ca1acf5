use Rattle.std.proofs.Common.{ap}
use Rattle.es_program.specs.items.Items.{is_some, the_items}
use Rattle.es_program.proofs.items_lemmas.Bodies.{module_items}
use Rattle.es_program.proofs.items.items.module_body.Goals as goal

-- what is lent are the items
pub invariant_of-result : goal.invariant_of-result
invariant_of-result c =
    record {
      typed = ap is_some
          (module_items c.body.result.0.now c.body.result.1.now c.body.result.2.entries.now _ c.body.ensures);
    }

pub returns : goal.returns
returns c = ap the_items
    (module_items c.body.result.0.now c.body.result.1.now c.body.result.2.entries.now _ c.body.ensures)
