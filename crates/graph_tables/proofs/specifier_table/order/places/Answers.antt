use Rattle.std.proofs.Common.{refl}
use Rattle.graph_tables.specs.specifier_table.Numbers.{plain}
use Rattle.graph_tables.proofs.specifier_table_lemmas.OrderLemmas.{numbers_more}
use Rattle.graph_tables.proofs.specifier_table.order.places.Goals as goal

pub loop-number-preserved : goal.loop-number-preserved
loop-number-preserved g c =
    numbers_more c.args.all.now (plain c.loop-number.map.entries) (plain c.put.new.map.entries) c.loop-number.number
    c.in-Some.url.now c.in-Some.url.now c.len-number-end.ensures.once c.in-Some.ensures refl c.in_ok-put.ensures
    c.loop-number.invariant
