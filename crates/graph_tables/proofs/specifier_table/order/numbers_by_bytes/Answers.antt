use Rattle.graph_tables.specs.specifier_table.Numbers.{plain}
use Rattle.graph_tables.proofs.specifier_table_lemmas.ByTextLemmas.{plain-sorted}
use Rattle.graph_tables.proofs.specifier_table_lemmas.OrderLemmas.{is_by_bytes}
use Rattle.graph_tables.proofs.specifier_table.order.numbers_by_bytes.Goals as goal

pub returns : goal.returns
returns g c =
    is_by_bytes c.args.all.now (plain c.in_ok-places.places.entries) _ c.len-all.ensures.once
    (plain-sorted c.in_ok-places.places.entries c.len-count.ensures.ordered) c.in_ok-places.ensures
    c.in_ok-order.ensures
