use Rattle.graph_tables.proofs.specifier_table_lemmas.ByTextLemmas.{is_put_plain}
use Rattle.graph_tables.proofs.specifier_table.order.put.Goals as goal

pub returns : goal.returns
returns c = is_put_plain _ _ c.args.url _ c.in_ok-insert.ensures.entries
    (rw (← c.in_ok-insert.ensures.old) c.in_ok-insert.ensures.len)
