use Rattle.graph_tables.proofs.specifier_table_lemmas.NumbersLemmas.{numbering}
use Rattle.graph_tables.proofs.specifier_table.numbered.Numbered.from_parts.Goals as goal

pub invariant_of-result : goal.invariant_of-result
invariant_of-result g c =
    (c.requires, numbering c.args.numbers.keys c.args.values c.requires c.len-count.ensures.unique)
