use Rattle.graph_tables.proofs.specifier_table_lemmas.NumbersLemmas.{numbering_new}
use Rattle.graph_tables.proofs.specifier_table.numbered.Numbered.new.Goals as goal

pub invariant_of-result : goal.invariant_of-result
invariant_of-result g c = numbering_new c.new.result.keys c.new-2.result c.new.ensures.empty c.new-2.ensures
