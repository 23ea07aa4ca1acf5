use Rattle.std.proofs.Common.{◌∙◌, sym, ap, length}
use Rattle.graph_tables.proofs.specifier_table_lemmas.NumbersLemmas.{length-zip}
use Rattle.graph_tables.proofs.specifier_table.numbered.Numbered.len.Goals as goal

pub returns-clause-len : goal.returns-clause-len
returns-clause-len g c =
    c.len.ensures.len ∙ c.self.invariant.0
    ∙ sym (length-zip c.self.inside.numbers.keys c.self.inside.values c.self.invariant.0) ∙ ap length c.self.view_is
