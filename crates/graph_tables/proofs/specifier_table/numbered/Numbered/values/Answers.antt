use Rattle.std.proofs.Common.{◌∙◌, ap, map}
use Rattle.graph_tables.proofs.specifier_table_lemmas.NumbersLemmas.{values-zip}
use Rattle.graph_tables.proofs.specifier_table.numbered.Numbered.values.Goals as goal

pub returns : goal.returns
returns g c =
    c.as_slice.ensures ∙ values-zip c.self.inside.numbers.keys c.self.inside.values c.self.invariant.0
    ∙ ap (map (λ e. e.1)) c.self.view_is
