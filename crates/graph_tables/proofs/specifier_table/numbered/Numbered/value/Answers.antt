use Rattle.std.proofs.Common.{◌∙◌, ap, slice_get}
use Rattle.std.specs.Prelude.{option_map}
use Rattle.graph_tables.proofs.specifier_table_lemmas.NumbersLemmas.{slice_get-zip_value}
use Rattle.graph_tables.proofs.specifier_table.numbered.Numbered.value.Goals as goal

pub returns : goal.returns
returns g c = c.get.ensures.value
    ∙ slice_get-zip_value c.self.inside.numbers.keys c.self.inside.values c.args.number c.self.invariant.0
    ∙ ap (λ es. option_map (λ e. e.1) (slice_get es c.args.number)) c.self.view_is
