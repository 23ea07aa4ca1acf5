use Rattle.std.proofs.Common.{◌<◌, ◌∙◌, sym, ap, subst, length, ℕ}
use Rattle.std.specs.Prelude.{IfSome}
use Rattle.url.specs.Parts.{serialize}
use Rattle.graph_tables.specs.specifier_table.Numbers.{number_of}
use Rattle.graph_tables.proofs.specifier_table_lemmas.NumbersLemmas.{length-zip, number-zip}
use Rattle.graph_tables.proofs.specifier_table.numbered.Numbered.number.Goals as goal

pub returns-clause-value : goal.returns-clause-value
returns-clause-value g c = c.get_index_of.ensures.index
    ∙ number-zip c.self.inside.numbers.keys c.self.inside.values c.args.specifier.now c.self.invariant.0
    ∙ ap (λ es. number_of es (serialize c.args.specifier.now)) c.self.view_is

pub returns-clause-within : goal.returns-clause-within
returns-clause-within g c =
    let long = c.self.invariant.0 ∙ sym (length-zip c.self.inside.numbers.keys c.self.inside.values c.self.invariant.0)
    ∙ ap length c.self.view_is in
    subst (λ (m : ℕ). IfSome c.get_index_of.result (λ n. n < m)) long c.get_index_of.ensures.within
