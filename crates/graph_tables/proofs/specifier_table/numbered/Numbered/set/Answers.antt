use Rattle.std.proofs.Common.{◌<◌, ◌∙◌, sym, ap, subst, length, ℕ}
use Rattle.std.specs.List.{zip}
use Rattle.std.proofs.lemmas.List.{length-set}
use Rattle.graph_tables.specs.specifier_table.Numbers.{value_at, with_value, IsNumbering}
use Rattle.graph_tables.proofs.specifier_table_lemmas.NumbersLemmas.{length-zip, zip-set, numbering_same, value_at-with_value}
use Rattle.graph_tables.proofs.specifier_table.numbered.Numbered.set.Goals as goal

pub set-requires : goal.set-requires
set-requires g c = subst (λ (n : ℕ). c.args.number < n)
    (sym (ap length c.self.view_is) ∙ length-zip c.self.inside.numbers.keys c.self.inside.values c.self.invariant.0)
    c.requires

pub invariant_of-self : goal.invariant_of-self
invariant_of-self g c =
    let long = c.self.invariant.0
    ∙ sym (ap length c.set.ensures ∙ length-set c.self.inside.values c.args.number c.args.value)
    in (
      long,
      numbering_same c.self.inside.numbers.keys c.self.inside.values c.set.new.self c.self.invariant.0 long
          c.self.invariant.1,
    )

pub returns-clause-with : goal.returns-clause-with
returns-clause-with g c =
    ap (λ vs. zip c.self.inside.numbers.keys vs) c.set.ensures
    ∙ zip-set c.self.inside.numbers.keys c.self.inside.values c.args.number c.args.value c.self.invariant.0
    ∙ ap (λ es. with_value es c.args.number c.args.value) c.self.view_is

pub returns-clause-at : goal.returns-clause-at
returns-clause-at g c = λ s t at.
    ap (λ es. value_at es t) (returns-clause-with g c)
    ∙ value_at-with_value c.args.self.now c.args.number c.args.value
    (subst IsNumbering c.self.view_is c.self.invariant.1)
    s t at
