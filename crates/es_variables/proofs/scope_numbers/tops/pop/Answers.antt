use Rattle.std.specs.Prelude.{[]}
use Rattle.std.proofs.Common.{rules, arith, ◌≡◌}
use Rattle.std.proofs.lemmas.Map.Text.{text_keys}
use Rattle.es_variables.specs.scope_numbers.Spelt.{tops_in}
use Rattle.es_variables.proofs.scope_numbers_lemmas.TopLemmas.{not_there}
use Rattle.es_variables.proofs.scope_numbers.tops.pop.Goals as goal

pub returns-in-Some : goal.returns-in-Some
returns-in-Some c = λ some. grind (arith, text_keys)

-- a spelling without numbers has none to lose
pub returns-in-None : goal.returns-in-None
returns-in-None c =
    λ some. let none : tops_in c.args.tops.now c.args.name.now ≡ [] = search rules in
    absurd (not_there (tops_in c.args.tops.now c.args.name.now) none some)
