use Rattle.std.proofs.Common.{◌≡◌, ◌≢◌, rules, tests}
use Rattle.std.specs.Str.{chars}
use Rattle.std.proofs.lemmas.Iterator.{YieldsList-from_chars, cases_from_any}
use Rattle.monch.proofs.FrontLemmas.{contains_from_any}
use Rattle.monch.proofs.leaves.has_character.Goals as goal

-- some character of the text is the one looked for, or none is
pub returns : goal.returns
returns c =
    contains_from_any c.any.result (chars c.args.text.now) c.args.character
    (cases_from_any _ _ _ (λ x. x ≡ c.args.character) (λ x. x ≢ c.args.character) c.any.ensures.ran
    (YieldsList-from_chars c.args.text.now (search rules) cc) (λ x q k. search (rules, tests))
    (λ x q k. search (rules, tests)))
