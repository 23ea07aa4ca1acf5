-- The units are those of the literal's characters.
use Rattle.std.proofs.Common.{◌≡◌, ◌∙◌, ap, chars, rules}
use Rattle.std.proofs.lemmas.Str.{chars_from_encodes}
use Rattle.es_literal.specs.Values.{inner, units_of, value_units}
use Rattle.es_literal.proofs.value.value_units.Goals as goal

pub returns : goal.returns
unfolding value_units
returns c =
    let read : c.in_ok-chars.chars.items ≡ chars c.args.literal.now = search (rules, chars_from_encodes) in
    c.in_ok-units.ensures ∙ ap (units_of 0) (c.inner.ensures ∙ ap inner (c.as_slice.ensures.value ∙ read))
