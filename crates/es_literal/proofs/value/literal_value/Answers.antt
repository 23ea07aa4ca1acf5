-- The units that are read are those of the literal.
use Rattle.std.proofs.Common.{◌≡◌, ◌∙◌, subst, IfOk, encode_utf8_all}
use Rattle.std.specs.Char.Utf16.{utf16_lossy_chars, has_unpaired_surrogate}
use Rattle.es_literal.specs.Values.{value_of, is_lone}
use Rattle.es_literal.proofs.value.literal_value.Goals as goal

pub returns-clause-text : goal.returns-clause-text
unfolding value_of
returns-clause-text c =
    subst (λ t. IfOk c.read_units.result (λ value. value.text ≡ encode_utf8_all (utf16_lossy_chars t)))
    (c.as_slice.ensures.value ∙ c.in_ok-units.ensures) c.read_units.ensures.text

pub returns-clause-lone : goal.returns-clause-lone
unfolding is_lone
returns-clause-lone c =
    subst (λ t. IfOk c.read_units.result (λ value. value.lone ≡ has_unpaired_surrogate t))
    (c.as_slice.ensures.value ∙ c.in_ok-units.ensures) c.read_units.ensures.lone
