-- The text is that of the units, and a surrogate without its partner is told.
use Rattle.std.proofs.Common.{◌∙◌}
use Rattle.es_literal.proofs.value.read_units.Goals as goal

pub returns-in-Ok-clause-text : goal.returns-in-Ok-clause-text
returns-in-Ok-clause-text c = c.from_string.ensures ∙ (rw c.in-Ok.is at c.in_ok-text.ensures.chars)

pub returns-in-Ok-clause-lone : goal.returns-in-Ok-clause-lone
returns-in-Ok-clause-lone c = rw c.in-Ok.is at c.in_ok-text.ensures.unpaired

pub returns-in_ok-from_utf16_lossy-in-Err-clause-text : goal.returns-in_ok-from_utf16_lossy-in-Err-clause-text
returns-in_ok-from_utf16_lossy-in-Err-clause-text c =
    c.from_string-in-Err.ensures ∙ c.in_ok-from_utf16_lossy-in-Err.ensures

pub returns-in_ok-from_utf16_lossy-in-Err-clause-lone : goal.returns-in_ok-from_utf16_lossy-in-Err-clause-lone
returns-in_ok-from_utf16_lossy-in-Err-clause-lone c = rw c.in-Err.is at c.in_ok-text.ensures.unpaired
