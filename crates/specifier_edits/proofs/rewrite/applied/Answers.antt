use Rattle.std.proofs.Common.{sym, ◌∙◌}
use Rattle.specifier_edits.proofs.FaultLemmas.{reversed, overlapping, mid_character}
use Rattle.specifier_edits.proofs.rewrite.applied.Goals as goal

-- no change is faulty
pub unreachable-requires : goal.unreachable-requires
unreachable-requires c =
    c.requires c.in-Err-Reversed.field-0
    (c.apply_text_changes.ensures.refused c.in-Err-Reversed.field-0 c.in-Err-Reversed.is
    (λ memory. reversed c.in-Err-Reversed.field-0-0 (sym c.in-Err-Reversed.field-0-is ∙ memory)))

pub unreachable-requires-in-Err-Overlapping : goal.unreachable-requires-in-Err-Overlapping
unreachable-requires-in-Err-Overlapping c =
    c.requires c.in-Err-Overlapping.field-0
    (c.apply_text_changes.ensures.refused c.in-Err-Overlapping.field-0 c.in-Err-Overlapping.is
    (λ memory. overlapping c.in-Err-Overlapping.field-0-0 (sym c.in-Err-Overlapping.field-0-is ∙ memory)))

pub unreachable-requires-in-Err-MidCharacter : goal.unreachable-requires-in-Err-MidCharacter
unreachable-requires-in-Err-MidCharacter c =
    c.requires c.in-Err-MidCharacter.field-0
    (c.apply_text_changes.ensures.refused c.in-Err-MidCharacter.field-0 c.in-Err-MidCharacter.is
    (λ memory. mid_character c.in-Err-MidCharacter.field-0-0 (sym c.in-Err-MidCharacter.field-0-is ∙ memory)))
