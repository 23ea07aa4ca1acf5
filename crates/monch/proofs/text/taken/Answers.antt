use Rattle.std.proofs.Common.{◌≡◌, length, ◌-◌, arith, subst}
use Rattle.std.specs.Str.{IsCharBoundary}
use Rattle.std.proofs.lemmas.Grind.{common_steps}
use Rattle.std.proofs.lemmas.Str.{IsCharBoundary-at_seam}
use Rattle.monch.proofs.text.taken.Goals as goal

-- the text ends in the rest, which is text, so that a character begins there
pub range-requires-clause-end_boundary : goal.range-requires-clause-end_boundary
range-requires-clause-end_boundary c =
    let starts = IsCharBoundary-at_seam c.args.text.now c.requires.0 c.args.rest.now c.requires.1 c.utf8.rest in
    let seam : length c.requires.0 ≡ length c.args.text.now - length c.args.rest.now = grind (arith, common_steps) in
    subst (λ i. IsCharBoundary c.args.text.now i) seam starts
