-- The ranges are those of the walk.
use Rattle.std.proofs.Common.{ap, ◌∙◌, List}
use Rattle.base.specs.declared.range.Range.{Range}
use Rattle.dts_rules.specs.Ranges.{has_range}
use Rattle.deno_dts.proofs.RangeLemmas.{of_program}
use Rattle.deno_dts.proofs.public_ranges.ModulePublicRanges.of.Goals as goal

pub returns : goal.returns
returns c = λ r.
    c.in_ok-ranges.ensures r ∙ ap (λ (found : List Range). has_range found r) c.as_slice.ensures
    ∙ of_program c.parts.result.0.now c.parts.result.1.now c.parts.result.2.entries.now c.in_ok-found.found
    c.args.program.now.typed c.parts.ensures.typed c.in_ok-found.ensures r
