-- The keys are the ranges.
use Rattle.std.proofs.Common.{ap, sym, ◌∙◌, List}
use Rattle.base.specs.declared.range.Range.{Range}
use Rattle.dts_rules.specs.Ranges.{has_range}
use Rattle.dts_members.proofs.OverloadLemmas.{listed}
use Rattle.dts_members.proofs.overloads.is_listed.Goals as goal

pub returns : goal.returns
returns c =
    ap (λ (ks : List Range). has_range ks c.args.range) (sym c.ranges-2.view_is)
    ∙ listed c.ranges-2.inside.set.keys c.args.range ∙ sym c.contains.ensures
