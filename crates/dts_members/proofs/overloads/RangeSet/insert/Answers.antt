-- One key more.
use Rattle.std.proofs.Common.{ap, ◌∙◌, List}
use Rattle.std.specs.Prelude.{◌||◌}
use Rattle.base.specs.declared.range.Range.{Range}
use Rattle.dts_rules.specs.Ranges.{has_range, same_range}
use Rattle.dts_members.proofs.OverloadLemmas.{inserted}
use Rattle.dts_members.proofs.overloads.RangeSet.insert.Goals as goal

pub returns : goal.returns
returns c = λ r.
    ap (λ (ks : List Range). has_range ks r) c.in_ok-insert.ensures.keys
    ∙ inserted c.self.inside.set.keys c.args.range r
    ∙ ap (λ (ks : List Range). same_range c.args.range r || has_range ks r) c.self.view_is
