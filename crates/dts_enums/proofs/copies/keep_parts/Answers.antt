use Rattle.std.proofs.Common.{◌∙◌}
use Rattle.dts_enums.proofs.CopyLemmas.{copies_next}
use Rattle.dts_enums.proofs.copies.keep_parts.Goals as goal

-- one part less is left
pub loop-it-preserved : goal.loop-it-preserved
loop-it-preserved c = (
  λ e. c.loop-it.invariant.0 (c.keep_there.ensures.before e),
  c.keep_there.ensures.state ∙ c.loop-it.invariant.1,
  λ e x ts.
      copies_next x ts _ _ _ _ _ _ _ (c.in-Some.ensures.value x ts)
      (c.loop-it.invariant.2 (c.keep_there.ensures.before e) x ts) (c.keep_there.ensures.written e x ts),
)
