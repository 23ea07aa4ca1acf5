use Rattle.std.proofs.Common.{◌∙◌, refl}
use Rattle.specifier_edits.proofs.records_lemmas.RecordLemmas.{told_more, lost_here}
use Rattle.specifier_edits.proofs.records.records.changes_of.Goals as goal

-- this one has no specifier, and those before have theirs
pub returns-in_default : goal.returns-in_default
returns-in_default c =
    lost_here c.args.values.now c.args.records.now c.loop-at.at _ _ c.loop-at.changes.items c.loop-at-test.true refl
    c.loop-at.invariant c.in_default.ensures.none

-- one more change
pub loop-at-preserved : goal.loop-at-preserved
loop-at-preserved c =
    told_more c.args.values.now c.args.records.now c.loop-at.at _ _ c.loop-at.changes.items c.push.new.self.items _
    c.loop-at-test.true refl c.loop-at.invariant
    (c.in-Some.ensures.value.0, refl, c.in_ok-from_str.ensures.ok ∙ c.in-Some.ensures.value.1)
    c.in_ok-push.ensures.items
