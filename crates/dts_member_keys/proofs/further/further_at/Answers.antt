use Rattle.dts_member_keys.proofs.LinkLemmas.{no_post_ends, none_ends}
use Rattle.dts_member_keys.proofs.further.further_at.Goals as goal

-- no further part
pub returns-in-None : goal.returns-in-None
returns-in-None c = λ by x ts. no_post_ends by x ts c.args.post.now c.in-None.ensures.other

pub returns-in-Some-Broken : goal.returns-in-Some-Broken
returns-in-Some-Broken c = λ by x ts.
    none_ends by x ts _ (rw c.in-Some-Broken.field-0-is at (c.in-Some-Broken.ensures.form x ts))
