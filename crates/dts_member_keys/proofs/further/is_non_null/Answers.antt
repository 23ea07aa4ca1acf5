use Rattle.dts_member_keys.proofs.LinkLemmas.{bang_link, dot_link, other_link}
use Rattle.dts_member_keys.proofs.further.is_non_null.Goals as goal

pub returns-in-NonNull : goal.returns-in-NonNull
returns-in-NonNull c = λ by x ts. bang_link by (rw c.in-NonNull.is at (c.further_at.ensures by x ts))

pub returns-in-Dot : goal.returns-in-Dot
returns-in-Dot c = λ by x ts. dot_link by (rw c.in-Dot.is at (c.further_at.ensures by x ts))

pub returns-in-Other : goal.returns-in-Other
returns-in-Other c = λ by x ts. other_link by (rw c.in-Other.is at (c.further_at.ensures by x ts))
