use Rattle.std.proofs.Common.{ℕ, ◌<◌}
use Rattle.sys_traits.proofs.FilesLemmas.{IsClearAt}
use Rattle.sys_traits.proofs.place.is_blocked.Given as goal

abbrev pub invariant-loop-end : goal.invariant-loop-end
invariant-loop-end l = (k : ℕ) → k < l.end → IsClearAt l.files l.path k
