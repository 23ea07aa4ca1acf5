use Rattle.std.proofs.Common.{◌≡◌}
use Rattle.sys_traits.proofs.GivenLemmas.{without, is_front}
use Rattle.sys_traits.proofs.in_memory.given.take_at_or_above.Given as goal

abbrev pub invariant-loop-end : goal.invariant-loop-end
invariant-loop-end l = l.files ≡ without (is_front l.end l.folder) l.initial.files
