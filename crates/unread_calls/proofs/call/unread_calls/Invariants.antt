use Rattle.std.proofs.Common.{◌≡◌}
use Rattle.std.specs.Prelude.{filter_map}
use Rattle.std.specs.List.{range_with_len}
use Rattle.unread_calls.specs.Unread.{unread_at}
use Rattle.unread_calls.proofs.call.unread_calls.Given as goal

-- the calls of the words so far
abbrev pub invariant-loop-i : goal.invariant-loop-i
invariant-loop-i l = l.calls ≡ filter_map (unread_at l.fn.tokens) (range_with_len 0 l.i)
