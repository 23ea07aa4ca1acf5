use Rattle.std.proofs.Common.{◌≡◌, map, take}
use Rattle.std.specs.Char.{to_ascii_lowercase}
use Rattle.media_type.proofs.endings.has_no_capital.Given as goal

-- none of the bytes so far is a capital letter
abbrev pub invariant-loop-byte : goal.invariant-loop-byte
invariant-loop-byte l = map to_ascii_lowercase (take l.byte-index l.bytes) ≡ take l.byte-index l.bytes
