use Rattle.std.proofs.Common.{◌≡◌, take}
use Rattle.json.specs.Print.{escape}
use Rattle.graph_report.proofs.quoted.is_plain.Given as goal

-- no byte so far is escaped
abbrev pub invariant-loop-byte : goal.invariant-loop-byte
invariant-loop-byte l = escape (take l.byte-index l.bytes) ≡ take l.byte-index l.bytes
