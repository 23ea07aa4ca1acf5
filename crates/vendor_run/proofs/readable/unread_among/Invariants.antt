use Rattle.std.proofs.Common.{Option, drop}
use Rattle.url.specs.Parts.{Parts}
use Rattle.vendor_run.specs.Readable.{IsFirstUnread}
use Rattle.vendor_run.proofs.readable.unread_among.Given as goal

-- those that are left decide
abbrev pub invariant-loop-name : goal.invariant-loop-name
invariant-loop-name l =
    (found : Option Parts) → IsFirstUnread (drop l.name-index l.names) found → IsFirstUnread l.names found
