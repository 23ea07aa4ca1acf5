use Rattle.std.proofs.Common.{Option, drop, map}
use Rattle.std.specs.List.{AllByRecursion}
use Rattle.url.specs.Parts.{Parts}
use Rattle.vendor_run.specs.Readable.{IsFirstUnread, HasBytes, target_of}
use Rattle.vendor_run.proofs.readable.unread_target.Given as goal

-- those that are left decide
abbrev pub invariant-loop-file : goal.invariant-loop-file
invariant-loop-file l = record {
  first : (found : Option Parts) → IsFirstUnread (map target_of (drop l.file-index l.files)) found
      → IsFirstUnread (map target_of l.files) found;
  bytes : AllByRecursion HasBytes (drop l.file-index l.files) → AllByRecursion HasBytes l.files;
}
