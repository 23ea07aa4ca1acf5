-- The last of what is left is the last of all.
use Rattle.std.proofs.Common.{◌≡◌, ℕ, List, length}
use Rattle.es_token.specs.declared.token.Token.{Token}
use Rattle.es_syntax.specs.Held.{parts_of}
use Rattle.es_syntax.specs.Places.{last_of}
use Rattle.es_syntax.proofs.cursor.Siblings.last.Given as goal

abbrev pub invariant-loop-part : goal.invariant-loop-part
invariant-loop-part l = (x : List ℕ) (ts : List Token)
    → last_of l.last (parts_of x ts l.row.entries.now) ≡ last_of l.fn.to (parts_of x ts l.fn.self.entries.now)

abbrev pub decreases-loop-part : goal.decreases-loop-part
decreases-loop-part l = length l.row.entries.now
