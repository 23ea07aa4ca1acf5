use Rattle.std.proofs.Common.{ℕ, List, take}
use Rattle.std.specs.List.{AllByRecursion}
use Rattle.import_map.specs.Names.{IsNoted}
use Rattle.import_map.proofs.names.note_all.Given as goal

-- the keys so far are noted, and what was noted stays
abbrev pub invariant-loop-key : goal.invariant-loop-key
invariant-loop-key l =
    AllByRecursion (λ e. IsNoted l.names.entries e.0 l.len) (take l.key-index l.table)
    × ((q : List ℕ) (n : ℕ) → IsNoted l.initial.names.entries q n → IsNoted l.names.entries q n)
