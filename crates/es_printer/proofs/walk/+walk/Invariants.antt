-- A walk goes down by the entries below; what is left of a list prints what the whole does.
use Rattle.std.proofs.Common.{◌≡◌, ◌≤◌, ◌+◌, ◌*◌, length}
use Rattle.es_syntax.specs.Trees.{trees_in}
use Rattle.es_printer.specs.declared.draft.Draft.{Draft}
use Rattle.es_printer.specs.Laid.{Grows}
use Rattle.es_printer.specs.Rows.{kept, all, turned, last_of}
use Rattle.es_printer.proofs.walk.+walk.Given as goal

-- ---- below
abbrev pub decreases-walk : goal.decreases-walk
decreases-walk l = 9 * length l.item.parts.entries.now + 9

abbrev pub decreases-node : goal.decreases-node
decreases-node l = 9 * length l.item.parts.entries.now + 8

abbrev pub decreases-first : goal.decreases-first
decreases-first l = 9 * length l.parts.entries.now + 6

abbrev pub decreases-all : goal.decreases-all
decreases-all l = 9 * length l.parts.entries.now + 6

abbrev pub decreases-some : goal.decreases-some
decreases-some l = 9 * length l.parts.entries.now + 7

abbrev pub decreases-leaning : goal.decreases-leaning
decreases-leaning l = 9 * length l.parts.entries.now + 7

abbrev pub decreases-leaned : goal.decreases-leaned
decreases-leaned l = 9 * (length l.operand.parts.entries.now + length l.turns.entries.now) + 10

abbrev pub decreases-turned : goal.decreases-turned
decreases-turned l = 9 * length l.turns.entries.now + 6

-- ---- lists
abbrev pub invariant-all-loop-part : goal.invariant-all-loop-part
invariant-all-loop-part l =
    ((new : Draft) → Grows l.source (all l.source.tokens.now (trees_in (kept l.row.entries.now)) l.own) l.out new
    → Grows l.source (all l.source.tokens.now (trees_in (kept l.parts.entries.now)) l.own) l.initial.out new)
    × length l.row.entries.now ≤ length l.parts.entries.now

abbrev pub decreases-all-loop-part : goal.decreases-all-loop-part
decreases-all-loop-part l = length l.row.entries.now

abbrev pub invariant-turned-loop-operand : goal.invariant-turned-loop-operand
invariant-turned-loop-operand l =
    ((new : Draft) → Grows l.source (turned l.source.tokens.now (kept l.row.entries.now)) l.out new
    → Grows l.source (turned l.source.tokens.now (kept l.turns.entries.now)) l.initial.out new)
    × ((last_of l.to (kept l.row.entries.now) ≡ last_of l.from (kept l.turns.entries.now))
    × length l.row.entries.now ≤ length l.turns.entries.now)

abbrev pub decreases-turned-loop-operand : goal.decreases-turned-loop-operand
decreases-turned-loop-operand l = length l.row.entries.now
