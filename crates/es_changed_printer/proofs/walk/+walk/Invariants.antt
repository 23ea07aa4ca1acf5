-- A walk goes down by the entries below; what is left of a list prints what the whole does.
use Rattle.std.proofs.Common.{◌≡◌, ◌≤◌, ◌+◌, ◌*◌, length}
use Rattle.es_printer.specs.declared.draft.Draft.{Draft}
use Rattle.es_printer.specs.Laid.{Grows}
use Rattle.es_changed_printer.specs.declared.signs.Place.TheVariants.{First}
use Rattle.es_changed_printer.specs.Pieces.{parts, all, run, turned, last_of}
use Rattle.es_changed_printer.proofs.walk.+walk.Given as goal

-- ---- below
abbrev pub decreases-walk : goal.decreases-walk
decreases-walk l = 9 * length l.item.parts.entries.now + 9

abbrev pub decreases-node : goal.decreases-node
decreases-node l = 9 * length l.item.parts.entries.now + 8

abbrev pub decreases-form_node : goal.decreases-form_node
decreases-form_node l = 9 * length l.item.parts.entries.now + 8

abbrev pub decreases-standing : goal.decreases-standing
decreases-standing l = 9 * length l.item.parts.entries.now + 7

abbrev pub decreases-made : goal.decreases-made
decreases-made l = 9 * length l.item.parts.entries.now + 7

abbrev pub decreases-first : goal.decreases-first
decreases-first l = 9 * length l.row.entries.now + 6

abbrev pub decreases-all : goal.decreases-all
decreases-all l = 9 * length l.whole.entries.now + 6

abbrev pub decreases-run : goal.decreases-run
decreases-run l = 9 * length l.whole.entries.now + 6

abbrev pub decreases-leaning : goal.decreases-leaning
decreases-leaning l = 9 * length l.row.entries.now + 7

abbrev pub decreases-leaned : goal.decreases-leaned
decreases-leaned l = 9 * (length l.operand.parts.entries.now + length l.turns.entries.now) + 10

abbrev pub decreases-turn : goal.decreases-turn
decreases-turn l = 9 * length l.item.parts.entries.now + 7

abbrev pub decreases-turned : goal.decreases-turned
decreases-turned l = 9 * length l.turns.entries.now + 6

-- ---- lists
abbrev pub invariant-all-loop-part : goal.invariant-all-loop-part
invariant-all-loop-part l =
    ((new : Draft) → Grows l.source (all (parts l.source.tokens.now l.row.entries.now) l.own) l.out new
    → Grows l.source (all (parts l.source.tokens.now l.whole.entries.now) l.own) l.initial.out new)
    × length l.row.entries.now ≤ length l.whole.entries.now

abbrev pub decreases-all-loop-part : goal.decreases-all-loop-part
decreases-all-loop-part l = length l.row.entries.now

abbrev pub invariant-run-loop-part : goal.invariant-run-loop-part
invariant-run-loop-part l =
    ((new : Draft) → Grows l.source (run l.form l.place (parts l.source.tokens.now l.row.entries.now) l.own) l.out new
    → Grows l.source (run l.form First (parts l.source.tokens.now l.whole.entries.now) l.own) l.initial.out new)
    × length l.row.entries.now ≤ length l.whole.entries.now

abbrev pub decreases-run-loop-part : goal.decreases-run-loop-part
decreases-run-loop-part l = length l.row.entries.now

abbrev pub invariant-turned-loop-operand : goal.invariant-turned-loop-operand
invariant-turned-loop-operand l =
    ((new : Draft) → Grows l.source (turned l.source.tokens.now (parts l.source.tokens.now l.row.entries.now)) l.out new
    → Grows l.source (turned l.source.tokens.now (parts l.source.tokens.now l.turns.entries.now)) l.initial.out new)
    × ((last_of l.to (parts l.source.tokens.now l.row.entries.now)
    ≡ last_of l.from (parts l.source.tokens.now l.turns.entries.now))
    × length l.row.entries.now ≤ length l.turns.entries.now)

abbrev pub decreases-turned-loop-operand : goal.decreases-turned-loop-operand
decreases-turned-loop-operand l = length l.row.entries.now
