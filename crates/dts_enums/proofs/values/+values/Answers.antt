use Rattle.std.proofs.Common.{arith}
use Rattle.es_syntax.specs.Held.{held, parts_of, valued}
use Rattle.dts_enums.proofs.LeanLemmas.{leaning_binary, leaning_typed, leaned_next, first_turns}
use Rattle.dts_enums.proofs.TurnLemmas.{operand_right}
use Rattle.dts_enums.proofs.ValueLemmas as values
use Rattle.dts_enums.proofs.values.+values.Goals as goal

-- ---- one turn less is left
pub are_turns-loop-turn-preserved : goal.are_turns-loop-turn-preserved
are_turns-loop-turn-preserved t c =
    let below = c.in-Some.ensures.below in
    let within = c.loop-turn.invariant.0 in (
      omega arith,
      λ x env after left.
          c.loop-turn.invariant.1 x env after
          (leaned_next env x c.args.tokens.now c.args.lean (parts_of x c.args.tokens.now c.loop-turn.row.entries.now)
          (parts_of x c.args.tokens.now c.in-Some.rest.entries.now) c.in-Some.turn.to
          (valued x c.args.tokens.now c.in-Some.turn) c.loop-turn.there c.is_turn-there.result after
          (c.in-Some.ensures.parts x c.args.tokens.now) (c.is_turn-there.ensures x env) left),
    )

pub are_pieces-loop-turn-preserved : goal.are_pieces-loop-turn-preserved
are_pieces-loop-turn-preserved t c =
    let below = c.in-Some.ensures.below in
    let within = c.loop-turn.invariant.0 in (
      omega arith,
      λ x env after left.
          c.loop-turn.invariant.1 x env after
          (values.all_next env (held x c.args.tokens.now c.loop-turn.row.entries.now)
          (valued x c.args.tokens.now c.in-Some.turn) (held x c.args.tokens.now c.in-Some.rest.entries.now)
          c.loop-turn.there c.is_piece-piece.result c.both-there.result after
          (c.in-Some.ensures.value x c.args.tokens.now) c.both-there.ensures (c.is_piece-piece.ensures x env) left),
    )

-- ---- turns
pub is_turned-returns-in-None-split : goal.is_turned-returns-in-None-split
is_turned-returns-in-None-split t c = λ x env.
    let ts = c.args.tokens.now in
    operand_right env ts c.args.before (held x ts c.args.g.now.entries.now) (valued x ts c.in-Some.right)
    (held x ts c.group.result.entries.now) c.starts_enum-there.result c.both.result (c.in-Some.ensures.value x ts)
    (c.group.ensures.value x ts) (c.in-None-split.ensures.value x ts) (c.starts_enum-there.ensures x env) c.both.ensures

pub is_turn-returns-in-Some : goal.is_turn-returns-in-Some
is_turn-returns-in-Some t c = λ x env from to v known.
    let ts = c.args.tokens.now in
    rw c.in-Binary.is
    (leaning_binary env x ts from to v (valued x ts c.args.turn.now) (held x ts c.group.result.entries.now)
    (valued x ts c.in-Some.right) c.args.before c.starts_enum-there.result c.both.result (c.in-Some.ensures.value x ts)
    (c.group.ensures.value x ts) c.both.ensures known (c.starts_enum-there.ensures x env))

pub is_turn-returns-in-TypedBinary : goal.is_turn-returns-in-TypedBinary
is_turn-returns-in-TypedBinary t c = λ x env from to v known.
    let ts = c.args.tokens.now in
    rw c.in-TypedBinary.is
    (leaning_typed env x ts from to v (valued x ts c.args.turn.now)
    (held x ts c.group-in-TypedBinary.result.entries.now)
    (held x ts c.group_at.result.entries.now) c.args.before c.is_turned.result (c.group_at.ensures.value x ts)
    (c.group-in-TypedBinary.ensures.value x ts) known (c.is_turned.ensures x env))

pub is_leaning-returns-in-Some : goal.is_leaning-returns-in-Some
is_leaning-returns-in-Some t c = λ x env from.
    let ts = c.args.tokens.now in
    first_turns env x ts c.args.lean from c.in-Some.first.to (parts_of x ts c.args.parts.now.entries.now)
    (parts_of x ts c.in-Some.turns.entries.now) (valued x ts c.in-Some.first) c.starts_enum-before.result
    c.are_turns.result (c.in-Some.ensures.parts x ts) (c.starts_enum-before.ensures x env)
    (c.are_turns.ensures x env)

-- ---- nodes
pub is_template-returns-in-Some : goal.is_template-returns-in-Some
is_template-returns-in-Some t c = λ x env from r.
    let ts = c.args.tokens.now in
    values.template_parts env x ts from r (held x ts c.args.parts.now.entries.now) (valued x ts c.in-Some.first)
    (held x ts c.group_at.result.entries.now) c.starts_enum-there.result c.are_pieces.result
    (c.in-Some.ensures.value x ts) (c.group_at.ensures.value x ts) (c.starts_enum-there.ensures x env)
    (c.are_pieces.ensures x env)

pub is_member-returns-in-Some : goal.is_member-returns-in-Some
is_member-returns-in-Some t c = λ x env from r.
    let ts = c.args.tokens.now in
    values.chain_along env x ts from r (held x ts c.args.parts.now.entries.now) (valued x ts c.in-Some.base)
    c.starts_enum-there.result c.is_chain.result (c.in-Some.ensures.value x ts) (c.starts_enum-there.ensures x env)
    (λ r known. c.is_chain.ensures x ts env r known)

pub is_typed-returns-in-Some : goal.is_typed-returns-in-Some
is_typed-returns-in-Some t c = λ x env from r.
    let ts = c.args.tokens.now in
    values.typed_binary env x ts from r (held x ts c.args.parts.now.entries.now) (valued x ts c.in-Some.left)
    (held x ts c.group_at.result.entries.now) c.starts_enum-there.result c.is_turned.result
    (c.in-Some.ensures.value x ts) (c.group_at.ensures.value x ts) (c.starts_enum-there.ensures x env)
    (c.is_turned.ensures x env)

pub is_binary-returns-in-Some-part : goal.is_binary-returns-in-Some-part
is_binary-returns-in-Some-part t c = λ x env from r.
    let ts = c.args.tokens.now in
    values.binary_both env x ts from r (held x ts c.args.parts.now.entries.now) (valued x ts c.in-Some.left)
    (valued x ts c.in-Some-part.right) c.starts_enum-first.result c.starts_enum-second.result c.both.result
    (c.in-Some.ensures.value x ts) (c.in-Some-part.ensures.value x ts) c.both.ensures
    (c.starts_enum-first.ensures x env) (c.starts_enum-second.ensures x env)
