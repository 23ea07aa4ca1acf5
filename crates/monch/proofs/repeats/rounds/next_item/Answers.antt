use Rattle.std.proofs.Common.{rules, ◌≢◌, []}
use Rattle.monch.proofs.repeats_lemmas.RoundLemmas.{empty_is, not_empty, ends_at_nothing, end_from_until, end_from_refusal, round_from_item, end_from_item}
use Rattle.monch.proofs.repeats.rounds.next_item.Goals as goal
use Rattle.monch.proofs.repeats.rounds.next_item.Goals.{in-Some, in-None}

pub returns-then-is_empty-clause-round : goal.returns-then-is_empty-clause-round
returns-then-is_empty-clause-round g c =
    ends_at_nothing _ _ c.args.input.now
    (empty_is c.args.input.now c.is_empty.result c.is_empty.ensures c.if-is_empty.true)

pub returns-in_err-attempt-clause-refused : goal.returns-in_err-attempt-clause-refused
returns-in_err-attempt-clause-refused g c =
    let left : c.args.input.now ≢ [] =
    not_empty c.args.input.now c.is_empty.result c.is_empty.ensures c.if-is_empty.false in
    let ended = end_from_refusal (g.A.Combinator.gives c.args.item.now) (g.B.Combinator.gives c.args.until.now) left
    c.in_err-attempt.ensures.refused in
    search rules

pub returns-clause-round : goal.returns-clause-round
returns-clause-round g c =
    let left : c.args.input.now ≢ [] =
    not_empty c.args.input.now c.is_empty.result c.is_empty.ensures c.if-is_empty.false in
    elim c.match-branch-2.branch [
      | in-Some w ↦ rw w.result-is
          (end_from_until _ _ c.args.input.now left _ w.in-Some.is c.in_ok-attempt.ensures.read)
      | in-None w ↦ let goes_on = rw w.in-None.is at c.in_ok-attempt.ensures.read in
          rw w.result-is (round_from_item _ _ c.args.input.now left goes_on w.attempt-in-None.result
          w.attempt-in-None.ensures.read)
    ]

pub returns-clause-refused : goal.returns-clause-refused
returns-clause-refused g c =
    let left : c.args.input.now ≢ [] =
    not_empty c.args.input.now c.is_empty.result c.is_empty.ensures c.if-is_empty.false in
    elim c.match-branch-2.branch [
      | in-Some w ↦ rw w.result-is tt
      | in-None w ↦ let goes_on = rw w.in-None.is at c.in_ok-attempt.ensures.read in
          rw w.result-is (end_from_item _ _ c.args.input.now left goes_on w.attempt-in-None.result
          w.attempt-in-None.ensures.refused)
    ]
