use Rattle.std.proofs.Common.{rules, ◌≢◌, []}
use Rattle.monch.specs.repeats.Separated.{no_item, no_separator}
use Rattle.monch.proofs.repeats_lemmas.RoundLemmas.{empty_is, not_empty, separated_at_nothing, separated_item_refused, separated_refused}
use Rattle.monch.proofs.repeats.rounds.next_separated.Goals as goal

pub returns-then-is_empty-clause-round : goal.returns-then-is_empty-clause-round
returns-then-is_empty-clause-round g c =
    separated_at_nothing _ _ c.args.input.now
    (empty_is c.args.input.now c.is_empty.result c.is_empty.ensures c.if-is_empty.true)

pub returns-in_err-mid-clause-refused : goal.returns-in_err-mid-clause-refused
returns-in_err-mid-clause-refused g c =
    let left : c.args.input.now ≢ [] =
    not_empty c.args.input.now c.is_empty.result c.is_empty.ensures c.if-is_empty.false in
    let ended = separated_item_refused (g.A.Combinator.gives c.args.item.now)
    (g.B.Combinator.gives c.args.separator.now) left c.in_err-mid.ensures.refused in
    search rules

pub returns-in_default-clause-round : goal.returns-in_default-clause-round
returns-in_default-clause-round g c =
    let left : c.args.input.now ≢ [] =
    not_empty c.args.input.now c.is_empty.result c.is_empty.ensures c.if-is_empty.false in
    let none = rw c.in_default.is at c.in_ok-mid.ensures.read in
    no_item left none

pub returns-in_err-rest-clause-refused : goal.returns-in_err-rest-clause-refused
returns-in_err-rest-clause-refused g c =
    let left : c.args.input.now ≢ [] =
    not_empty c.args.input.now c.is_empty.result c.is_empty.ensures c.if-is_empty.false in
    let read = rw c.in-Some.is at c.in_ok-mid.ensures.read in
    let ended = separated_refused (g.A.Combinator.gives c.args.item.now) (g.B.Combinator.gives c.args.separator.now)
    left read c.in_err-rest.ensures.refused in
    search rules

pub returns-in_default-2-clause-round : goal.returns-in_default-2-clause-round
returns-in_default-2-clause-round g c =
    let left : c.args.input.now ≢ [] =
    not_empty c.args.input.now c.is_empty.result c.is_empty.ensures c.if-is_empty.false in
    let read = rw c.in-Some.is at c.in_ok-mid.ensures.read in
    let none = rw c.in_default-2.is at c.in_ok-rest.ensures.read in
    no_separator left read none
