use Rattle.std.proofs.Common.{◌∙◌, sym}
use Rattle.es_syntax.specs.Held.{held, valued}
use Rattle.dts_members.proofs.TurnLemmas.{turn_gone, turn_kept}
use Rattle.dts_members.proofs.classes.member_turn.Goals as goal

-- a member that stays
pub returns-then-member-clause-written : goal.returns-then-member-clause-written
returns-then-member-clause-written c = λ e by knows known.
    let x = c.args.env.now.text.now in
    let ts = c.args.env.now.tokens.now in
    let f = c.close_group.ensures.before e in
    let g = c.member.ensures.before f in
    turn_kept by x ts c.args.out.now c.open-place.new.self c.member.new.out c.close_group.new.self _ c.member.result
    (held x ts c.group.result.entries.now) (valued x ts c.args.turn.now) (valued x ts c.in-Some.it)
    (c.group.ensures.value x ts) (c.in-Some.ensures.value x ts) c.if-member.true (c.open-place.ensures.written g)
    (c.open-place.ensures.place g) c.open-place.ensures.state (c.member.ensures.written f by knows known)
    (c.close_group.ensures.written e) c.close_group.ensures.state

-- one that goes
pub returns-else-member-clause-written : goal.returns-else-member-clause-written
returns-else-member-clause-written c = λ e by knows known.
    let x = c.args.env.now.text.now in
    let ts = c.args.env.now.tokens.now in
    let f = sym c.back_to.ensures.failed ∙ c.dropped.ensures.before e in
    let g = c.member.ensures.before f in
    turn_gone by x ts c.args.out.now c.open-place.new.self c.member.new.out c.back_to.new.self c.dropped.new.self _
    c.member.result (held x ts c.group.result.entries.now) (valued x ts c.args.turn.now) (valued x ts c.in-Some.it)
    (c.group.ensures.value x ts) (c.in-Some.ensures.value x ts) c.if-member.false (c.open-place.ensures.written g)
    (c.open-place.ensures.place g) c.open-place.ensures.state (c.member.ensures.written f by knows known)
    c.back_to.ensures.row (c.dropped.ensures.written e x ts) (c.dropped.ensures.state ∙ c.back_to.ensures.state)
