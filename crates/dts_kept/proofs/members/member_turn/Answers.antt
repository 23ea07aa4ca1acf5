use Rattle.std.proofs.Common.{sym, ap, ◌∙◌}
use Rattle.es_lowering.specs.Value.{Value, part}
use Rattle.es_syntax.specs.Roles.{type_member_in}
use Rattle.dts_kept.proofs.MemberLemmas.{member_turned}
use Rattle.dts_kept.proofs.members.member_turn.Goals as goal

-- opened, written, closed
pub returns-in-Some-clause-written : goal.returns-in-Some-clause-written
returns-in-Some-clause-written c = λ e x ts.
    let f = c.close_group.ensures.before e in
    let g = c.frozen_member-there.ensures.before f in
    member_turned x ts _ _ _ _ _ (c.open-group.ensures.written g) (c.open-group.ensures.place g)
    (c.frozen_member-there.ensures.written f x ts) (c.close_group.ensures.written e)
    (ap type_member_in (ap (λ (w : Value). part w 0) (sym (c.group.ensures.value x ts)) ∙ c.in-Some.ensures.value x ts))
