use Rattle.std.proofs.Common.{sym, ◌∙◌}
use Rattle.es_syntax.specs.Held.{valued}
use Rattle.dts_kept.proofs.MemberLemmas.{braces_written, braces_none}
use Rattle.dts_kept.proofs.members.frozen_members.Goals as goal

-- all may be `readonly`
pub returns-clause-written : goal.returns-clause-written
returns-clause-written c = λ e x ts known.
    let f = c.close_node.ensures.before e in
    let g = c.close_group.ensures.before f in
    let h = c.all_members.ensures.before g in
    let i = c.open-group.ensures.before h in
    let j = c.open-place.ensures.before i in
    braces_written x ts _ _ (valued x ts c.args.ty.now) _ _ _ _ (c.gone.ensures.written j x ts)
    (c.open-place.ensures.written i)
    (c.open-place.ensures.place i) (c.open-group.ensures.written h) (c.open-group.ensures.place h)
    c.if-not-all_members.false (c.all_members.ensures.written g x ts) (c.close_group.ensures.written f)
    (c.close_node.ensures.written e) (c.group_at-members.ensures.value x ts) known

-- or one may not, and what was written is taken back
pub returns-then-not-all_members-clause-written : goal.returns-then-not-all_members-clause-written
returns-then-not-all_members-clause-written c = λ e x ts known.
    let g = sym c.back_to.ensures.failed ∙ e in
    let h = c.all_members.ensures.before g in
    let i = c.open-group.ensures.before h in
    let j = c.open-place.ensures.before i in
    braces_none x ts _ _ (valued x ts c.args.ty.now) _ _ _ _ c.len-start.ensures (c.gone.ensures.written j x ts)
    (c.open-place.ensures.written i)
    (c.open-group.ensures.written h) c.if-not-all_members.true (c.all_members.ensures.written g x ts)
    c.back_to.ensures.row (c.group_at-members.ensures.value x ts) known
