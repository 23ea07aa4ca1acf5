use Rattle.std.proofs.Common.{subst, ◌∙◌}
use Rattle.es_lowering.specs.Value.{Value, turns}
use Rattle.es_lowering.specs.TypedStatements.{enum_member}
use Rattle.es_syntax.specs.Held.{held}
use Rattle.dts_draft.specs.Written.{IfThere}
use Rattle.dts_enums.specs.Enums.{MembersPut}
use Rattle.dts_enums.proofs.EnumLemmas.{enum_written}
use Rattle.dts_enums.proofs.enums.enum_node.Goals as goal

-- opened, written, closed
pub returns-clause-written : goal.returns-clause-written
returns-clause-written c = λ e x by.
    let ts = c.args.tokens.now in
    let f = c.close_node.ensures.before e in
    let g = c.close_group.ensures.before f in
    let h = c.all_members.ensures.before g in
    let i = c.open-group.ensures.before h in
    let j = c.keep_part-2.ensures.before i in
    let k = c.keep_part.ensures.before j in
    let P : Value → Type 0 = λ v.
    IfThere (MembersPut x ts by c.open-group.new.self.row c.all_members.new.out.row) (turns (enum_member ts) v) in
    enum_written by x ts c.args.out.now c.open-place.new.self c.keep_part-2.new.out c.keep_part.new.out
    c.open-group.new.self c.all_members.new.out c.close_group.new.self c.close_node.new.self c.args.from c.args.to
    c.open-place.result c.open-group.result (held x ts c.args.parts.now.entries.now) (c.open-place.ensures.written k)
    (c.open-place.ensures.place k) (c.keep_part.ensures.written j x ts) (c.keep_part-2.ensures.written i x ts)
    (c.open-group.ensures.written h) (c.open-group.ensures.place h)
    (subst P (c.group_at.ensures.value x ts) (c.all_members.ensures.written g x by)) (c.close_group.ensures.written f)
    (c.close_node.ensures.written e)
    (c.close_node.ensures.state ∙ (c.close_group.ensures.state ∙ (c.all_members.ensures.state
    ∙ (c.open-group.ensures.state
    ∙ (c.keep_part-2.ensures.state ∙ (c.keep_part.ensures.state ∙ c.open-place.ensures.state))))))
