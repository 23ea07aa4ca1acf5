use Rattle.std.proofs.Common.{◌≡◌, ◌∙◌, subst}
use Rattle.es_grammar.specs.declared.rows.NodeKind.{NodeKind}
use Rattle.es_lowering.specs.Texts.{span_of}
use Rattle.es_changed.specs.Shape.{closed}
use Rattle.es_changed.specs.declared.entry.Change.TheVariants as change
use Rattle.es_syntax.specs.declared.entry.What.TheVariants as vWhat
use Rattle.es_syntax.specs.Held.{held}
use Rattle.dts_members.proofs.ClassLemmas.{typed_class_made}
use Rattle.dts_members.proofs.classes.typed_class.Goals as goal

-- opened, written, closed
pub returns-clause-written : goal.returns-clause-written
returns-clause-written c = λ e by knows known.
    let x = c.args.env.now.text.now in
    let ts = c.args.env.now.tokens.now in
    let f = c.close_node.ensures.before e in
    let g = c.close_group.ensures.before f in
    let h = c.all_members.ensures.before g in
    let i = c.open-group.ensures.before h in
    let j = c.keep_part-4.ensures.before i in
    let k = c.keep_part-3.ensures.before j in
    let m = c.keep_part-2.ensures.before k in
    let n = c.keep_part.ensures.before m in
    let P : NodeKind → Type 0 = λ label.
    c.close_node.new.self.row ≡ closed (change.Old (vWhat.Node label)) c.args.it.now.from c.args.it.now.to
    c.open-place.result c.close_group.new.self.row in
    typed_class_made by x ts c.args.is_abstract c.args.out.now c.open-place.new.self c.keep_part.new.out
    c.keep_part-2.new.out c.keep_part-3.new.out c.keep_part-4.new.out
    c.open-group.new.self c.all_members.new.out c.close_group.new.self c.close_node.new.self c.open-place.result _
    c.args.it.now.from
    c.args.it.now.to (span_of ts c.args.it.now.from c.args.it.now.to) (held x ts c.args.it.now.parts.entries.now) _
    (c.group_at.ensures.value x ts) (c.open-place.ensures.written n) (c.open-place.ensures.place n)
    (c.keep_part.ensures.written m x ts) (c.keep_part-2.ensures.written k x ts) (c.keep_part-3.ensures.written j x ts)
    (c.keep_part-4.ensures.written i x ts) (c.open-group.ensures.written h) (c.open-group.ensures.place h)
    (c.open-group.ensures.state ∙ (c.keep_part-4.ensures.state ∙ (c.keep_part-3.ensures.state
    ∙ (c.keep_part-2.ensures.state ∙ (c.keep_part.ensures.state ∙ c.open-place.ensures.state)))))
    (c.all_members.ensures.written g by knows known) (c.close_group.ensures.written f)
    (subst P c.typed_label.ensures (c.close_node.ensures.written e))
    (c.close_node.ensures.state ∙ c.close_group.ensures.state)
