use Rattle.std.proofs.Common.{subst, ◌≡◌, ◌∙◌}
use Rattle.es_grammar.specs.declared.rows.NodeKind.{NodeKind}
use Rattle.es_changed.specs.Shape.{closed}
use Rattle.es_changed.specs.declared.entry.Change.TheVariants as change
use Rattle.es_syntax.specs.declared.entry.What.TheVariants as vWhat
use Rattle.es_syntax.specs.Held.{held, valued}
use Rattle.dts_parts.proofs.FunctionLemmas.{typed_function_made}
use Rattle.dts_parts.proofs.functions.typed_function.Goals as goal

-- opened, written, closed
pub returns-in-Some-clause-written : goal.returns-in-Some-clause-written
returns-in-Some-clause-written c = λ e by knows.
    let x = c.args.env.now.text.now in
    let ts = c.args.env.now.tokens.now in
    let f = c.close_node.ensures.before e in
    let g = c.bodyless.ensures.before f in
    let h = c.ruled_signature.ensures.before g in
    let i = c.keep_part-2.ensures.before h in
    let j = c.keep_part.ensures.before i in
    let P : NodeKind → Type 0 = λ label.
    c.close_node.new.self.row ≡ closed (change.Old (vWhat.Node label)) c.args.it.now.from c.args.it.now.to
    c.open-place.result c.bodyless.new.out.row in
    typed_function_made by x ts c.args.is_async c.args.ruled c.args.out.now c.open-place.new.self c.keep_part.new.out
    c.keep_part-2.new.out
    c.ruled_signature.new.out c.bodyless.new.out c.close_node.new.self c.open-place.result c.args.it.now.from
    c.args.it.now.to
    (held x ts c.args.it.now.parts.entries.now) (valued x ts c.in-Some.signature) (c.in-Some.ensures.value x ts)
    (c.open-place.ensures.written j) (c.open-place.ensures.place j) (c.keep_part.ensures.written i x ts)
    (c.keep_part-2.ensures.written h x ts)
    (c.keep_part-2.ensures.state ∙ (c.keep_part.ensures.state ∙ c.open-place.ensures.state))
    (c.ruled_signature.ensures.written g by knows) (c.bodyless.ensures.written f x ts)
    (subst P c.typed_label.ensures (c.close_node.ensures.written e))
    (c.close_node.ensures.state ∙ c.bodyless.ensures.state)
