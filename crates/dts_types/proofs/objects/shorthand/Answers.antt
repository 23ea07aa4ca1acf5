use Rattle.std.proofs.Common.{ap, sym, ◌∙◌}
use Rattle.dts_rules.specs.Rules.{note}
use Rattle.dts_rules.specs.declared.found.FoundKind.TheVariants as kind
use Rattle.dts_types.proofs.ObjectLemmas.{short_written, short_none}
use Rattle.dts_types.proofs.objects.shorthand.Goals as goal

pub returns-then-name_type-clause-written : goal.returns-then-name_type-clause-written
returns-then-name_type-clause-written c = λ e by knows.
    let x = c.args.env.now.text.now in
    let ts = c.args.env.now.tokens.now in
    let f = c.close_form.ensures.before e in
    let g = c.name_type.ensures.before f in
    let h = c.leaf_node.ensures.before g in
    let i = c.gone.ensures.before h in
    short_written by x ts c.args.ask c.property_form.result c.args.out.now c.open-place.new.self c.gone.new.self
    c.leaf_node.new.self c.name_type.new.out c.close_form.new.self _ _ _ (c.open-place.ensures.written i)
    (c.open-place.ensures.place i) (c.gone.ensures.written h x ts) (c.leaf_node.ensures.written g x ts)
    c.if-name_type.true (c.name_type.ensures.written f by knows) c.property_form.ensures
    (c.close_form.ensures.written e)
    (c.close_form.ensures.state ∙ (c.name_type.ensures.state ∙ (c.leaf_node.ensures.state ∙ (c.gone.ensures.state
    ∙ c.open-place.ensures.state))))

pub returns-clause-written : goal.returns-clause-written
returns-clause-written c = λ e by knows.
    let x = c.args.env.now.text.now in
    let ts = c.args.env.now.tokens.now in
    let f = sym c.back_to.ensures.failed ∙ c.note.ensures.before e in
    let g = c.name_type.ensures.before f in
    let h = c.leaf_node.ensures.before g in
    let i = c.gone.ensures.before h in
    short_none by x ts c.args.ask c.args.out.now c.open-place.new.self c.gone.new.self c.leaf_node.new.self
    c.name_type.new.out c.back_to.new.self c.note.new.self _ _ _ c.token_range.result (c.open-place.ensures.written i)
    (c.open-place.ensures.place i) (c.gone.ensures.written h x ts) (c.leaf_node.ensures.written g x ts)
    c.if-name_type.false (c.name_type.ensures.written f by knows) c.back_to.ensures.row c.note.ensures.row
    c.token_range.ensures
    (c.note.ensures.noted e ∙ ap (note kind.UnableToInferTypeFromProp c.token_range.result)
    (c.back_to.ensures.state ∙ (c.name_type.ensures.state ∙ (c.leaf_node.ensures.state ∙ (c.gone.ensures.state
    ∙ c.open-place.ensures.state)))))
