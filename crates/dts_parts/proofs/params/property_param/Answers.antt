use Rattle.es_syntax.specs.Held.{valued}
use Rattle.dts_parts.proofs.ParamLemmas.{any_modifiers, property_kept, typed_there}
use Rattle.dts_parts.proofs.params.property_param.Goals as goal

-- with a default
pub returns-in-Some-clause-written : goal.returns-in-Some-clause-written
returns-in-Some-clause-written c = λ e by knows span is.
    let x = c.args.env.now.text.now in
    let ts = c.args.env.now.tokens.now in
    c.defaulted_property.ensures.written e by knows span _ _ (c.in-Some.ensures.value x ts) is

-- with a type
pub returns-in-Some-split-clause-written : goal.returns-in-Some-split-clause-written
returns-in-Some-split-clause-written c = λ e by knows span is.
    let x = c.args.env.now.text.now in
    let ts = c.args.env.now.tokens.now in
    property_kept by x ts c.args.out.now c.keep_there.new.self _ _ span _ (valued x ts c.args.name.now) _ _ _ is
    (any_modifiers by x ts _ (λ m.
    typed_there by x ts c.args.name.now m _ span _ _ _ _ _ (c.in-None.ensures.value x ts)
    (c.in-Some-split.ensures.value x ts)))
    (c.keep_there.ensures.written e x ts) c.keep_there.ensures.state
