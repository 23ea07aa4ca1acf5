use Rattle.es_syntax.specs.Held.{valued}
use Rattle.dts_draft.proofs.There.{lifted}
use Rattle.dts_parts.proofs.ParamLemmas.{any_modifiers, any_there, array_stays, bare_stays, object_stays, property_is, property_kept}
use Rattle.dts_parts.proofs.params.bare_property.Goals as goal

pub returns-in-Some-Ident-clause-written : goal.returns-in-Some-Ident-clause-written
returns-in-Some-Ident-clause-written c = λ e by span ty value untyped none is.
    let x = c.args.env.now.text.now in
    let ts = c.args.env.now.tokens.now in
    property_is by x ts c.args.out.now c.property_any.new.out (valued x ts c.args.it.now) _ span _
    (valued x ts c.args.name.now) _ ty value is
    (lifted (λ m h.
    any_there by x ts c.args.out.now c.property_any.new.out m _ span (valued x ts c.args.name.now) _ ty value none
    untyped
    (h (rw c.in-Some-Ident.field-0-is at (c.in-Some-Ident.ensures.form x ts)))) (c.property_any.ensures.written e by))

pub returns-in-Some-Array-clause-written : goal.returns-in-Some-Array-clause-written
returns-in-Some-Array-clause-written c = λ e by span ty value untyped none is.
    let x = c.args.env.now.text.now in
    let ts = c.args.env.now.tokens.now in
    property_kept by x ts c.args.out.now c.keep_there.new.self _ _ span _ (valued x ts c.args.name.now) _ ty value is
    (any_modifiers by x ts _ (λ m.
    bare_stays by x ts m _ span c.args.name.now _ ty value none untyped
    (array_stays by x ts _ _ (valued x ts c.args.name.now)
    (rw c.in-Some-Array.field-0-is at (c.in-Some-Array.ensures.form x ts)))))
    (c.keep_there.ensures.written e x ts) c.keep_there.ensures.state

pub returns-in-Some-Object-clause-written : goal.returns-in-Some-Object-clause-written
returns-in-Some-Object-clause-written c = λ e by span ty value untyped none is.
    let x = c.args.env.now.text.now in
    let ts = c.args.env.now.tokens.now in
    property_kept by x ts c.args.out.now c.keep_there-in-Some-Object.new.self _ _ span _ (valued x ts c.args.name.now)
    _ ty value is
    (any_modifiers by x ts _ (λ m.
    bare_stays by x ts m _ span c.args.name.now _ ty value none untyped
    (object_stays by x ts _ (valued x ts c.args.name.now)
    (rw c.in-Some-Object.field-0-is at (c.in-Some-Object.ensures.form x ts)))))
    (c.keep_there-in-Some-Object.ensures.written e x ts) c.keep_there-in-Some-Object.ensures.state
