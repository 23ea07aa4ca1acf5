use Rattle.es_syntax.specs.Held.{valued}
use Rattle.dts_draft.proofs.There.{lifted}
use Rattle.dts_parts.proofs.ParamLemmas.{array_stays, default_there, named_changes, no_name, object_stays, property_is}
use Rattle.dts_parts.proofs.params.defaulted_property.Goals as goal

pub returns-in-Some-Ident-clause-written : goal.returns-in-Some-Ident-clause-written
returns-in-Some-Ident-clause-written c = λ e by knows span value vs some_ is.
    let x = c.args.env.now.text.now in
    let ts = c.args.env.now.tokens.now in
    property_is by x ts c.args.out.now c.property_default.new.out (valued x ts c.args.it.now) _ span _
    (valued x ts c.args.name.now) _ _ value is
    (lifted (λ m h.
    default_there by x ts c.args.out.now c.property_default.new.out m _ span (valued x ts c.args.name.now) _ _ value _
    vs
    some_ h)
    (c.property_default.ensures.written e by knows (named_changes by x ts _ _ (valued x ts c.args.name.now)
    (rw c.in-Some-Ident.field-0-is at (c.in-Some-Ident.ensures.form x ts)))))

pub returns-in-Some-Array-clause-written : goal.returns-in-Some-Array-clause-written
returns-in-Some-Array-clause-written c = λ e by knows.
    let x = c.args.env.now.text.now in
    let ts = c.args.env.now.tokens.now in
    c.pattern_property.ensures.written e by knows (no_name by x ts (valued x ts c.args.name.now)
    (array_stays by x ts _ _ (valued x ts c.args.name.now)
    (rw c.in-Some-Array.field-0-is at (c.in-Some-Array.ensures.form x ts))))

pub returns-in-Some-Object-clause-written : goal.returns-in-Some-Object-clause-written
returns-in-Some-Object-clause-written c = λ e by knows.
    let x = c.args.env.now.text.now in
    let ts = c.args.env.now.tokens.now in
    c.pattern_property-in-Some-Object.ensures.written e by knows (no_name by x ts (valued x ts c.args.name.now)
    (object_stays by x ts _ (valued x ts c.args.name.now)
    (rw c.in-Some-Object.field-0-is at (c.in-Some-Object.ensures.form x ts))))
