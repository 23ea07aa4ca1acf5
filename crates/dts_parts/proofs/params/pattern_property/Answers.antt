use Rattle.es_syntax.specs.Held.{valued}
use Rattle.dts_draft.proofs.There.{lifted}
use Rattle.dts_parts.proofs.ParamLemmas.{default_there, plain_changes, property_is, property_kept, property_stays, with_property}
use Rattle.dts_parts.proofs.params.pattern_property.Goals as goal

-- a property of the class
pub returns-then-is_property-clause-written : goal.returns-then-is_property-clause-written
returns-then-is_property-clause-written c = λ e by knows no_name span value vs some_ is.
    let x = c.args.env.now.text.now in
    let ts = c.args.env.now.tokens.now in
    property_kept by x ts c.args.out.now c.keep_there.new.self _ _ span _ (valued x ts c.args.name.now) _ _ value is
    (with_property by x ts _ (rw c.if-is_property.true at (c.is_property.ensures x by)) (λ m p.
    property_stays by x ts m _ span (valued x ts c.args.name.now) _ _ value _ vs _ some_ p no_name))
    (c.keep_there.ensures.written e x ts) c.keep_there.ensures.state

-- none
pub returns-else-is_property-clause-written : goal.returns-else-is_property-clause-written
returns-else-is_property-clause-written c = λ e by knows no_name span value vs some_ is.
    let x = c.args.env.now.text.now in
    let ts = c.args.env.now.tokens.now in
    property_is by x ts c.args.out.now c.property_default.new.out (valued x ts c.args.it.now) _ span _
    (valued x ts c.args.name.now) _ _ value is
    (lifted (λ m h.
    default_there by x ts c.args.out.now c.property_default.new.out m _ span (valued x ts c.args.name.now) _ _ value _
    vs some_ h)
    (c.property_default.ensures.written e by knows
    (plain_changes by x ts _ (valued x ts c.args.name.now) _ (c.is_property.ensures x by) c.if-is_property.false)))
