use Rattle.es_lowering.specs.Value.{as_group}
use Rattle.es_lowering.specs.TypedParts.{body_in}
use Rattle.es_syntax.specs.Held.{valued}
use Rattle.dts_draft.proofs.There.{lifted}
use Rattle.dts_member_keys.specs.Keys.{key_rule}
use Rattle.dts_members.proofs.OverloadLemmas.{implemented}
use Rattle.dts_members.proofs.TypedLemmas.{typed_kept, typed_keyless, typed_listed}
use Rattle.dts_members.proofs.typed_methods.keyed_method.Goals as goal

-- the body of overloads
pub returns-then-is_listed-clause-written : goal.returns-then-is_listed-clause-written
returns-then-is_listed-clause-written c = λ e kind a g same is by knows known.
    let x = c.args.env.now.text.now in
    let ts = c.args.env.now.tokens.now in
    typed_listed by x ts kind a g _ _ _ c.args.out.now _ _ _ _
    (implemented c.args.ranges.now by _ _ _ _ known c.span_of.ensures c.is_listed.ensures c.if-is_listed.true)

-- without a key
pub returns-then-is_dropped-clause-written : goal.returns-then-is_dropped-clause-written
returns-then-is_dropped-clause-written c = λ e kind a g same is by knows known.
    let x = c.args.env.now.text.now in
    let ts = c.args.env.now.tokens.now in
    typed_keyless by x ts kind a g _ _ _ c.args.out.now _ _ _ _
    (lifted (λ key told. c.is_dropped.ensures.none c.if-is_dropped.true x ts (key_rule by key) told)
    (c.member_key-shown.ensures by knows))

-- any other
pub returns-clause-written : goal.returns-clause-written
returns-clause-written c = λ e kind a g same is by knows known.
    let x = c.args.env.now.text.now in
    let ts = c.args.env.now.tokens.now in
    typed_kept by x ts kind a g _ _ _ c.args.out.now c.typed_up_to.new.out _ _ _ _
    (implemented c.args.ranges.now by _ _ _ _ known c.span_of.ensures c.is_listed.ensures c.if-is_listed.false)
    (lifted (λ key told. c.typed_up_to.ensures.written e (body_in (as_group (valued x ts c.args.of.now.body))) by knows
    kind a g same is (key_rule by key) told) (c.member_key-shown.ensures by knows))
