use Rattle.es_syntax.specs.Held.{valued}
use Rattle.es_syntax.specs.Roles.{stmt_in}
use Rattle.dts_draft.proofs.There.{lifted}
use Rattle.dts_member_keys.specs.Keys.{key_rule}
use Rattle.dts_members.proofs.OverloadLemmas.{implemented}
use Rattle.dts_members.proofs.PlainLemmas.{plain_kept, plain_keyless, plain_listed}
use Rattle.dts_members.proofs.methods.keyed_method.Goals as goal

-- the body of overloads
pub returns-then-is_listed-clause-written : goal.returns-then-is_listed-clause-written
returns-then-is_listed-clause-written c = λ e kind a g is by knows known.
    let x = c.args.env.now.text.now in
    let ts = c.args.env.now.tokens.now in
    plain_listed by x ts kind a g _ _ _ c.args.out.now _ _ _
    (implemented c.args.ranges.now by _ _ _ _ known c.span_of.ensures c.is_listed.ensures c.if-is_listed.true)

-- without a key
pub returns-then-is_dropped-clause-written : goal.returns-then-is_dropped-clause-written
returns-then-is_dropped-clause-written c = λ e kind a g is by knows known.
    let x = c.args.env.now.text.now in
    let ts = c.args.env.now.tokens.now in
    plain_keyless by x ts kind a g _ _ _ c.args.out.now _ _ _
    (lifted (λ key told. c.is_dropped.ensures.none c.if-is_dropped.true x ts (key_rule by key) told)
    (c.member_key-shown.ensures by knows))

-- any other
pub returns-clause-written : goal.returns-clause-written
returns-clause-written c = λ e kind a g is by knows known.
    let x = c.args.env.now.text.now in
    let ts = c.args.env.now.tokens.now in
    plain_kept by x ts kind a g _ _ _ c.args.out.now c.method_up_to.new.out _ _ _
    (implemented c.args.ranges.now by _ _ _ _ known c.span_of.ensures c.is_listed.ensures c.if-is_listed.false)
    (lifted (λ key told. c.method_up_to.ensures.written e (stmt_in (valued x ts c.args.of.now.body)) by knows kind a g
    is
    (key_rule by key) told) (c.member_key-shown.ensures by knows))
