use Rattle.std.specs.Prelude.{Result, Ok, Err, IfOk}
use Rattle.es_lowering.specs.Texts.{span_of}
use Rattle.es_view_expressions.specs.call.Post.{the_post}
use Rattle.es_syntax.specs.Held.{valued}
use Rattle.es_syntax.specs.Roles.{args_in, post_in}
use Rattle.cjs_looks.specs.Seen.{look_of}
use Rattle.cjs_table.specs.Chains.{spot}
use Rattle.cjs_table.proofs.CallSteps.{call_follows}
use Rattle.cjs_table.proofs.chain.post_step.Goals as goal

-- what an answer is, where there is one
if_ok : {A E : Type 0} (P Q : A → Type 0) (r : Result A E) → ((a : A) → P a → Q a) → IfOk r P → IfOk r Q
if_ok P Q (Ok a) f p = f a p
if_ok P Q (Err e) f p = tt

-- a call
pub returns-in-Some-call_in-clause-follows : goal.returns-in-Some-call_in-clause-follows
returns-in-Some-call_in-clause-follows c =
    let x = c.args.text.now in
    let ts = c.args.tokens.now in
    let r = span_of ts c.args.it.now.from c.args.it.now.to in
    if_ok _ _ c.call_step.result (λ then steps.
    call_follows (post_in (valued x ts c.args.it.now)) (the_post x ts r c.in-Some.view)
    (args_in (valued x ts c.in-Some-call_in.args)) (look_of x ts c.call_look-seen.result)
    (spot x ts c.args.along c.args.found.now) (spot x ts then c.call_step.new.found) (c.in-Some.ensures.form x ts)
    c.call_look-seen.ensures.tells (c.in-Some-call_in.ensures x ts r) steps) c.call_step.ensures.steps
