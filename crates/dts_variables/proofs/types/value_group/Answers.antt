use Rattle.std.specs.Prelude.{Some}
use Rattle.es_syntax.specs.Held.{valued}
use Rattle.es_syntax.specs.Roles.{expr_in}
use Rattle.dts_draft.proofs.There.{mapped}
use Rattle.dts_variables.specs.Declarators.{Typed}
use Rattle.dts_variables.proofs.types.value_group.Goals as goal

pub returns-in-Some-clause-written : goal.returns-in-Some-clause-written
returns-in-Some-clause-written c = λ e by knows.
    let x = c.args.env.now.text.now in
    let ts = c.args.env.now.tokens.now in
    rw c.in-Some.is
    (mapped (λ it. Typed x ts by c.args.out.now c.inferred_group.new.out c.args.to c.args.range (Some it))
    (Typed x ts by c.args.out.now c.inferred_group.new.out c.args.to c.args.range) Some
    (expr_in (valued x ts c.in-Some.it)) (λ it t. t) (c.inferred_group.ensures.written e by knows))

pub returns-in-None-clause-written : goal.returns-in-None-clause-written
returns-in-None-clause-written c = λ e by knows.
    let x = c.args.env.now.text.now in
    let ts = c.args.env.now.tokens.now in
    rw c.in-None.is
    (record {
      is = record {
        state = c.unknown_group.ensures.noted e;
        group = c.unknown_group.ensures.written e x ts;
      };
    })
