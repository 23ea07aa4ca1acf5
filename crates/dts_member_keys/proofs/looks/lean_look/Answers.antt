use Rattle.es_syntax.specs.Held.{parts_of, valued}
use Rattle.dts_member_keys.proofs.CastLemmas.{leant_none, leant_sees}
use Rattle.dts_member_keys.proofs.LookLemmas.{broken}
use Rattle.dts_member_keys.proofs.looks.lean_look.Goals as goal

pub returns-in-None-clause-tells : goal.returns-in-None-clause-tells
returns-in-None-clause-tells c = λ by x ts from. broken by x ts _

pub returns-then-are_casts-clause-tells : goal.returns-then-are_casts-clause-tells
returns-then-are_casts-clause-tells c = λ by x ts from.
    leant_sees by x ts c.args.lean from c.in-Some.first.to (parts_of x ts c.args.parts.now.entries.now)
    (parts_of x ts c.in-Some.turns.entries.now) (valued x ts c.in-Some.first) c.are_casts.result
    (c.in-Some.ensures.parts x ts) c.if-are_casts.true (c.are_casts.ensures by x ts)

pub returns-else-are_casts-clause-tells : goal.returns-else-are_casts-clause-tells
returns-else-are_casts-clause-tells c = λ by x ts from.
    leant_none by x ts c.args.lean from c.in-Some.first.to (parts_of x ts c.args.parts.now.entries.now)
    (parts_of x ts c.in-Some.turns.entries.now) (valued x ts c.in-Some.first) c.are_casts.result
    (c.in-Some.ensures.parts x ts) c.if-are_casts.false (c.are_casts.ensures by x ts)
