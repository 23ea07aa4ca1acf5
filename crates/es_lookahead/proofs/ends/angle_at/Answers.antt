use Rattle.std.specs.Prelude.{◌/◌, length, Some, slice_get}
use Rattle.std.proofs.Common.{◌≡◌, ◌∙◌, ◌-◌, refl, sym, ap}
use Rattle.es_lookahead.specs.Ends.{angle_at}
use Rattle.es_lookahead.proofs.EndLemmas.{item_at, half_behind, half_before, half_there, half_none, none_left}
use Rattle.es_lookahead.proofs.ends.angle_at.Goals as goal

pub returns-in-None : goal.returns-in-None
returns-in-None c =
    half_none c.halves.steps c.halves.within.now c.args.at c.in-None.ensures.lookup.0 ∙ c.halves.invariant

pub halves-preserved-then-at-angle : goal.halves-preserved-then-at-angle
halves-preserved-then-at-angle c =
    half_behind c.halves.steps c.halves.within.now c.args.at c.in-Some.angle.now
    (angle_at (c.halves.steps - 1) c.split_at.result.1.now c.args.at) c.halves-test.true
    (item_at c.halves.within.now (length c.halves.within.now / 2) c.in-Some.angle.now c.in-Some.ensures.lookup.0
    c.in-Some.ensures.lookup.1) c.if-at-angle.true
    (ap (λ angles. angle_at (c.halves.steps - 1) angles c.args.at) c.split_at.ensures.back)
    ∙ c.halves.invariant

pub halves-preserved : goal.halves-preserved
halves-preserved c =
    half_before c.halves.steps c.halves.within.now c.args.at c.in-Some.angle.now
    (angle_at (c.halves.steps - 1) c.split_at.result.0.now c.args.at) c.halves-test.true
    (item_at c.halves.within.now (length c.halves.within.now / 2) c.in-Some.angle.now c.in-Some.ensures.lookup.0
    c.in-Some.ensures.lookup.1) c.if-at-angle.false c.if-angle-at.true
    (ap (λ angles. angle_at (c.halves.steps - 1) angles c.args.at) c.split_at.ensures.front)
    ∙ c.halves.invariant

pub returns-in-Some : goal.returns-in-Some
returns-in-Some c =
    half_there c.halves.steps c.halves.within.now c.args.at c.in-Some.angle.now (Some c.in-Some.angle.now)
    c.halves-test.true
    (item_at c.halves.within.now (length c.halves.within.now / 2) c.in-Some.angle.now c.in-Some.ensures.lookup.0
    c.in-Some.ensures.lookup.1) c.if-at-angle.false c.if-angle-at.false
    ∙ c.halves.invariant

pub returns : goal.returns
returns c = none_left c.halves.steps c.halves.within.now c.args.at c.halves-test.false ∙ c.halves.invariant
