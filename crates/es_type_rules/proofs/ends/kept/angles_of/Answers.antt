use Rattle.std.specs.Prelude.{List}
use Rattle.std.proofs.Common.{◌-◌, sym, subst, ◌∙◌}
use Rattle.grammar_theory.specs.Key.{keys_of}
use Rattle.es_lookahead.specs.declared.ends.Angle.{Angle}
use Rattle.es_lookahead.specs.Ends.{AreRight}
use Rattle.es_lookahead.proofs.EndLemmas.{rights_none, rights_push}
use Rattle.es_type_rules.proofs.ends_lemmas.KeepLemmas.{bare_none, bare_more, bare_behind}
use Rattle.es_type_rules.proofs.ends.kept.angles_of.Goals as goal

-- those behind the last `>` are kept first
pub tokens-init : goal.tokens-init
tokens-init c = (
  subst (λ (angles : List Angle). AreRight (keys_of c.args.tokens.now) angles) (sym c.in_ok-push.ensures.items)
      (rights_push (keys_of c.args.tokens.now) c.new-angles.result.items c.unclosed-last.result
      (subst (λ (angles : List Angle). AreRight (keys_of c.args.tokens.now) angles) (sym c.new-angles.ensures.items)
      (rights_none (keys_of c.args.tokens.now))) c.unclosed-last.ensures),
  bare_none (keys_of c.args.tokens.now) c.unclosed-last.result.first,
)

-- what is kept so far is right
pub angle_of-angle-requires-clause-rights : goal.angle_of-angle-requires-clause-rights
angle_of-angle-requires-clause-rights c =
    subst (λ (angles : List Angle). AreRight (keys_of c.args.tokens.now) angles) (sym c.as_slice.ensures.value)
    c.tokens.invariant.0

-- nothing begins between an angle and the last item
pub keep-requires-clause-between : goal.keep-requires-clause-between
keep-requires-clause-between c =
    bare_behind (keys_of c.args.tokens.now) c.tokens.left c.tokens.low c.angle_of-angle.result.at c.tokens-test.true
    c.angle_of-angle.ensures.place c.tokens.invariant.1

-- one more
pub tokens-preserved-then-stands_angle : goal.tokens-preserved-then-stands_angle
tokens-preserved-then-stands_angle c =
    (c.in_ok-keep.ensures, bare_none (keys_of c.args.tokens.now) (c.tokens.left - 1))

-- nothing begins there
pub tokens-preserved : goal.tokens-preserved
tokens-preserved c = (
  c.tokens.invariant.0,
  bare_more (keys_of c.args.tokens.now) c.tokens.left c.tokens.low c.tokens-test.true c.tokens.invariant.1
      (sym c.stands_angle.ensures.kind ∙ c.if-stands_angle.false),
)
