use Rattle.std.proofs.Common.{◌≡◌, ◌-◌, ◌∙◌, sym, ap, suc, arith}
use Rattle.grammar_theory.specs.Key.{keys_of}
use Rattle.es_lookahead.proofs.TokenLemmas.{length-keys_of}
use Rattle.es_grammar.specs.Functions.{stand_once, each_once}
use Rattle.es_shared_rules.specs.predicates.Named.{modifier_of}
use Rattle.es_shared_rules.proofs.predicates_lemmas.ModifierLemmas.{once_stop, once_again, once_more, once_end}
use Rattle.es_shared_rules.proofs.predicates.classes.each_once.Goals as goal

pub modifiers-init : goal.modifiers-init
modifiers-init c =
    ap (λ n. stand_once (modifier_of c.args.run) (keys_of c.args.tokens.now.tokens.now) n c.args.from)
    (length-keys_of c.args.tokens.now.tokens.now)

-- the run ends here
pub returns-then-not-opens_one : goal.returns-then-not-opens_one
unfolding each_once
returns-then-not-opens_one c =
    sym (c.modifiers.invariant
    ∙ once_stop (modifier_of c.args.run) (keys_of c.args.tokens.now.tokens.now) c.modifiers.left c.modifiers.at
    (sym c.if-not-opens_one.ensures.predicate))

-- this one stands again
pub returns-then-stands_again : goal.returns-then-stands_again
unfolding each_once
returns-then-stands_again c =
    let e : c.modifiers.left ≡ suc (c.modifiers.left - 1) = omega arith in
    sym (c.modifiers.invariant
    ∙ once_again (modifier_of c.args.run) (keys_of c.args.tokens.now.tokens.now) c.modifiers.left
    (c.modifiers.left - 1) c.modifiers.at e (sym c.if-not-opens_one.ensures.predicate) (sym c.if-stands_again.ensures))

-- one more modifier stands once
pub modifiers-preserved : goal.modifiers-preserved
modifiers-preserved c =
    let e : c.modifiers.left ≡ suc (c.modifiers.left - 1) = omega arith in
    c.modifiers.invariant
    ∙ once_more (modifier_of c.args.run) (keys_of c.args.tokens.now.tokens.now) c.modifiers.left
    (c.modifiers.left - 1) c.modifiers.at e (sym c.if-not-opens_one.ensures.predicate) (sym c.if-stands_again.ensures)

-- no more may stand there
pub returns : goal.returns
unfolding each_once
returns c =
    sym (c.modifiers.invariant
    ∙ once_end (modifier_of c.args.run) (keys_of c.args.tokens.now.tokens.now) c.modifiers.left c.modifiers.at
    (omega arith))
