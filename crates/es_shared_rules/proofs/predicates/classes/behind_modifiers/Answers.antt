use Rattle.std.proofs.Common.{◌≡◌, ◌+◌, ◌-◌, ◌∙◌, length, sym, ap, suc, arith}
use Rattle.grammar_theory.specs.Key.{keys_of}
use Rattle.es_lookahead.proofs.TokenLemmas.{length-keys_of}
use Rattle.es_grammar.specs.Classes.{behind_modifiers}
use Rattle.es_shared_rules.proofs.predicates_lemmas.ModifierLemmas.{behind_more}
use Rattle.es_shared_rules.proofs.predicates.classes.behind_modifiers.Goals as goal

pub loop-turn-init : goal.loop-turn-init
loop-turn-init c =
    let e : length (keys_of c.args.tokens.now.tokens.now) ≡ length c.args.tokens.now.tokens.now - 0 =
    omega (arith, length-keys_of c.args.tokens.now.tokens.now) in
    ap (λ n. behind_modifiers (keys_of c.args.tokens.now.tokens.now) n c.args.from) e

-- one more modifier was passed
pub loop-turn-preserved : goal.loop-turn-preserved
loop-turn-preserved c =
    let left = length c.args.tokens.now.tokens.now - (c.loop-turn.turn + 1) in
    let e : length c.args.tokens.now.tokens.now - c.loop-turn.turn ≡ suc left = omega arith in
    c.loop-turn.invariant
    ∙ behind_more (keys_of c.args.tokens.now.tokens.now) (length c.args.tokens.now.tokens.now - c.loop-turn.turn) left
    c.loop-turn.at e (sym c.if-not-opens_modifier.ensures.predicate)
