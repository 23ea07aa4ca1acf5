use Rattle.std.proofs.Common.{◌≡◌, ◌+◌, ◌-◌, ◌∙◌, length, sym, ap, suc, arith}
use Rattle.grammar_theory.specs.Key.{keys_of}
use Rattle.es_grammar.specs.types.Statements.{has_semicolon}
use Rattle.es_lookahead.proofs.TokenLemmas.{length-keys_of}
use Rattle.es_lookahead.proofs.SemicolonLemmas.{one_turn}
use Rattle.es_lookahead.proofs.tokens.Tokens.has_semicolon.Goals as goal

pub loop-turn-init : goal.loop-turn-init
loop-turn-init c =
    let e : length (keys_of c.args.self.now.tokens.now) ≡ length c.args.self.now.tokens.now - 0 =
    omega (arith, length-keys_of c.args.self.now.tokens.now) in
    ap (λ n. has_semicolon (keys_of c.args.self.now.tokens.now) n c.args.from c.args.to) e

-- one more token was looked at
pub loop-turn-preserved : goal.loop-turn-preserved
loop-turn-preserved c =
    let left = length c.args.self.now.tokens.now - (c.loop-turn.turn + 1) in
    let e : length c.args.self.now.tokens.now - c.loop-turn.turn ≡ suc left = omega arith in
    c.loop-turn.invariant
    ∙ one_turn (keys_of c.args.self.now.tokens.now) (length c.args.self.now.tokens.now - c.loop-turn.turn) left
    c.loop-turn.at c.args.to e c.if-at-to.false (sym c.sees.ensures ∙ c.if-sees.false)
    ∙ sym (c.step_over-at.ensures left)
