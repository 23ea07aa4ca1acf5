use Rattle.std.specs.Prelude.{Some}
use Rattle.std.proofs.Common.{◌≡◌, ◌+◌, ◌-◌, ◌∙◌, sym, ap, suc, arith}
use Rattle.grammar_theory.specs.Key.{Seen, keys_of}
use Rattle.es_lookahead.specs.Sight.{sight}
use Rattle.es_grammar.specs.Functions.{stands_again}
use Rattle.es_shared_rules.specs.predicates.Named.{modifier_of}
use Rattle.es_shared_rules.proofs.predicates_lemmas.ModifierLemmas.{again_stop, again_here, again_more, again_end}
use Rattle.es_shared_rules.proofs.predicates.classes.stands_from.Goals as goal

pub loop-turn-init : goal.loop-turn-init
loop-turn-init c =
    let e : c.args.turns ≡ c.args.turns - 0 = omega arith in
    ap (λ n. stands_again (modifier_of c.args.run) (keys_of c.args.tokens.now.tokens.now) (sight (Some c.args.seen)) n
    c.args.from) e

-- the run ends here
pub returns-then-not-opens_one : goal.returns-then-not-opens_one
unfolding sight
returns-then-not-opens_one c =
    let s : Seen = record { kind = c.args.seen.kind; line_before = c.args.seen.line_before } in
    sym (c.loop-turn.invariant
    ∙ again_stop (modifier_of c.args.run) (keys_of c.args.tokens.now.tokens.now) s (c.args.turns - c.loop-turn.turn)
    c.loop-turn.at (sym c.if-not-opens_one.ensures.predicate))

-- the same modifier stands here
pub returns-then-sees : goal.returns-then-sees
unfolding sight
returns-then-sees c =
    let s : Seen = record { kind = c.args.seen.kind; line_before = c.args.seen.line_before } in
    let left = c.args.turns - (c.loop-turn.turn + 1) in
    let e : c.args.turns - c.loop-turn.turn ≡ suc left = omega arith in
    sym (c.loop-turn.invariant
    ∙ again_here (modifier_of c.args.run) (keys_of c.args.tokens.now.tokens.now) s (c.args.turns - c.loop-turn.turn)
    left c.loop-turn.at e (sym c.if-not-opens_one.ensures.predicate) (sym c.if-sees.ensures))

-- another modifier was passed
pub loop-turn-preserved : goal.loop-turn-preserved
unfolding sight
loop-turn-preserved c =
    let s : Seen = record { kind = c.args.seen.kind; line_before = c.args.seen.line_before } in
    let left = c.args.turns - (c.loop-turn.turn + 1) in
    let e : c.args.turns - c.loop-turn.turn ≡ suc left = omega arith in
    c.loop-turn.invariant
    ∙ again_more (modifier_of c.args.run) (keys_of c.args.tokens.now.tokens.now) s (c.args.turns - c.loop-turn.turn)
    left c.loop-turn.at e (sym c.if-not-opens_one.ensures.predicate) (sym c.if-sees.ensures)

-- no more may stand there
pub returns : goal.returns
unfolding sight
returns c =
    let s : Seen = record { kind = c.args.seen.kind; line_before = c.args.seen.line_before } in
    sym (c.loop-turn.invariant
    ∙ again_end (modifier_of c.args.run) (keys_of c.args.tokens.now.tokens.now) s (c.args.turns - c.loop-turn.turn)
    c.loop-turn.at (omega arith))
