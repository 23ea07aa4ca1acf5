use Rattle.std.specs.Prelude.{Some}
use Rattle.std.proofs.Common.{◌≡◌, ◌-◌}
use Rattle.grammar_theory.specs.Key.{keys_of}
use Rattle.es_lookahead.specs.Sight.{sight}
use Rattle.es_grammar.specs.Functions.{stands_again}
use Rattle.es_shared_rules.specs.predicates.Named.{modifier_of}
use Rattle.es_shared_rules.proofs.predicates.classes.stands_from.Given as goal

-- what is left to look at tells what the whole tells
abbrev pub invariant-loop-turn : goal.invariant-loop-turn
invariant-loop-turn l =
    stands_again (modifier_of l.run) (keys_of l.tokens.tokens.now) (sight (Some l.seen)) l.turns l.from
    ≡ stands_again (modifier_of l.run) (keys_of l.tokens.tokens.now) (sight (Some l.seen)) (l.turns - l.turn) l.at
