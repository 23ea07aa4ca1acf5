use Rattle.std.proofs.Common.{◌≡◌, length}
use Rattle.grammar_theory.specs.Key.{keys_of}
use Rattle.es_grammar.specs.Functions.{stand_once}
use Rattle.es_shared_rules.specs.predicates.Named.{modifier_of}
use Rattle.es_shared_rules.proofs.predicates.classes.each_once.Given as goal

-- what is left to look at tells what the whole tells
abbrev pub invariant-modifiers : goal.invariant-modifiers
invariant-modifiers l =
    stand_once (modifier_of l.run) (keys_of l.tokens.tokens.now) (length (keys_of l.tokens.tokens.now)) l.from
    ≡ stand_once (modifier_of l.run) (keys_of l.tokens.tokens.now) l.left l.at

abbrev pub decreases-modifiers : goal.decreases-modifiers
decreases-modifiers l = l.left
