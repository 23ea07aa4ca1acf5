use Rattle.std.proofs.Common.{◌≡◌, ◌-◌, length}
use Rattle.grammar_theory.specs.Key.{keys_of}
use Rattle.es_grammar.specs.Classes.{behind_modifiers}
use Rattle.es_shared_rules.proofs.predicates.classes.behind_modifiers.Given as goal

-- what is left to look at tells what the whole tells
abbrev pub invariant-loop-turn : goal.invariant-loop-turn
invariant-loop-turn l =
    behind_modifiers (keys_of l.tokens.tokens.now) (length (keys_of l.tokens.tokens.now)) l.from
    ≡ behind_modifiers (keys_of l.tokens.tokens.now) (length l.tokens.tokens.now - l.turn) l.at
