use Rattle.std.proofs.Common.{◌≡◌, ◌-◌, length}
use Rattle.grammar_theory.specs.Key.{keys_of}
use Rattle.es_grammar.specs.types.Statements.{has_semicolon}
use Rattle.es_lookahead.proofs.tokens.Tokens.has_semicolon.Given as goal

-- what is left to look at tells what the whole tells
abbrev pub invariant-loop-turn : goal.invariant-loop-turn
invariant-loop-turn l =
    has_semicolon (keys_of l.self.tokens.now) (length (keys_of l.self.tokens.now)) l.from l.to
    ≡ has_semicolon (keys_of l.self.tokens.now) (length l.self.tokens.now - l.turn) l.at l.to
