use Rattle.grammar_theory.specs.Key.{keys_of}
use Rattle.es_type_rules.proofs.ends_lemmas.KeepLemmas.{joined_right}
use Rattle.es_type_rules.proofs.ends.kept.joined.Goals as goal

pub returns : goal.returns
returns c =
    joined_right (keys_of c.args.tokens.now.tokens.now) c.args.last c.args.angle c.args.low c.requires.last
    c.requires.right c.if-last-low.false c.requires.between (c.opens_nothing.ensures c.if-not-opens_nothing.false)
    (c.opens_nothing-2.ensures c.if-not-opens_nothing-2.false)
