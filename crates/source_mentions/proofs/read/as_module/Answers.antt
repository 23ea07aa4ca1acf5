use Rattle.std.proofs.lemmas.Result.{IfOk-weaker}
use Rattle.grammar_theory.specs.Key.{keys_of}
use Rattle.source_mentions.proofs.FirstLemmas.{AreOf-weaker, no_script, in_module}
use Rattle.source_mentions.proofs.read.as_module.Goals as goal

pub returns-clause-made : goal.returns-clause-made
returns-clause-made c =
    IfOk-weaker c.in_one.result _ _
    (λ found of. AreOf-weaker c.args.asked.now.text.now c.args.asked.now.tokens.now c.args.asked.now.allowed.now
    c.args.asked.now.strict _ _
    (λ tree is. no_script c.args.lang (keys_of c.args.asked.now.tokens.now) tree c.requires.none is) found of)
    c.in_one.ensures.made

pub returns-clause-only : goal.returns-clause-only
returns-clause-only c = λ tree is.
    c.in_one.ensures.only tree (in_module c.args.lang (keys_of c.args.asked.now.tokens.now) tree c.requires.none is)
