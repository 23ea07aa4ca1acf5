use Rattle.std.proofs.Common.{[]}
use Rattle.std.proofs.lemmas.Result.{IfOk-weaker}
use Rattle.grammar_theory.specs.Key.{keys_of}
use Rattle.source_mentions.proofs.FirstLemmas.{AreOf-weaker, is_first, only_one}
use Rattle.source_mentions.proofs.read.in_one.Goals as goal

pub returns-clause-made : goal.returns-clause-made
returns-clause-made c =
    IfOk-weaker c.in_mode.result _ _
    (λ found of. AreOf-weaker c.args.asked.now.text.now c.args.asked.now.tokens.now c.args.asked.now.allowed.now
    c.args.asked.now.strict _ _
    (λ tree is. is_first c.args.lang (keys_of c.args.asked.now.tokens.now) c.args.mode [] tree is) found of)
    c.in_mode.ensures.made

pub returns-clause-only : goal.returns-clause-only
returns-clause-only c = λ tree is.
    c.in_mode.ensures.only tree (only_one c.args.lang (keys_of c.args.asked.now.tokens.now) c.args.mode tree is)
