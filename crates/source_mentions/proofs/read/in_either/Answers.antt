use Rattle.std.proofs.Common.{subst, Err, [], ◌∷◌}
use Rattle.grammar_theory.specs.Key.{keys_of}
use Rattle.grammar_theory.specs.declared.error.SyntaxError.{SyntaxError}
use Rattle.grammar_theory.specs.declared.error.Mode.TheVariants as mode
use Rattle.es_mentions.specs.Mentions.{mentions}
use Rattle.source_mentions.specs.Answers.{Gives}
use Rattle.source_mentions.proofs.FirstLemmas.{AreOf-weaker, only_made, is_first, in_script}
use Rattle.source_mentions.proofs.read.in_either.Goals as goal

-- it is a script
pub returns-in-Ok-clause-made : goal.returns-in-Ok-clause-made
returns-in-Ok-clause-made c =
    AreOf-weaker c.args.asked.now.text.now c.args.asked.now.tokens.now c.args.asked.now.allowed.now
    c.args.asked.now.strict _ _
    (λ tree is. is_first c.args.lang (keys_of c.args.asked.now.tokens.now) mode.Script (mode.Module ∷ []) tree is)
    c.in-Ok.found c.in-Ok.ensures.made

pub returns-in-Ok-clause-only : goal.returns-in-Ok-clause-only
returns-in-Ok-clause-only c = λ tree is.
    let of = c.in-Ok.ensures.made in
    only_made c.args.asked.now.text.now c.args.asked.now.tokens.now c.args.asked.now.allowed.now
    c.args.asked.now.strict c.args.lang mode.Script (keys_of c.args.asked.now.tokens.now) c.in-Ok.found tree of
    (in_script c.args.lang (keys_of c.args.asked.now.tokens.now) of.tree tree of.is is)

-- it is none
pub as_module-requires-clause-none : goal.as_module-requires-clause-none
as_module-requires-clause-none c = λ tree is.
    subst (λ (e : SyntaxError). Gives (Err e)
    (mentions c.args.asked.now.text.now c.args.asked.now.tokens.now c.args.asked.now.allowed.now
    c.args.asked.now.strict tree)) c.in-Err-Syntax.field-0-is
    (c.in-Err-Syntax.ensures.only tree is)
