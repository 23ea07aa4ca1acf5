use Rattle.std.specs.Prelude.{List, IfOk}
use Rattle.std.proofs.Common.{◌≡◌, subst}
use Rattle.std.proofs.lemmas.Result.{IfOk-weaker}
use Rattle.grammar_theory.specs.Key.{keys_of}
use Rattle.es_syntax.specs.declared.entry.Entry.{Entry}
use Rattle.es_syntax.specs.Trees.{first_tree, trees}
use Rattle.es_mentions.specs.Mentions.{mentions}
use Rattle.source_mentions.proofs.FirstLemmas.{kept_made, kept_given, refused}
use Rattle.source_mentions.proofs.read.in_mode.Goals as goal

-- what the tree mentions
pub returns-in-Ok-clause-made : goal.returns-in-Ok-clause-made
returns-in-Ok-clause-made c =
    IfOk-weaker c.of_row.result _ _
    (λ found same. kept_made c.args.asked.now.text.now c.args.asked.now.tokens.now c.args.asked.now.allowed.now
    c.args.asked.now.strict c.args.lang c.args.mode (keys_of c.args.asked.now.tokens.now) c.in-Ok.row.items found
    c.in-Ok.ensures.kept same)
    (subst (λ (es : List Entry). IfOk c.of_row.result
    (λ found. found ≡ mentions c.args.asked.now.text.now c.args.asked.now.tokens.now c.args.asked.now.allowed.now
    c.args.asked.now.strict (first_tree (trees es))))
    c.as_slice.ensures.value c.of_row.ensures.found)

-- and no other
pub returns-in-Ok-clause-only : goal.returns-in-Ok-clause-only
returns-in-Ok-clause-only c = λ tree is.
    kept_given c.args.asked.now.text.now c.args.asked.now.tokens.now c.args.asked.now.allowed.now
    c.args.asked.now.strict c.args.lang c.args.mode (keys_of c.args.asked.now.tokens.now) c.in-Ok.row.items
    c.of_row.result tree c.in-Ok.ensures.kept
    (subst (λ (es : List Entry). IfOk c.of_row.result
    (λ found. found ≡ mentions c.args.asked.now.text.now c.args.asked.now.tokens.now c.args.asked.now.allowed.now
    c.args.asked.now.strict (first_tree (trees es))))
    c.as_slice.ensures.value c.of_row.ensures.found)
    c.of_row.ensures.memory is

-- where nothing is kept
pub returns-in-Err-clause-only : goal.returns-in-Err-clause-only
returns-in-Err-clause-only c = λ tree is.
    refused c.in-Err.error
    (mentions c.args.asked.now.text.now c.args.asked.now.tokens.now c.args.asked.now.allowed.now
    c.args.asked.now.strict tree) tree (c.in-Err.ensures.only tree is)
