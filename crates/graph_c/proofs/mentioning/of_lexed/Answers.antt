use Rattle.std.proofs.Common.{refl, sym, subst, List, Err}
use Rattle.es_token.specs.declared.token.Token.{Token}
use Rattle.es_grammar.specs.declared.cst.tree.Cst.{Cst}
use Rattle.es_mentions.specs.Mentions.{mentions}
use Rattle.grammar_theory.specs.declared.error.SyntaxError.{SyntaxError}
use Rattle.source_mentions.specs.Answers.{IsTreeOf, AreMentions, Gives}
use Rattle.graph_c.specs.Mentions.{with_tree, no_tree}
use Rattle.graph_c.proofs.mentioning.of_lexed.Goals as goal

-- what the tree mentions that there is
pub returns-in-Ok : goal.returns-in-Ok
returns-in-Ok c =
    with_tree c.in-Ok.found
    (subst (λ (ts : List Token). AreMentions c.args.media_type c.args.text.now ts c.args.allowed.now c.args.strict c.in-Ok.found)
    c.as_slice-tokens.ensures c.in-Ok.ensures.made)
    refl

-- a refusal says that there is none
pub returns-in-Err-Syntax : goal.returns-in-Err-Syntax
returns-in-Err-Syntax c =
    let nothing = λ (tree : Cst) (is : IsTreeOf c.args.media_type c.args.lexed.now.tokens tree).
    subst (λ (e : SyntaxError). Gives (Err e)
    (mentions c.args.text.now c.as_slice-tokens.result.now c.args.allowed.now c.args.strict tree))
    c.in-Err-Syntax.field-0-is
    (c.in-Err-Syntax.ensures.only tree
    (subst (λ (ts : List Token). IsTreeOf c.args.media_type ts tree) (sym c.as_slice-tokens.ensures) is)) in
    no_tree nothing c.start_of.result refl
