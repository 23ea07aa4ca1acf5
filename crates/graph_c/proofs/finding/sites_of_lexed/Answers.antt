use Rattle.std.proofs.Common.{◌∙◌, refl, ap, sym, subst, List, ◌++◌, Err}
use Rattle.std.proofs.lemmas.Result.{IfOk-weaker}
use Rattle.es_token.specs.declared.token.Token.{Token}
use Rattle.es_ast.specs.declared.ast.Program.{Program}
use Rattle.es_site.specs.declared.site.Site.{Site}
use Rattle.grammar_theory.specs.declared.error.SyntaxError.{SyntaxError}
use Rattle.source_reading.specs.Tree.{IsTree}
use Rattle.source_reading.specs.Read.{references_in}
use Rattle.source_sites.specs.Answers.{AreSitesOf, GivesSites}
use Rattle.graph_c.specs.declared.finding.Finding.TheVariants.{Found}
use Rattle.graph_c.specs.Finding.{with_tree, no_tree}
use Rattle.graph_c.proofs.finding.sites_of_lexed.Goals as goal

-- the sites of comments, and of the tree that there is
pub returns-in-Ok : goal.returns-in-Ok
returns-in-Ok c =
    let media = c.args.media_type in
    let text = c.args.text.now in
    let lexed = c.args.lexed.now in
    let of = subst (λ (ts : List Token). AreSitesOf media text ts c.in-Ok.sites) c.as_slice-tokens.ensures
    c.in-Ok.ensures.made in
    IfOk-weaker c.found_behind_references.result _ _
    (λ found is. with_tree of.tree of.is
    (is ∙ ap (λ (sites : List Site). Found (references_in media lexed.tokens lexed.comments ++ sites)) of.sites))
    c.found_behind_references.ensures

-- a refusal says that there is none
pub returns-in-Err-Syntax : goal.returns-in-Err-Syntax
returns-in-Err-Syntax c =
    let media = c.args.media_type in
    let text = c.args.text.now in
    let same = c.as_slice-tokens.ensures in
    let nothing = λ (tree : Program) (is : IsTree media text c.args.lexed.now.tokens tree).
    subst (λ (e : SyntaxError). GivesSites (Err e) tree) c.in-Err-Syntax.field-0-is
    (c.in-Err-Syntax.ensures.only tree (subst (λ (ts : List Token). IsTree media text ts tree) (sym same) is)) in
    no_tree nothing c.start_of.result refl
