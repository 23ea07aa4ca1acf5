use Rattle.std.proofs.Common.{sym, subst, List, ℕ, Err}
use Rattle.std.proofs.lemmas.Result.{IfOk-weaker, IfErr-weaker}
use Rattle.url.specs.Parts.{serialize}
use Rattle.es_token.specs.declared.token.Token.{Token}
use Rattle.grammar_theory.specs.declared.error.SyntaxError.{SyntaxError}
use Rattle.es_ast.specs.declared.ast.Program.{Program as Typed}
use Rattle.source_reading.specs.Tree.{modes_of, IsFirstTree}
use Rattle.source_sites.specs.Answers.{AreSitesIn, GivesSites}
use Rattle.source_sites.proofs.FaultLemmas.{Refuses-weaker, refuses_memory, syntax_refusal}
use Rattle.source_sites.proofs.SitesLemmas.{has_sites}
use Rattle.source_sites.proofs.sites.sites_of_lexed.Goals as goal

-- the sites of its tree, behind those of its comments
pub returns-in-Ok-clause-found : goal.returns-in-Ok-clause-found
returns-in-Ok-clause-found c =
    let media = c.args.media_type in
    let found = c.in-Ok.found in
    let read = subst (λ (t : List ℕ). AreSitesIn c.args.lang media t c.args.lexed.tokens found) c.as_str.ensures
    (subst (λ (ts : List Token). AreSitesIn c.args.lang media c.as_str.result.now ts found) c.as_slice-tokens.ensures
    c.in-Ok.ensures.made) in
    IfOk-weaker c.all_sites.result _ _
    (λ all both. has_sites c.args.lang media c.args.text.now c.args.lexed.tokens c.args.lexed.comments found all c.requires read
    both)
    c.all_sites.ensures.both

pub returns-in-Ok-clause-refused : goal.returns-in-Ok-clause-refused
returns-in-Ok-clause-refused c =
    IfErr-weaker c.all_sites.result _ _ (λ e memory. refuses_memory _ e memory) c.all_sites.ensures.memory

-- a refusal says that the tokens have no tree
pub returns-clause-refused : goal.returns-clause-refused
returns-clause-refused c =
    let media = c.args.media_type in
    Refuses-weaker _ _
    (λ d told.
    let none = λ (tree : Typed) (is : IsFirstTree c.args.lang c.args.text.now c.args.lexed.tokens (modes_of media) tree).
    subst (λ (e : SyntaxError). GivesSites (Err e) tree) told.1
    (c.in-Err.ensures.only tree
    (subst (λ (t : List ℕ). IsFirstTree c.args.lang t c.as_slice-tokens.result.now (modes_of media) tree) (sym c.as_str.ensures)
    (subst (λ (ts : List Token). IsFirstTree c.args.lang c.args.text.now ts (modes_of media) tree) (sym c.as_slice-tokens.ensures) is))) in
    syntax_refusal (serialize c.args.specifier.now) c.args.lang (modes_of media) c.args.text.now d told.2.0
    c.args.lexed.tokens (c.args.lexed.comments, c.requires) none told.2.1)
    c.tokens_fault.result c.tokens_fault.ensures
