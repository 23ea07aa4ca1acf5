use Rattle.std.proofs.Common.{sym, subst, List, Err}
use Rattle.std.proofs.lemmas.Result.{IfErr-weaker}
use Rattle.url.specs.Parts.{serialize}
use Rattle.es_token.specs.declared.token.Token.{Token}
use Rattle.grammar_theory.specs.declared.error.SyntaxError.{SyntaxError}
use Rattle.grammar_theory.specs.Key.{keys_of}
use Rattle.es_grammar.specs.declared.cst.tree.Cst.{Cst}
use Rattle.es_program_reader.specs.Derived.{GivesTree}
use Rattle.source_reading.specs.Tree.{modes_of}
use Rattle.source_sites.proofs.FaultLemmas.{Refuses-weaker, refuses_memory, syntax_refusal}
use Rattle.forms_analyzer.specs.Forms.{IsFirstKept}
use Rattle.forms_analyzer.proofs.FormsLemmas.{no_typed}
use Rattle.forms_analyzer.proofs.forms.forms_of_lexed.Goals as goal

pub returns-in-Ok-clause-refused : goal.returns-in-Ok-clause-refused
returns-in-Ok-clause-refused c =
    IfErr-weaker c.forms_of_row.result _ _ (λ e memory. refuses_memory _ e memory) c.forms_of_row.ensures.memory

-- a refusal says that the tokens have no tree
pub returns-clause-refused : goal.returns-clause-refused
returns-clause-refused c =
    let media = c.args.media_type in
    let ts = c.args.lexed.tokens in
    Refuses-weaker _ _
    (λ d told.
    let none = λ (tree : Cst) (is : IsFirstKept c.args.lang (keys_of ts) (modes_of media) tree).
    subst (λ (e : SyntaxError). GivesTree (Err e) tree) told.1
    (c.in-Err.ensures.only tree
    (subst (λ (us : List Token). IsFirstKept c.args.lang (keys_of us) (modes_of media) tree)
    (sym c.as_slice-tokens.ensures) is)) in
    syntax_refusal (serialize c.args.specifier.now) c.args.lang (modes_of media) c.args.text.now d told.2.0 ts
    (c.args.lexed.comments, c.requires) (no_typed c.args.lang media c.args.text.now ts told.0 none) told.2.1)
    c.tokens_fault.result c.tokens_fault.ensures
