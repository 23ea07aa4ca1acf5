use Rattle.std.proofs.Common.{ℕ, List, sym, subst, Err}
use Rattle.std.proofs.lemmas.Result.{IfOk-weaker}
use Rattle.es_lexer.specs.declared.error.LexError.{LexError}
use Rattle.es_lexer.specs.Answers.{GivesLists}
use Rattle.es_lexer.specs.Reads.{Reads}
use Rattle.source_declarations.proofs.DeclarationLemmas.{read_has}
use Rattle.source_declarations.proofs.read.text_declarations.Goals as goal

-- the tokens that were read are the only ones
pub returns-in-Ok : goal.returns-in-Ok
returns-in-Ok c =
    IfOk-weaker c.lexed_declarations.result _ _
    (λ o answers. read_has c.args.media_type c.args.text.now c.as_str.result.now c.args.with_comments c.in-Ok.lexed o
    c.as_str.ensures c.in-Ok.ensures.read c.in-Ok.ensures.only answers)
    c.lexed_declarations.ensures

-- no tokens read it
pub returns-in-Err-Lexical : goal.returns-in-Err-Lexical
returns-in-Err-Lexical c = λ tokens comments reads tree is.
    subst (λ (e : LexError). GivesLists (Err e) tokens comments) c.in-Err-Lexical.field-0-is
    (c.in-Err-Lexical.ensures.only tokens comments
    (subst (λ (t : List ℕ). Reads t tokens comments) (sym c.as_str.ensures) reads))
