use Rattle.std.proofs.Common.{subst, List}
use Rattle.std.proofs.lemmas.Result.{err_from_is_err_and}
use Rattle.es_token.specs.declared.token.Token.{Token}
use Rattle.grammar_theory.specs.Key.{keys_of}
use Rattle.es_grammar.specs.cst.Slim.{tree_of}
use Rattle.es_program_reader.specs.Program.{HoldsKept}
use Rattle.es_parser.proofs.AnswerLemmas.{kept_of, derived_of, own_of, one_made, held_of, refused}
use Rattle.es_parser.proofs.program.parse_tokens.Goals as goal

-- where no row is read, nothing is derived
pub returns-in_err-row-clause-only : goal.returns-in_err-row-clause-only
returns-in_err-row-clause-only c = λ tree derived.
    let p = err_from_is_err_and c.from_residual.result c.from_residual.ensures.1 in
    refused c.from_residual.result p.0 c.in_err-row.field-0.0 tree (tree_of derived.plain) p.1 p.2
    (c.in_err-row.ensures.only (tree_of derived.plain)
    (rw (c.as_slice.ensures) (kept_of c.args.lang c.args.mode c.args.text.now c.args.tokens.now tree derived)))

-- what is kept has a typed tree
pub program_of-requires-clause-typed : goal.program_of-requires-clause-typed
program_of-requires-clause-typed c =
    held_of c.args.lang c.args.mode c.args.text.now c.args.tokens.now c.in_ok-row.row.items
    (subst (λ (ts : List Token). HoldsKept c.args.lang c.args.mode (keys_of ts) c.in_ok-row.row.items) c.as_slice.ensures
    c.in_ok-row.ensures.kept)

pub returns-in-Ok-clause-derived : goal.returns-in-Ok-clause-derived
returns-in-Ok-clause-derived c =
    derived_of c.args.lang c.args.mode c.args.text.now c.args.tokens.now c.in_ok-row.row.items c.in-Ok.program.typed
    (subst (λ (ts : List Token). HoldsKept c.args.lang c.args.mode (keys_of ts) c.in_ok-row.row.items) c.as_slice.ensures
    c.in_ok-row.ensures.kept)
    c.in-Ok.ensures.typed

pub returns-in-Ok-clause-own : goal.returns-in-Ok-clause-own
returns-in-Ok-clause-own c =
    own_of c.args.lang c.args.mode c.args.text.now c.args.tokens.now c.in_ok-row.row.items c.in-Ok.program
    (subst (λ (ts : List Token). HoldsKept c.args.lang c.args.mode (keys_of ts) c.in_ok-row.row.items) c.as_slice.ensures
    c.in_ok-row.ensures.kept)
    c.in-Ok.ensures.text c.in-Ok.ensures.tokens c.in-Ok.ensures.entries c.in-Ok.ensures.typed

-- what is derived is made of the row that was read
pub returns-in-Ok-clause-only : goal.returns-in-Ok-clause-only
returns-in-Ok-clause-only c = λ tree derived.
    one_made c.args.lang c.args.mode c.args.text.now c.args.tokens.now c.in_ok-row.row.items c.in-Ok.program.typed tree
    derived
    (c.in_ok-row.ensures.only (tree_of derived.plain)
    (rw (c.as_slice.ensures) (kept_of c.args.lang c.args.mode c.args.text.now c.args.tokens.now tree derived)))
    c.in-Ok.ensures.typed
