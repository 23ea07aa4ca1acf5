use Rattle.grammar_theory.specs.Key.{keys_of}
use Rattle.es_program_reader.proofs.KeptLemmas.{shaped_of, holds_kept, none_kept}
use Rattle.es_program_reader.proofs.plain.read_program.Goals as goal

-- what is read isn't sound, so nothing is kept of a program
pub returns-in-Some-clause-only : goal.returns-in-Some-clause-only
returns-in-Some-clause-only c = λ tree kept.
    none_kept c.args.lang c.args.mode (keys_of c.args.tokens.now) c.in_ok-row.row.items tree
    (c.in_ok-row.ensures.only tree (shaped_of c.args.lang c.args.mode (keys_of c.args.tokens.now) tree kept))
    (rw (← c.as_slice.ensures.value) c.in-Some.ensures) kept

pub returns-in-None-clause-kept : goal.returns-in-None-clause-kept
returns-in-None-clause-kept c =
    holds_kept c.args.lang c.args.mode (keys_of c.args.tokens.now) c.in_ok-row.row.items c.in_ok-row.ensures.shaped
    (rw (← c.as_slice.ensures.value) c.in-None.ensures)

pub returns-in-None-clause-only : goal.returns-in-None-clause-only
returns-in-None-clause-only c = λ tree kept.
    c.in_ok-row.ensures.only tree (shaped_of c.args.lang c.args.mode (keys_of c.args.tokens.now) tree kept)
