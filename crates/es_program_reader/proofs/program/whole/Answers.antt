use Rattle.std.specs.Prelude.{Ok, Err, [], ◌∷◌}
use Rattle.std.proofs.Common.{refl}
use Rattle.std.proofs.lemmas.Result.{err_from_is_err_and}
use Rattle.es_grammar.specs.Table.{rule}
use Rattle.es_rules.specs.Bounded.{row_at}
use Rattle.es_rules.specs.Steps.{keys_in}
use Rattle.es_program_reader.proofs.AnswerLemmas.{alone, alone_written, kept_read, row_shaped, answer_only, refused_only}
use Rattle.es_program_reader.proofs.program.whole.Goals as goal

-- nothing is read, so nothing is shaped
pub returns-in_err-_height-clause-only : goal.returns-in_err-_height-clause-only
returns-in_err-_height-clause-only g c = λ tree shaped.
    let p = err_from_is_err_and c.from_residual.result c.from_residual.ensures.1 in
    let read = kept_read c.args.grammar.now.input.keeps
    (row_at (rule c.args.grammar.now.input.lang) (keys_in c.args.grammar.now.input) c.args.grammar.now.rows.room
    c.program_row-row.result 0)
    c.new.result c.row.new.cursor (Err c.in_err-_height.field-0.0) c.requires.keeps c.in_err-_height.ensures in
    refused_only c.args.grammar.now.input.lang c.args.mode c.args.grammar.now.input.tokens.tokens.now
    c.args.grammar.now.rows.room
    c.from_residual.result p.0 c.in_err-_height.field-0.0 tree c.requires.room p.1 p.2
    (rw (← c.program_row-row.ensures) read.1) shaped

-- what is shaped is read up to the end
pub returns-then-cursor-tokens-clause-only : goal.returns-then-cursor-tokens-clause-only
returns-then-cursor-tokens-clause-only g c = λ tree shaped.
    let read = kept_read c.args.grammar.now.input.keeps
    (row_at (rule c.args.grammar.now.input.lang) (keys_in c.args.grammar.now.input) c.args.grammar.now.rows.room
    c.program_row-row.result 0)
    c.new.result c.row.new.cursor (Ok c.in_ok-_height._height) c.requires.keeps c.in_ok-_height.ensures in
    c.if-cursor-tokens.true
    (answer_only c.args.grammar.now.input.lang c.args.mode c.args.grammar.now.input.tokens.tokens.now
    c.args.grammar.now.rows.room
    c.row.new.cursor.row read.0 tree c.in_ok-_height._height c.row.new.cursor.at c.requires.room
    (alone c.new.result c.row.new.cursor.row c.row.new.cursor.row read.0 c.new.ensures refl read.1)
    (rw (← c.program_row-row.ensures) read.2) shaped).1

pub returns-clause-shaped : goal.returns-clause-shaped
returns-clause-shaped g c =
    let read = kept_read c.args.grammar.now.input.keeps
    (row_at (rule c.args.grammar.now.input.lang) (keys_in c.args.grammar.now.input) c.args.grammar.now.rows.room
    c.program_row-row.result 0)
    c.new.result c.row.new.cursor (Ok c.in_ok-_height._height) c.requires.keeps c.in_ok-_height.ensures in
    row_shaped c.args.grammar.now.input.lang c.args.mode c.args.grammar.now.input.tokens.tokens.now
    c.args.grammar.now.rows.room
    c.into_entries.result.items read.0 c.in_ok-_height._height c.row.new.cursor.at c.requires.room
    (alone c.new.result c.row.new.cursor.row c.into_entries.result.items read.0 c.new.ensures c.into_entries.ensures
    read.1)
    (rw (← c.program_row-row.ensures) read.2) c.if-cursor-tokens.false

pub returns-clause-written : goal.returns-clause-written
returns-clause-written g c =
    let read = kept_read c.args.grammar.now.input.keeps
    (row_at (rule c.args.grammar.now.input.lang) (keys_in c.args.grammar.now.input) c.args.grammar.now.rows.room
    c.program_row-row.result 0)
    c.new.result c.row.new.cursor (Ok c.in_ok-_height._height) c.requires.keeps c.in_ok-_height.ensures in
    alone_written c.new.result c.row.new.cursor.row c.into_entries.result.items (read.0 ∷ []) c.new.ensures
    c.into_entries.ensures read.1

pub returns-clause-only : goal.returns-clause-only
returns-clause-only g c = λ tree shaped.
    let read = kept_read c.args.grammar.now.input.keeps
    (row_at (rule c.args.grammar.now.input.lang) (keys_in c.args.grammar.now.input) c.args.grammar.now.rows.room
    c.program_row-row.result 0)
    c.new.result c.row.new.cursor (Ok c.in_ok-_height._height) c.requires.keeps c.in_ok-_height.ensures in
    (answer_only c.args.grammar.now.input.lang c.args.mode c.args.grammar.now.input.tokens.tokens.now
    c.args.grammar.now.rows.room
    c.into_entries.result.items read.0 tree c.in_ok-_height._height c.row.new.cursor.at c.requires.room
    (alone c.new.result c.row.new.cursor.row c.into_entries.result.items read.0 c.new.ensures c.into_entries.ensures
    read.1)
    (rw (← c.program_row-row.ensures) read.2) shaped).0
