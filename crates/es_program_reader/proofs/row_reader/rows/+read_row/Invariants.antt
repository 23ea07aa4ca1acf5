use Rattle.es_program_reader.proofs.row_reader.rows.+read_row.Given as goal

-- each row below is read with less room
abbrev pub decreases-read_row : goal.decreases-read_row
decreases-read_row l = l.room
