use Rattle.es_type_rules.proofs.ends.kept.+read_kept.Given as goal

-- each row below is read with less room
abbrev pub decreases-read_kept : goal.decreases-read_kept
decreases-read_kept l = l.room.rows
