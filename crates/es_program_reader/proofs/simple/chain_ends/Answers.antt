use Rattle.es_program_reader.specs.Rows.{tree_at}
use Rattle.es_program_reader.proofs.simple.chain_ends.Goals as goal

-- a base, and the parts behind it
pub returns-in-Some : goal.returns-in-Some
returns-in-Some c = rw (c.in-Some.ensures.kept) (c.rest_ends.ensures (tree_at c.in-Some.field-0-0))
