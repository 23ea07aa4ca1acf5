use Rattle.es_syntax.proofs.Rows.{held_nothing}
use Rattle.dts_variables.proofs.declarators.nothing.Goals as goal

-- nothing is held
pub returns : goal.returns
returns c x ts = held_nothing x ts
