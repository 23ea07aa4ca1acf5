use Rattle.es_changed.proofs.Written.{nothing_written}
use Rattle.dts_fields.proofs.fields.drop_value.Goals as goal

-- no value
pub returns-in_default-clause-written : goal.returns-in_default-clause-written
returns-in_default-clause-written c = λ e x ts. nothing_written x ts _
