use Rattle.std.proofs.Common.{arith}
use Rattle.std.proofs.lemmas.Map.Text.{text_keys}
use Rattle.es_variables.proofs.table.put_var.Goals as goal

pub returns-clause-own : goal.returns-clause-own
returns-clause-own c = grind (arith, text_keys)

pub returns-clause-beside : goal.returns-clause-beside
returns-clause-beside c = grind (arith, text_keys)

pub returns-clause-others : goal.returns-clause-others
returns-clause-others c = grind (arith, text_keys)
