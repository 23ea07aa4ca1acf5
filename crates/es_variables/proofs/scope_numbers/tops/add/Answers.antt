use Rattle.std.proofs.Common.{arith}
use Rattle.std.proofs.lemmas.Grind.{text_groups}
use Rattle.es_variables.proofs.scope_numbers.tops.add.Goals as goal

pub returns : goal.returns
returns c = grind (arith, text_groups)
