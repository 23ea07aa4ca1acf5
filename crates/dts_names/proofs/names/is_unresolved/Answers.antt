use Rattle.dts_names.proofs.NameLemmas.{called}
use Rattle.dts_names.proofs.names.is_unresolved.Goals as goal

pub returns-in-Some : goal.returns-in-Some
returns-in-Some c = λ by knows. called by _ knows _ _ _ _ c.in-Some.ensures c.is_called.ensures
