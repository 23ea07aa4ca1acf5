use Rattle.import_map.proofs.TableLemmas.{empty_in_order}
use Rattle.import_map.proofs.read.imports_at.Goals as goal

pub returns-in-None-clause-in_order : goal.returns-in-None-clause-in_order
returns-in-None-clause-in_order c = empty_in_order _ c.new.ensures
