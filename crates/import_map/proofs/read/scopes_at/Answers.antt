use Rattle.import_map.proofs.TableLemmas.{scopes_empty}
use Rattle.import_map.proofs.read.scopes_at.Goals as goal

pub returns-in-None-clause-in_order : goal.returns-in-None-clause-in_order
returns-in-None-clause-in_order c = scopes_empty _ c.new.ensures
