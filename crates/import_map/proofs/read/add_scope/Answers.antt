use Rattle.std.proofs.Common.{Some}
use Rattle.url.specs.Parser.{parse_url}
use Rattle.import_map.proofs.TableLemmas.{scope_kept}
use Rattle.import_map.proofs.read.add_scope.Goals as goal

pub returns-in-Ok-clause-in_order : goal.returns-in-Ok-clause-in_order
returns-in-Ok-clause-in_order c = λ each sorted.
    rw c.in-Ok.ensures (scope_kept (parse_url (Some c.args.base.now) c.args.key.now) _ c.args.table each sorted)
