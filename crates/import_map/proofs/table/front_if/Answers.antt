use Rattle.std.proofs.Common.{sym}
use Rattle.import_map.proofs.TableLemmas.{exact_none}
use Rattle.import_map.proofs.table.front_if.Goals as goal

pub returns-else-fronts : goal.returns-else-fronts
returns-else-fronts c =
    sym (rw c.if-fronts.false (exact_none c.args.text.now c.args.table.now c.requires.absent))
