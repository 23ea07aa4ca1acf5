use Rattle.import_map.proofs.NamesLemmas.{reached_both, reached_whole}
use Rattle.import_map.proofs.names.reach.Goals as goal

pub returns-then-fronts : goal.returns-then-fronts
returns-then-fronts c =
    rw (c.if-fronts.true, c.max.ensures, c.noted_at-whole.ensures, c.at-entry.ensures)
    (reached_both c.args.names.now c.args.text.now c.front_reach.result c.front_reach.ensures)

pub returns-else-fronts : goal.returns-else-fronts
returns-else-fronts c =
    rw (c.if-fronts.false, c.noted_at-whole.ensures, c.at-entry.ensures)
    (reached_whole c.args.names.now c.args.text.now)
