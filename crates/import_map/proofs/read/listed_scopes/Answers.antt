use Rattle.import_map.proofs.read.listed_scopes.Goals as goal

pub returns-in-Ok-clause-in_order : goal.returns-in-Ok-clause-in_order
returns-in-Ok-clause-in_order c = record {
  keys = c.in-Ok.ensures.in_order;
  each = rw c.in-Ok.ensures.entries c.requires;
}
