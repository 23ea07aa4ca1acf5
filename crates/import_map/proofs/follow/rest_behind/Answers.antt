use Rattle.std.proofs.Common.{length, drop}
use Rattle.import_map.proofs.TableLemmas.{begins_splits}
use Rattle.import_map.proofs.follow.rest_behind.Goals as goal

-- a text that begins with the key isn't without it
pub unreachable-requires : goal.unreachable-requires
unreachable-requires c =
    c.in-None.ensures.cases (drop (length c.args.key.now) c.args.text.now)
    (begins_splits c.args.text.now c.args.key.now c.requires)
