use Rattle.std.proofs.Common.{take}
use Rattle.import_map.specs.Names.{AreNoted}
use Rattle.import_map.proofs.names.names_of.Given as goal

-- the keys of the scopes so far are noted
abbrev pub invariant-loop-scope : goal.invariant-loop-scope
invariant-loop-scope l = AreNoted l.names.entries (take l.scope-index l.scopes)
