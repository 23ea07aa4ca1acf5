use Rattle.std.proofs.Common.{take}
use Rattle.graph_builder.specs.Batch.{AreMeant}
use Rattle.graph_builder.proofs.batched.analyse_shared.Given as goal

-- the answers so far are analysed
abbrev pub invariant-loop-url : goal.invariant-loop-url
invariant-loop-url g l = AreMeant (g.W.Ways.means l.ways) (take l.url-index l.answers) l.made.items
