use Rattle.graph_builder.specs.Batch.{AreMeant}
use Rattle.graph_builder.proofs.batched.analyse_in_turn.Given as goal

-- the answers so far are analysed
abbrev pub invariant-loop-url : goal.invariant-loop-url
invariant-loop-url g l = AreMeant (g.W.Ways.means l.ways) l.yielded l.made.items
