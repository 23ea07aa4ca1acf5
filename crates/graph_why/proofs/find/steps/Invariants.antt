use Rattle.std.proofs.Common.{◌≡◌, map, take}
use Rattle.graph_why.specs.Why.{step_of}
use Rattle.graph_why.specs.Nodes.{step_at}
use Rattle.graph_why.proofs.find.steps.Given as goal

abbrev pub invariant-loop-link : goal.invariant-loop-link
invariant-loop-link l = map step_of l.steps ≡ map (step_at l.graph l.links) (take l.link-index l.path)
