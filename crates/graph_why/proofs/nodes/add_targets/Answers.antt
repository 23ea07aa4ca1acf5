-- The number of one target more, if the edge has one.
use Rattle.std.proofs.Common.{◌∙◌, ◌∷◌, [], ◌++◌, ℕ, Option, Some, None, ap, sym, append-nil}
use Rattle.std.specs.Borrow.{Bor}
use Rattle.std.specs.Prelude.{option_map}
use Rattle.std.specs.Option.{option_copied}
use Rattle.url.specs.Parts.{Parts}
use Rattle.graph_entry.specs.Specifier.{text_of}
use Rattle.graph_why.specs.Nodes.{node_of}
use Rattle.graph_why.proofs.NodeLemmas.{targets_step}
use Rattle.graph_why.proofs.nodes.add_targets.Goals.{in-Some+in_ok-push, in_default}
use Rattle.graph_why.proofs.nodes.add_targets.Goals as goal

pub loop-dependency-preserved : goal.loop-dependency-preserved
loop-dependency-preserved c =
    let step = targets_step (node_of c.args.graph.now.numbered c.args.sink) c.args.dependencies.now
    c.loop-dependency.dependency-index c.dependency-item.result c.loop-dependency-test.true c.dependency-item.is in
    elim c.match-target_of.branch [
      | in-Some+in_ok-push w ↦
          step (Some (text_of w.in-Some.target.now))
          (ap (λ (o : Option (Bor Parts)). option_map text_of (option_copied o)) (sym w.in-Some.is)
          ∙ c.target_of.ensures)
          c.args.nodes.now c.loop-dependency.nodes c.match-target_of.nodes c.loop-dependency.invariant
          (w.nodes-is ∙ w.in_ok-push.ensures.ok
          ∙ ap (λ (n : ℕ). c.loop-dependency.nodes ++ n ∷ []) w.node_of.ensures)
      | in_default w ↦
          step None
          (ap (λ (o : Option (Bor Parts)). option_map text_of (option_copied o)) (sym w.in_default.is)
          ∙ c.target_of.ensures)
          c.args.nodes.now c.loop-dependency.nodes c.match-target_of.nodes c.loop-dependency.invariant
          (w.nodes-is ∙ sym (append-nil c.loop-dependency.nodes))
    ]
