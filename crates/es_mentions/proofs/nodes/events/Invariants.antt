-- What the nodes are by now and what is left are what those of the tree are.
use Rattle.std.proofs.Common.{◌≡◌, ◌++◌}
use Rattle.es_syntax.specs.Trees.{first_tree, trees}
use Rattle.es_mentions.specs.Left.{events_in, ahead, weight}
use Rattle.es_mentions.proofs.nodes.events.Given as goal

abbrev pub invariant-loop-frame : goal.invariant-loop-frame
invariant-loop-frame l =
    l.out ++ ahead l.source.text.now l.source.tokens.now l.source.script l.source.strict l.stack
    ≡ events_in l.source.text.now l.source.tokens.now l.source.script l.source.strict
    (first_tree (trees l.row.entries.now))

abbrev pub decreases-loop-frame : goal.decreases-loop-frame
decreases-loop-frame l = weight l.stack
