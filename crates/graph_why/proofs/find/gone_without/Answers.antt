use Rattle.std.proofs.Common.{List, subst, sym}
use Rattle.url.specs.Parts.{Parts}
use Rattle.graph_builder.specs.Graph.{texts}
use Rattle.graph_why.specs.Why.{AreGone}
use Rattle.graph_why.proofs.WhyLemmas.{none_gone}
use Rattle.graph_why.proofs.find.gone_without.Goals as goal

pub returns-in-None : goal.returns-in-None
returns-in-None c =
    subst (λ (us : List Parts). AreGone c.args.graph.now c.args.following c.args.without.now (texts us))
    (sym c.new.ensures) (none_gone c.args.graph.now c.args.following c.args.without.now c.in-None.ensures)
