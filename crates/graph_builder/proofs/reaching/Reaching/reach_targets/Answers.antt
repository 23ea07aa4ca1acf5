use Rattle.graph_entry.specs.Specifier.{text_of}
use Rattle.graph_builder.specs.ByText.{keys_at}
use Rattle.graph_builder.proofs.ReachingLemmas.{on_ok, one_link}
use Rattle.graph_builder.proofs.reaching.Reaching.reach_targets.Goals as goal

pub returns-in-Redirect-clause-linked : goal.returns-in-Redirect-clause-linked
returns-in-Redirect-clause-linked g c =
    rw c.in-Redirect.is
    (on_ok c.reach_end.result
    (one_link (keys_at c.reach_end.new.self.reached) c.args.links.now.items c.reach_end.new.links.items
    (text_of c.in-Redirect.target) c.requires.empty)
    c.reach_end.ensures.linked)
