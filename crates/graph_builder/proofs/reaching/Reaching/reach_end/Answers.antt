use Rattle.graph_entry.specs.Specifier.{text_of}
use Rattle.graph_builder.specs.ByText.{keys_at}
use Rattle.graph_builder.proofs.ReachingLemmas.{kept_link}
use Rattle.graph_builder.proofs.reaching.Reaching.reach_end.Goals as goal

pub returns-in-Ok-push-clause-linked : goal.returns-in-Ok-push-clause-linked
returns-in-Ok-push-clause-linked c = (
  c.link_to.result,
  c.in-Ok-push.ensures.items,
  kept_link (keys_at c.reach.new.self.reached) c.in-Ok.number c.link_to.result (text_of c.args.url.now)
      c.in-Ok.ensures.number c.link_to.ensures,
)
