use Rattle.std.proofs.Common.{refl}
use Rattle.graph_builder.specs.Links.{no_link}
use Rattle.graph_builder.proofs.ReachingLemmas.{none_left}
use Rattle.graph_builder.proofs.reaching.leave_out.Goals as goal

pub returns : goal.returns
returns c = λ keys end. (no_link, c.in_ok-push.ensures.items, none_left keys no_link end refl)
