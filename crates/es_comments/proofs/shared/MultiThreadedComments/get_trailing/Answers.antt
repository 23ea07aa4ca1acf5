-- A look-up in the map is one among the places.
use Rattle.std.proofs.Common.{ap, ◌∙◌}
use Rattle.es_comments.specs.declared.maps.SingleThreadedComments.{SingleThreadedComments}
use Rattle.es_comments.specs.Placed.{Placed, places_of, comments_at}
use Rattle.es_comments.proofs.IteratorLemmas.{looked_up}
use Rattle.es_comments.proofs.shared.MultiThreadedComments.get_trailing.Goals as goal

pub returns : goal.returns
returns c =
    looked_up c.deref.result.now.trailing c.args.pos c.get.result c.get.ensures.value
    ∙ ap (λ (m : SingleThreadedComments). comments_at (places_of m.trailing) c.args.pos) c.deref.ensures
    ∙ ap (λ (p : Placed). comments_at p.trailing c.args.pos) c.self.view_is
