-- A look-up in the map is one among the places.
use Rattle.std.proofs.Common.{ap, ◌∙◌, is_some}
use Rattle.es_comments.specs.declared.maps.SingleThreadedComments.{SingleThreadedComments}
use Rattle.es_comments.specs.Placed.{Placed, places_of, comments_at}
use Rattle.es_comments.proofs.IteratorLemmas.{has_some}
use Rattle.es_comments.proofs.shared.MultiThreadedComments.has_trailing.Goals as goal

pub returns : goal.returns
returns c =
    c.contains_key.ensures ∙ has_some c.deref.result.now.trailing c.args.pos
    ∙ ap (λ (m : SingleThreadedComments). is_some (comments_at (places_of m.trailing) c.args.pos)) c.deref.ensures
    ∙ ap (λ (p : Placed). is_some (comments_at p.trailing c.args.pos)) c.self.view_is
