-- An entry goes behind those that were copied, since a map's places ascend.
use Rattle.std.proofs.Common.{◌∙◌}
use Rattle.es_comments.proofs.MapLemmas.{copied_more}
use Rattle.es_comments.proofs.maps.copy_map.Goals as goal

pub loop-place-preserved : goal.loop-place-preserved
loop-place-preserved c =
    copied_more c.args.map.now c.loop-place.copy c.insert.new.self c.in-Some.place.now c.in-Some.comments.now
    c.in_ok-comments.comments c.loop-place.place-iterator c.next.new.self
    c.into_iter-place-iterator.ensures.into_iter_gives.5 c.loop-place.invariant c.in-Some.ensures.steps
    (c.in_ok-comments.ensures ∙ c.as_slice.ensures.value) c.in_ok-insert.ensures.entries
