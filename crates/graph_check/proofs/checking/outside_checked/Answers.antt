-- The places so far and the next one are the first of the list.
use Rattle.std.proofs.Common.{◌≡◌, sym, ◌∙◌, ap, take, List, [], ◌∷◌, ◌++◌, ◌+◌, map}
use Rattle.std.specs.List.{flat_map}
use Rattle.std.proofs.lemmas.List.{take_more}
use Rattle.url.specs.Parts.{Parts}
use Rattle.graph_entry.specs.declared.entry.Dependency.{Dependency}
use Rattle.graph_check.specs.SeenGraph.{edge, outside_things}
use Rattle.graph_check.specs.Check.{Look, look_of, look_from, look_on}
use Rattle.graph_check.proofs.CheckLemmas.{places_more}
use Rattle.graph_check.proofs.checking.outside_checked.Goals as goal

pub loop-place-preserved : goal.loop-place-preserved
loop-place-preserved c =
    let i = c.loop-place.place-index in
    let item = c.place-item.result in
    let all = c.args.places.now in
    let more : take (i + 1) all ≡ take i all ++ item ∷ [] =
    take_more all i item c.loop-place-test.true
    ∙ ap (λ (p : Parts × List Dependency). take i all ++ p ∷ []) (sym c.place-item.is) in
    c.in_ok-verdict.ensures
    ∙ ap (λ (ds : List Dependency). look_on c.args.policy.now c.args.graph.now (look_of c.loop-place.verdict)
    (map (edge item.0) ds)) c.as_slice.ensures
    ∙ ap (λ (l : Look). look_on c.args.policy.now c.args.graph.now l (outside_things item)) c.loop-place.invariant
    ∙ sym (ap (λ (ps : List (Parts × List Dependency)). look_from c.args.policy.now c.args.graph.now 0
    (flat_map outside_things ps)) more
    ∙ places_more c.args.policy.now c.args.graph.now (take i all) item)
