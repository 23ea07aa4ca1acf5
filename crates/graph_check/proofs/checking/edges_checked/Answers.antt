-- The edges so far and the next one are the first of the list.
use Rattle.std.proofs.Common.{◌≡◌, sym, ◌∙◌, ap, take, List, [], ◌∷◌, ◌++◌, ◌+◌, map}
use Rattle.std.proofs.lemmas.List.{take_more}
use Rattle.graph_entry.specs.declared.entry.Dependency.{Dependency}
use Rattle.graph_check.specs.SeenGraph.{edge}
use Rattle.graph_check.specs.Check.{Look, look_of, look_on}
use Rattle.graph_check.proofs.CheckLemmas.{edges_more}
use Rattle.graph_check.proofs.checking.edges_checked.Goals as goal

pub loop-dependency-preserved : goal.loop-dependency-preserved
loop-dependency-preserved c =
    let i = c.loop-dependency.dependency-index in
    let item = c.dependency-item.result in
    let all = c.args.edges.now in
    let more : take (i + 1) all ≡ take i all ++ item ∷ [] =
    take_more all i item c.loop-dependency-test.true
    ∙ ap (λ (d : Dependency). take i all ++ d ∷ []) (sym c.dependency-item.is) in
    c.in_ok-verdict.ensures
    ∙ ap (λ (l : Look). look_on c.args.policy.now c.args.graph.now l (edge c.args.from.now item ∷ []))
    c.loop-dependency.invariant
    ∙ sym (ap (λ (ds : List Dependency). look_on c.args.policy.now c.args.graph.now (look_of c.args.before)
    (map (edge c.args.from.now) ds)) more
    ∙ edges_more c.args.policy.now c.args.graph.now (look_of c.args.before) c.args.from.now (take i all) item)
