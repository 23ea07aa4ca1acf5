use Rattle.shortest_paths.proofs.FollowLemmas.{if_ok, marked_same}
use Rattle.shortest_paths.proofs.PathLemmas.{gone_found}
use Rattle.shortest_paths.proofs.gone.gone_without.Goals as goal

pub returns : goal.returns
returns c =
    if_ok c.only_first.result _ _
    (λ places m.
    gone_found c.args.links.now c.args.roots.now c.args.without c.in_ok-whole.whole.met c.in_ok-rest.rest.met
    c.in_ok-whole.whole.level c.in_ok-rest.rest.level c.in_ok-whole.whole.from c.in_ok-rest.rest.from places
    c.in_ok-whole.ensures c.in_ok-rest.ensures
    (marked_same c.as_slice.result.now c.as_slice-2.result.now c.in_ok-whole.whole.met c.in_ok-rest.rest.met places
    c.as_slice.ensures c.as_slice-2.ensures m))
    c.only_first.ensures
