use Rattle.std.proofs.Common.{◌≡◌, ◌∙◌, sym, subst, List, Bool, false}
use Rattle.std.specs.Prelude.{slice_index_or}
use Rattle.std.proofs.lemmas.Bool.{false≢true}
use Rattle.shortest_paths.specs.declared.without.Without.TheVariants as without
use Rattle.shortest_paths.proofs.PathLemmas.{path_met, traced_shortest}
use Rattle.shortest_paths.proofs.path.shortest.Goals as goal

pub returns-then-not-as_slice-node : goal.returns-then-not-as_slice-node
returns-then-not-as_slice-node c = λ path p.
    false≢true
    (sym (subst (λ (ms : List Bool). slice_index_or ms c.args.node false ≡ false) c.as_slice.ensures
    c.if-not-as_slice-node.true)
    ∙ (path_met c.args.links.now c.args.roots.now without.Nothing c.in_ok-search.search.met c.in_ok-search.search.level
    c.in_ok-search.search.from c.in_ok-search.ensures c.args.node path p).0)

pub returns : goal.returns
returns c =
    traced_shortest c.args.links.now c.args.roots.now c.in_ok-search.search.met c.in_ok-search.search.level
    c.in_ok-search.search.from c.in_ok-search.ensures c.args.node c.in_ok-trace.field-0 c.in_ok-trace.ensures
