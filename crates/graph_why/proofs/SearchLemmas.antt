-- What is asked of the numbers, and what their answers say of the graph.
use Rattle.std.proofs.Common.{◌≡◌, ◌<◌, ℕ, List, length, map, sym, ◌∙◌, ap, subst, Some, None}
use Rattle.std.specs.List.{AllByRecursion}
use Rattle.graph_builder.specs.declared.following.Following.{Following}
use Rattle.graph_builder.specs.Rules.{Specifier}
use Rattle.graph_builder.specs.Graph.{GraphData, number_in}
use Rattle.topological_order.specs.Order.{Links, Link, AreWithin}
use Rattle.shortest_paths.specs.Paths as pp
use Rattle.shortest_paths.specs.declared.without.Without as sp
use Rattle.shortest_paths.specs.declared.without.Without.TheVariants as sv
use Rattle.graph_why.specs.declared.step.Step as made
use Rattle.graph_why.specs.declared.step.Without.{Without}
use Rattle.graph_why.specs.Why.{Step, IsPath, IsShortest, AreGone, step_of}
use Rattle.graph_why.specs.Nodes as nodes
use Rattle.graph_why.specs.Nodes.{rows, start_nodes, IsLow, IsLeft}
use Rattle.graph_why.proofs.WhyLemmas.{number_below, within, path_low, shortest_to, none_to, gone_found}
use Rattle.graph_why.proofs.NodeLemmas.{starts_within}

-- links and starts as they are handed on
module _ (g : GraphData) (f : Following) (links slice : Links) (links_is : links ≡ rows g f) (slice_is : slice ≡ links)
    (starts begun : List ℕ) (starts_is : starts ≡ start_nodes g) (begun_is : begun ≡ starts) where
  both : slice ≡ rows g f
  both = slice_is ∙ links_is

  roots : begun ≡ start_nodes g
  roots = begun_is ∙ starts_is

  pub within_at : AreWithin slice
  within_at = subst AreWithin (sym both) (within g f)

  pub starts_at : AllByRecursion (λ r. r < length slice) begun
  starts_at =
      subst (λ (xs : List ℕ). AllByRecursion (λ r. r < length slice) xs) (sym roots)
      (subst (λ (x : Links). AllByRecursion (λ r. r < length x) (start_nodes g)) (sym both) (starts_within g f))

  -- of a node with its specifier's number
  module _ (v : ℕ) (here : number_in g.numbered (nodes.name g v) ≡ Some v) where
    shortest_of : (path : List Link) → pp.IsShortest slice begun path v
        → pp.IsShortest (rows g f) (start_nodes g) path v
    shortest_of path q =
        subst (λ (x : Links). pp.IsShortest x (start_nodes g) path v) both
        (subst (λ (xs : List ℕ). pp.IsShortest slice xs path v) roots q)

    pub low_at : (path held : List Link) → pp.IsShortest slice begun path v → held ≡ path
        → AllByRecursion (IsLow slice (length g.numbered)) held
    low_at path held q held_is =
        let s = shortest_of path q in
        subst (λ (es : List Link). AllByRecursion (IsLow slice (length g.numbered)) es) (sym held_is)
        (subst (λ (x : Links). AllByRecursion (IsLow x (length g.numbered)) path) (sym both)
        (path_low g f s.is.root v path s.is.chain (number_below g.numbered (nodes.name g v) v here)))

    pub why_at : (path held : List Link) → pp.IsShortest slice begun path v → held ≡ path → (steps : List made.Step)
        → map step_of steps ≡ map (nodes.step_at g slice) held → IsShortest g f (map step_of steps) (nodes.name g v)
    why_at path held q held_is steps steps_is =
        subst (λ (es : List Step). IsShortest g f es (nodes.name g v))
        (sym (steps_is ∙ ap (map (nodes.step_at g slice)) held_is
        ∙ ap (λ (x : Links). map (nodes.step_at g x) path) both))
        (shortest_to g f v path here (shortest_of path q))

    pub none_at : ((path : List Link) → pp.IsPath slice begun sv.Nothing path v → ⊥)
        → (path : List Step) → IsPath g f None path (nodes.name g v) → ⊥
    none_at none = none_to g f v here
        (λ path q. none path
        (subst (λ (x : Links). pp.IsPath x begun sv.Nothing path v) (sym both)
        (subst (λ (xs : List ℕ). pp.IsPath (rows g f) xs sv.Nothing path v) (sym roots) q)))

  pub gone_at : (u : sp.Without) (ns held : List ℕ) → pp.AreGone slice begun u ns → held ≡ ns → (gone : List Specifier)
      → gone ≡ nodes.names_below g held → (w : Without) → IsLeft g (Some w) u → AreGone g f w gone
  gone_at u ns held q held_is gone gone_is w i =
      subst (AreGone g f w) (sym (gone_is ∙ ap (nodes.names_below g) held_is))
      (gone_found g f w u i ns
      (subst (λ (x : Links). pp.AreGone x (start_nodes g) u ns) both
      (subst (λ (xs : List ℕ). pp.AreGone slice xs u ns) roots q)))
