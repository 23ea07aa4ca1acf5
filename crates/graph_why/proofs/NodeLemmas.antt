-- What the loops rest on, one entry and one edge after another, and what a search asks of roots.
use Rattle.std.proofs.Common.{zero, suc, ◌≡◌, ◌<◌, ◌+◌, ℕ, List, [], ◌∷◌, ◌++◌, length, map, take, get_or, refl, sym, ◌∙◌, ap, subst, arith, Option}
use Rattle.std.specs.Prelude.{slice_index_or}
use Rattle.std.specs.List.{AllByRecursion, filter_map, cons_option}
use Rattle.std.proofs.lemmas.List.{take_more, map_more, map-append, append_assoc}
use Rattle.std.proofs.lemmas.List.Elements.{filter_map-append}
use Rattle.url.specs.Parts.{Parts}
use Rattle.graph_entry.specs.declared.entry.Dependency.{Dependency}
use Rattle.graph_entry.specs.Entry.{edge_target}
use Rattle.graph_entry.specs.Specifier.{text_of}
use Rattle.graph_builder.specs.declared.following.Following.{Following}
use Rattle.graph_builder.specs.Rules.{Specifier}
use Rattle.graph_builder.specs.Graph.{GraphData, texts}
use Rattle.graph_why.specs.Why.{starts}
use Rattle.graph_why.specs.Nodes.{node_of, rows, start_nodes}
use Rattle.graph_why.proofs.WhyLemmas.{node_small, rows_length}

-- ---- one more

text_at : (us : List Parts) (k : ℕ) (d : Parts) → k < length us
    → text_of (get_or us k d) ≡ slice_index_or (texts us) k []
text_at [] k d l = absurd (omega (arith, l))
text_at (u ∷ us) zero d l = refl
text_at (u ∷ us) (suc k) d l = text_at us k d (omega (arith, l))

rows_more : (h : Specifier → List ℕ) (us : List Parts) (k : ℕ) → k < length us
    → map (λ u. h (text_of u)) (take (k + 1) us)
    ≡ map (λ u. h (text_of u)) (take k us) ++ h (slice_index_or (texts us) k []) ∷ []
rows_more h [] k l = absurd (omega (arith, l))
rows_more h (u ∷ us) k l =
    map_more (λ x. h (text_of x)) (u ∷ us) k u l
    ∙ ap (λ (s : Specifier). map (λ x. h (text_of x)) (take k (u ∷ us)) ++ h s ∷ []) (text_at (u ∷ us) k u l)

-- the links of one entry more
pub rows_step : (h : Specifier → List ℕ) (us : List Parts) (k : ℕ) (links new : List (List ℕ)) (row : List ℕ)
    → k < length us → new ≡ links ++ row ∷ [] → links ≡ map (λ u. h (text_of u)) (take k us)
    → row ≡ h (slice_index_or (texts us) k []) → new ≡ map (λ u. h (text_of u)) (take (k + 1) us)
rows_step h us k links new row l new_is links_is row_is =
    new_is ∙ ap (λ (xs : List (List ℕ)). xs ++ row ∷ []) links_is
    ∙ ap (λ (r : List ℕ). map (λ u. h (text_of u)) (take k us) ++ r ∷ []) row_is ∙ sym (rows_more h us k l)

module _ (k : Specifier → ℕ) where
  targets_next : (ds : List Dependency) (i : ℕ) (d : Dependency) → i < length ds → d ≡ get_or ds i d
      → map k (filter_map edge_target (take (i + 1) ds))
      ≡ map k (filter_map edge_target (take i ds)) ++ map k (cons_option (edge_target d) [])
  targets_next ds i d l is =
      ap (λ (xs : List Dependency). map k (filter_map edge_target xs))
      (take_more ds i d l ∙ ap (λ (x : Dependency). take i ds ++ x ∷ []) (sym is))
      ∙ ap (map k) (filter_map-append edge_target (take i ds) (d ∷ []))
      ∙ map-append k (filter_map edge_target (take i ds)) (cons_option (edge_target d) [])

  -- the target of one edge more, if it has one
  pub targets_step : (ds : List Dependency) (i : ℕ) (d : Dependency) → i < length ds → d ≡ get_or ds i d
      → (o : Option Specifier) → o ≡ edge_target d → (front nodes new : List ℕ)
      → nodes ≡ front ++ map k (filter_map edge_target (take i ds)) → new ≡ nodes ++ map k (cons_option o [])
      → new ≡ front ++ map k (filter_map edge_target (take (i + 1) ds))
  targets_step ds i d l is o o_is front nodes new nodes_is new_is =
      new_is ∙ ap (λ (xs : List ℕ). xs ++ map k (cons_option o [])) nodes_is
      ∙ append_assoc front (map k (filter_map edge_target (take i ds))) (map k (cons_option o []))
      ∙ ap (λ (x : Option Specifier). front
      ++ (map k (filter_map edge_target (take i ds)) ++ map k (cons_option x []))) o_is
      ∙ ap (λ (xs : List ℕ). front ++ xs) (sym (targets_next ds i d l is))

-- ---- what a search asks

-- starts are nodes
pub starts_within : (g : GraphData) (f : Following) → AllByRecursion (λ r. r < length (rows g f)) (start_nodes g)
starts_within g f =
    subst (λ (k : ℕ). AllByRecursion (λ r. r < k) (start_nodes g)) (sym (rows_length g f)) (each (starts g))
  where
    each : (ss : List Specifier)
        → AllByRecursion (λ r. r < suc (length g.numbered)) (map (node_of g.numbered (length g.numbered)) ss)
    each [] = tt
    each (s ∷ ss) = (node_small g.numbered s, each ss)
