-- From numbered nodes to the entries of a graph: paths of the one are paths of the other.
use Rattle.std.proofs.Common.{zero, suc, ◌≡◌, ◌≤◌, ◌<◌, ◌⊎◌, inl, inr, ℕ, Bool, true, false, not, cond, List, [], ◌∷◌, ◌++◌, length, map, refl, sym, ◌∙◌, ap, subst, arith, Option, Some, None}
use Rattle.std.specs.Prelude.{◌||◌, ◌&&◌, ◌==◌, nat_lt, bytes_eq, slice_get, slice_index, slice_index_or, option_and_then}
use Rattle.std.specs.List.{AllByRecursion}
use Rattle.std.specs.Cmp.Lexicographic.{nat_list_eq_equiv, same_text}
use Rattle.std.proofs.lemmas.Bool.{false≢true}
use Rattle.std.proofs.lemmas.Bool.Decides.{Decides-eqb, Decides-ltb}
use Rattle.std.proofs.lemmas.List.{length-map, length-append}
use Rattle.std.proofs.lemmas.List.Quantifiers.{position-Some}
use Rattle.url.specs.Parts.{Parts}
use Rattle.graph_entry.specs.declared.entry.Dependency.{Dependency}
use Rattle.graph_entry.specs.declared.entry.Entry.{Entry}
use Rattle.graph_entry.specs.declared.entry.Entry.TheVariants as entry
use Rattle.graph_entry.specs.Specifier.{text_of}
use Rattle.graph_builder.specs.declared.following.Following.{Following}
use Rattle.graph_builder.specs.Rules.{Specifier, edges_of, led_to, is_followed, has_types}
use Rattle.graph_builder.specs.Graph.{GraphData, texts, entry_of, number_in}
use Rattle.topological_order.specs.Order as n
use Rattle.topological_order.specs.Order.{Links, Link, links_of, target}
use Rattle.graph_builder.specs.Reach.{has}
use Rattle.shortest_paths.specs.Paths as pp
use Rattle.shortest_paths.specs.declared.without.Without as sp
use Rattle.shortest_paths.specs.declared.without.Without.TheVariants as sv
use Rattle.graph_why.specs.declared.step.Without.{Without}
use Rattle.graph_why.specs.declared.step.Without.TheVariants as without
use Rattle.graph_why.specs.Why.{Step, leads_to, IsHeld, IsStep, IsChain, number_of_step, starts, keeps_start, keeps, IsPath, IsShortest, IsGone, AreGone, AreInOrder}
use Rattle.graph_why.specs.Nodes as nodes
use Rattle.graph_why.specs.Nodes.{or_sink, node_of, node_there, row_of, rows, start_nodes, dependency_at}

-- ---- rows

rows_at : (h : Specifier → List ℕ) (us : List Parts) (v : ℕ) → v < length us
    → slice_index_or (map (λ u. h (text_of u)) us ++ [] ∷ []) v [] ≡ h (slice_index_or (texts us) v [])
rows_at h [] v l = absurd (omega arith)
rows_at h (u ∷ us) zero l = refl
rows_at h (u ∷ us) (suc v) l = rows_at h us v (omega arith)

empty_at : (xs : List (List ℕ)) (v : ℕ) → xs ≡ [] → slice_index_or xs v [] ≡ []
empty_at [] zero e = refl
empty_at [] (suc v) e = refl
empty_at (x ∷ xs) v e = absurd cc

rows_after : (h : Specifier → List ℕ) (us : List Parts) (v : ℕ) → length us ≤ v
    → slice_index_or (map (λ u. h (text_of u)) us ++ [] ∷ []) v [] ≡ []
rows_after h [] zero l = refl
rows_after h [] (suc v) l = empty_at [] v refl
rows_after h (u ∷ us) zero l = absurd (omega arith)
rows_after h (u ∷ us) (suc v) l = rows_after h us v (omega arith)

map_at : {A : Type 0} (h : A → ℕ) (xs : List A) (k : ℕ) → k < length (map h xs)
    → (x : A) × (slice_get xs k ≡ Some x) × (slice_index (map h xs) k ≡ h x)
map_at h [] k l = absurd (omega arith)
map_at h (x ∷ xs) zero l = (x, refl, refl)
map_at h (x ∷ xs) (suc k) l = map_at h xs k (omega arith)

at_map : {A : Type 0} (h : A → ℕ) (xs : List A) (k : ℕ) (x : A) → slice_get xs k ≡ Some x
    → (k < length (map h xs)) × (slice_index (map h xs) k ≡ h x)
at_map h [] zero x e = absurd cc
at_map h [] (suc k) x e = absurd cc
at_map h (y ∷ xs) zero x e = (omega arith, ap h (one y x e))
  where
    one : {A : Type 0} (a b : A) → Some a ≡ Some b → a ≡ b
    one a b e = cc
at_map h (y ∷ xs) (suc k) x e = let rest = at_map h xs k x e in (let l = rest.0 in omega (arith, l), rest.1)

-- what isn't the sink
held_or : (sink : ℕ) (o : Option ℕ) → or_sink sink o < sink → o ≡ Some (or_sink sink o)
held_or sink None l = absurd (omega (arith, l))
held_or sink (Some v) l = refl

held_there : (numbered : List Parts) (sink : ℕ) (o : Option Specifier) → node_there numbered sink o < sink
    → (s : Specifier) × (o ≡ Some s) × (number_in numbered s ≡ Some (node_there numbered sink o))
held_there numbered sink None l = absurd (omega (arith, l))
held_there numbered sink (Some s) l = (s, refl, held_or sink (number_in numbered s) l)

-- a link to an entry is a step
pub record IsStepAt (numbered : List Parts) (f : Following) (o : Option Entry) (k t : ℕ) : Type 0 where
  pub entry : Entry
  pub there : o ≡ Some entry
  pub to : Specifier
  pub leads : leads_to f entry (dependency_at o k) ≡ Some to
  pub number : number_in numbered to ≡ Some t

step_at : (numbered : List Parts) (sink : ℕ) (f : Following) (o : Option Entry) (k : ℕ)
    → k < length (row_of numbered sink f o) → slice_index (row_of numbered sink f o) k < sink
    → IsStepAt numbered f o k (slice_index (row_of numbered sink f o) k)
step_at numbered sink f None k l low = absurd (omega (arith, l))
step_at numbered sink f (Some (entry.Package p)) k l low = absurd (omega (arith, l))
step_at numbered sink f (Some entry.External) k l low = absurd (omega (arith, l))
step_at numbered sink f (Some (entry.Error e)) k l low = absurd (omega (arith, l))
step_at numbered sink f (Some (entry.Redirect t)) zero l low = record {
  entry = entry.Redirect t;
  there = refl;
  to = text_of t;
  leads = refl;
  number = held_or sink (number_in numbered (text_of t)) low;
}
step_at numbered sink f (Some (entry.Redirect t)) (suc k) l low = absurd (omega (arith, l))
step_at numbered sink f (Some (entry.Module m)) k l low =
    let (d, at, is) = map_at (λ d. node_there numbered sink (led_to (is_followed f (has_types m)) d)) (edges_of m) k
    l in
    let (s, leads, number) = held_there numbered sink (led_to (is_followed f (has_types m)) d)
    (subst (λ (x : ℕ). x < sink) is low) in
    record {
      entry = entry.Module m;
      there = refl;
      to = s;
      leads = ap (option_and_then (led_to (is_followed f (has_types m)))) at ∙ leads;
      number = number ∙ ap Some (sym is);
    }

-- a step of an entry is its link
pub record IsLinkAt (numbered : List Parts) (sink : ℕ) (f : Following) (o : Option Entry) (dependency : Option ℕ)
    (t : ℕ)
    : Type 0 where
  pub within : number_of_step dependency < length (row_of numbered sink f o)
  pub leads : slice_index (row_of numbered sink f o) (number_of_step dependency) ≡ t
  pub same : dependency_at o (number_of_step dependency) ≡ dependency

link_at : (numbered : List Parts) (sink : ℕ) (f : Following) (e : Entry) (dependency : Option ℕ) (s : Specifier) (t : ℕ)
    → leads_to f e dependency ≡ Some s → number_in numbered s ≡ Some t
    → IsLinkAt numbered sink f (Some e) dependency t
link_at numbered sink f (entry.Package p) dependency s t leads number = absurd cc
link_at numbered sink f entry.External dependency s t leads number = absurd cc
link_at numbered sink f (entry.Error e) dependency s t leads number = absurd cc
link_at numbered sink f (entry.Redirect u) None s t leads number = record {
  within = omega arith;
  leads = ap (or_sink sink) (ap (number_in numbered) (one (text_of u) s leads) ∙ number);
  same = refl;
}
  where
    one : (a b : Specifier) → Some a ≡ Some b → a ≡ b
    one a b e = cc
link_at numbered sink f (entry.Redirect u) (Some k) s t leads number = absurd cc
link_at numbered sink f (entry.Module m) None s t leads number = absurd cc
link_at numbered sink f (entry.Module m) (Some k) s t leads number = by (slice_get (edges_of m) k) refl leads
  where
    by : (o : Option Dependency) → slice_get (edges_of m) k ≡ o
        → option_and_then (led_to (is_followed f (has_types m))) o ≡ Some s
        → IsLinkAt numbered sink f (Some (entry.Module m)) (Some k) t
    by None is leads = absurd cc
    by (Some d) is leads =
        let at = at_map (λ d. node_there numbered sink (led_to (is_followed f (has_types m)) d)) (edges_of m) k d is in
        record {
          within = at.0;
          leads = at.1 ∙ ap (node_there numbered sink) leads ∙ ap (or_sink sink) number;
          same = refl;
        }

-- numbers are at most the sink's
pub number_below : (numbered : List Parts) (s : Specifier) (v : ℕ) → number_in numbered s ≡ Some v → v < length numbered
number_below numbered s v h =
    subst (λ (k : ℕ). v < k) (length-map numbered text_of) (position-Some (bytes_eq s) (texts numbered) v [] h).0

pub node_small : (numbered : List Parts) (s : Specifier) → node_of numbered (length numbered) s < suc (length numbered)
node_small numbered s = by (number_in numbered s) refl
  where
    by : (o : Option ℕ) → number_in numbered s ≡ o → or_sink (length numbered) o < suc (length numbered)
    by None is = omega arith
    by (Some v) is = let low = number_below numbered s v is in omega (arith, low)

row_small : (numbered : List Parts) (f : Following) (o : Option Entry)
    → AllByRecursion (λ t. t < suc (length numbered)) (row_of numbered (length numbered) f o)
row_small numbered f None = tt
row_small numbered f (Some (entry.Package p)) = tt
row_small numbered f (Some entry.External) = tt
row_small numbered f (Some (entry.Error e)) = tt
row_small numbered f (Some (entry.Redirect t)) = (node_small numbered (text_of t), tt)
row_small numbered f (Some (entry.Module m)) = each (edges_of m)
  where
    one : (o : Option Specifier) → node_there numbered (length numbered) o < suc (length numbered)
    one None = omega arith
    one (Some s) = node_small numbered s

    each : (ds : List Dependency)
        → AllByRecursion (λ t. t < suc (length numbered))
        (map (λ d. node_there numbered (length numbered) (led_to (is_followed f (has_types m)) d)) ds)
    each [] = tt
    each (d ∷ ds) = (one (led_to (is_followed f (has_types m)) d), each ds)

-- a step of these parts
abbrev step_from : Specifier → Option ℕ → Specifier → Step
step_from from dependency to = record { from = from; dependency = dependency; to = to }

-- ---- the graph

module _ (g : GraphData) (f : Following) where
  -- the specifier with a number
  abbrev pub name : ℕ → Specifier
  name v = nodes.name g v

  -- the sink
  abbrev pub sink : ℕ
  sink = length g.numbered

  abbrev pub row_here : ℕ → List ℕ
  row_here v = row_of g.numbered sink f (entry_of g.entries (name v))

  pub row_is : (v : ℕ) → v < sink → links_of (rows g f) v ≡ row_here v
  row_is v l = rows_at (λ s. row_of g.numbered sink f (entry_of g.entries s)) g.numbered v l

  no_row : (v : ℕ) → sink ≤ v → links_of (rows g f) v ≡ []
  no_row v l = rows_after (λ s. row_of g.numbered sink f (entry_of g.entries s)) g.numbered v l

  pub rows_length : length (rows g f) ≡ suc sink
  rows_length =
      let one = length-append (map (λ url. row_of g.numbered sink f (entry_of g.entries (text_of url))) g.numbered)
      ([] ∷ []) in
      let two = length-map g.numbered (λ url. row_of g.numbered sink f (entry_of g.entries (text_of url))) in
      omega (arith, one, two)

  less_or : (a b : ℕ) → (a < b) ⊎ (b ≤ a)
  less_or a b = search arith

  -- a node with a link is an entry's
  pub node_low : (v k : ℕ) → k < length (links_of (rows g f) v) → v < sink
  node_low v k l = by (less_or v sink)
    where
      by : (v < sink) ⊎ (sink ≤ v) → v < sink
      by (inl low) = low
      by (inr high) = absurd
          (let none = subst (λ (ts : List ℕ). k < length ts) (no_row v high) l in omega (arith, none))

  pub within : n.AreWithin (rows g f)
  within v = by (less_or v sink)
    where
      by : (v < sink) ⊎ (sink ≤ v) → AllByRecursion (λ t. t < length (rows g f)) (links_of (rows g f) v)
      by (inl low) =
          subst (λ (k : ℕ). AllByRecursion (λ t. t < k) (links_of (rows g f) v)) (sym rows_length)
          (subst (λ (ts : List ℕ). AllByRecursion (λ t. t < suc sink) ts) (sym (row_is v low))
          (row_small g.numbered f (entry_of g.entries (name v))))
      by (inr high) =
          subst (λ (ts : List ℕ). AllByRecursion (λ t. t < length (rows g f)) ts) (sym (no_row v high)) tt

  pub name_is : (s : Specifier) (v : ℕ) → number_in g.numbered s ≡ Some v → name v ≡ s
  name_is s v h =
      sym (same_text s (name v) (sym (position-Some (bytes_eq s) (texts g.numbered) v [] h).1))

  -- the node is the number of its specifier
  abbrev pub IsNumber : ℕ → Type 0
  IsNumber v = number_in g.numbered (name v) ≡ Some v

  pub number_own : (s : Specifier) (v : ℕ) → number_in g.numbered s ≡ Some v → IsNumber v
  number_own s v h = ap (number_in g.numbered) (name_is s v h) ∙ h

  -- the step that a link stands for
  abbrev pub at : Link → Step
  at e = nodes.step_at g (rows g f) e

  -- a link to an entry
  step_to : (v k : ℕ) → k < length (links_of (rows g f) v) → target (rows g f) (v, k) < sink
      → IsStep g f (at (v, k)) × IsNumber (target (rows g f) (v, k))
  step_to v k l low = (
    record {
      entry = s.entry;
      there = s.there;
      leads = s.leads ∙ ap Some (sym (name_is s.to t number));
      held = (t, number_own s.to t number);
    },
    number_own s.to t number,
  )
    where
      t : ℕ
      t = target (rows g f) (v, k)

      row : links_of (rows g f) v ≡ row_here v
      row = row_is v (node_low v k l)

      s : IsStepAt g.numbered f (entry_of g.entries (name v)) k (slice_index (row_here v) k)
      s = step_at g.numbered sink f (entry_of g.entries (name v)) k
          (subst (λ (ts : List ℕ). k < length ts) row l)
          (subst (λ (ts : List ℕ). slice_index ts k < sink) row low)

      number : number_in g.numbered s.to ≡ Some t
      number = s.number ∙ ap (λ (ts : List ℕ). Some (slice_index ts k)) (sym row)

  -- a step of an entry
  link_of : (v : ℕ) (e : Step) → IsNumber v → e.from ≡ name v → IsStep g f e
      → (k : ℕ) × (k < length (links_of (rows g f) v)) × (at (v, k) ≡ e) × IsNumber (target (rows g f) (v, k))
  link_of v e here from i = (
    k,
    subst (λ (ts : List ℕ). k < length ts) (sym row) l.within,
    same_step (at (v, k)) e (sym from) l.same
        (ap name to ∙ name_is e.to i.held.0 i.held.1),
    subst IsNumber (sym to) (number_own e.to i.held.0 i.held.1),
  )
    where
      k : ℕ
      k = number_of_step e.dependency

      there : entry_of g.entries (name v) ≡ Some i.entry
      there = ap (entry_of g.entries) (sym from) ∙ i.there

      l : IsLinkAt g.numbered sink f (entry_of g.entries (name v)) e.dependency i.held.0
      l = subst (λ (o : Option Entry). IsLinkAt g.numbered sink f o e.dependency i.held.0) (sym there)
          (link_at g.numbered sink f i.entry e.dependency e.to i.held.0 i.leads i.held.1)

      row : links_of (rows g f) v ≡ row_here v
      row = row_is v (number_below g.numbered (name v) v here)

      to : target (rows g f) (v, k) ≡ i.held.0
      to = ap (λ (ts : List ℕ). slice_index ts k) row ∙ l.leads

      same_step : (a b : Step) → a.from ≡ b.from → a.dependency ≡ b.dependency → a.to ≡ b.to → a ≡ b
      same_step a b p q r =
          ap (λ (x : Specifier). step_from x a.dependency a.to) p
          ∙ ap (λ (x : Option ℕ). step_from b.from x a.to) q
          ∙ ap (λ (x : Specifier). step_from b.from b.dependency x) r

  -- ---- chains

  chain_low : (v w : ℕ) (path : List Link) → n.IsChain (rows g f) v path w → w < sink → v < sink
  chain_low v w [] h l = subst (λ (x : ℕ). x < sink) (sym h) l
  chain_low v w (e ∷ path) h l = subst (λ (x : ℕ). x < sink) h.0 (node_low e.0 e.1 h.1)

  pub chain_to : (v w : ℕ) (path : List Link) → n.IsChain (rows g f) v path w → w < sink
      → IsChain g f (name v) (map at path) (name w)
  chain_to v w [] h l = ap name h
  chain_to v w (e ∷ path) h l = (
    ap name h.0,
    (step_to e.0 e.1 h.1 (chain_low (target (rows g f) e) w path h.2 l)).0,
    chain_to (target (rows g f) e) w path h.2 l,
  )

  -- its links lead from entries to entries
  pub path_low : (v w : ℕ) (path : List Link) → n.IsChain (rows g f) v path w → w < sink
      → AllByRecursion (nodes.IsLow (rows g f) sink) path
  path_low v w [] h l = tt
  path_low v w (e ∷ path) h l = (
    record {
      node = node_low e.0 e.1 h.1;
      within = let low = node_low e.0 e.1 h.1 in let len = rows_length in omega (arith, low, len);
      link = h.1;
      to = chain_low (target (rows g f) e) w path h.2 l;
    },
    path_low (target (rows g f) e) w path h.2 l,
  )

  pub chain_back : (v : ℕ) (t : Specifier) (path : List Step) → IsNumber v → IsChain g f (name v) path t
      → (links : List Link) × (w : ℕ) × (map at links ≡ path) × (name w ≡ t) × IsNumber w
      × n.IsChain (rows g f) v links w
  chain_back v t [] here h = ([], v, refl, h, here, refl)
  chain_back v t (e ∷ path) here h =
      let (k, l, is, there) = link_of v e here h.0 h.1 in
      let (links, w, all, name_w, number_w, chain) = chain_back (target (rows g f) (v, k)) t path there
      (subst (λ (s : Specifier). IsChain g f s path t) (sym (ap (λ (s : Step). s.to) is)) h.2) in (
        (v, k) ∷ links,
        w,
        ap (λ (s : Step). s ∷ map at links) is ∙ ap (λ (ss : List Step). e ∷ ss) all,
        name_w,
        number_w,
        (refl, l, chain),
      )

  -- ---- what is left out

  some_one : (a b : ℕ) → Some a ≡ Some b → a ≡ b
  some_one a b e = cc

  -- two specifiers with numbers
  eq_number : (v x : ℕ) (s : Specifier) → IsNumber v → number_in g.numbered s ≡ Some x → bytes_eq (name v) s ≡ (v == x)
  eq_number v x s here there = by (bytes_eq (name v) s) refl (v == x) refl
    where
      by : (a : Bool) → bytes_eq (name v) s ≡ a → (b : Bool) → (v == x) ≡ b → a ≡ b
      by true p true q = refl
      by false p false q = refl
      by true p false q =
          let one = some_one v x
          (sym here ∙ ap (number_in g.numbered) (same_text (name v) s (sym p)) ∙ there) in
          absurd (false≢true (sym q ∙ (Decides-eqb v x).1 one))
      by false p true q =
          let one : name v ≡ s = ap name ((Decides-eqb v x).0 q) ∙ name_is s x there in
          absurd (false≢true (sym p ∙ ap (λ (t : Specifier). bytes_eq t s) one ∙ nat_list_eq_equiv.refl s))

  -- the same is left out
  abbrev pub IsLeft : Option Without → sp.Without → Type 0
  IsLeft w u = nodes.IsLeft g w u

  start_kept : (w : Option Without) (u : sp.Without) (v : ℕ) → IsLeft w u → IsNumber v
      → keeps_start w (name v) ≡ pp.keeps_root u v
  start_kept None sv.Nothing v i here = refl
  start_kept None (sv.Node x) v i here = absurd i
  start_kept None (sv.Link x k) v i here = absurd i
  start_kept (Some (without.Entry url)) sv.Nothing v i here = absurd i
  start_kept (Some (without.Entry url)) (sv.Node x) v i here = ap not (eq_number v x (text_of url) here i)
  start_kept (Some (without.Entry url)) (sv.Link x k) v i here = absurd i
  start_kept (Some (without.Edge url j)) sv.Nothing v i here = absurd i
  start_kept (Some (without.Edge url j)) (sv.Node x) v i here = absurd i
  start_kept (Some (without.Edge url j)) (sv.Link x k) v i here = refl

  -- the number of a link's step is the link's place
  place_is : (o : Option Entry) (k : ℕ) → k < length (row_of g.numbered sink f o)
      → number_of_step (dependency_at o k) ≡ k
  place_is None k l = refl
  place_is (Some (entry.Redirect t)) zero l = refl
  place_is (Some (entry.Redirect t)) (suc k) l = absurd (omega (arith, l))
  place_is (Some (entry.Module m)) k l = refl
  place_is (Some (entry.Package q)) k l = refl
  place_is (Some entry.External) k l = refl
  place_is (Some (entry.Error e)) k l = refl

  step_kept : (w : Option Without) (u : sp.Without) (v k : ℕ) → IsLeft w u → IsNumber v
      → k < length (links_of (rows g f) v) → IsNumber (target (rows g f) (v, k))
      → keeps w (at (v, k)) ≡ pp.keeps u (rows g f) (v, k)
  step_kept None sv.Nothing v k i here l there = refl
  step_kept None (sv.Node x) v k i here l there = absurd i
  step_kept None (sv.Link x j) v k i here l there = absurd i
  step_kept (Some (without.Entry url)) sv.Nothing v k i here l there = absurd i
  step_kept (Some (without.Entry url)) (sv.Node x) v k i here l there =
      ap not (eq_number (target (rows g f) (v, k)) x (text_of url) there i)
  step_kept (Some (without.Entry url)) (sv.Link x j) v k i here l there = absurd i
  step_kept (Some (without.Edge url h)) sv.Nothing v k i here l there = absurd i
  step_kept (Some (without.Edge url h)) (sv.Node x) v k i here l there = absurd i
  step_kept (Some (without.Edge url h)) (sv.Link x j) v k i here l there =
      ap not
      (ap (λ b. b && number_of_step (dependency_at (entry_of g.entries (name v)) k) == h)
      (eq_number v x (text_of url) here i.0)
      ∙ ap (λ m. v == x && m == h)
      (place_is (entry_of g.entries (name v)) k
      (subst (λ (ts : List ℕ). k < length ts) (row_is v (node_low v k l)) l))
      ∙ ap (λ m. v == x && k == m) (sym i.1))

  -- ---- paths

  kept_to : (w : Option Without) (u : sp.Without) → IsLeft w u → (v x : ℕ) (path : List Link)
      → n.IsChain (rows g f) v path x → x < sink → IsNumber v
      → AllByRecursion (λ e. pp.keeps u (rows g f) e ≡ true) path → AllByRecursion (λ e. keeps w e ≡ true) (map at path)
  kept_to w u i v x [] h l here kept = tt
  kept_to w u i v x (e ∷ path) h l here kept =
      let there = (step_to e.0 e.1 h.1 (chain_low (target (rows g f) e) x path h.2 l)).1 in (
        step_kept w u e.0 e.1 i (subst IsNumber (sym h.0) here) h.1 there ∙ kept.0,
        kept_to w u i (target (rows g f) e) x path h.2 l there kept.1,
      )

  kept_back : (w : Option Without) (u : sp.Without) → IsLeft w u → (v x : ℕ) (path : List Link)
      → n.IsChain (rows g f) v path x → x < sink → IsNumber v
      → AllByRecursion (λ e. keeps w e ≡ true) (map at path)
      → AllByRecursion (λ e. pp.keeps u (rows g f) e ≡ true) path
  kept_back w u i v x [] h l here kept = tt
  kept_back w u i v x (e ∷ path) h l here kept =
      let there = (step_to e.0 e.1 h.1 (chain_low (target (rows g f) e) x path h.2 l)).1 in (
        sym (step_kept w u e.0 e.1 i (subst IsNumber (sym h.0) here) h.1 there) ∙ kept.0,
        kept_back w u i (target (rows g f) e) x path h.2 l there kept.1,
      )

  start_in : (ss : List Specifier) (v : ℕ) → n.has (map (node_of g.numbered sink) ss) v ≡ true → v < sink
      → (s : Specifier) × (has ss s ≡ true) × (number_in g.numbered s ≡ Some v)
  start_in [] v h l = absurd (false≢true h)
  start_in (s ∷ ss) v h l =
      by (v == node_of g.numbered sink s) refl h (start_in ss v)
    where
      by : (b : Bool) → (v == node_of g.numbered sink s) ≡ b → (b || n.has (map (node_of g.numbered sink) ss) v) ≡ true
          → (n.has (map (node_of g.numbered sink) ss) v ≡ true → v < sink
          → (t : Specifier) × (has ss t ≡ true) × (number_in g.numbered t ≡ Some v))
          → (t : Specifier) × (has (s ∷ ss) t ≡ true) × (number_in g.numbered t ≡ Some v)
      by true e h on =
          let one = (Decides-eqb v (node_of g.numbered sink s)).0 e in (
            s,
            ap (λ b. b || has ss s) (nat_list_eq_equiv.refl s),
            held_or sink (number_in g.numbered s) (subst (λ (x : ℕ). x < sink) one l) ∙ ap Some (sym one),
          )
      by false e h on = let (t, there, is) = on h l in (t, later (bytes_eq t s) (has ss t) there, is)
        where
          later : (a b : Bool) → b ≡ true → (a || b) ≡ true
          later true b h = refl
          later false b h = h

  in_start : (ss : List Specifier) (s : Specifier) (v : ℕ) → has ss s ≡ true → number_in g.numbered s ≡ Some v
      → n.has (map (node_of g.numbered sink) ss) v ≡ true
  in_start [] s v h e = absurd (false≢true h)
  in_start (t ∷ ss) s v h e = by (bytes_eq s t) refl h (in_start ss s v)
    where
      by : (b : Bool) → bytes_eq s t ≡ b → (b || has ss s) ≡ true
          → (has ss s ≡ true → number_in g.numbered s ≡ Some v → n.has (map (node_of g.numbered sink) ss) v ≡ true)
          → n.has (map (node_of g.numbered sink) (t ∷ ss)) v ≡ true
      by true q h on =
          let one : node_of g.numbered sink t ≡ v =
          ap (node_of g.numbered sink) (sym (same_text s t (sym q))) ∙ ap (or_sink sink) e in
          ap (λ b. b || n.has (map (node_of g.numbered sink) ss) v)
          ((Decides-eqb v (node_of g.numbered sink t)).1 (sym one))
      by false q h on = later (v == node_of g.numbered sink t) (n.has (map (node_of g.numbered sink) ss) v) (on h e)
        where
          later : (a b : Bool) → b ≡ true → (a || b) ≡ true
          later true b h = refl
          later false b h = h

  path_to : (w : Option Without) (u : sp.Without) → IsLeft w u → (v : ℕ) (path : List Link) → v < sink
      → pp.IsPath (rows g f) (start_nodes g) u path v → IsPath g f w (map at path) (name v)
  path_to w u i v path l q =
      let low = chain_low q.root v path q.chain l in
      let (s, among, number) = start_in (starts g) q.root q.among low in
      let here = number_own s q.root number in
      record {
        start = name q.root;
        among = ap (has (starts g)) (name_is s q.root number) ∙ among;
        held = (q.root, here);
        begins = start_kept w u q.root i here ∙ q.begins;
        chain = chain_to q.root v path q.chain l;
        kept = kept_to w u i q.root v path q.chain l here q.kept;
      }

  path_back : (w : Option Without) (u : sp.Without) → IsLeft w u → (v : ℕ) (path : List Step) → IsNumber v
      → IsPath g f w path (name v)
      → (links : List Link) × (map at links ≡ path) × pp.IsPath (rows g f) (start_nodes g) u links v
  path_back w u i v path there q =
      let r = q.held.0 in
      let here = number_own q.start r q.held.1 in
      let is = name_is q.start r q.held.1 in
      let (links, x, all, name_x, number_x, chain) = chain_back r (name v) path here
      (subst (λ (s : Specifier). IsChain g f s path (name v)) (sym is) q.chain) in
      let one = some_one x v (sym number_x ∙ ap (number_in g.numbered) name_x ∙ there) in
      let chain_v = subst (λ (y : ℕ). n.IsChain (rows g f) r links y) one chain in (
        links,
        all,
        record {
          root = r;
          among = in_start (starts g) q.start r q.among q.held.1;
          begins = sym (start_kept w u r i here) ∙ ap (keeps_start w) is ∙ q.begins;
          chain = chain_v;
          kept = kept_back w u i r v links chain_v (number_below g.numbered (name v) v there) here
              (subst (λ (es : List Step). AllByRecursion (λ e. keeps w e ≡ true) es) (sym all) q.kept);
        },
      )

  -- ---- what is found

  pub shortest_to : (v : ℕ) (path : List Link) → IsNumber v → pp.IsShortest (rows g f) (start_nodes g) path v
      → IsShortest g f (map at path) (name v)
  shortest_to v path there q = record {
    is = path_to None sv.Nothing tt v path (number_below g.numbered (name v) v there) q.is;
    least = λ other o.
        let (links, all, back) = path_back None sv.Nothing tt v other there o in
        let less = q.least links back in
        let one = length-map path at in
        let two = length-map links at in
        let three = ap (λ (es : List Step). length es) all in
        omega (arith, less, one, two, three);
  }

  pub none_to : (v : ℕ) → IsNumber v → ((path : List Link) → pp.IsPath (rows g f) (start_nodes g) sv.Nothing path v → ⊥)
      → (path : List Step) → IsPath g f None path (name v) → ⊥
  none_to v there none path q =
      let (links, all, back) = path_back None sv.Nothing tt v path there q in none links back

  pub gone_to : (w : Without) (u : sp.Without) → IsLeft (Some w) u → (v : ℕ) → IsNumber v
      → pp.IsGone (rows g f) (start_nodes g) u v → IsGone g f w (name v)
  gone_to w u i v there q = record {
    reached = record {
      path = map at q.reached.path;
      is = path_to None sv.Nothing tt v q.reached.path (number_below g.numbered (name v) v there) q.reached.is;
    };
    gone = λ r.
        let (links, all, back) = path_back (Some w) u i v r.path there r.is in
        q.gone (record { path = links; is = back });
  }

  pub gone_back : (w : Without) (u : sp.Without) → IsLeft (Some w) u → (v : ℕ) → IsNumber v → IsGone g f w (name v)
      → pp.IsGone (rows g f) (start_nodes g) u v
  gone_back w u i v there q = record {
    reached =
        let (links, all, back) = path_back None sv.Nothing tt v q.reached.path there q.reached.is in
        record { path = links; is = back };
    gone = λ r. q.gone (record {
      path = map at r.path;
      is = path_to (Some w) u i v r.path (number_below g.numbered (name v) v there) r.is;
    });
  }

  -- ---- what is gone

  chain_number : (v x : ℕ) (path : List Link) → n.IsChain (rows g f) v path x → x < sink → IsNumber v → IsNumber x
  chain_number v x [] h l here = subst IsNumber h here
  chain_number v x (e ∷ path) h l here =
      chain_number (target (rows g f) e) x path h.2 l
      (step_to e.0 e.1 h.1 (chain_low (target (rows g f) e) x path h.2 l)).1

  reached_number : (u : sp.Without) (v : ℕ) → v < sink → pp.IsReached (rows g f) (start_nodes g) u v → IsNumber v
  reached_number u v l r =
      let q = r.is in
      let low = chain_low q.root v r.path q.chain l in
      let (s, among, number) = start_in (starts g) q.root q.among low in
      chain_number q.root v r.path q.chain l (number_own s q.root number)

  end_held : (s t : Specifier) (path : List Step) → IsHeld g s → IsChain g f s path t → IsHeld g t
  end_held s t [] h chain = subst (IsHeld g) chain h
  end_held s t (e ∷ path) h chain = end_held e.to t path chain.1.held chain.2

  either : (a b : Bool) → (a || b) ≡ true → (a ≡ true) ⊎ (b ≡ true)
  either true b h = inl refl
  either false b h = inr h

  -- a name is that of a number
  below_in : (ns : List ℕ) (s : Specifier) → has (nodes.names_below g ns) s ≡ true
      → (v : ℕ) × (n.has ns v ≡ true) × (v < sink) × (name v ≡ s)
  below_in [] s h = absurd (false≢true h)
  below_in (x ∷ ns) s h = by (nat_lt x sink) refl h (below_in ns s)
    where
      later : (v : ℕ) → n.has ns v ≡ true → (v == x || n.has ns v) ≡ true
      later v h = right (v == x) (n.has ns v) h
        where
          right : (a b : Bool) → b ≡ true → (a || b) ≡ true
          right true b h = refl
          right false b h = h

      by : (b : Bool) → nat_lt x sink ≡ b
          → has (cond b (name x ∷ nodes.names_below g ns) (nodes.names_below g ns)) s ≡ true
          → (has (nodes.names_below g ns) s ≡ true → (v : ℕ) × (n.has ns v ≡ true) × (v < sink) × (name v ≡ s))
          → (v : ℕ) × (n.has (x ∷ ns) v ≡ true) × (v < sink) × (name v ≡ s)
      by false lt h on = let (v, there, l, is) = on h in (v, later v there, l, is)
      by true lt h on = cases (either (bytes_eq s (name x)) (has (nodes.names_below g ns) s) h)
        where
          cases : (bytes_eq s (name x) ≡ true) ⊎ (has (nodes.names_below g ns) s ≡ true)
              → (v : ℕ) × (n.has (x ∷ ns) v ≡ true) × (v < sink) × (name v ≡ s)
          cases (inl q) = (
            x,
            ap (λ b. b || n.has ns x) ((Decides-eqb x x).1 refl),
            (Decides-ltb x sink).0 lt,
            sym (same_text s (name x) (sym q)),
          )
          cases (inr q) = let (v, there, l, is) = on q in (v, later v there, l, is)

  in_below : (ns : List ℕ) (v : ℕ) → n.has ns v ≡ true → v < sink → has (nodes.names_below g ns) (name v) ≡ true
  in_below [] v h l = absurd (false≢true h)
  in_below (x ∷ ns) v h l = by (nat_lt x sink) refl (either (v == x) (n.has ns v) h) (in_below ns v)
    where
      right : (a b : Bool) → b ≡ true → (a || b) ≡ true
      right true b h = refl
      right false b h = h

      by : (b : Bool) → nat_lt x sink ≡ b → ((v == x) ≡ true) ⊎ (n.has ns v ≡ true)
          → (n.has ns v ≡ true → v < sink → has (nodes.names_below g ns) (name v) ≡ true)
          → has (cond b (name x ∷ nodes.names_below g ns) (nodes.names_below g ns)) (name v) ≡ true
      by true lt (inl e) on =
          ap (λ b. b || has (nodes.names_below g ns) (name v))
          (ap (λ (y : ℕ). bytes_eq (name v) (name y)) (sym ((Decides-eqb v x).0 e)) ∙ nat_list_eq_equiv.refl (name v))
      by true lt (inr there) on =
          right (bytes_eq (name v) (name x)) (has (nodes.names_below g ns) (name v)) (on there l)
      by false lt (inl e) on =
          absurd (false≢true (sym lt ∙ (Decides-ltb x sink).1 (subst (λ (y : ℕ). y < sink) ((Decides-eqb v x).0 e) l)))
      by false lt (inr there) on = on there l

  in_order : (u : sp.Without) (ns : List ℕ) → pp.AreAscending ns
      → ((v : ℕ) → n.has ns v ≡ true → v < sink → IsNumber v) → AreInOrder g (nodes.names_below g ns)
  in_order u [] a here = tt
  in_order u (x ∷ ns) a here =
      by (nat_lt x sink) refl
      (in_order u ns a.1 (λ v h l. here v (right (v == x) (n.has ns v) h) l))
    where
      right : (a b : Bool) → b ≡ true → (a || b) ≡ true
      right true b h = refl
      right false b h = h

      above : (xs : List ℕ) → AllByRecursion (λ y. x < y) xs → (v : ℕ) → n.has xs v ≡ true → x < v
      above [] all v h = absurd (false≢true h)
      above (y ∷ xs) all v h = one (either (v == y) (n.has xs v) h) (above xs all.1 v)
        where
          one : ((v == y) ≡ true) ⊎ (n.has xs v ≡ true) → (n.has xs v ≡ true → x < v) → x < v
          one (inl e) on = subst (λ (z : ℕ). x < z) (sym ((Decides-eqb v y).0 e)) all.0
          one (inr there) on = on there

      by : (b : Bool) → nat_lt x sink ≡ b → AreInOrder g (nodes.names_below g ns)
          → AreInOrder g (cond b (name x ∷ nodes.names_below g ns) (nodes.names_below g ns))
      by false lt rest = rest
      by true lt rest = (first, rest)
        where
          first : (t : Specifier) (m k : ℕ) → has (nodes.names_below g ns) t ≡ true
              → number_in g.numbered (name x) ≡ Some m → number_in g.numbered t ≡ Some k → m < k
          first t m k there is_m is_k =
              let (v, v_in, l, name_v) = below_in ns t there in
              let m_is = some_one m x (sym is_m
              ∙ here x (ap (λ b. b || n.has ns x) ((Decides-eqb x x).1 refl)) ((Decides-ltb x sink).0 lt)) in
              let k_is = some_one k v
              (sym is_k ∙ ap (number_in g.numbered) (sym name_v) ∙ here v (right (v == x) (n.has ns v) v_in) l) in
              let less = above ns a.0 v v_in in
              omega (arith, m_is, k_is, less)

  pub gone_found : (w : Without) (u : sp.Without) → IsLeft (Some w) u → (ns : List ℕ)
      → pp.AreGone (rows g f) (start_nodes g) u ns → AreGone g f w (nodes.names_below g ns)
  gone_found w u i ns q = record {
    ascending = in_order u ns q.ascending (λ v h l. reached_number sv.Nothing v l ((q.each v).0 h).reached);
    each = λ s. (λ h. to s h, λ h. back s h);
  }
    where
      to : (s : Specifier) → has (nodes.names_below g ns) s ≡ true → IsGone g f w s
      to s h =
          let (v, there, l, is) = below_in ns s h in
          let gone = (q.each v).0 there in
          subst (IsGone g f w) is (gone_to w u i v (reached_number sv.Nothing v l gone.reached) gone)

      back : (s : Specifier) → IsGone g f w s → has (nodes.names_below g ns) s ≡ true
      back s gone =
          let p = gone.reached.is in
          let held = end_held p.start s gone.reached.path p.held p.chain in
          let here = number_own s held.0 held.1 in
          let is = name_is s held.0 held.1 in
          subst (λ (t : Specifier). has (nodes.names_below g ns) t ≡ true) is
          (in_below ns held.0
          ((q.each held.0).1 (gone_back w u i held.0 here (subst (IsGone g f w) (sym is) gone)))
          (number_below g.numbered s held.0 held.1))

  -- ---- what isn't there

  other : (s t : Specifier) → IsHeld g s → number_in g.numbered t ≡ None → bytes_eq s t ≡ false
  other s t h none = by (bytes_eq s t) refl
    where
      by : (b : Bool) → bytes_eq s t ≡ b → b ≡ false
      by false q = refl
      by true q = absurd (clash h.0
          (sym h.1 ∙ ap (number_in g.numbered) (same_text s t (sym q)) ∙ none))
        where
          clash : (x : ℕ) → Some x ≡ None → ⊥
          clash x e = absurd cc

  -- no path leads to what has no entry
  pub none_held : (s : Specifier) → number_in g.numbered s ≡ None → (path : List Step) → IsPath g f None path s → ⊥
  none_held s none path q = clash (end_held q.start s path q.held q.chain)
    where
      clash : IsHeld g s → ⊥
      clash h = two h.0 (sym h.1 ∙ none)
        where
          two : (x : ℕ) → Some x ≡ None → ⊥
          two x e = absurd cc

  begins_all : (w : Without) (s : Specifier) → nodes.IsAbsent g w → IsHeld g s → keeps_start (Some w) s ≡ true
  begins_all (without.Entry url) s i h = ap not (other s (text_of url) h i)
  begins_all (without.Edge url k) s i h = refl

  keeps_one : (w : Without) (e : Step) → nodes.IsAbsent g w → IsHeld g e.from → IsHeld g e.to → keeps (Some w) e ≡ true
  keeps_one (without.Entry url) e i h k = ap not (other e.to (text_of url) k i)
  keeps_one (without.Edge url j) e i h k =
      ap (λ b. not (b && number_of_step e.dependency == j)) (other e.from (text_of url) h i)

  keeps_all : (w : Without) → nodes.IsAbsent g w → (s t : Specifier) (path : List Step) → IsHeld g s
      → IsChain g f s path t → AllByRecursion (λ e. keeps (Some w) e ≡ true) path
  keeps_all w i s t [] h chain = tt
  keeps_all w i s t (e ∷ path) h chain = (
    keeps_one w e i (subst (IsHeld g) (sym chain.0) h) chain.1.held,
    keeps_all w i e.to t path chain.1.held chain.2,
  )

  pub none_gone : (w : Without) → nodes.IsAbsent g w → AreGone g f w []
  none_gone w i = record {
    ascending = tt;
    each = λ s. (
      λ h. absurd (false≢true h),
      λ h. absurd (h.gone (record {
        path = h.reached.path;
        is = record {
          start = h.reached.is.start;
          among = h.reached.is.among;
          held = h.reached.is.held;
          begins = begins_all w h.reached.is.start i h.reached.is.held;
          chain = h.reached.is.chain;
          kept = keeps_all w i h.reached.is.start s h.reached.path h.reached.is.held h.reached.is.chain;
        };
      })),
    );
  }
