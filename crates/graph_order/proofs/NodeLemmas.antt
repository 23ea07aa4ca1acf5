-- The numbers of modules at the numbers that the graph gave to specifiers.
use Rattle.std.proofs.Common.{zero, suc, ◌≡◌, ◌<◌, ◌+◌, ◌⊎◌, inl, inr, ℕ, List, [], ◌∷◌, length, get_or, refl, sym, ◌∙◌, ap, subst, arith, Option, Some, None}
use Rattle.std.specs.Prelude.{bytes_eq, slice_get, slice_index_or, option_and_then, is_some, if◌then◌else◌}
use Rattle.std.specs.Borrow.{Bor}
use Rattle.std.specs.Cmp.Lexicographic.{same_text}
use Rattle.std.proofs.lemmas.List.{length-map}
use Rattle.std.proofs.lemmas.List.Quantifiers.{position-Some}
use Rattle.url.specs.Parts.{Parts}
use Rattle.graph_entry.specs.declared.entry.Module.{Module}
use Rattle.graph_entry.specs.declared.entry.Entry.TheVariants as entry
use Rattle.graph_entry.specs.Specifier.{text_of}
use Rattle.graph_builder.specs.Rules.{Specifier}
use Rattle.graph_builder.specs.Final.{most_redirects, redirect_of}
use Rattle.graph_builder.specs.ByText.{number_of}
use Rattle.graph_builder.specs.Graph.{GraphData, texts, entry_of, number_in, redirected, on_from, resolved_over, resolved, module_of, module_at, IsAscending}
use Rattle.graph_order.specs.Edges.{Entries, IsModule}
use Rattle.graph_order.specs.Names.{bare, modules_of, named, named_at, name_of}
use Rattle.graph_order.specs.Nodes.{node_there, AreNodes}
use Rattle.graph_order.proofs.ModuleLemmas.{keys, one_key}
use Rattle.graph_order.proofs.NamingLemmas.{seen_name, number_there, node, length-links, name-key, keys_once, length-keys}

pub same_texts : (u v : Parts) → Some u ≡ Some v → text_of u ≡ text_of v
same_texts u v h = cc

-- ---- the graph's numbers

-- what has a number stands there
text_at : (numbered : List Parts) (s : Specifier) (n : ℕ) → number_in numbered s ≡ Some n
    → slice_index_or (texts numbered) n [] ≡ s
text_at numbered s n h =
    let r = position-Some (bytes_eq s) (texts numbered) n [] h in
    sym (same_text s (slice_index_or (texts numbered) n []) (sym r.1))

pub one_number : (numbered : List Parts) (s t : Specifier) (n : ℕ) → number_in numbered s ≡ Some n
    → number_in numbered t ≡ Some n → s ≡ t
one_number numbered s t n h k = sym (text_at numbered s n h) ∙ text_at numbered t n k

-- the specifier with a number
pub text_numbered : (numbered : List Parts) (s : Specifier) (n : ℕ) → number_in numbered s ≡ Some n
    → (u : Parts) × (slice_get numbered n ≡ Some u) × (text_of u ≡ s)
text_numbered numbered s n h =
    let r = position-Some (bytes_eq s) (texts numbered) n [] h in
    by numbered n r.0 (text_at numbered s n h)
  where
    by : (us : List Parts) (n : ℕ) → n < length (texts us) → slice_index_or (texts us) n [] ≡ s
        → (u : Parts) × (slice_get us n ≡ Some u) × (text_of u ≡ s)
    by [] n l same = absurd (omega (arith, l))
    by (u ∷ us) zero l same = (u, refl, same)
    by (u ∷ us) (suc n) l same = by us n (omega (arith, l)) same

-- ---- where specifiers lead

resolved_still : (entries : Entries) (s : Specifier) → redirected entries s ≡ None → (n : ℕ)
    → resolved_over entries n s ≡ s
resolved_still entries s h zero = refl
resolved_still entries s h (suc n) = ap (on_from s (resolved_over entries n)) h

still : (entries : Entries) (s : Specifier) → redirected entries s ≡ None → resolved entries s ≡ s
still entries s h = resolved_still entries s h most_redirects

-- one with a module leads to it
module_here : (entries : Entries) (s : Specifier) (m : Module) → entry_of entries s ≡ Some (entry.Module m)
    → node_there entries s ≡ number_of (named entries) s
module_here entries s m h =
    let here : resolved entries s ≡ s = still entries s (ap (option_and_then redirect_of) h) in
    let some : module_at entries s ≡ Some m
    = ap (λ (t : Specifier). option_and_then module_of (entry_of entries t)) here ∙ ap (option_and_then module_of) h in
    ap (λ (o : Option Module). option_and_then (number_of (named entries))
    (if is_some o then Some (resolved entries s) else None)) some ∙ ap (number_of (named entries)) here

-- ---- names behind references

pub length-named_at : (urls : List (Bor Parts)) → length (named_at urls) ≡ length urls
length-named_at urls = length-map urls (λ url. (url.now, tt))

pub name_at : (urls : List (Bor Parts)) (v : ℕ) (url : Bor Parts) → v < length urls → url ≡ get_or urls v url
    → text_of url.now ≡ name_of (named_at urls) v
name_at [] v url l is = absurd (omega (arith, l))
name_at (u ∷ urls) zero url l is = ap (λ (x : Bor Parts). text_of x.now) is
name_at (u ∷ urls) (suc v) url l is = name_at urls v url (omega (arith, l)) is

-- ---- the modules at the graph's numbers

module _ (g : GraphData) (ascending : IsAscending g.entries) where
  length-named : length (named g.entries) ≡ length (modules_of g.entries)
  length-named = length-map (modules_of g.entries) bare

  -- a number is a module's
  numbered_module : (s : Specifier) (v : ℕ) → number_of (named g.entries) s ≡ Some v → IsModule g.entries s
  numbered_module s v h =
      let (l, same) = seen_name g.entries ascending s v h in
      let (m, there) = node g.entries ascending v
      (subst (λ (n : ℕ). v < n) (sym (length-links g.entries ascending)) l) in
      (m, subst (λ (t : Specifier). entry_of g.entries t ≡ Some (entry.Module m)) same there)

  -- without entry there is none
  pub none_named : (s : Specifier) → entry_of g.entries s ≡ None → number_of (named g.entries) s ≡ None
  none_named s none = by (number_of (named g.entries) s) refl
    where
      by : (o : Option ℕ) → number_of (named g.entries) s ≡ o → o ≡ None
      by None h = refl
      by (Some v) h = let (m, there) = numbered_module s v h in absurd cc

  -- what stands at a number when all names are placed
  pub node_value : (nodes : List (Option ℕ)) → AreNodes g (named g.entries) (length (named g.entries)) nodes
      → (s : Specifier) (n : ℕ) → number_in g.numbered s ≡ Some n
      → slice_index_or nodes n None ≡ number_of (named g.entries) s
  node_value nodes h s n is = by (number_of (named g.entries) s) refl
    where
      by : (o : Option ℕ) → number_of (named g.entries) s ≡ o → slice_index_or nodes n None ≡ o
      by (Some v) e =
          let (l, same) = seen_name g.entries ascending s v e in
          h.placed v n (subst (λ (k : ℕ). v < k) (sym length-named) l)
          (subst (λ (t : Specifier). number_in g.numbered t ≡ Some n) (sym same) is)
      by None e = h.none s n is
          (λ v l same.
          let some : number_of (named g.entries) s ≡ Some v
          = number_there g.entries ascending s v (subst (λ (k : ℕ). v < k) length-named l) same in
          let both : None ≡ Some v = sym e ∙ some in absurd cc)

  -- where a module stands, its specifier leads to it
  pub node_led : (nodes : List (Option ℕ)) → AreNodes g (named g.entries) (length (named g.entries)) nodes
      → (n v : ℕ) → slice_index_or nodes n None ≡ Some v → (s : Specifier) → number_in g.numbered s ≡ Some n
      → node_there g.entries s ≡ Some v
  node_led nodes h n v at s is =
      let number : number_of (named g.entries) s ≡ Some v = sym (node_value nodes h s n is) ∙ at in
      let (m, there) = numbered_module s v number in module_here g.entries s m there ∙ number

  -- one name more
  one_name : (u v : ℕ) → u < length (named g.entries) → v < length (named g.entries)
      → name_of (named g.entries) u ≡ name_of (named g.entries) v → u ≡ v
  one_name u v k l same =
      one_key (keys (modules_of g.entries)) u v (keys_once g.entries ascending)
      (subst (λ (n : ℕ). u < n) (length-named ∙ sym (length-keys g.entries ascending)) k)
      (subst (λ (n : ℕ). v < n) (length-named ∙ sym (length-keys g.entries ascending)) l)
      (sym (name-key g.entries ascending u) ∙ same ∙ name-key g.entries ascending v)

  pub nodes_more : (old new : List (Option ℕ)) (v : ℕ) → v < length (named g.entries)
      → AreNodes g (named g.entries) v old → length new ≡ length g.entries
      → ((n : ℕ) → number_in g.numbered (name_of (named g.entries) v) ≡ Some n → slice_index_or new n None ≡ Some v)
      → ((n : ℕ) → (number_in g.numbered (name_of (named g.entries) v) ≡ Some n → ⊥)
      → slice_index_or new n None ≡ slice_index_or old n None)
      → AreNodes g (named g.entries) (v + 1) new
  nodes_more old new v low h len here others = record {
    len = len;
    placed = λ u n l is. put u n is (last_or u v (omega (arith, l)));
    none = λ s n is apart. others n (λ at. apart v (omega arith) (one_number g.numbered
        (name_of (named g.entries) v) s n at is)) ∙ h.none s n is (λ u l. apart u (omega (arith, l)));
  }
    where
      last_or : (a b : ℕ) → a < suc b → (b ≡ a) ⊎ (a < b)
      last_or a b h = grind arith

      put : (u n : ℕ) → number_in g.numbered (name_of (named g.entries) u) ≡ Some n → (v ≡ u) ⊎ (u < v)
          → slice_index_or new n None ≡ Some u
      put u n is (inl same) =
          here n (ap (λ (w : ℕ). number_in g.numbered (name_of (named g.entries) w)) same ∙ is) ∙ ap Some same
      put u n is (inr l) =
          others n (λ at.
          let one : v ≡ u = one_name v u low (omega (arith, l, low))
          (one_number g.numbered (name_of (named g.entries) v) (name_of (named g.entries) u) n at is) in
          omega (arith, one, l)) ∙ h.placed u n l is
