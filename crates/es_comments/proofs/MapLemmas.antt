-- Maps of comments: look-ups, and copies entry by entry.
use Rattle.std.proofs.Common.{append_assoc, subst, ◌≡◌, ℕ, List, [], ◌∷◌, ◌++◌, map, refl, sym, ap, ◌∙◌, Vec}
use Rattle.std.specs.Ordering.{nat_cmp, ordering_reverse, match_ordering}
use Rattle.std.specs.declared.cmp.Ordering.{Ordering}
use Rattle.std.specs.declared.cmp.Ordering.TheVariants.{Less, Greater}
use Rattle.std.specs.BTreeMap.{BTreeMap, IsOrdered, is_at, insert_entry}
use Rattle.std.specs.Map.{keys_of}
use Rattle.std.specs.List.{AllByRecursion}
use Rattle.std.specs.List.Sorted.{IsStrictlySortedBy}
use Rattle.std.proofs.lemmas.Cmp.{nat_cmp_total}
use Rattle.std.proofs.lemmas.Map.Keys.{sorted_head, sorted_tail}
use Rattle.std.proofs.lemmas.Map.Made.{lookup-map_values}
use Rattle.es_token.specs.declared.token.Comment.{Comment}
use Rattle.es_comments.specs.Placed.{Places, places_of, comments_at, Ascend}
use Rattle.es_comments.specs.Steps.{in_map}

-- the comments at a place, by the map
pub at_in_map : {A : Type 0} (m : BTreeMap ℕ (Vec Comment A)) (q : ℕ) → comments_at (places_of m) q ≡ in_map m q
at_in_map m q = lookup-map_values (λ v. v.items) (is_at (nat_cmp q)) m.entries

-- the places of a map ascend as its keys do
pub ascends : {A : Type 0} (m : BTreeMap ℕ (Vec Comment A)) → IsOrdered nat_cmp m → Ascend (places_of m)
ascends {A} m o = subst (IsStrictlySortedBy nat_cmp) (same_keys m.entries) o
  where
    same_keys : (es : List (ℕ × Vec Comment A)) → keys_of es ≡ keys_of (map (λ e. (e.0, e.1.items)) es)
    same_keys [] = refl
    same_keys (e ∷ es) = ap (λ (t : List ℕ). e.0 ∷ t) (same_keys es)

module _ {A : Type 0} where
  -- places of entries
  abbrev places : List (ℕ × Vec Comment A) → Places
  places es = map (λ e. (e.0, e.1.items)) es

  less_later : (j k : ℕ) (c : List Comment) (es : List (ℕ × Vec Comment A)) (rest : Places)
      → AllByRecursion (λ y. nat_cmp j y ≡ Less) (keys_of (places es ++ (k, c) ∷ rest)) → nat_cmp j k ≡ Less
  less_later j k c [] rest h = h.0
  less_later j k c (e ∷ es) rest h = less_later j k c es rest h.1

  -- a place behind all others goes to the end
  insert_last : (k : ℕ) (v : Vec Comment A) (c : List Comment) (es : List (ℕ × Vec Comment A)) (rest : Places)
      → v.items ≡ c → Ascend (places es ++ (k, c) ∷ rest)
      → places (insert_entry nat_cmp es k v) ≡ places es ++ (k, c) ∷ []
  insert_last k v c [] rest is s = ap (λ (t : List Comment). (k, t) ∷ []) is
  insert_last k v c (e ∷ es) rest is s =
      let less : nat_cmp e.0 k ≡ Less =
      less_later e.0 k c es rest (sorted_head nat_cmp e.0 (keys_of (places es ++ (k, c) ∷ rest)) s) in
      let greater : nat_cmp k e.0 ≡ Greater = nat_cmp_total.antisymm k e.0 ∙ ap ordering_reverse less in
      let later : Ascend (places es ++ (k, c) ∷ rest) =
      sorted_tail nat_cmp e.0 (keys_of (places es ++ (k, c) ∷ rest)) s in
      at_greater (nat_cmp k e.0) greater (insert_last k v c es rest is later)
    where
      at_greater : (o : Ordering) → o ≡ Greater
          → places (insert_entry nat_cmp es k v) ≡ places es ++ (k, c) ∷ []
          → places (match_ordering o ((k, v) ∷ e ∷ es) ((e.0, v) ∷ es) (e ∷ insert_entry nat_cmp es k v))
          ≡ (e.0, e.1.items) ∷ (places es ++ (k, c) ∷ [])
      at_greater o h ih = rw h (ap (λ (t : Places). (e.0, e.1.items) ∷ t) ih)

  -- one entry more was copied
  pub copied_more : (m copy new : BTreeMap ℕ (Vec Comment A)) (k : ℕ) (v w : Vec Comment A)
      (left rest : List (ℕ × Vec Comment A)) → IsOrdered nat_cmp m
      → places_of copy ++ places left ≡ places_of m → left ≡ (k, v) ∷ rest → w.items ≡ v.items
      → new.entries ≡ insert_entry nat_cmp copy.entries k w → places_of new ++ places rest ≡ places_of m
  copied_more m copy new k v w left rest o h first same put =
      let whole : places_of copy ++ (k, v.items) ∷ places rest ≡ places_of m =
      ap (λ es. places_of copy ++ places es) (sym first) ∙ h in
      let ascending : Ascend (places copy.entries ++ (k, v.items) ∷ places rest) =
      subst Ascend (sym whole) (ascends m o) in
      ap (λ es. places es ++ places rest) put
      ∙ ap (λ (es : Places). es ++ places rest) (insert_last k w v.items copy.entries (places rest) same ascending)
      ∙ append_assoc (places_of copy) ((k, v.items) ∷ []) (places rest) ∙ whole
