-- Lists of names as sets.
use Rattle.std.specs.Prelude.{ℕ, Bool, true, false, not, ◌&&◌, ◌||◌, cond, List, [], ◌∷◌, ◌++◌, filter, bytes_eq, if◌then◌else◌}
use Rattle.std.specs.List.{list_any, AllByRecursion}
use Rattle.std.specs.List.Sorted.{IsStrictlySortedBy}
use Rattle.std.specs.BTreeMap.{is_at}
use Rattle.std.specs.BTreeSet.{BTreeSet, IsEmpty, IsOrdered, Updates}
use Rattle.std.specs.Cmp.Lexicographic.{slice_cmp, nat_list_eq_equiv}
use Rattle.std.specs.Ordering.{nat_cmp}
use Rattle.std.specs.declared.cmp.Ordering.TheVariants.{Less}
use Rattle.std.proofs.Common.{◌≡◌, refl, sym, ap, subst, ◌∙◌}
use Rattle.std.proofs.lemmas.Map.Text.{is_eq-slice_cmp}
use Rattle.std.proofs.lemmas.Slice.Eq.{bytes_eq-Decides}
use Rattle.cjs_facts.specs.Exports.{has, Ascends, AreNames}
use Rattle.cjs_exports.specs.names.Sets.{lacks, Holds}

abbrev Name : Type 0
Name = List ℕ

-- whether a set has a name
member_by : (a b c d : Bool) → a ≡ b → c ≡ d → (a || c) ≡ (if b then true else d)
member_by true true c d e f = refl
member_by true false c d e f = let bad : ⊥ = cc in absurd bad
member_by false true c d e f = let bad : ⊥ = cc in absurd bad
member_by false false c d e f = f

member : (xs : List Name) (q : Name) → list_any (is_at (slice_cmp nat_cmp q)) xs ≡ has xs q
member [] q = refl
member (x ∷ xs) q =
    member_by (is_at (slice_cmp nat_cmp q) x) (bytes_eq x q) (list_any (is_at (slice_cmp nat_cmp q)) xs) (has xs q)
    (is_eq-slice_cmp q x ∙ nat_list_eq_equiv.symm q x) (member xs q)

lacks_is : (others : List Name) (q : Name) → lacks others q ≡ not (has others q)
lacks_is others q = ap not (member others q)

-- members of a filtered list
here : (others : List Name) (x q : Name) (b : Bool) → lacks others x ≡ b → x ≡ q → not (has others q) ≡ b
here others x q b l e = ap (λ (y : Name). not (has others y)) (sym e) ∙ (sym (lacks_is others x) ∙ l)

none_left : (b c : Bool) → c ≡ false → (b && c) ≡ c
none_left true c h = refl
none_left false c h = sym h

filtered_by : (others : List Name) (x : Name) (xs : List Name) (q : Name) (b : Bool) → bytes_eq x q ≡ b → (c : Bool)
    → lacks others x ≡ c → has (filter (lacks others) xs) q ≡ (has xs q && not (has others q))
    → has (cond c (x ∷ filter (lacks others) xs) (filter (lacks others) xs)) q
    ≡ ((if b then true else has xs q) && not (has others q))
filtered_by others x xs q true e true l ih =
    ap (λ (b : Bool). if b then true else has (filter (lacks others) xs) q) e
    ∙ sym (here others x q true l ((bytes_eq-Decides x q).0 e))
filtered_by others x xs q true e false l ih =
    ih
    ∙ none_left (has xs q) (not (has others q)) (here others x q false l ((bytes_eq-Decides x q).0 e))
filtered_by others x xs q false e true l ih =
    ap (λ (b : Bool). if b then true else has (filter (lacks others) xs) q) e ∙ ih
filtered_by others x xs q false e false l ih = ih

filtered : (others xs : List Name) (q : Name)
    → has (filter (lacks others) xs) q ≡ (has xs q && not (has others q))
filtered others [] q = refl
filtered others (x ∷ xs) q =
    filtered_by others x xs q (bytes_eq x q) refl (lacks others x) refl (filtered others xs q)

-- what is left ascends
abbrev Below : Name → List Name → Type 0
Below x ys = AllByRecursion (λ y. slice_cmp nat_cmp x y ≡ Less) ys

below_by : (b : Bool) (x y : Name) (ys : List Name) → slice_cmp nat_cmp x y ≡ Less → Below x ys
    → Below x (cond b (y ∷ ys) ys)
below_by true x y ys h k = (h, k)
below_by false x y ys h k = k

below : (p : Name → Bool) (x : Name) (xs : List Name) → Below x xs → Below x (filter p xs)
below p x [] h = tt
below p x (y ∷ ys) h = below_by (p y) x y (filter p ys) h.0 (below p x ys h.1)

front : (x : Name) (ys : List Name) → Below x ys → Ascends ys → Ascends (x ∷ ys)
front x [] h k = tt
front x (y ∷ ys) h k = (h.0, k)

ascends_by : (b : Bool) (x : Name) (ys : List Name) → Below x ys → Ascends ys → Ascends (cond b (x ∷ ys) ys)
ascends_by true x ys h k = front x ys h k
ascends_by false x ys h k = k

ascends : (p : Name → Bool) (xs : List Name) → IsStrictlySortedBy (slice_cmp nat_cmp) xs → Ascends (filter p xs)
unfolding IsStrictlySortedBy
ascends p [] h = tt
ascends p (x ∷ xs) h = ascends_by (p x) x (filter p xs) (below p x xs h.0) (ascends p xs h.1)

-- ---- a set of the names so far
pub holds_none : (set : BTreeSet Name) → IsEmpty set → Holds set []
holds_none set e = record { members = λ q. ap (λ (ks : List Name). has ks q) e }

has_last : (ys : List Name) (k q : Name) → has (ys ++ k ∷ []) q ≡ (if bytes_eq k q then true else has ys q)
has_last [] k q = refl
has_last (y ∷ ys) k q = last_by (bytes_eq y q) (bytes_eq k q) (has ys q) (has (ys ++ k ∷ []) q) (has_last ys k q)
  where
    last_by : (b c d e : Bool) → e ≡ (if c then true else d)
        → (if b then true else e) ≡ (if c then true else (if b then true else d))
    last_by true true d e h = refl
    last_by true false d e h = refl
    last_by false c d e h = h

added_by : (a b : Bool) (c d : Bool) → a ≡ b → c ≡ d → cond a true c ≡ (if b then true else d)
added_by true true c d e f = refl
added_by true false c d e f = let bad : ⊥ = cc in absurd bad
added_by false true c d e f = let bad : ⊥ = cc in absurd bad
added_by false false c d e f = f

pub holds_more : (old new : BTreeSet Name) (ys : List Name) (k : Name) → Holds old ys
    → Updates (slice_cmp nat_cmp) old new k true → Holds new (ys ++ k ∷ [])
holds_more old new ys k h u = record {
  members = λ q.
      sym (member new.keys q)
      ∙ (u.0 q
      ∙ (added_by (is_at (slice_cmp nat_cmp k) q) (bytes_eq k q) (list_any (is_at (slice_cmp nat_cmp q)) old.keys)
      (has ys q) (is_eq-slice_cmp k q) (member old.keys q ∙ h.members q)
      ∙ sym (has_last ys k q)));
}

pub are_names : (found unsafe_getters left : List Name) (names others : BTreeSet Name) → Holds names found
    → IsOrdered (slice_cmp nat_cmp) names → Holds others unsafe_getters → left ≡ filter (lacks others.keys) names.keys
    → AreNames found unsafe_getters left
are_names found unsafe_getters left names others f o u e = record {
  ascends = subst Ascends (sym e) (ascends (lacks others.keys) names.keys o);
  members = λ q.
      ap (λ (l : List Name). has l q) e
      ∙ (filtered others.keys names.keys q
      ∙ (ap (λ (b : Bool). b && not (has others.keys q)) (f.members q)
      ∙ ap (λ (b : Bool). has found q && not b) (u.members q)));
}
