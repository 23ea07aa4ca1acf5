-- Whether a range is listed: ranges as the keys of a set.
use Rattle.std.specs.Prelude.{◌||◌, ◌&&◌, ◌==◌}
use Rattle.std.specs.List.{list_any}
use Rattle.std.specs.Ordering.{nat_cmp, is_eq, match_ordering, ordering_then}
use Rattle.std.specs.BTreeMap.{is_at}
use Rattle.std.specs.BTreeSet.{insert_key}
use Rattle.std.specs.Cmp.{unsigned_tied}
use Rattle.std.specs.declared.cmp.Ordering.{Ordering}
use Rattle.std.specs.declared.cmp.Ordering.TheVariants.{Less, Equal, Greater}
use Rattle.std.proofs.Common.{◌≡◌, refl, sym, ap, ◌∙◌, ℕ, Bool, true, false, List, [], ◌∷◌, arith}
use Rattle.std.proofs.lemmas.Bool.{false≢true}
use Rattle.std.proofs.lemmas.Bool.Decides.{Decides-eqb}
use Rattle.base.specs.declared.range.Range.{Range}
use Rattle.dts_rules.specs.Rules as rules
use Rattle.dts_rules.specs.Ranges.{has_range, same_range}
use Rattle.dts_members.specs.Overloads.{Overloads}

-- ranges in order
abbrev pub by_ends : Range → Range → Ordering
by_ends a b = ordering_then (nat_cmp a.start b.start) (nat_cmp a.end b.end)

-- ---- one range
both_tied : (o p : Ordering) → is_eq (ordering_then o p) ≡ (is_eq o && is_eq p)
both_tied Less p = refl
both_tied Equal p = refl
both_tied Greater p = refl

tied : (x y : ℕ) → is_eq (nat_cmp x y) ≡ (y == x)
tied x y = unsigned_tied x y ∙ turned x y
  where
    turned : (x y : ℕ) → (x == y) ≡ (y == x)
    turned x y = grind arith

same_by_ends : (a b : Range) → same_range a b ≡ is_eq (by_ends b a)
same_by_ends a b =
    sym (both_tied (nat_cmp b.start a.start) (nat_cmp b.end a.end)
    ∙ rw (tied b.start a.start) (rw (tied b.end a.end) refl))

first_or_other : (a : Range) (others : List Range) (r : Range)
    → has_range (a ∷ others) r ≡ (same_range a r || has_range others r)
first_or_other a others r = by (same_range a r) refl
  where
    by : (b : Bool) → same_range a r ≡ b → has_range (a ∷ others) r ≡ (same_range a r || has_range others r)
    by true e = rw e refl
    by false e = rw e refl

both_hold : (a b : Bool) → (a && b) ≡ true → (a ≡ true) × (b ≡ true)
both_hold true true h = (refl, refl)
both_hold true false h = absurd (false≢true h)
both_hold false b h = absurd (false≢true h)

alike : (x k r : Range) → same_range x k ≡ true → same_range k r ≡ same_range x r
alike x k r h =
    let both : ((x.start == k.start) ≡ true) × ((x.end == k.end) ≡ true) =
    both_hold (x.start == k.start) (x.end == k.end) h in
    rw (← (Decides-eqb x.start k.start).0 both.0) (rw (← (Decides-eqb x.end k.end).0 both.1) refl)

-- ---- a list
pub listed : (ks : List Range) (r : Range) → has_range ks r ≡ list_any (is_at (by_ends r)) ks
listed [] r = refl
listed (a ∷ ks) r = first_or_other a ks r ∙ rw (same_by_ends a r) (rw (listed ks r) refl)

pub inserted : (ks : List Range) (k r : Range)
    → has_range (insert_key by_ends ks k) r ≡ (same_range k r || has_range ks r)
inserted [] k r = first_or_other k [] r
inserted (x ∷ xs) k r = by (by_ends k x) refl (inserted xs k r)
  where
    swap : (a b c : Bool) → (a || (b || c)) ≡ (b || (a || c))
    swap true true c = refl
    swap true false c = refl
    swap false true c = refl
    swap false false c = refl

    twice : (a c : Bool) → (a || c) ≡ (a || (a || c))
    twice true c = refl
    twice false c = refl

    by : (o : Ordering) → by_ends k x ≡ o
        → has_range (insert_key by_ends xs k) r ≡ (same_range k r || has_range xs r)
        → has_range (match_ordering o (k ∷ x ∷ xs) (x ∷ xs) (x ∷ insert_key by_ends xs k)) r
        ≡ (same_range k r || has_range (x ∷ xs) r)
    by Less is rest = first_or_other k (x ∷ xs) r
    by Equal is rest =
        first_or_other x xs r
        ∙ (twice (same_range x r) (has_range xs r)
        ∙ rw (alike x k r (same_by_ends x k ∙ ap is_eq is)) (rw (first_or_other x xs r) refl))
    by Greater is rest =
        first_or_other x (insert_key by_ends xs k) r
        ∙ rw rest (swap (same_range x r) (same_range k r) (has_range xs r) ∙ rw (first_or_other x xs r) refl)

-- ---- bodies of overloads
-- what the rules say of a range that is listed, or not
pub implemented : (ranges : List Range) (by : rules.Env) (r s : Range) (here there : Bool) → Overloads ranges by → s ≡ r
    → has_range ranges s ≡ here → here ≡ there → by.implements r ≡ there
implemented ranges by r s here there known e h is =
    ap (λ (r : Range). by.implements r) (sym e) ∙ (known.are s ∙ (h ∙ is))
