-- Entries in the order of their specifiers' bytes, one more at a time.
use Rattle.std.proofs.Common.{◌≡◌, ◌∙◌, ◌+◌, ◌≤◌, ◌⊎◌, inl, inr, refl, sym, ap, subst, Bool, true, false, List, [], ◌∷◌, length, Option, Some, None, arith}
use Rattle.std.specs.Prelude.{bytes_eq, ◌||◌}
use Rattle.std.specs.List.{AllByRecursion, IsDistinct}
use Rattle.std.specs.List.Sorted.{IsStrictlySortedBy}
use Rattle.std.specs.Ordering.{nat_cmp, is_eq, ordering_reverse}
use Rattle.std.specs.declared.cmp.Ordering.{Ordering}
use Rattle.std.specs.declared.cmp.Ordering.TheVariants.{Less, Equal, Greater}
use Rattle.std.specs.Cmp.Lexicographic.{slice_cmp, nat_list_eq_equiv}
use Rattle.std.proofs.lemmas.Cmp.{nat_list_cmp_total}
use Rattle.std.proofs.lemmas.Map.Text.{is_eq-slice_cmp}
use Rattle.url.specs.Parts.{Parts}
use Rattle.graph_entry.specs.declared.entry.Entry.{Entry}
use Rattle.graph_entry.specs.Specifier.{text_of}
use Rattle.graph_builder.specs.Reach.{Specifier, has}
use Rattle.graph_builder.specs.Graph.{members_of, IsAscending}
use Rattle.graph_vendor.specs.Names.{Entries}
use Rattle.graph_vendor.proofs.vendored.Lists.{text_is, or_later}

abbrev order : Specifier → Specifier → Ordering
order s t = slice_cmp nat_cmp s t

-- the entries with one more at its place, unless its specifier has one
abbrev put_by : Ordering → Parts × Entry → Parts × Entry → Entries → Entries → Entries
put_by Less e x xs rest = e ∷ x ∷ xs
put_by Equal e x xs rest = x ∷ xs
put_by Greater e x xs rest = x ∷ rest

abbrev pub put : Parts × Entry → Entries → Entries
put e [] = e ∷ []
put e (x ∷ xs) = put_by (order (text_of e.0) (text_of x.0)) e x xs (put e xs)

-- there is one more at most
pub put_few : (e : Parts × Entry) (es : Entries) → length (put e es) ≤ length es + 1
put_few e [] = omega arith
put_few e (x ∷ xs) = by (order (text_of e.0) (text_of x.0)) (put_few e xs)
  where
    by : (o : Ordering) → length (put e xs) ≤ length xs + 1
        → length (put_by o e x xs (put e xs)) ≤ length (x ∷ xs) + 1
    by Less rest = omega arith
    by Equal rest = omega arith
    by Greater rest = omega (arith, rest)

-- what holds of all and of the new one holds of all then
pub all_put : (Q : Parts × Entry → Type 0) (e : Parts × Entry) (es : Entries) → Q e → AllByRecursion Q es
    → AllByRecursion Q (put e es)
all_put Q e [] here all = (here, tt)
all_put Q e (x ∷ xs) here all = by (order (text_of e.0) (text_of x.0)) (all_put Q e xs here all.1)
  where
    by : (o : Ordering) → AllByRecursion Q (put e xs) → AllByRecursion Q (put_by o e x xs (put e xs))
    by Less rest = (here, all)
    by Equal rest = all
    by Greater rest = (all.0, rest)

-- ---- they stay in order

abbrev Behind : Specifier → Entries → Type 0
Behind s es = AllByRecursion (λ t. order s t ≡ Less) (members_of es)

behind_put : (s : Specifier) (e : Parts × Entry) (es : Entries) → order s (text_of e.0) ≡ Less → Behind s es
    → Behind s (put e es)
behind_put s e [] here all = (here, tt)
behind_put s e (x ∷ xs) here all = by (order (text_of e.0) (text_of x.0)) (behind_put s e xs here all.1)
  where
    by : (o : Ordering) → Behind s (put e xs) → Behind s (put_by o e x xs (put e xs))
    by Less rest = (here, all)
    by Equal rest = all
    by Greater rest = (all.0, rest)

behind_less : (s t : Specifier) (es : Entries) → order s t ≡ Less → Behind t es → Behind s es
behind_less s t [] less all = tt
behind_less s t (x ∷ xs) less all =
    (nat_list_cmp_total.trans s t (text_of x.0) less all.0, behind_less s t xs less all.1)

turned : (s t : Specifier) → order s t ≡ Greater → order t s ≡ Less
turned s t e = nat_list_cmp_total.antisymm t s ∙ ap ordering_reverse e

pub ascending_put : (e : Parts × Entry) (es : Entries) → IsAscending es → IsAscending (put e es)
unfolding IsStrictlySortedBy
ascending_put e [] up = (tt, tt)
ascending_put e (x ∷ xs) up =
    by (order (text_of e.0) (text_of x.0)) refl (ascending_put e xs up.1)
  where
    by : (o : Ordering) → order (text_of e.0) (text_of x.0) ≡ o → IsAscending (put e xs)
        → IsAscending (put_by o e x xs (put e xs))
    by Less is rest = ((is, behind_less (text_of e.0) (text_of x.0) xs is up.0), up)
    by Equal is rest = up
    by Greater is rest = (behind_put (text_of x.0) e xs (turned (text_of e.0) (text_of x.0) is) up.0, rest)

-- ---- they have the new one, and those before

same_order : (s t : Specifier) → order s t ≡ Equal → bytes_eq s t ≡ true
same_order s t e = sym (is_eq-slice_cmp s t) ∙ ap is_eq e

pub put_there : (e : Parts × Entry) (es : Entries) → has (members_of (put e es)) (text_of e.0) ≡ true
put_there e [] = ap (λ (b : Bool). b || false) (nat_list_eq_equiv.refl (text_of e.0))
put_there e (x ∷ xs) = by (order (text_of e.0) (text_of x.0)) refl (put_there e xs)
  where
    by : (o : Ordering) → order (text_of e.0) (text_of x.0) ≡ o → has (members_of (put e xs)) (text_of e.0) ≡ true
        → has (members_of (put_by o e x xs (put e xs))) (text_of e.0) ≡ true
    by Less is rest =
        ap (λ (b : Bool). b || has (members_of (x ∷ xs)) (text_of e.0)) (nat_list_eq_equiv.refl (text_of e.0))
    by Equal is rest =
        ap (λ (b : Bool). b || has (members_of xs) (text_of e.0)) (same_order (text_of e.0) (text_of x.0) is)
    by Greater is rest =
        or_later (bytes_eq (text_of e.0) (text_of x.0)) (has (members_of (put e xs)) (text_of e.0)) rest

pub put_keeps : (e : Parts × Entry) (es : Entries) (t : Specifier) → has (members_of es) t ≡ true
    → has (members_of (put e es)) t ≡ true
put_keeps e [] t h = absurd (let bad : ⊥ = cc in bad)
put_keeps e (x ∷ xs) t h = by (order (text_of e.0) (text_of x.0)) (put_keeps e xs t)
  where
    on : (b : Bool) → (has (members_of xs) t ≡ true → has (members_of (put e xs)) t ≡ true)
        → (b || has (members_of xs) t) ≡ true → (b || has (members_of (put e xs)) t) ≡ true
    on true rest k = refl
    on false rest k = rest k

    by : (o : Ordering) → (has (members_of xs) t ≡ true → has (members_of (put e xs)) t ≡ true)
        → has (members_of (put_by o e x xs (put e xs))) t ≡ true
    by Less rest = or_later (bytes_eq t (text_of e.0)) (has (members_of (x ∷ xs)) t) h
    by Equal rest = h
    by Greater rest = on (bytes_eq t (text_of x.0)) rest h
