-- The first number that names no literal, found by going through them.
use Rattle.std.proofs.Common.{◌≡◌, ℕ, zero, suc, ◌+◌, ◌<◌, ◌≤◌, Bool, true, false, List, [], ◌∷◌, slice_get, Option, Some, None, refl, sym, ◌∙◌, subst, arith, if◌then◌else◌}
use Rattle.std.specs.Prelude.{nat_lt, String, MatchOption}
use Rattle.std.proofs.lemmas.Bool.Decides.{nat_tests}
use Rattle.std.proofs.lemmas.Option.{same_Some}
use Rattle.es_site.specs.declared.site.Site.{Site}
use Rattle.specifier_edits.specs.Sites.{is_reference, IsLiteral}
use Rattle.specifier_edits.specs.Edits.{NamesLiterals}
use Rattle.specifier_edits.specs.Faults.{HasFault, IsFirstFault, literal_fault, fault_at, or_later, first_fault}
use Rattle.specifier_edits.specs.declared.numbers.ChangeFault.{ChangeFault}
use Rattle.specifier_edits.specs.declared.numbers.ChangeFault.TheVariants.{NoSite, NoLiteral, NoOrder}

is_below : (a b : ℕ) → nat_lt a b ≡ true → a < b
is_below a b e = grind (arith, nat_tests)

isnt_below : (a b : ℕ) → nat_lt a b ≡ false → b ≤ a
isnt_below a b e = grind (arith, nat_tests)

-- ---- one number
abbrev literal_by : Bool → Bool → Option ChangeFault
literal_by true n = Some NoLiteral
literal_by false n = if n then Some NoOrder else None

by_tests : (r : Bool) (from number : ℕ) → literal_fault r from number ≡ literal_by r (nat_lt number from)
by_tests true from number = refl
by_tests false from number = refl

why : (sites : List Site) (from number : ℕ) (fault : ChangeFault) (site : Site) (r n : Bool)
    → slice_get sites number ≡ Some site → is_reference site.kind ≡ r → nat_lt number from ≡ n
    → literal_by r n ≡ Some fault → HasFault sites from number fault
why sites from number fault site true n at e f is =
    subst (HasFault sites from number) (same_Some NoLiteral fault is) (site, at, e)
why sites from number fault site false true at e f is =
    subst (HasFault sites from number) (same_Some NoOrder fault is) (site, at, e, is_below number from f)
why sites from number fault site false false at e f is = absurd (let bad : ⊥ = cc in bad)

has_fault : (sites : List Site) (from number : ℕ) (fault : ChangeFault) (o : Option Site)
    → slice_get sites number ≡ o → fault_at o from number ≡ Some fault → HasFault sites from number fault
has_fault sites from number fault None at is = subst (HasFault sites from number) (same_Some NoSite fault is) at
has_fault sites from number fault (Some site) at is =
    why sites from number fault site (is_reference site.kind) (nat_lt number from) at refl refl
    (sym (by_tests (is_reference site.kind) from number) ∙ is)

abbrev Names : List Site → ℕ → ℕ → Type 0
Names sites from number = (site : Site) × (slice_get sites number ≡ Some site) × IsLiteral site × (from ≤ number)

free : (sites : List Site) (from number : ℕ) (site : Site) (r n : Bool) → slice_get sites number ≡ Some site
    → is_reference site.kind ≡ r → nat_lt number from ≡ n
    → literal_by r n ≡ None → Names sites from number
free sites from number site true n at e f is = absurd (let bad : ⊥ = cc in bad)
free sites from number site false true at e f is = absurd (let bad : ⊥ = cc in bad)
free sites from number site false false at e f is = (site, at, e, isnt_below number from f)

names : (sites : List Site) (from number : ℕ) (o : Option Site) → slice_get sites number ≡ o
    → fault_at o from number ≡ None → Names sites from number
names sites from number None at is = absurd (let bad : ⊥ = cc in bad)
names sites from number (Some site) at is =
    free sites from number site (is_reference site.kind) (nat_lt number from) at refl refl
    (sym (by_tests (is_reference site.kind) from number) ∙ is)

-- ---- all of them
abbrev Found : {A : Type 0} → List Site → ℕ → ℕ → List (ℕ × String A) → ℕ × ChangeFault → Type 0
Found sites from at changes found = (k : ℕ) × (found.0 ≡ at + k) × IsFirstFault sites from changes k found.1

later : {A : Type 0} (sites : List Site) (from at : ℕ) (change : ℕ × String A) (changes : List (ℕ × String A))
    (o : Option (ℕ × ChangeFault)) → Names sites from change.0
    → MatchOption o (NamesLiterals sites (change.0 + 1) changes) (Found sites (change.0 + 1) (at + 1) changes)
    → MatchOption o (NamesLiterals sites from (change ∷ changes)) (Found sites from at (change ∷ changes))
later sites from at change changes None n h = (n.0, n.1, n.2, n.3, h)
later sites from at change changes (Some found) n h =
    let place : found.0 ≡ at + 1 + h.0 = h.1 in
    (suc h.0, omega (arith, place), (n.0, n.1, n.2, n.3, h.2))

by_fault : {A : Type 0} (sites : List Site) (from at : ℕ) (change : ℕ × String A) (changes : List (ℕ × String A))
    (o : Option ChangeFault) → fault_at (slice_get sites change.0) from change.0 ≡ o
    → MatchOption (first_fault sites (change.0 + 1) (at + 1) changes) (NamesLiterals sites (change.0 + 1) changes)
    (Found sites (change.0 + 1) (at + 1) changes)
    → MatchOption (or_later at o (first_fault sites (change.0 + 1) (at + 1) changes))
    (NamesLiterals sites from (change ∷ changes)) (Found sites from at (change ∷ changes))
by_fault sites from at change changes (Some fault) e h =
    (zero, omega arith, has_fault sites from change.0 fault (slice_get sites change.0) refl e)
by_fault sites from at change changes None e h =
    later sites from at change changes (first_fault sites (change.0 + 1) (at + 1) changes)
    (names sites from change.0 (slice_get sites change.0) refl e) h

found_by : {A : Type 0} (sites : List Site) (from at : ℕ) (changes : List (ℕ × String A))
    → MatchOption (first_fault sites from at changes) (NamesLiterals sites from changes) (Found sites from at changes)
found_by sites from at [] = tt
found_by sites from at (change ∷ changes) =
    by_fault sites from at change changes (fault_at (slice_get sites change.0) from change.0) refl
    (found_by sites (change.0 + 1) (at + 1) changes)

at_first : {A : Type 0} (sites : List Site) (changes : List (ℕ × String A)) (o : Option (ℕ × ChangeFault))
    → MatchOption o (NamesLiterals sites 0 changes) (Found sites 0 0 changes)
    → MatchOption o (NamesLiterals sites 0 changes) (λ found. IsFirstFault sites 0 changes found.0 found.1)
at_first sites changes None h = h
at_first sites changes (Some found) h =
    let place : found.0 ≡ 0 + h.0 = h.1 in
    let same : h.0 ≡ found.0 = omega (arith, place) in
    subst (λ k. IsFirstFault sites 0 changes k found.1) same h.2

pub first_is : {A : Type 0} (sites : List Site) (changes : List (ℕ × String A)) (o : Option (ℕ × ChangeFault))
    → o ≡ first_fault sites 0 0 changes
    → MatchOption o (NamesLiterals sites 0 changes) (λ found. IsFirstFault sites 0 changes found.0 found.1)
first_is sites changes o e =
    subst (λ p. MatchOption p (NamesLiterals sites 0 changes) (λ found. IsFirstFault sites 0 changes found.0 found.1))
    (sym e) (at_first sites changes (first_fault sites 0 0 changes) (found_by sites 0 0 changes))
