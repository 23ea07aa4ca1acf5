-- The test of numbers tells whether they name literals.
use Rattle.std.proofs.Common.{◌≡◌, ℕ, ◌+◌, ◌≤◌, Bool, true, false, not, ◌&&◌, List, [], ◌∷◌, slice_get, Option, Some, None, refl, sym, ◌∙◌, ap, arith, leb-true, ◌⊎◌, inl, inr}
use Rattle.std.specs.Prelude.{nat_le, String}
use Rattle.std.proofs.lemmas.Bool.{true≢false}
use Rattle.std.proofs.lemmas.Bool.Decides.{nat_tests}
use Rattle.es_site.specs.declared.site.Site.{Site}
use Rattle.specifier_edits.specs.Sites.{is_reference, IsLiteral}
use Rattle.specifier_edits.specs.Edits.{NamesLiterals, is_named, name_literals}

is_or_not : (b : Bool) → (b ≡ true) ⊎ (b ≡ false)
is_or_not true = inl refl
is_or_not false = inr refl

both_true : (a b : Bool) → (a && b) ≡ true → (a ≡ true) × (b ≡ true)
both_true true b e = (refl, e)
both_true false b e = absurd (true≢false (sym e))

not_true : (b : Bool) → not b ≡ true → b ≡ false
not_true true e = absurd (true≢false (sym e))
not_true false e = refl

at_or_above : (a b : ℕ) → a ≤ b → nat_le a b ≡ true
at_or_above a b l = grind (arith, nat_tests)

-- ---- one number
abbrev Named : List Site → ℕ → ℕ → Type 0
Named sites from number = (site : Site) × (slice_get sites number ≡ Some site) × IsLiteral site × (from ≤ number)

named : (sites : List Site) (from number : ℕ) (o : Option Site) → slice_get sites number ≡ o
    → is_named o from number ≡ true → Named sites from number
named sites from number None e h = absurd (true≢false (sym h))
named sites from number (Some site) e h =
    let both = both_true (not (is_reference site.kind)) (nat_le from number) h in
    (site, e, not_true (is_reference site.kind) both.0, leb-true from number both.1)

is_named_by : (sites : List Site) (from number : ℕ) → Named sites from number
    → is_named (slice_get sites number) from number ≡ true
is_named_by sites from number h =
    ap (λ o. is_named o from number) h.1
    ∙ (ap (λ b. not b && nat_le from number) h.2 ∙ at_or_above from number h.3)

-- ---- all of them
pub names : {A : Type 0} (sites : List Site) (from : ℕ) (changes : List (ℕ × String A))
    → name_literals sites from changes ≡ true
    → NamesLiterals sites from changes
names sites from [] h = tt
names sites from (c ∷ cs) h =
    let both = both_true (is_named (slice_get sites c.0) from c.0) (name_literals sites (c.0 + 1) cs) h in
    let one = named sites from c.0 (slice_get sites c.0) refl both.0 in
    (one.0, one.1, one.2, one.3, names sites (c.0 + 1) cs both.1)

are_named : {A : Type 0} (sites : List Site) (from : ℕ) (changes : List (ℕ × String A))
    → NamesLiterals sites from changes
    → name_literals sites from changes ≡ true
are_named sites from [] h = refl
are_named sites from (c ∷ cs) h =
    ap (λ b. b && name_literals sites (c.0 + 1) cs) (is_named_by sites from c.0 (h.0, h.1, h.2, h.3))
    ∙ are_named sites (c.0 + 1) cs h.4

pub none_named : {A : Type 0} (sites : List Site) (from : ℕ) (changes : List (ℕ × String A))
    → name_literals sites from changes ≡ false → NamesLiterals sites from changes → ⊥
none_named sites from changes h names = true≢false (sym (are_named sites from changes names) ∙ h)
