-- One name more, and whether a name is one of these.
use Rattle.std.specs.Prelude.{ℕ, ◌==◌, Bool, true, false, ◌&&◌, ◌||◌, List, [], ◌∷◌, ◌++◌, if◌then◌else◌, bytes_eq, String, Vec}
use Rattle.std.specs.HashMap.{HashMap}
use Rattle.std.proofs.Common.{◌≡◌, refl, sym, ap, ◌∙◌}
use Rattle.dts_rules.specs.Sets.{Id, same_id, is_in, where_}
use Rattle.dts_sets.specs.Ids.{numbers_at, extra, has_number, holds, Extends}

pub or_false : (b : Bool) → (b || false) ≡ b
or_false true = refl
or_false false = refl

or_assoc : (a b c : Bool) → ((a || b) || c) ≡ (a || (b || c))
or_assoc true b c = refl
or_assoc false b c = refl

has_both : (a b : List ℕ) (n : ℕ) → has_number (a ++ b) n ≡ (has_number a n || has_number b n)
has_both [] b n = refl
has_both (m ∷ a) b n =
    ap (λ rest. m == n || rest) (has_both a b n) ∙ sym (or_assoc (m == n) (has_number a n) (has_number b n))

has_extra : (same : Bool) (number n : ℕ)
    → has_number (if same then number ∷ [] else []) n ≡ ((same && number == n) || false)
has_extra true number n = refl
has_extra false number n = refl

in_both : (a b : List Id) (id : Id) → is_in (a ++ b) id ≡ (is_in a id || is_in b id)
in_both [] b id = refl
in_both (x ∷ a) b id =
    ap (λ rest. same_id x id || rest) (in_both a b id) ∙ sym (or_assoc (same_id x id) (is_in a id) (is_in b id))

module _ {A B S : Type 0} where
  pub extends_one : (old new : HashMap (String A) (Vec ℕ B) S) (key name : List ℕ) (number : ℕ)
      → ((q : List ℕ) → numbers_at new q ≡ numbers_at old q ++ extra key number q) → key ≡ name
      → Extends old new (where_ true (name, number))
  extends_one old new key name number one same = λ id.
      ap (λ ns. has_number ns id.1) (one id.0)
      ∙ has_both (numbers_at old id.0) (extra key number id.0) id.1
      ∙ ap (λ more. has_number (numbers_at old id.0) id.1 || more)
      (has_extra (bytes_eq key id.0) number id.1 ∙ ap (λ k. (bytes_eq k id.0 && number == id.1) || false) same)

  pub extends_none : (ids : HashMap (String A) (Vec ℕ B) S) (name : List ℕ) (number : ℕ)
      → Extends ids ids (where_ false (name, number))
  extends_none ids name number = λ id. sym (or_false (holds ids id))

  pub extends_same : (ids : HashMap (String A) (Vec ℕ B) S) → Extends ids ids []
  extends_same ids = λ id. sym (or_false (holds ids id))

  pub extends_both : (old mid new : HashMap (String A) (Vec ℕ B) S) (a b : List Id) → Extends old mid a
      → Extends mid new b
      → Extends old new (a ++ b)
  extends_both old mid new a b e f = λ id.
      f id ∙ ap (λ before. before || is_in b id) (e id) ∙ or_assoc (holds old id) (is_in a id) (is_in b id)
      ∙ ap (λ more. holds old id || more) (sym (in_both a b id))

-- ---- a number among others
pub has_none : (ns all : List ℕ) (n : ℕ) → ns ≡ [] → has_number ns n ≡ has_number all n → false ≡ has_number all n
has_none ns all n e left = sym (ap (λ ns. has_number ns n) e) ∙ left

pub has_first : (ns all rest : List ℕ) (a n : ℕ) → ns ≡ a ∷ rest → (a == n) ≡ true → has_number ns n ≡ has_number all n
    → true ≡ has_number all n
has_first ns all rest a n e here left =
    sym (ap (λ ns. has_number ns n) e ∙ ap (λ b. b || has_number rest n) here) ∙ left

pub has_other : (ns all rest : List ℕ) (a n : ℕ) → ns ≡ a ∷ rest → (a == n) ≡ false → has_number ns n ≡ has_number all n
    → has_number rest n ≡ has_number all n
has_other ns all rest a n e here left =
    sym (ap (λ ns. has_number ns n) e ∙ ap (λ b. b || has_number rest n) here) ∙ left
