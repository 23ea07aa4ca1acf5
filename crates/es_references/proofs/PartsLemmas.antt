-- Parts of the text of a comment.
use Rattle.std.proofs.Common.{◌≡◌, ◌≢◌, ℕ, zero, suc, ◌<◌, Bool, true, false, add-one, List, [], ◌∷◌, drop, length, get_or, ap, sym, subst, refl, Bor, Some, None, MatchOption, nat_eq, arith}
use Rattle.std.specs.Prelude.{Option, IsUtf8, ◌==◌, ◌||◌}
use Rattle.std.specs.Option.{option_copied}
use Rattle.std.specs.Str.{IsCharBoundary}
use Rattle.std.specs.Str.Pattern.{FindsTextPrefix, StripsPrefix}
use Rattle.std.specs.List.{starts_with, prefix_len}
use Rattle.std.proofs.lemmas.Str.{IsCharBoundary-after_ascii}
use Rattle.std.proofs.lemmas.Str.Pattern.{starts_text}
use Rattle.std.proofs.lemmas.List.Sums.{prefix_len_passes, prefix_len-le-length}
use Rattle.std.proofs.lemmas.Bool.{eqb-true}
use Rattle.es_references.specs.References.{is_blank, behind, quoted, closed_by}

-- the text behind a front, both ways
pub behind_given : (text front : List ℕ) (r : Option (Bor (List ℕ)))
    → MatchOption r (FindsTextPrefix front text None) (λ x. StripsPrefix (FindsTextPrefix front) text x.now)
    → option_copied r ≡ behind front text
behind_given text front None lacks =
    let no : starts_with nat_eq text front ≡ false = sym (starts_text false front text lacks) in rw no refl
behind_given text front (Some rest) strips =
    let found = strips.1 in
    let boundary = subst (IsCharBoundary text) (sym found.0) found.2 in
    let yes : starts_with nat_eq text front ≡ true = sym (starts_text true front text (strips.0, found, boundary)) in
    rw yes (ap Some (subst (λ n. rest.now ≡ drop n text) found.0 strips.2))

-- ---- quotes

pub quoted-double : (text rest : List ℕ) → text ≡ 34 ∷ rest → quoted text ≡ closed_by 34 39 rest
quoted-double text rest e = ap quoted e

pub quoted-single : (text rest : List ℕ) → text ≡ 39 ∷ rest → quoted text ≡ closed_by 39 34 rest
quoted-single text rest e = ap quoted e

pub quoted-other : (text : List ℕ) → ((rest : List ℕ) → text ≢ 34 ∷ rest) → ((rest : List ℕ) → text ≢ 39 ∷ rest)
    → quoted text ≡ None
quoted-other [] double single = refl
quoted-other (b ∷ text) double single =
    let no_double : b ≢ 34 = λ e. double text (ap (λ x. x ∷ text) e) in
    let no_single : b ≢ 39 = λ e. single text (ap (λ x. x ∷ text) e) in
    grind (arith, no_double, no_single)

-- ---- blanks

blank-low : (b : ℕ) → is_blank b ≡ true → b < 128
blank-low b is = by (b == 32) (b == 9) refl refl is
  where
    by : (space tab : Bool) → (b == 32) ≡ space → (b == 9) ≡ tab → (space || tab) ≡ true → b < 128
    by true tab p q is = omega (arith, eqb-true b 32 p)
    by false true p q is = omega (arith, eqb-true b 9 q)
    by false false p q is = cc

-- the text may be cut behind its blanks
pub blank_boundary : (text : List ℕ) (n : ℕ) → IsUtf8 text → n ≡ prefix_len is_blank text → 0 < n
    → IsCharBoundary text n
blank_boundary text zero utf8 is some = absurd (omega arith)
blank_boundary text (suc n) utf8 is some =
    let within : n < length text = omega (arith, prefix_len-le-length is_blank text) in
    let low : get_or text n 0 < 128
    = blank-low (get_or text n 0) (prefix_len_passes is_blank text n 0 (omega arith)) in
    subst (IsCharBoundary text) (add-one n) (IsCharBoundary-after_ascii text n utf8 within low)
