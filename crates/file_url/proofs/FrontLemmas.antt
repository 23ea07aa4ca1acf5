-- What stands behind a front of a text.
use Rattle.std.proofs.Common.{◌≡◌, ◌≢◌, ℕ, true, false, List, [], ◌∷◌, drop, length, get_or, ap, sym, subst, Bor, Some, None, MatchOption, nat_eq}
use Rattle.std.specs.Prelude.{Option}
use Rattle.std.specs.Str.{IsCharBoundary}
use Rattle.std.specs.Str.Pattern.{FindsTextPrefix, StripsPrefix}
use Rattle.std.specs.List.{starts_with}
use Rattle.std.proofs.lemmas.Str.Pattern.{starts_text}

-- a text without a front of it, both ways
pub after_text : (text front : List ℕ) (r : Option (Bor (List ℕ)))
    → MatchOption r (FindsTextPrefix front text None) (λ x. StripsPrefix (FindsTextPrefix front) text x.now)
    → MatchOption r (starts_with nat_eq text front ≡ false)
    (λ rest. (starts_with nat_eq text front ≡ true) × (rest.now ≡ drop (length front) text))
after_text text front None lacks = sym (starts_text false front text lacks)
after_text text front (Some rest) strips =
    let found = strips.1 in
    let boundary = subst (IsCharBoundary text) (sym found.0) found.2 in (
      sym (starts_text true front text (strips.0, found, boundary)),
      subst (λ n. rest.now ≡ drop n text) found.0 strips.2,
    )

-- what follows a slash
pub after_slash : (path rest : List ℕ) → path ≡ 47 ∷ rest → rest ≡ drop 1 path
after_slash path rest e = sym (ap (drop 1) e)

-- a path whose first byte is a slash begins with one
pub has_slash : (path : List ℕ) → get_or path 0 0 ≡ 47 → ((rest : List ℕ) → path ≢ 47 ∷ rest) → ⊥
has_slash [] first lacks = cc
has_slash (b ∷ path) first lacks = lacks path (ap (λ x. x ∷ path) first)
