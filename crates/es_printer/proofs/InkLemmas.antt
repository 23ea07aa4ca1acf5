-- Parts of a source side by side.
use Rattle.std.specs.Prelude.{ℕ, ◌+◌, ◌-◌, ◌<◌, ◌≤◌, Bool, true, false, List, [], ◌∷◌, ◌++◌, take, drop, slice_get, slice_range, Some}
use Rattle.std.proofs.Common.{◌≡◌, sym, ap, ◌∙◌, arith}
use Rattle.std.proofs.lemmas.List.{append_assoc, drop-drop}
use Rattle.std.proofs.lemmas.Option.{slice_get_within, get_or_from_slice_get}
use Rattle.std.proofs.Math.Seq.{take-add, drop-cons}
use Rattle.es_printer.specs.Inked.{between}

-- two parts side by side
beside : (xs : List ℕ) (a b c : ℕ) → a ≤ b → b ≤ c → slice_range xs a b ++ slice_range xs b c ≡ slice_range xs a c
beside xs a b c p q =
    let e : c - a ≡ (b - a) + (c - b) = omega (arith, p, q) in
    let at : a + (b - a) ≡ b = omega (arith, p) in
    sym (ap (λ n. take n (drop a xs)) e ∙ take-add (b - a) (c - b) (drop a xs)
    ∙ ap (λ l. slice_range xs a b ++ take (c - b) l) (drop-drop (b - a) a xs ∙ ap (λ n. drop n xs) at))

pub none_taken : (xs : List ℕ) (a : ℕ) → slice_range xs a a ≡ []
none_taken xs a =
    let none : a - a ≡ 0 = omega arith in
    ap (λ n. take n (drop a xs)) none

-- more of the source behind a part that is taken
pub taken : (old xs : List ℕ) (from to start end : ℕ) (blank : Bool) → from ≤ to → to ≤ start → start ≤ end
    → slice_range xs to start ≡ between blank
    → old ++ slice_range xs from end ≡ (old ++ slice_range xs from to) ++ (between blank ++ slice_range xs start end)
taken old xs from to start end blank p q r is =
    ap (◌++◌ old) (sym (beside xs from to end p (omega (arith, q, r)))
    ∙ ap (◌++◌ (slice_range xs from to))
    (sym (beside xs to start end q r) ∙ ap (λ s. s ++ slice_range xs start end) is))
    ∙ sym (append_assoc old (slice_range xs from to) (between blank ++ slice_range xs start end))

pub no_blank : (xs : List ℕ) (to start : ℕ) → start ≡ to → slice_range xs to start ≡ between false
no_blank xs to start e = ap (slice_range xs to) e ∙ none_taken xs to

pub one_blank : (xs : List ℕ) (to start : ℕ) → to < start → start - to ≡ 1 → slice_get xs to ≡ Some 32
    → slice_range xs to start ≡ between true
one_blank xs to start p q is =
    ap (λ n. take n (drop to xs)) q ∙ ap (take 1) (drop-cons xs to 0 (slice_get_within xs to 32 is))
    ∙ ap (λ x. x ∷ []) (get_or_from_slice_get xs to 32 0 is)

pub behind_gap : (old mid gap blank part : List ℕ) → mid ++ blank ≡ old ++ gap
    → mid ++ (blank ++ part) ≡ old ++ (gap ++ part)
behind_gap old mid gap blank part e =
    sym (append_assoc mid blank part) ∙ ap (λ s. s ++ part) e ∙ append_assoc old gap part
