-- The start of a text, and a text without changes.
use Rattle.std.proofs.Common.{◌≡◌, ℕ, ◌<◌, ◌≤◌, Bool, true, false, List, [], ◌∷◌, length, refl, ◌∙◌, ap, arith, leb-true, ◌⊎◌, inl, inr}
use Rattle.std.specs.Prelude.{nat_le, nat_lt, ◌&&◌}
use Rattle.std.specs.Str.{IsUtf8}
use Rattle.std.proofs.lemmas.Bool.Decides.{nat_tests}
use Rattle.std.proofs.lemmas.List.Sorted.{length_permutation}
use Rattle.std.proofs.lemmas.Str.{IsCharBoundary-start}
use Rattle.source_text.specs.declared.text_changes.change.TextChange.{TextChange}
use Rattle.source_text.specs.text_changes.Changes.{AreInOrder, cuts_character, changed}

is_or_not : (b : Bool) → (b ≡ true) ⊎ (b ≡ false)
is_or_not true = inl refl
is_or_not false = inr refl

begins_character : (b : ℕ) → (128 ≤ b → 192 ≤ b) → (nat_le 128 b && nat_lt b 192) ≡ false
begins_character b begins =
    elim (is_or_not (nat_le 128 b)) [
      | inl least ↦
          let more : 192 ≤ b = begins (leb-true _ _ least) in
          let late : nat_lt b 192 ≡ false = grind (arith, nat_tests) in
          ap (λ (t : Bool). t && nat_lt b 192) least ∙ late
      | inr less ↦ ap (λ (t : Bool). t && nat_lt b 192) less
    ]

-- the start of a text is inside no character
pub start_outside : (source : List ℕ) → IsUtf8 source → cuts_character source 0 ≡ false
start_outside [] utf8 = refl
start_outside (b ∷ rest) utf8 = begins_character b ((IsCharBoundary-start (b ∷ rest) utf8).1 (omega arith))

-- without changes it is the source
pub changed-none : (source : List ℕ) (given sorted : List TextChange) → given ≡ [] → AreInOrder given sorted
    → changed source 0 sorted ≡ source
changed-none source given [] none order = refl
changed-none source given (x ∷ xs) none order =
    absurd (omega (arith, length_permutation given (x ∷ xs) order.same, ap length none))
