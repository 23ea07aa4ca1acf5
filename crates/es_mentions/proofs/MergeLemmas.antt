-- Two lists in one order.
use Rattle.std.specs.Prelude.{ℕ, nat_lt, true, false, List, [], ◌∷◌, ◌++◌, length}
use Rattle.std.proofs.Common.{◌≡◌, refl, sym, ap, ◌∙◌, arith}
use Rattle.std.proofs.lemmas.List.{append-nil, append_assoc}
use Rattle.es_mentions.specs.declared.listed.Mention.{Mention}
use Rattle.es_mentions.specs.Mentions.{early, late, merged}

early_yes : (at : ℕ) (m : Mention) (ms : List Mention) → nat_lt m.range.start at ≡ true
    → early at (m ∷ ms) ≡ m ∷ early at ms
early_yes at m ms e = rw (e) refl

late_yes : (at : ℕ) (m : Mention) (ms : List Mention) → nat_lt m.range.start at ≡ true
    → late at (m ∷ ms) ≡ late at ms
late_yes at m ms e = rw (e) refl

-- one more that starts before
pub early_more : (at : ℕ) (m : Mention) (row rest out made whole tail : List Mention) → row ≡ m ∷ rest
    → nat_lt m.range.start at ≡ true → made ≡ out ++ m ∷ []
    → (out ++ early at row ≡ whole) × (late at row ≡ tail)
    → (made ++ early at rest ≡ whole) × (late at rest ≡ tail)
early_more at m row rest out made whole tail is so more held = (
  ap (λ s. s ++ early at rest) more ∙ append_assoc out (m ∷ []) (early at rest)
      ∙ ap (λ s. out ++ s) (sym (ap (early at) is ∙ early_yes at m rest so)) ∙ held.0,
  sym (ap (late at) is ∙ late_yes at m rest so) ∙ held.1,
)

-- the next one doesn't
pub early_stop : (at : ℕ) (m : Mention) (row rest out whole tail : List Mention) → row ≡ m ∷ rest
    → nat_lt m.range.start at ≡ false → (out ++ early at row ≡ whole) × (late at row ≡ tail)
    → (out ≡ whole) × (row ≡ tail)
early_stop at m row rest out whole tail is so held =
    let none : early at row ≡ [] = ap (early at) is ∙ (rw (so) refl) in
    let same : late at row ≡ row = ap (late at) is ∙ (rw (so) refl) ∙ sym is in
    (sym (append-nil out) ∙ ap (λ s. out ++ s) (sym none) ∙ held.0, sym same ∙ held.1)

pub early_end : (at : ℕ) (row out whole tail : List Mention) → length row ≡ 0
    → (out ++ early at row ≡ whole) × (late at row ≡ tail) → (out ≡ whole) × (row ≡ tail)
early_end at [] out whole tail e held = (sym (append-nil out) ∙ held.0, held.1)
early_end at (m ∷ row) out whole tail e held = absurd (omega arith)

-- one name more
pub merged_more : (name : Mention) (row rest left others out some made whole : List Mention) → row ≡ name ∷ rest
    → some ≡ out ++ early name.range.start left → others ≡ late name.range.start left → made ≡ some ++ name ∷ []
    → out ++ merged row left ≡ whole → made ++ merged rest others ≡ whole
merged_more name row rest left others out some made whole is before after more held =
    let at = name.range.start in
    ap (λ s. s ++ merged rest others) (more ∙ ap (λ s. s ++ name ∷ []) before)
    ∙ append_assoc (out ++ early at left) (name ∷ []) (merged rest others)
    ∙ append_assoc out (early at left) (name ∷ merged rest others)
    ∙ ap (λ k. out ++ (early at left ++ name ∷ merged rest k)) after
    ∙ ap (λ k. out ++ merged k left) (sym is) ∙ held

pub merged_end : (row left out made whole : List Mention) → length row ≡ 0 → made ≡ out ++ left
    → out ++ merged row left ≡ whole → made ≡ whole
merged_end [] left out made whole e more held = more ∙ held
merged_end (m ∷ row) left out made whole e more held = absurd (omega arith)
