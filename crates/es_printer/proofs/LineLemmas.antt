-- Blanks behind a text.
use Rattle.std.specs.Prelude.{ℕ, zero, suc, ◌-◌, ◌<◌, ◌≤◌, List, [], ◌∷◌, ◌++◌}
use Rattle.std.proofs.Common.{◌≡◌, sym, ap, ◌∙◌, arith}
use Rattle.std.proofs.lemmas.List.{append-nil, append_assoc}
use Rattle.es_printer.specs.Lines.{indent}

pub indent_end : (out whole : List ℕ) (left : ℕ) → left ≤ 0 → out ++ indent left ≡ whole → out ≡ whole
indent_end out whole zero none so = sym (append-nil out) ∙ so
indent_end out whole (suc n) none so = absurd (omega (arith, none))

pub indent_more : (out new whole : List ℕ) (left : ℕ) → 0 < left → new ≡ out ++ (32 ∷ 32 ∷ [])
    → out ++ indent left ≡ whole → new ++ indent (left - 1) ≡ whole
indent_more out new whole zero some grown so = absurd (omega (arith, some))
indent_more out new whole (suc n) some grown so =
    let one : suc n - 1 ≡ n = omega arith in
    ap (λ m. new ++ indent m) one
    ∙ ap (λ s. s ++ indent n) grown ∙ append_assoc out (32 ∷ 32 ∷ []) (indent n) ∙ so
