use Rattle.std.specs.Prelude.{IsUtf8}
use Rattle.std.specs.Str.{IsCharBoundary}
use Rattle.std.proofs.Common.{◌≡◌, ◌∙◌, sym, ap, subst, List, ℕ, ◌+◌, ◌-◌, length, drop, arith}
use Rattle.std.proofs.lemmas.List.{drop-drop, length-drop}
use Rattle.std.proofs.lemmas.Str.{IsUtf8-drop}
use Rattle.source_text.proofs.text.SourceText.behind.Goals as goal

-- the text may be cut there
pub invariant_of-result : goal.invariant_of-result
invariant_of-result c =
    let kept = c.self.inside in
    let text = drop kept.start kept.bytes in
    let within = subst (λ (t : List ℕ). IsCharBoundary t c.args.count) (sym c.self.view_is) c.requires in
    let at : c.len-2.result - (c.len.result - c.args.count) ≡ kept.start + c.args.count
    = omega (
      arith,
      within.0,
      c.self.invariant.0,
      c.len.ensures,
      c.len-2.ensures,
      ap length c.self.view_is,
      length-drop kept.start kept.bytes,
    ) in (
      omega (arith, c.len-2.ensures),
      subst IsUtf8 (drop-drop c.args.count kept.start kept.bytes ∙ ap (λ (n : ℕ). drop n kept.bytes) (sym at))
          (IsUtf8-drop text c.args.count c.self.invariant.1 within),
    )
