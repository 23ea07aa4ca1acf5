use Rattle.std.specs.Str.{IsCharBoundary}
use Rattle.std.proofs.Common.{subst, List, ℕ, ◌∙◌, sym}
use Rattle.source_text.proofs.TextLemmas.{mark-boundary}
use Rattle.source_text.proofs.text.SourceText.without_mark.Goals as goal

-- a mark is one character
pub behind-requires : goal.behind-requires
behind-requires c =
    subst (λ (t : List ℕ). IsCharBoundary t 3) c.as_str.ensures
    (mark-boundary c.as_str.result.now c.as_str.utf8 (sym c.has_mark.ensures ∙ c.if-has_mark.true))
