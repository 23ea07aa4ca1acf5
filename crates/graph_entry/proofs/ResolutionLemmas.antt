-- Refusals of reading a URL: which of them an edge keeps.
use Rattle.std.proofs.Common.{◌≡◌, ◌⊎◌, inl, inr, sym, ◌∙◌, ap, Err}
use Rattle.url.specs.declared.error.ParseError.{ParseError}
use Rattle.url.specs.Parser.{Parsed, IsOutOfRoom}

-- a refusal unless room ran out is the reader's own
pub kept_refusal : {T : Type 0} (expected : Parsed T) (e k : ParseError)
    → (expected ≡ Err e) ⊎ IsOutOfRoom e → (k ≡ e) × (¬ IsOutOfRoom e) → expected ≡ Err k
kept_refusal expected e k (inl same) kept = same ∙ ap Err (sym kept.0)
kept_refusal expected e k (inr room) kept = absurd (kept.1 room)
