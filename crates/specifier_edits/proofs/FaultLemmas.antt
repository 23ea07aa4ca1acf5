-- A fault of a change isn't want of memory.
use Rattle.std.proofs.Common.{◌≡◌, ℕ}
use Rattle.source_text.specs.declared.text_changes.error.TextChangeError.TheVariants.{Reversed, Overlapping, MidCharacter, OutOfMemory}

pub reversed : (n : ℕ) → Reversed n ≡ OutOfMemory → ⊥
reversed n e = cc

pub overlapping : (n : ℕ) → Overlapping n ≡ OutOfMemory → ⊥
overlapping n e = cc

pub mid_character : (n : ℕ) → MidCharacter n ≡ OutOfMemory → ⊥
mid_character n e = cc
