-- Reads and writes: bytes and the count of failures. A told list of bytes is `Some`; of `None` nothing is claimed.
use Rattle.std.specs.Prelude.{◌≡◌, ℕ, ◌+◌, ◌<◌, ◌≤◌, List, ◌++◌, length, Option, Result, MatchResult}
use Rattle.std.specs.Io.KnownBytes.{Consumes, Appends}
use Rattle.counted_io.specs.declared.transfer.ReadError.{ReadError}
use Rattle.counted_io.specs.declared.transfer.ReadError.TheVariants.{TooLong, Fault, OutOfMemory}

-- the most bytes of input that the program reads
abbrev pub input_limit : ℕ
input_limit = 16777216

-- a call that failed raised the count, and no other did
abbrev pub CountsFailure : {T E : Type 0} → ℕ → ℕ → Result T E → Type 0
CountsFailure old new result = MatchResult result (λ _. new ≡ old) (λ _. old < new)

-- a count of failed reads behind this error
abbrev pub CountsRead : ℕ → ℕ → ReadError → Type 0
CountsRead old new Fault = old < new
CountsRead old new TooLong = new ≡ old
CountsRead old new OutOfMemory = new ≡ old

-- only a failed read raised the count
abbrev pub CountsReadFailure : {T : Type 0} → ℕ → ℕ → Result T ReadError → Type 0
CountsReadFailure old new result = MatchResult result (λ _. new ≡ old) (CountsRead old new)

-- one byte more than the limit was read, and no other
abbrev pub GaveTooMuch : Option (List ℕ) → Option (List ℕ) → Type 0
GaveTooMuch old new = (bytes : List ℕ) × (length bytes ≡ input_limit + 1) × Consumes old new bytes

-- no more than so many bytes were read
abbrev pub ReadAtMost : ℕ → Option (List ℕ) → Option (List ℕ) → Type 0
ReadAtMost most old new = (bytes : List ℕ) × (length bytes ≤ most) × Consumes old new bytes

-- a part from the front of the text was taken
abbrev pub TookPart : Option (List ℕ) → Option (List ℕ) → List ℕ → Type 0
TookPart old new text = (part : List ℕ) × (rest : List ℕ) × (text ≡ part ++ rest) × Appends old new part

-- what a source gave was put behind some bytes
abbrev pub Grew : Option (List ℕ) → Option (List ℕ) → List ℕ → List ℕ → Type 0
Grew old new before after = (part : List ℕ) × (after ≡ before ++ part) × Consumes old new part
