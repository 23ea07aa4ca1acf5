-- The meanings of the combinators that have no parts.
use Rattle.std.specs.Prelude.{◌≡◌, ◌≢◌, ◌⊎◌, ◌<◌, ◌≤◌, ℕ, Bool, true, false, List, [], ◌∷◌, ◌++◌, ⊤, Contains}
use Rattle.std.specs.Borrow.{Bor}
use Rattle.std.specs.Char.{encode_utf8, is_whitespace}
use Rattle.std.specs.Str.{encode_utf8_all}
use Rattle.monch.specs.core_parsers.Outcome.{backtrack, success, refused, Meaning}

-- the text begins with the other one
abbrev pub BeginsWith : List ℕ → List ℕ → Type 0
BeginsWith front text = (rest : List ℕ) × (text ≡ front ++ rest)

-- the first character where it is c, else a backtrack
abbrev pub GivesChar : ℕ → Meaning ℕ
GivesChar c text (success rest value) = (value ≡ c) × (text ≡ encode_utf8 c ++ rest)
GivesChar c text (refused why) = (why ≡ backtrack) × ¬ (BeginsWith (encode_utf8 c) text)

-- the first character where it is one of these, else a backtrack
abbrev pub GivesOneOf : List ℕ → Meaning ℕ
GivesOneOf characters text (success rest value) = Contains characters value × (text ≡ encode_utf8 value ++ rest)
GivesOneOf characters text (refused why) = (why ≡ backtrack) × ((c : ℕ) → Contains characters c → ¬ (BeginsWith (encode_utf8 c) text))

-- the slice of the text where it begins with the tag, else a backtrack
abbrev pub GivesTag : List ℕ → Meaning (Bor (List ℕ))
GivesTag tag text (success rest value) = (value.now ≡ tag) × (text ≡ tag ++ rest)
GivesTag tag text (refused why) = (why ≡ backtrack) × ¬ (BeginsWith tag text)

-- the first character, and a backtrack at the end of the text
abbrev pub GivesNextChar : Meaning ℕ
GivesNextChar text (success rest value) = text ≡ encode_utf8 value ++ rest
GivesNextChar text (refused why) = (why ≡ backtrack) × (text ≡ [])

-- the test may say yes of each
abbrev pub EachPasses : (ℕ → Bool → Type 0) → List ℕ → Type 0
EachPasses test [] = ⊤
EachPasses test (c ∷ cs) = test c true × EachPasses test cs

-- the text is at its end, or its first character is one of which the test may say no
abbrev pub StopsAtChar : (ℕ → Bool → Type 0) → List ℕ → Type 0
StopsAtChar test text = (text ≡ []) ⊎ ((c : ℕ) × (rest : List ℕ) × (text ≡ encode_utf8 c ++ rest) × test c false)

-- the longest front of characters that pass the test, and the rest
pub record IsPassingFront (test : ℕ → Bool → Type 0) (text front rest : List ℕ) : Type 0 where
  pub characters : List ℕ
  pub spelled : front ≡ encode_utf8_all characters
  pub pass : EachPasses test characters
  pub split : text ≡ front ++ rest
  pub stops : StopsAtChar test rest

-- the longest front that passes is skipped; no refusal
abbrev pub GivesSkipWhile : (ℕ → Bool → Type 0) → Meaning (Unit {0})
GivesSkipWhile test text (success rest value) = (front : List ℕ) × IsPassingFront test text front rest
GivesSkipWhile test text (refused why) = ⊥

-- the longest front that passes, as a slice; no refusal
abbrev pub GivesTakeWhile : (ℕ → Bool → Type 0) → Meaning (Bor (List ℕ))
GivesTakeWhile test text (success rest taken) = IsPassingFront test text taken.now rest
GivesTakeWhile test text (refused why) = ⊥

-- the text is at its end, or its first byte is one of which the test may say no
abbrev pub StopsAtByte : (ℕ → Bool → Type 0) → List ℕ → Type 0
StopsAtByte test text = (text ≡ []) ⊎ ((b : ℕ) × (rest : List ℕ) × (text ≡ b ∷ rest) × test b false)

-- the longest front of bytes that pass the test, and the rest
pub record IsPassingBytes (test : ℕ → Bool → Type 0) (text front rest : List ℕ) : Type 0 where
  pub pass : EachPasses test front
  pub split : text ≡ front ++ rest
  pub stops : StopsAtByte test rest

-- the test never says yes of a byte outside ASCII
abbrev pub PassesOnlyAscii : (ℕ → Bool → Type 0) → Type 0
PassesOnlyAscii test = (b : ℕ) → 128 ≤ b → b < 256 → ¬ (test b true)

-- the longest front of bytes that pass is skipped; no refusal
abbrev pub GivesSkipBytes : (ℕ → Bool → Type 0) → Meaning (Unit {0})
GivesSkipBytes test text (success rest value) = (front : List ℕ) × IsPassingBytes test text front rest
GivesSkipBytes test text (refused why) = ⊥

-- the longest front of bytes that pass, as a slice; no refusal
abbrev pub GivesTakeBytes : (ℕ → Bool → Type 0) → Meaning (Bor (List ℕ))
GivesTakeBytes test text (success rest taken) = IsPassingBytes test text taken.now rest
GivesTakeBytes test text (refused why) = ⊥

-- white space, as Unicode has it
abbrev pub TestsWhitespace : ℕ → Bool → Type 0
TestsWhitespace c answer = answer ≡ is_whitespace c

-- the longest front of white space as a slice, or a backtrack where there is none
abbrev pub GivesWhitespace : Meaning (Bor (List ℕ))
GivesWhitespace text (success rest taken) = IsPassingFront TestsWhitespace text taken.now rest × (taken.now ≢ [])
GivesWhitespace text (refused why) = (why ≡ backtrack) × StopsAtChar TestsWhitespace text
