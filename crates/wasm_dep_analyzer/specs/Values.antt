-- Bytes, numbers, names and vectors at the front of the bytes (WebAssembly Core, "Values" and "Vectors").
use Rattle.std.specs.Prelude.{ℕ, zero, suc, ◌+◌, ◌-◌, ◌*◌, List, [], ◌∷◌, length, take, drop, Result, Ok, Err, nat_lt, ◌==◌, if◌then◌else◌}
use Rattle.std.specs.Str.Lossy.{utf8_valid_len}
use Rattle.wasm_dep_analyzer.specs.declared.error.ParseError.{ParseError}
use Rattle.wasm_dep_analyzer.specs.declared.error.ParseError.TheVariants.{UnexpectedEof, IntegerOverflow, InvalidUtf8}
use Rattle.wasm_dep_analyzer.specs.Reading.{Read, ◌>>=◌}

-- one byte ("Bytes")
abbrev pub u8_at : List ℕ → Read ℕ
u8_at [] = Err UnexpectedEof
u8_at (b ∷ rest) = Ok (b, rest)

-- a number after whose first byte at most `more` may follow: low groups of seven bits first, and a byte from 128 on
-- is not the last ("Integers", unsigned LEB128; 32 bits with more = 4, zeros at the high end accepted)
unfoldable pub number_at : ℕ → List ℕ → Read ℕ
number_at more [] = Err UnexpectedEof
number_at zero (b ∷ rest) = if nat_lt b 16 then Ok (b, rest) else Err IntegerOverflow
number_at (suc more) (b ∷ rest) =
    if nat_lt b 128 then Ok (b, rest) else (do
      high ← number_at more rest
      Ok (b - 128 + 128 * high.0, high.1))

-- a number of 32 bits
abbrev pub u32_at : List ℕ → Read ℕ
u32_at bytes = number_at 4 bytes

-- so many bytes
abbrev pub bytes_at : ℕ → List ℕ → Read (List ℕ)
bytes_at count bytes = if nat_lt (length bytes) count then Err UnexpectedEof else Ok (take count bytes, drop count bytes)

-- a text, or the fault behind its longest front that is one
unfoldable pub utf8_text : List ℕ → Result (List ℕ) ParseError
utf8_text bytes = if utf8_valid_len bytes == length bytes then Ok bytes else Err (InvalidUtf8 (utf8_valid_len bytes))

-- a length and a text of so many bytes ("Names")
unfoldable pub name_at : List ℕ → Read (List ℕ)
name_at bytes = do
  count ← u32_at bytes
  spelled ← bytes_at count.0 count.1
  text ← utf8_text spelled.0
  Ok (text, spelled.1)

-- so many items, one behind the other
unfoldable pub items_at : {A : Type 0} → (List ℕ → Read A) → ℕ → List ℕ → Read (List A)
items_at item zero bytes = Ok ([], bytes)
items_at item (suc count) bytes = do
  first ← item bytes
  others ← items_at item count first.1
  Ok (first.0 ∷ others.0, others.1)

-- a count and so many items ("Vectors")
unfoldable pub vector_at : {A : Type 0} → (List ℕ → Read A) → List ℕ → Read (List A)
vector_at item bytes = do
  count ← u32_at bytes
  items_at item count.0 count.1

-- the items of a vector; what follows the last one is left out
unfoldable pub all_items : {A : Type 0} → (List ℕ → Read A) → List ℕ → Result (List A) ParseError
all_items item payload = do
  items ← vector_at item payload
  Ok items.0
