-- What a `data:` URL holds (Fetch Standard, "`data:` URL processor"), with this project's media types.
use Rattle.std.specs.Prelude.{◌≡◌, ℕ, ◌+◌, ◌==◌, Bool, true, false, ◌⊎◌, List, take, drop, position, Option, Some, None, Result, Ok, Err, MatchResult}
use Rattle.std.specs.List.{before_first, after_first}
use Rattle.percent_encoding.specs.Percent.{percent_decode}
use Rattle.data_specifier.specs.declared.data_module.DataModule.{DataModule}
use Rattle.data_specifier.specs.declared.error.DataError.{DataError}
use Rattle.data_specifier.specs.declared.error.DataError.TheVariants.{NoComma, Base64, OutOfMemory}
use Rattle.media_type.specs.mime_essence.Blanks.{trim_blanks}
use Rattle.data_specifier.specs.Forgiving.{forgiving_base64}
use Rattle.data_specifier.specs.Front.{is_base64, mime_of}

-- the text behind the scheme and its `:`, less the fragment
abbrev pub content_of : List ℕ → List ℕ
content_of text = before_first (λ b. b == 35) (after_first (λ b. b == 58) text)

-- the bytes, unless base64 was promised and isn't there
abbrev pub or_no_base64 : Option (List ℕ) → Result (List ℕ) DataError
or_no_base64 (Some bytes) = Ok bytes
or_no_base64 None = Err Base64

-- the bytes of a body, in base64 or not
abbrev pub body_of : Bool → List ℕ → Result (List ℕ) DataError
body_of true encoded = or_no_base64 (forgiving_base64 (percent_decode encoded))
body_of false encoded = Ok (percent_decode encoded)

-- a media type with its bytes
abbrev pub with_mime : List ℕ → Result (List ℕ) DataError → Result DataModule DataError
with_mime mime (Ok bytes) = Ok (record { mime = mime; body = bytes })
with_mime mime (Err e) = Err e

-- what a front and a body hold
abbrev pub module_of : List ℕ → List ℕ → Result DataModule DataError
module_of front encoded = with_mime (mime_of front) (body_of (is_base64 front) encoded)

-- the content, cut at its first comma
abbrev pub data_at : List ℕ → Option ℕ → Result DataModule DataError
data_at content (Some at) = module_of (trim_blanks (take at content)) (drop (at + 1) content)
data_at content None = Err NoComma

-- what the text of a `data:` URL holds
unfoldable pub data_of : List ℕ → Result DataModule DataError
data_of text = data_at (content_of text) (position (λ b. b == 44) (content_of text))

-- a function answered this, unless memory ran out
abbrev pub Gives : {T : Type 0} → Result T DataError → Result T DataError → Type 0
Gives result answer = MatchResult result (λ x. answer ≡ Ok x) (λ e. (answer ≡ Err e) ⊎ (e ≡ OutOfMemory))
