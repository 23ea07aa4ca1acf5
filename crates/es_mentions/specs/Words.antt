-- Words of a text, by the numbers of their tokens, and where they stand.
use Rattle.std.specs.Prelude.{ℕ, ◌==◌, Bool, false, not, ◌&&◌, ◌||◌, List, Option, Some, None, slice_get, bytes_eq, codes}
use Rattle.std.specs.List.{list_any}
use Rattle.base.specs.declared.range.Range.{Range}
use Rattle.es_token.specs.declared.token.Token.{Token}
use Rattle.es_lowering.specs.Texts.{start_of, end_of, end_before}
use Rattle.es_variables.specs.scope_analysis.Events.{spelled}

-- ---- words that lead to what makes code, or to another object's properties
abbrev pub is_risky_word : List ℕ → Bool
is_risky_word text =
    bytes_eq text (codes "constructor") || bytes_eq text (codes "__proto__") || bytes_eq text (codes "__defineGetter__")

abbrev pub is_risky_double : List ℕ → Bool
is_risky_double text =
    bytes_eq text (codes "\"constructor\"") || bytes_eq text (codes "\"__proto__\"")
    || bytes_eq text (codes "\"__defineGetter__\"")

abbrev pub is_risky_single : List ℕ → Bool
is_risky_single text =
    bytes_eq text (codes "'constructor'") || bytes_eq text (codes "'__proto__'")
    || bytes_eq text (codes "'__defineGetter__'")

-- what is spelled with an escape isn't read
abbrev pub has_escape : List ℕ → Bool
has_escape text = list_any (λ b. b == 92) text

abbrev pub is_risky_text : List ℕ → Bool
is_risky_text text = is_risky_word text || is_risky_double text || is_risky_single text || has_escape text

abbrev pub is_among : List (List ℕ) → List ℕ → Bool
is_among names text = list_any (λ name. bytes_eq name text) names

-- ---- by the text of a token
abbrev pub is_this : List ℕ → Option (List ℕ) → Bool
is_this word (Some text) = bytes_eq text word
is_this word None = false

abbrev pub is_risky_at : Option (List ℕ) → Bool
is_risky_at (Some text) = is_risky_text text
is_risky_at None = false

abbrev pub is_arguments : List ℕ → Bool
is_arguments text = bytes_eq text (codes "arguments")

-- outside a script `arguments` is always those of a function
abbrev pub is_allowed_name : List (List ℕ) → Bool → List ℕ → Bool
is_allowed_name allowed script text = (not script && is_arguments text) || is_among allowed text

abbrev pub is_allowed_at : List (List ℕ) → Bool → Option (List ℕ) → Bool
is_allowed_at allowed script (Some text) = is_allowed_name allowed script text
is_allowed_at allowed script None = false

module _ (x : List ℕ) (ts : List Token) where
  -- the token is this word
  abbrev pub is_spelled : List ℕ → Option ℕ → Bool
  is_spelled word at = is_this word (spelled x ts at)

  abbrev pub is_risky : Option ℕ → Bool
  is_risky at = is_risky_at (spelled x ts at)

  -- the name is one of these
  abbrev pub is_allowed : List (List ℕ) → Bool → ℕ → Bool
  is_allowed allowed script at = is_allowed_at allowed script (spelled x ts (Some at))

module _ (ts : List Token) where
  -- the bytes from a token up to the one before another
  abbrev pub range_of : ℕ → ℕ → Range
  range_of from to = record { start = start_of (slice_get ts from); end = end_before ts to }

  -- the bytes of a token
  abbrev pub range_at : ℕ → Range
  range_at at = record { start = start_of (slice_get ts at); end = end_of (slice_get ts at) }
