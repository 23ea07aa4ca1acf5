-- Headers of a loader's answer, as their list of entries.
use Rattle.std.specs.Prelude.{ℕ, List, [], ◌∷◌, map, Option, None, Some, bytes_eq, String, string_bytes}
use Rattle.std.specs.Map.{lookup}
use Rattle.std.specs.Ordering.{nat_cmp}
use Rattle.std.specs.Cmp.Lexicographic.{slice_cmp}
use Rattle.std.specs.BTreeMap.{insert_entry}
use Rattle.std.specs.Str.{str_to_ascii_lowercase}

-- a name and its value, as texts
abbrev pub header_of : {A : Type 0} → String A × String A → List ℕ × List ℕ
header_of e = (string_bytes e.0, string_bytes e.1)

-- the entries, in the order of their names
abbrev pub headers_of : {A : Type 0} → List (String A × String A) → List (List ℕ × List ℕ)
headers_of es = map header_of es

-- the value of a header
abbrev pub header_value : List ℕ → List (List ℕ × List ℕ) → Option (List ℕ)
header_value name headers = lookup (bytes_eq name) headers

-- headers by their names
abbrev pub HeaderList : Type 0
HeaderList = List (List ℕ × List ℕ)

-- the headers with one more: its name in ASCII lower case, where an equal name takes the new value
abbrev pub with_header : HeaderList → List ℕ → List ℕ → HeaderList
with_header headers name value = insert_entry (slice_cmp nat_cmp) headers (str_to_ascii_lowercase name) value

-- the headers with all of these more, one after the other
abbrev pub with_headers : HeaderList → HeaderList → HeaderList
with_headers headers [] = headers
with_headers headers (e ∷ es) = with_headers (with_header headers e.0 e.1) es

-- the headers of those that are given, if any are
abbrev pub headers_or_none : Option HeaderList → HeaderList
headers_or_none None = []
headers_or_none (Some given) = with_headers [] given
