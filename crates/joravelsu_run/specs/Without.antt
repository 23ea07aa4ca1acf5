-- What is left out of a graph, as an input says it (this project's profile).
use Rattle.std.specs.Prelude.{ℕ, Bool, ◌||◌, List, codes, bytes_eq, Option, Some, None, option_and_then, Ok}
use Rattle.serde_json.specs.Data.{Data, Members}
use Rattle.serde_json.specs.Find.{as_str, as_number, as_u64}
use Rattle.import_map.specs.json_reading.Reading.{Reading, and_then, said, url_of, object_of, required, only}
use Rattle.graph_why.specs.declared.step.Without.{Without}
use Rattle.graph_why.specs.declared.step.Without.TheVariants.{Entry, Edge}

-- a whole number, written without point and exponent
abbrev pub number_of : Data → Reading ℕ
number_of value = said (option_and_then as_u64 (as_number value))

abbrev pub knows_edge : List ℕ → Bool
knows_edge key = bytes_eq key (codes "from") || bytes_eq key (codes "edge")

-- an edge, by the specifier of its module and its number there, from 0; number 0 of an entry that redirects is its redirect
abbrev pub edge_from : Data → Members → Reading Without
edge_from value members =
    and_then (λ url. and_then (λ n. and_then (λ done. Ok (Edge url n)) (only knows_edge members))
    (required number_of (codes "edge") value))
    (required url_of (codes "from") value)

abbrev pub edge_of : Data → Reading Without
edge_of value = and_then (edge_from value) (object_of value)

abbrev pub entry_of : Data → Reading Without
entry_of value = and_then (λ url. Ok (Entry url)) (url_of value)

-- an entry, by its specifier, or an edge
abbrev pub entry_or_edge : Option (List ℕ) → Data → Reading Without
entry_or_edge (Some text) value = entry_of value
entry_or_edge None value = edge_of value

abbrev pub without_of : Data → Reading Without
without_of value = entry_or_edge (as_str value) value
