-- Media types by the ending of a path (this project's profile).
-- A path is that of a URL (URL Standard, "URL representation"); capital letters of ASCII count as small ones.
use Rattle.std.specs.Prelude.{ℕ, nat_eq, List, [], ◌∷◌, codes, if◌then◌else◌}
use Rattle.std.specs.List.{ends_with}
use Rattle.std.specs.Str.{str_to_ascii_lowercase}
use Rattle.media_type.specs.declared.media_type.MediaType.{MediaType}
use Rattle.media_type.specs.declared.media_type.MediaType.TheVariants.{Dts, Dmts, Dcts, TypeScript, Mts, Cts, Tsx, JavaScript, Mjs, Cjs, Jsx, Json, Jsonc, Json5, Wasm, Css, Html, Markdown, Sql, SourceMap, Unknown}

-- an ending, and the media type of the paths that have it
abbrev pub Row : Type 0
Row = List ℕ × MediaType

-- the endings, in the order in which they are tried; none has a `/`, so each lies in the last segment
abbrev pub endings : List Row
endings =
    (codes ".d.ts", Dts) ∷ (codes ".d.mts", Dmts) ∷ (codes ".d.cts", Dcts)
    ∷ (codes ".ts", TypeScript) ∷ (codes ".mts", Mts) ∷ (codes ".cts", Cts) ∷ (codes ".tsx", Tsx)
    ∷ (codes ".js", JavaScript) ∷ (codes ".mjs", Mjs) ∷ (codes ".cjs", Cjs) ∷ (codes ".jsx", Jsx)
    ∷ (codes ".json", Json) ∷ (codes ".jsonc", Jsonc) ∷ (codes ".json5", Json5) ∷ (codes ".wasm", Wasm)
    ∷ (codes ".css", Css) ∷ (codes ".html", Html) ∷ (codes ".md", Markdown) ∷ (codes ".sql", Sql)
    ∷ (codes ".map", SourceMap) ∷ []

-- the media type of the first row whose ending the text has
abbrev pub first_ending : List Row → List ℕ → MediaType
first_ending [] text = Unknown
first_ending (row ∷ rows) text =
    if ends_with nat_eq text row.0 then row.1 else first_ending rows text

-- the media type of a path
unfoldable pub media_type_of : List ℕ → MediaType
media_type_of path = first_ending endings (str_to_ascii_lowercase path)
