-- Media types by the header `content-type` (this project's profile; media types as in RFC 9110, "Content-Type").
use Rattle.std.specs.Prelude.{ℕ, nat_eq, List, [], ◌∷◌, codes, bytes_eq, if◌then◌else◌}
use Rattle.std.specs.List.{ends_with}
use Rattle.std.specs.Str.{str_to_ascii_lowercase}
use Rattle.media_type.specs.mime_essence.Essence.{essence_of}
use Rattle.media_type.specs.declared.media_type.MediaType.{MediaType}
use Rattle.media_type.specs.declared.media_type.MediaType.TheVariants.{TypeScript, Tsx, JavaScript, Jsx, Json, Wasm, Unknown}
use Rattle.media_type.specs.declared.content_types.ContentRule.{ContentRule}
use Rattle.media_type.specs.declared.content_types.ContentRule.TheVariants.{ByPath, Only}
use Rattle.media_type.specs.declared.content_types.ContentRule.TheVariants as rule
use Rattle.media_type.specs.MediaType.{is_typed, is_javascript}

-- a content type, and what it says of the media type
abbrev pub Row : Type 0
Row = List ℕ × ContentRule

-- the content types that are known by name
abbrev pub content_types : List Row
content_types =
    (codes "text/plain", ByPath)
    ∷ (codes "application/octet-stream", ByPath)
    ∷ (codes "application/typescript", rule.TypeScript)
    ∷ (codes "text/typescript", rule.TypeScript)
    ∷ (codes "application/x-typescript", rule.TypeScript)
    ∷ (codes "video/mp2t", rule.TypeScript)
    ∷ (codes "video/vnd.dlna.mpeg-tts", rule.TypeScript)
    ∷ (codes "application/javascript", rule.JavaScript)
    ∷ (codes "text/javascript", rule.JavaScript)
    ∷ (codes "application/ecmascript", rule.JavaScript)
    ∷ (codes "text/ecmascript", rule.JavaScript)
    ∷ (codes "application/x-javascript", rule.JavaScript)
    ∷ (codes "application/node", rule.JavaScript)
    ∷ (codes "text/jsx", Only Jsx)
    ∷ (codes "text/tsx", Only Tsx)
    ∷ (codes "application/json", Only Json)
    ∷ (codes "text/json", Only Json)
    ∷ (codes "application/wasm", Only Wasm) ∷ []

-- any other content type is JSON if it ends so, and else unknown
abbrev pub other_rule : List ℕ → ContentRule
other_rule essence = if ends_with nat_eq essence (codes "+json") then Only Json else Only Unknown

-- what the row of this content type says
abbrev pub first_rule : List Row → List ℕ → ContentRule
first_rule [] essence = other_rule essence
first_rule (row ∷ rows) essence = if bytes_eq essence row.0 then row.1 else first_rule rows essence

-- the media type by what a content type says, where the path tells the first
abbrev pub by_rule : MediaType → ContentRule → MediaType
by_rule by_path ByPath = by_path
by_rule by_path rule.TypeScript = if is_typed by_path then by_path else TypeScript
by_rule by_path rule.JavaScript = if is_javascript by_path then by_path else JavaScript
by_rule by_path (Only media_type) = media_type

-- the media type of content with this header, where the path of its specifier tells the first
unfoldable pub with_content_type : MediaType → List ℕ → MediaType
with_content_type by_path header =
    by_rule by_path (first_rule content_types (str_to_ascii_lowercase (essence_of header)))
