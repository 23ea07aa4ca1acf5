-- Media types: how a module is read, and their names (this project's profile).
use Rattle.std.specs.Prelude.{ℕ, Bool, true, false, List, codes, Option, Some, None}
use Rattle.media_type.specs.declared.media_type.MediaType.{MediaType}
use Rattle.media_type.specs.declared.media_type.MediaType.TheVariants.{Dts, Dmts, Dcts, TypeScript, Mts, Cts, Tsx, JavaScript, Mjs, Cjs, Jsx, Json, Jsonc, Json5, Wasm, Css, Html, Markdown, Sql, SourceMap, Unknown}
use Rattle.media_type.specs.declared.media_type.ModuleKind.{ModuleKind}
use Rattle.media_type.specs.declared.media_type.ModuleKind.TheVariants as module_kind

-- how a module of a media type is read, where there are modules of it
abbrev pub kind_of : MediaType → Option ModuleKind
kind_of Dts = Some module_kind.Source
kind_of Dmts = Some module_kind.Source
kind_of Dcts = Some module_kind.Source
kind_of TypeScript = Some module_kind.Source
kind_of Mts = Some module_kind.Source
kind_of Cts = Some module_kind.Source
kind_of Tsx = Some module_kind.Source
kind_of JavaScript = Some module_kind.Source
kind_of Mjs = Some module_kind.Source
kind_of Cjs = Some module_kind.Source
kind_of Jsx = Some module_kind.Source
kind_of Json = Some module_kind.Json
kind_of Wasm = Some module_kind.Wasm
kind_of _ = None

-- sources of these media types are read as TypeScript
abbrev pub is_typed : MediaType → Bool
is_typed TypeScript = true
is_typed Mts = true
is_typed Cts = true
is_typed Tsx = true
is_typed Dts = true
is_typed Dmts = true
is_typed Dcts = true
is_typed _ = false

-- the media types of JavaScript
abbrev pub is_javascript : MediaType → Bool
is_javascript JavaScript = true
is_javascript Mjs = true
is_javascript Cjs = true
is_javascript Jsx = true
is_javascript _ = false

-- the name of a media type, as reports write it
abbrev pub name_of : MediaType → List ℕ
name_of Dts = codes "Dts"
name_of Dmts = codes "Dmts"
name_of Dcts = codes "Dcts"
name_of TypeScript = codes "TypeScript"
name_of Mts = codes "Mts"
name_of Cts = codes "Cts"
name_of Tsx = codes "Tsx"
name_of JavaScript = codes "JavaScript"
name_of Mjs = codes "Mjs"
name_of Cjs = codes "Cjs"
name_of Jsx = codes "Jsx"
name_of Json = codes "Json"
name_of Jsonc = codes "Jsonc"
name_of Json5 = codes "Json5"
name_of Wasm = codes "Wasm"
name_of Css = codes "Css"
name_of Html = codes "Html"
name_of Markdown = codes "Markdown"
name_of Sql = codes "Sql"
name_of SourceMap = codes "SourceMap"
name_of Unknown = codes "Unknown"
