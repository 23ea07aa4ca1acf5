-- The names that the modules of a graph get in a folder (this project's profile).
use Rattle.std.specs.Prelude.{ℕ, ◌+◌, List, [], ◌∷◌, ◌++◌, codes, decimal, Option, Some, None, option_map, option_and_then}
use Rattle.std.specs.List.{filter_map}
use Rattle.std.specs.Result.{result_ok}
use Rattle.url.specs.Parts.{Parts}
use Rattle.url.specs.Parser.{parse_url}
use Rattle.media_type.specs.declared.media_type.MediaType.{MediaType}
use Rattle.media_type.specs.declared.media_type.MediaType.TheVariants as media
use Rattle.graph_entry.specs.declared.entry.Module.{Module}
use Rattle.graph_entry.specs.declared.entry.Module.TheVariants.{Js, Json, Wasm}
use Rattle.graph_entry.specs.declared.entry.Entry.{Entry}
use Rattle.graph_entry.specs.Specifier.{text_of}
use Rattle.graph_builder.specs.Reach.{Specifier}
use Rattle.graph_builder.specs.Graph.{module_of, resolved}
use Rattle.graph_builder.specs.ByText.{value_at}
use Rattle.graph_vendor.specs.declared.names.NewName.{NewName}

-- a graph's entries
abbrev pub Entries : Type 0
Entries = List (Parts × Entry)

-- a module with its specifier
abbrev pub Held : Type 0
Held = Parts × Module

abbrev pub held : Parts × Entry → Option Held
held e = option_map (λ m. (e.0, m)) (module_of e.1)

-- the modules among entries: a module's number is its place among those of the graph
abbrev pub modules_of : Entries → List Held
modules_of entries = filter_map held entries

abbrev pub media_of : Module → MediaType
media_of (Js m) = m.media_type
media_of (Json m) = media.Json
media_of (Wasm m) = media.Wasm

-- the ending of a file's name; of the other media types there are no modules
abbrev pub extension : MediaType → List ℕ
extension media.TypeScript = codes "ts"
extension media.Mts = codes "mts"
extension media.Cts = codes "cts"
extension media.Tsx = codes "tsx"
extension media.Dts = codes "d.ts"
extension media.Dmts = codes "d.mts"
extension media.Dcts = codes "d.cts"
extension media.JavaScript = codes "js"
extension media.Mjs = codes "mjs"
extension media.Cjs = codes "cjs"
extension media.Jsx = codes "jsx"
extension media.Json = codes "json"
extension media.Wasm = codes "wasm"
extension _ = []

-- the file of the module with this number
unfoldable pub file_name : ℕ → MediaType → List ℕ
file_name k media = codes "m" ++ decimal k ++ codes "." ++ extension media

-- the name of its file, and the specifier that this joins to at the folder, if it is one
abbrev pub name_of : Parts → ℕ → Module → NewName
name_of base k m =
    record {
      file_name = file_name k (media_of m);
      target = result_ok (parse_url (Some base) (file_name k (media_of m)));
    }

-- the modules' specifiers with their new names
abbrev pub Names : Type 0
Names = List (Parts × NewName)

abbrev pub names_from : Parts → ℕ → List Held → Names
names_from base k [] = []
names_from base k (m ∷ ms) = (m.0, name_of base k m.1) ∷ names_from base (k + 1) ms

abbrev pub names_in : Parts → Entries → Names
names_in base entries = names_from base 0 (modules_of entries)

-- ---- the new names of specifiers

-- the new specifier of the module at a specifier
abbrev pub target_at : Names → Specifier → Option Parts
target_at names s = option_and_then (λ (n : NewName). n.target) (value_at names s)

abbrev pub renamed_by : Option NewName → Specifier → Option Specifier
renamed_by (Some name) s = option_map text_of name.target
renamed_by None s = Some s

-- the new name of a specifier: that of the module that it leads to, or where there is none, where it leads
abbrev pub renamed : Entries → Names → Specifier → Option Specifier
renamed entries names s = renamed_by (value_at names (resolved entries s)) (resolved entries s)

abbrev pub literal_by : Option NewName → Specifier → List ℕ
literal_by (Some name) s = codes "./" ++ name.file_name
literal_by None s = s

-- what stands in place of a literal that leads to a specifier
abbrev pub literal : Entries → Names → Specifier → List ℕ
literal entries names s = literal_by (value_at names (resolved entries s)) (resolved entries s)
