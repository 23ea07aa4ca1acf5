-- What a module imports and exports, or its first fault (WebAssembly Core, "Modules").
use Rattle.std.specs.Prelude.{◌≡◌, ◌≢◌, ℕ, ◌<◌, ◌≤◌, Bool, true, false, ◌⊎◌, List, [], ◌∷◌, ◌++◌, length, take, drop, map, slice_get, slice_range, unwrap_or, Result, Ok, Err, nat_lt, ◌==◌, if◌then◌else◌}
use Rattle.std.specs.List.{flat_map}
use Rattle.std.specs.Str.{bytes_eq}
use Rattle.std.specs.Option.{ok_or}
use Rattle.std.specs.Int.{w32, from_le_bytes}
use Rattle.wasm_dep_analyzer.specs.declared.error.ParseError.{ParseError}
use Rattle.wasm_dep_analyzer.specs.declared.error.ParseError.TheVariants.{OutOfMemory, NotWasm, UnsupportedVersion, UnexpectedEof, UnresolvedExportType}
use Rattle.wasm_dep_analyzer.specs.declared.types.GlobalType.{GlobalType}
use Rattle.wasm_dep_analyzer.specs.declared.types.FunctionSignature.{FunctionSignature}
use Rattle.wasm_dep_analyzer.specs.declared.types.ImportType.{ImportType}
use Rattle.wasm_dep_analyzer.specs.declared.types.ImportType.TheVariants as import
use Rattle.wasm_dep_analyzer.specs.declared.exports.ExportKind.{ExportKind}
use Rattle.wasm_dep_analyzer.specs.declared.exports.ExportKind.TheVariants as kind
use Rattle.wasm_dep_analyzer.specs.declared.deps.ExportType.{ExportType}
use Rattle.wasm_dep_analyzer.specs.declared.deps.ExportType.TheVariants as export
use Rattle.wasm_dep_analyzer.specs.declared.deps.Export.{Export}
use Rattle.wasm_dep_analyzer.specs.declared.deps.WasmDeps.{WasmDeps}
use Rattle.wasm_dep_analyzer.specs.Reading.{Read, ◌>>=◌}
use Rattle.wasm_dep_analyzer.specs.Values.{u32_at, all_items}
use Rattle.wasm_dep_analyzer.specs.Types.{global_type_at, signature_at}
use Rattle.wasm_dep_analyzer.specs.Imports.{Imported, imported}
use Rattle.wasm_dep_analyzer.specs.Exports.{Listed}
use Rattle.wasm_dep_analyzer.specs.Sections.{Section, section_at, StandIn, payload_in, imports_in, exports_in, AreSound, have_all}

-- ---- types of exports

-- the items of a section that no fault of the module hangs on; an empty payload holds none
unfoldable pub own_items : {A : Type 0} → (List ℕ → Read A) → List ℕ → Result (List A) ParseError
own_items item [] = Ok []
own_items item (b ∷ bytes) = all_items item (b ∷ bytes)

-- the bytes behind the first 0B, which ends an expression ("Expressions")
unfoldable pub behind_end : List ℕ → Result (List ℕ) ParseError
behind_end [] = Err UnexpectedEof
behind_end (b ∷ rest) = if b == 0x0B then Ok rest else behind_end rest

-- a global's type and its initialiser ("Global Section")
unfoldable pub global_at : List ℕ → Read GlobalType
global_at bytes = do
  global ← global_type_at bytes
  rest ← behind_end global.1
  Ok (global.0, rest)

-- the type number of an imported function
abbrev pub function_number : Imported → List ℕ
function_number i = number_of i.import_type
  where
    number_of : ImportType → List ℕ
    number_of (import.Function n) = n ∷ []
    number_of _ = []

-- the type of an imported global
abbrev pub global_import : Imported → List GlobalType
global_import i = global_of i.import_type
  where
    global_of : ImportType → List GlobalType
    global_of (import.Global g) = g ∷ []
    global_of _ = []

-- the type numbers of all functions, imported ones first
unfoldable pub functions_of : List Imported → List ℕ → Result (List ℕ) ParseError
functions_of imports payload = do
  own ← own_items u32_at payload
  Ok (flat_map function_number imports ++ own)

-- the types of all globals, imported ones first
unfoldable pub globals_of : List Imported → List ℕ → Result (List GlobalType) ParseError
globals_of imports payload = do
  own ← own_items global_at payload
  Ok (flat_map global_import imports ++ own)

-- what exports are looked up in, each list or the first fault of its section
pub record Tables : Type 0 where
  pub functions : Result (List ℕ) ParseError
  pub types : Result (List FunctionSignature) ParseError
  pub globals : Result (List GlobalType) ParseError

-- the tables of these payloads
abbrev pub tables_from : List Imported → List ℕ → List ℕ → List ℕ → Tables
tables_from imports functions types globals = record {
  functions = functions_of imports functions;
  types = own_items signature_at types;
  globals = globals_of imports globals;
}

-- the tables of a module's sections; where there is no section, there are no items of its kind
abbrev pub tables_of : List Section → List Imported → Tables
tables_of ss imports =
    tables_from imports (unwrap_or (payload_in 3 ss) []) (unwrap_or (payload_in 1 ss) []) (unwrap_or (payload_in 6 ss) [])

-- the tables where types are skipped
abbrev pub no_tables : Tables
no_tables = record { functions = Err UnresolvedExportType; types = Err UnresolvedExportType; globals = Err UnresolvedExportType }

-- the item at this place, where it is there
abbrev pub item_or : {A : Type 0} → List A → ℕ → Result A ParseError
item_or items at = ok_or (slice_get items at) UnresolvedExportType

-- a function's type: the type at the function's number
unfoldable pub function_type : Tables → ℕ → Result FunctionSignature ParseError
function_type tables index = do
  functions ← tables.functions
  types ← tables.types
  number ← item_or functions index
  item_or types number

-- a global's type
unfoldable pub global_type : Tables → ℕ → Result GlobalType ParseError
global_type tables index = do
  globals ← tables.globals
  item_or globals index

-- an export without where its name lies in memory
pub record Exported : Type 0 where
  pub name : List ℕ
  pub index : ℕ
  pub export_type : ExportType

-- the type of what is exported
abbrev pub type_of : Tables → ExportKind → ℕ → ExportType
type_of tables kind.Function index = export.Function (function_type tables index)
type_of tables kind.Table index = export.Table
type_of tables kind.Memory index = export.Memory
type_of tables kind.Global index = export.Global (global_type tables index)
type_of tables kind.Tag index = export.Tag
type_of tables kind.Unknown index = export.Unknown

-- an export with its type
abbrev pub typed : Tables → Listed → Exported
typed tables e = record { name = e.name; index = e.index; export_type = type_of tables e.kind e.index }

-- ---- modules

-- what a module imports and exports
pub record Deps : Type 0 where
  pub imports : List Imported
  pub exports : List Exported

-- imports and exports of these sections, with the types of the exports
unfoldable pub deps_of : Bool → List Section → Result Deps ParseError
deps_of skip_types ss = do
  found ← imports_in ss
  listed ← exports_in ss
  let imports = unwrap_or found []
  let tables = if skip_types then no_tables else tables_of ss imports
  Ok (record { imports = imports; exports = map (typed tables) (unwrap_or listed []) })

-- the version behind the magic: four bytes that say 1
abbrev pub version_at : List ℕ → Result (List ℕ) ParseError
version_at bytes =
    if nat_lt (length bytes) 4 then Err UnexpectedEof
    else if from_le_bytes w32 (take 4 bytes) == 1 then Ok (drop 4 bytes) else Err (UnsupportedVersion (from_le_bytes w32 (take 4 bytes)))

-- the header: the magic `\0asm` and the version
unfoldable pub header_at : List ℕ → Result (List ℕ) ParseError
header_at bytes =
    if nat_lt (length bytes) 4 then Err NotWasm
    else if bytes_eq (take 4 bytes) (0 ∷ 97 ∷ 115 ∷ 109 ∷ []) then version_at (drop 4 bytes) else Err NotWasm

-- sections at the front of the body that are looked at: none of their shorter fronts has all that is wanted
pub record AreLookedAt (skip_types : Bool) (total : ℕ) (body : List ℕ) (ss : List Section) (rest : List ℕ) : Type 0 where
  pub stand : StandIn total ss body rest
  pub shortest : (n : ℕ) → n < length ss → have_all skip_types (take n ss) ≡ false

-- what stands behind sound sections is faulty: it is no section, or the imports or exports that it holds are faulty
abbrev pub IsNextFault : ℕ → List Section → List ℕ → ParseError → Type 0
IsNextFault total ss rest e =
    (section_at total rest ≡ Err e)
    ⊎ ((s : Section) × (after : List ℕ) × (section_at total rest ≡ Ok (s, after))
    × ((imports_in (ss ++ s ∷ []) ≡ Err e) ⊎ (exports_in (ss ++ s ∷ []) ≡ Err e)))

-- The sections looked at are the shortest front that has all that is wanted, or all of them; nothing in them is faulty.
abbrev pub ReadsBody : Bool → ℕ → List ℕ → List Section → List ℕ → Type 0
ReadsBody skip_types total body ss rest =
    AreLookedAt skip_types total body ss rest × AreSound ss × ((have_all skip_types ss ≡ true) ⊎ (rest ≡ []))

-- Behind sections that are not all that is wanted, and not faulty, stands the first fault.
pub record IsBodyFault (skip_types : Bool) (total : ℕ) (body : List ℕ) (ss : List Section) (rest : List ℕ) (e : ParseError) : Type 0 where
  pub looked : AreLookedAt skip_types total body ss rest
  pub sound : AreSound ss
  pub wanting : have_all skip_types ss ≡ false
  pub more : rest ≢ []
  pub fault : IsNextFault total ss rest e

-- The outcome of reading a module: its imports and exports, or the fault that comes first in the order of the bytes.
abbrev pub ReadsModule : Bool → List ℕ → Result Deps ParseError → Type 0
ReadsModule skip_types input (Ok deps) =
    (body : List ℕ) × (header_at input ≡ Ok body) × (ss : List Section) × (rest : List ℕ)
    × ReadsBody skip_types (length input) body ss rest × (deps_of skip_types ss ≡ Ok deps)
ReadsModule skip_types input (Err e) =
    (header_at input ≡ Err e)
    ⊎ ((body : List ℕ) × (header_at input ≡ Ok body) × (ss : List Section) × (rest : List ℕ)
    × IsBodyFault skip_types (length input) body ss rest e)

-- an export as contracts see it
abbrev pub exported : Export → Exported
exported e = record { name = e.name.now; index = e.index; export_type = e.export_type }

-- what was read as contracts see it
abbrev pub seen : WasmDeps → Deps
seen deps = record { imports = map imported deps.imports.items; exports = map exported deps.exports.items }

-- the range of an import cuts its module's name from the input
abbrev pub CutsName : List ℕ → Imported → Type 0
CutsName input i =
    (i.module_range.start ≤ i.module_range.end) × (i.module_range.end ≤ length input)
    × (slice_range input i.module_range.start i.module_range.end ≡ i.origin)

-- an outcome that is answered is the module's, unless memory ran out
abbrev pub IsOutcome : Bool → List ℕ → Result WasmDeps ParseError → Type 0
IsOutcome skip_types input (Ok deps) = ReadsModule skip_types input (Ok (seen deps))
IsOutcome skip_types input (Err OutOfMemory) = Unit {0}
IsOutcome skip_types input (Err e) = ReadsModule skip_types input (Err e)
