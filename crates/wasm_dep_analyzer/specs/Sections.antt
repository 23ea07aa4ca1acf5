-- Sections, and which of them are looked at (WebAssembly Core, "Modules" and "Sections").
use Rattle.std.specs.Prelude.{◌≡◌, ℕ, ◌-◌, Bool, false, ◌&&◌, ◌||◌, not, List, [], ◌∷◌, length, Option, Some, None, is_some, Result, Ok, IsOk, ◌==◌, if◌then◌else◌}
use Rattle.std.specs.Option.{option_map}
use Rattle.std.specs.Result.{result_unwrap_or}
use Rattle.wasm_dep_analyzer.specs.declared.error.ParseError.{ParseError}
use Rattle.wasm_dep_analyzer.specs.Reading.{Read, ◌>>=◌}
use Rattle.wasm_dep_analyzer.specs.Values.{u8_at, u32_at, bytes_at, all_items}
use Rattle.wasm_dep_analyzer.specs.Imports.{Imported, import_at}
use Rattle.wasm_dep_analyzer.specs.Exports.{Listed, export_at, has_function, has_global}

-- a section, with the place in the module where its payload ends
pub record Section : Type 0 where
  pub kind : ℕ
  pub payload : List ℕ
  pub end : ℕ

-- a kind byte, a length and so many bytes, in a module of `total` bytes
unfoldable pub section_at : ℕ → List ℕ → Read Section
section_at total bytes = do
  kind ← u8_at bytes
  count ← u32_at kind.1
  payload ← bytes_at count.0 count.1
  Ok (record { kind = kind.0; payload = payload.0; end = total - length payload.1 }, payload.1)

-- these sections stand at the front of the bytes, one behind the other, and the rest follows them
abbrev pub StandIn : ℕ → List Section → List ℕ → List ℕ → Type 0
StandIn total [] bytes rest = bytes ≡ rest
StandIn total (s ∷ ss) bytes rest =
    (after : List ℕ) × (section_at total bytes ≡ Ok (s, after)) × StandIn total ss after rest

-- the first section of a kind
unfoldable pub first : ℕ → List Section → Option Section
first kind [] = None
first kind (s ∷ ss) = if s.kind == kind then Some s else first kind ss

-- there is a section of the kind
abbrev pub has : ℕ → List Section → Bool
has kind ss = is_some (first kind ss)

-- the payload of the first section of a kind
abbrev pub payload_in : ℕ → List Section → Option (List ℕ)
payload_in kind ss = option_map (λ s. s.payload) (first kind ss)

-- what a section holds, where there is one
abbrev pub held : {A : Type 0} → (Section → Result (List A) ParseError) → Option Section → Result (Option (List A)) ParseError
held items None = Ok None
held items (Some s) = items s >>= λ found. Ok (Some found)

-- the imports of a section
abbrev pub imports_of : Section → Result (List Imported) ParseError
imports_of s = all_items (import_at s.end) s.payload

-- the exports of a section
abbrev pub exports_of : Section → Result (List Listed) ParseError
exports_of s = all_items export_at s.payload

-- the imports of the first import section
abbrev pub imports_in : List Section → Result (Option (List Imported)) ParseError
imports_in ss = held imports_of (first 2 ss)

-- the exports of the first export section
abbrev pub exports_in : List Section → Result (Option (List Listed)) ParseError
exports_in ss = held exports_of (first 7 ss)

-- there are the sections that exports want: types and functions for a function, globals for a global
abbrev pub suffices : Bool → Bool → List Listed → Bool
suffices has_functions has_globals exports =
    (has_functions || not (has_function exports)) && (has_globals || not (has_global exports))

-- imports and exports that could be read
abbrev pub AreSound : List Section → Type 0
AreSound ss = IsOk (imports_in ss) × IsOk (exports_in ss)

-- the sections have what the exports want, which are there
abbrev pub have_for : Bool → List Section → Option (List Listed) → Bool
have_for skip_types ss None = false
have_for skip_types ss (Some exports) = skip_types || suffices (has 1 ss && has 3 ss) (has 6 ss) exports

-- all that is wanted stands among these sections
abbrev pub have_all : Bool → List Section → Bool
have_all skip_types ss = has 2 ss && have_for skip_types ss (result_unwrap_or (exports_in ss) None)
