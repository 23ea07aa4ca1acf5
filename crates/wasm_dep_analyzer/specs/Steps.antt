-- What the functions inside the crate promise each other.
use Rattle.std.specs.Prelude.{◌≡◌, ℕ, Bool, ◌⊎◌, List, map, Option, Result, Ok, Err, MatchResult}
use Rattle.std.specs.Option.{option_map, option_copied}
use Rattle.wasm_dep_analyzer.specs.declared.error.ParseError.{ParseError}
use Rattle.wasm_dep_analyzer.specs.declared.error.ParseError.TheVariants.{OutOfMemory}
use Rattle.wasm_dep_analyzer.specs.declared.deps.Import.{Import}
use Rattle.wasm_dep_analyzer.specs.declared.exports.Exports.{Exports}
use Rattle.wasm_dep_analyzer.specs.declared.sections.Found.{Found}
use Rattle.wasm_dep_analyzer.specs.declared.sections.Piece.{Piece}
use Rattle.wasm_dep_analyzer.specs.declared.tables.Tables.{Tables}
use Rattle.std.specs.Global.{Vec}
use Rattle.wasm_dep_analyzer.specs.Imports.{Imported, imported}
use Rattle.wasm_dep_analyzer.specs.Exports.{Listed, listed}
use Rattle.wasm_dep_analyzer.specs.Sections.{Section, payload_in, imports_in, exports_in}
use Rattle.wasm_dep_analyzer.specs.Module as module_specs
use Rattle.wasm_dep_analyzer.specs.Module.{ReadsBody, IsBodyFault}

-- a section as contracts see it
abbrev pub section : Piece → Section
section p = record { kind = p.kind; payload = p.payload.now; end = p.end }

-- imports that were found, as contracts see them
abbrev pub found_imports : Option (Vec Import) → Option (List Imported)
found_imports o = option_map (λ v. map imported v.items) o

-- exports that were found, as contracts see them
abbrev pub found_exports : Option Exports → Option (List Listed)
found_exports o = option_map (λ e. map listed e.items.items) o

-- this is what the sections hold, of each kind the first
pub record IsFoundIn (found : Found) (ss : List Section) : Type 0 where
  pub imports : imports_in ss ≡ Ok (found_imports found.imports)
  pub exports : exports_in ss ≡ Ok (found_exports found.exports)
  pub types : option_copied found.types ≡ payload_in 1 ss
  pub functions : option_copied found.functions ≡ payload_in 3 ss
  pub globals : option_copied found.globals ≡ payload_in 6 ss

-- a fault of the imports or exports, unless memory ran out
abbrev pub IsFaultIn : ParseError → List Section → Type 0
IsFaultIn OutOfMemory ss = Unit {0}
IsFaultIn e ss = (imports_in ss ≡ Err e) ⊎ (exports_in ss ≡ Err e)

-- what is found in these sections, or the fault of their imports or exports
abbrev pub FindsIn : Result Found ParseError → List Section → Type 0
FindsIn result ss = MatchResult result (λ found. IsFoundIn found ss) (λ e. IsFaultIn e ss)

-- the fault of a body, unless memory ran out
abbrev pub HasBodyFault : Bool → ℕ → List ℕ → ParseError → Type 0
HasBodyFault skip_types total body OutOfMemory = Unit {0}
HasBodyFault skip_types total body e = (ss : List Section) × (rest : List ℕ) × IsBodyFault skip_types total body ss rest e

-- what is found in the sections of the body that are looked at, or its fault
abbrev pub FindsAll : Bool → ℕ → List ℕ → Result Found ParseError → Type 0
FindsAll skip_types total body result = MatchResult result
    (λ found. (ss : List Section) × (rest : List ℕ) × ReadsBody skip_types total body ss rest × IsFoundIn found ss)
    (λ e. HasBodyFault skip_types total body e)

-- a result with the items of its vector
abbrev pub items_of : {A : Type 0} → Result (Vec A) ParseError → Result (List A) ParseError
items_of (Ok v) = Ok v.items
items_of (Err e) = Err e

-- tables as contracts see them
abbrev pub shown_tables : Tables → module_specs.Tables
shown_tables t = record { functions = items_of t.functions; types = items_of t.types; globals = items_of t.globals }
