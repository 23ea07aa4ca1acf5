-- Initialisers, tables and outcomes.
use Rattle.std.proofs.Common.{◌≡◌, ◌≢◌, ℕ, ◌<◌, Bool, eqb, List, [], ◌∷◌, length, map, Option, Result, Ok, Err, refl, sym, ap, inl, inr, arith}
use Rattle.std.specs.Prelude.{unwrap_or, if◌then◌else◌}
use Rattle.std.specs.Global.{Vec}
use Rattle.std.proofs.lemmas.Bool.{eqb-true}
use Rattle.wasm_dep_analyzer.specs.declared.error.ParseError.{ParseError}
use Rattle.wasm_dep_analyzer.specs.declared.error.ParseError.TheVariants.{OutOfMemory}
use Rattle.wasm_dep_analyzer.specs.Reading.{GivesInRoom}
use Rattle.wasm_dep_analyzer.specs.Values.{u8_at}
use Rattle.wasm_dep_analyzer.specs.Imports.{Imported}
use Rattle.wasm_dep_analyzer.specs.Exports.{Listed}
use Rattle.wasm_dep_analyzer.specs.Sections.{Section, payload_in, imports_in, exports_in}
use Rattle.wasm_dep_analyzer.specs.Module.{behind_end, header_at, Tables, no_tables, tables_from, Exported, typed, deps_of, IsOutcome}
use Rattle.wasm_dep_analyzer.specs.Steps.{items_of, HasBodyFault}
use Rattle.wasm_dep_analyzer.proofs.ValuesLemmas.{first_is, not_true}

-- ---- initialisers

pub behind_end-none : (bytes : List ℕ) (e : ParseError) → u8_at bytes ≡ Err e → behind_end bytes ≡ Err e
unfolding behind_end
behind_end-none [] e h = cc
behind_end-none (b ∷ rest) e h = absurd cc

pub behind_end-found : (bytes : List ℕ) (b : ℕ) (rest : List ℕ) → b ≡ 11 → u8_at bytes ≡ Ok (b, rest)
    → behind_end bytes ≡ Ok rest
unfolding behind_end
behind_end-found bytes b rest e h = rw (first_is bytes b rest h, e) refl

pub behind_end-on : (bytes : List ℕ) (b : ℕ) (rest : List ℕ) → b ≢ 11 → u8_at bytes ≡ Ok (b, rest)
    → behind_end bytes ≡ behind_end rest
unfolding behind_end
behind_end-on bytes b rest other h =
    rw (first_is bytes b rest h, not_true (eqb b 11) (λ e. other (eqb-true b 11 e))) refl

-- what follows a byte is shorter
pub length-first : (bytes : List ℕ) (b : ℕ) (rest : List ℕ) → u8_at bytes ≡ Ok (b, rest) → length rest < length bytes
length-first bytes b rest h = omega (arith, ap length (first_is bytes b rest h))

-- ---- tables

-- a result that is kept is what reading gives
pub kept_is : {A : Type 0} (kept : Result (Vec A) ParseError) (read : Result (List A) ParseError)
    → GivesInRoom (λ v. v.items) kept read → kept ≢ Err OutOfMemory → items_of kept ≡ read
kept_is (Ok v) read h some = sym h
kept_is (Err OutOfMemory) read h some = absurd (some refl)
kept_is (Err _) read h some = sym h

-- ---- outcomes

-- the header's fault is the module's
pub fault_of_header : (skip_types : Bool) (input : List ℕ) (e : ParseError) → header_at input ≡ Err e
    → IsOutcome skip_types input (Err e)
fault_of_header skip_types input OutOfMemory h = tt
fault_of_header skip_types input _ h = inl h

-- the body's fault is the module's
pub fault_of_body : (skip_types : Bool) (input body : List ℕ) (e : ParseError) → header_at input ≡ Ok body
    → HasBodyFault skip_types (length input) body e → IsOutcome skip_types input (Err e)
fault_of_body skip_types input body OutOfMemory header h = tt
fault_of_body skip_types input body _ header h = inr (body, header, h.0, h.1, h.2)

-- what was found, put together, is what the sections say
pub deps_are : (skip_types : Bool) (ss : List Section) (found : Option (List Imported)) (shown : Option (List Listed))
    (types functions globals : Option (List ℕ))
    (imports : List Imported) (tables : Tables) (exports : List Exported)
    → imports_in ss ≡ Ok found → exports_in ss ≡ Ok shown → types ≡ payload_in 1 ss → functions ≡ payload_in 3 ss
    → globals ≡ payload_in 6 ss
    → imports ≡ unwrap_or found []
    → tables ≡ (if skip_types then no_tables else
    tables_from imports (unwrap_or functions []) (unwrap_or types []) (unwrap_or globals []))
    → exports ≡ map (typed tables) (unwrap_or shown [])
    → deps_of skip_types ss ≡ Ok (record { imports = imports; exports = exports })
unfolding deps_of
deps_are skip_types ss found shown types functions globals imports tables exports imports-are exports-are types-are
    functions-are globals-are i t e =
    rw (imports-are, exports-are, e, t, i, types-are, functions-are, globals-are) refl
