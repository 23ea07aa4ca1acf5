-- Content of JSON and of WebAssembly: one entry, and the facts of its edges.
use Rattle.std.proofs.Common.{◌≡◌, ◌∙◌, sym, ap, subst, refl, true, List, ℕ, [], ◌∷◌, Ok, Err}
use Rattle.std.specs.Prelude.{All, Result, slice_index_or}
use Rattle.std.specs.List.{AllByRecursion}
use Rattle.std.proofs.lemmas.List.Elements.{All-map, All-nil, All-cons}
use Rattle.wasm_dep_analyzer.specs.declared.error.ParseError.{ParseError}
use Rattle.wasm_dep_analyzer.specs.Imports.{Imported}
use Rattle.wasm_dep_analyzer.specs.Module.{Deps, ReadsModule}
use Rattle.wasm_dep_analyzer.specs.Module as wasm
use Rattle.wasm_dep_analyzer.proofs.Theorems.{one_outcome}
use Rattle.wasm_dep_analyzer.proofs.CutLemmas.{cuts_names}
use Rattle.graph_entry.specs.declared.entry.Dependency.{Dependency}
use Rattle.graph_entry.specs.declared.entry.Entry.{Entry}
use Rattle.graph_entry.specs.declared.entry.Entry.TheVariants as entry
use Rattle.graph_entry.specs.declared.entry.ModuleError.TheVariants.{WasmParse}
use Rattle.graph_entry.specs.Entry.{CutsName, EachEdge, KeepsReasonOf}
use Rattle.graph_entry.specs.Json.{OfJson, with_json, no_json}
use Rattle.graph_entry.specs.declared.entry.Module.TheVariants.{Wasm}
use Rattle.graph_entry.specs.Resolution.{Resolves, KeepsReason}
use Rattle.graph_entry.specs.Steps.{GivesEdges}
use Rattle.graph_entry.specs.Wasm.{OfWasm, with_imports, faulty, wasm_dependency, wasm_module}

-- ---- one entry

pub OfJson-once : (bytes : List ℕ) (made other : Entry) → OfJson bytes made → OfJson bytes other → made ≡ other
OfJson-once bytes made other (with_json utf8 is) (with_json also so) = is ∙ sym so
OfJson-once bytes made other (with_json utf8 is) (no_json not so) = absurd (not utf8)
OfJson-once bytes made other (no_json not is) (with_json utf8 so) = absurd (not utf8)
OfJson-once bytes made other (no_json not is) (no_json also so) = is ∙ sym so

-- the entry of an outcome
abbrev outcome_entry : Resolves → List ℕ → List ℕ → Result Deps ParseError → Entry
outcome_entry by s bytes (Ok deps) = wasm_module by s bytes deps.imports
outcome_entry by s bytes (Err e) = entry.Error (WasmParse e)

pub OfWasm-once : (by : Resolves) (s bytes : List ℕ) (made other : Entry) → OfWasm by s bytes made
    → OfWasm by s bytes other → made ≡ other
OfWasm-once by s bytes made other makes also = one makes also
  where
    same : (a b : Result Deps ParseError) → ReadsModule true bytes a → ReadsModule true bytes b
        → outcome_entry by s bytes a ≡ outcome_entry by s bytes b
    same a b h k = ap (outcome_entry by s bytes) (one_outcome true bytes a b h k)

    one : OfWasm by s bytes made → OfWasm by s bytes other → made ≡ other
    one (with_imports d reads is) (with_imports e too so) = is ∙ same (Ok d) (Ok e) reads too ∙ sym so
    one (with_imports d reads is) (faulty e room too so) = is ∙ same (Ok d) (Err e) reads too ∙ sym so
    one (faulty d room reads is) (with_imports e too so) = is ∙ same (Err d) (Ok e) reads too ∙ sym so
    one (faulty d room reads is) (faulty e other_room too so) = is ∙ same (Err d) (Err e) reads too ∙ sym so

-- ---- the facts of the edges

-- Q holds of the edge of each import of the bytes, in the module at s
abbrev pub HoldsOfImports : (List ℕ → Dependency → Type 0) → Resolves → List ℕ → List ℕ → Type 0
HoldsOfImports Q by s bytes =
    (deps : Deps) → ReadsModule true bytes (Ok deps) → All (λ i. Q bytes (wasm_dependency by s i)) deps.imports

module _ (P Q : List ℕ → Dependency → Type 0) where
  pub OfJson-edges : (bytes : List ℕ) (made : Entry) → OfJson bytes made → EachEdge P Q made
  OfJson-edges bytes made (with_json utf8 is) = subst (EachEdge P Q) (sym is) tt
  OfJson-edges bytes made (no_json not is) = subst (EachEdge P Q) (sym is) tt

  pub OfWasm-edges : (by : Resolves) (s bytes : List ℕ) (made : Entry) → HoldsOfImports Q by s bytes
      → OfWasm by s bytes made → EachEdge P Q made
  OfWasm-edges by s bytes made holds (with_imports deps reads is) =
      subst (EachEdge P Q) (sym is) (All-map (Q bytes) (wasm_dependency by s) deps.imports (holds deps reads))
  OfWasm-edges by s bytes made holds (faulty e room reads is) = subst (EachEdge P Q) (sym is) tt

-- an import that cuts its module's name has an edge that does
pub imports-CutsName : (by : Resolves) (s bytes : List ℕ) → HoldsOfImports CutsName by s bytes
imports-CutsName by s bytes deps reads = along deps.imports (cuts_names true bytes deps reads)
  where
    along : (is : List Imported) → AllByRecursion (wasm.CutsName bytes) is
        → All (λ i. CutsName bytes (wasm_dependency by s i)) is
    along [] cuts = All-nil (λ i. CutsName bytes (wasm_dependency by s i))
    along (i ∷ is) cuts =
        All-cons (λ i. CutsName bytes (wasm_dependency by s i)) i is
        (i.module_range, refl, cuts.0.0, cuts.0.1, cuts.0.2)
        (along is cuts.1)

-- the edge of an import never keeps that room ran out
pub imports-KeepsReasonOf : (by : Resolves) → ((s text : List ℕ) → KeepsReason (by s text)) → (s bytes : List ℕ)
    → HoldsOfImports KeepsReasonOf by s bytes
imports-KeepsReasonOf by kept s bytes deps reads k i within = kept s (slice_index_or deps.imports k i).origin

-- ---- what the code gives

pub wasm_given : (by : Resolves) (s bytes : List ℕ) (edges : List Dependency) → GivesEdges by s bytes (Ok edges)
    → OfWasm by s bytes (entry.Module (Wasm (record { bytes = bytes; dependencies = edges })))
wasm_given by s bytes edges gives = with_imports gives.0 gives.1 (rw gives.2 refl)

pub wasm_refused : (by : Resolves) (s bytes : List ℕ) (e : ParseError) → GivesEdges by s bytes (Err e)
    → OfWasm by s bytes (entry.Error (WasmParse e))
wasm_refused by s bytes e gives = faulty e gives.0 gives.1 refl
