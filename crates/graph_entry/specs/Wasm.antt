-- What content makes that is read as a WebAssembly module (WebAssembly Core, "Modules"). The types of its exports are left unread.
use Rattle.std.specs.Prelude.{◌≡◌, ◌≢◌, ℕ, true, false, List, map, Some, Ok, Err}
use Rattle.es_site.specs.declared.site.DependencyKind.TheVariants as dependency_kind
use Rattle.es_site.specs.declared.site.Attribute.TheVariants.{Absent}
use Rattle.wasm_dep_analyzer.specs.declared.error.ParseError.{ParseError}
use Rattle.wasm_dep_analyzer.specs.declared.error.ParseError.TheVariants.{OutOfMemory}
use Rattle.wasm_dep_analyzer.specs.Imports.{Imported}
use Rattle.wasm_dep_analyzer.specs.Module.{Deps, ReadsModule}
use Rattle.graph_entry.specs.declared.entry.Dependency.{Dependency}
use Rattle.graph_entry.specs.declared.entry.Module.TheVariants.{Wasm}
use Rattle.graph_entry.specs.declared.entry.Entry.{Entry}
use Rattle.graph_entry.specs.declared.entry.Entry.TheVariants as entry
use Rattle.graph_entry.specs.declared.entry.ModuleError.TheVariants.{WasmParse}
use Rattle.graph_entry.specs.Resolution.{Resolves, KindResolving, resolve_by}

-- where a resolver leads the imports of a module of WebAssembly
abbrev pub wasm_resolves : KindResolving → Resolves
wasm_resolves resolving = resolve_by (resolving dependency_kind.Wasm)

-- the edge of an import of the module at this specifier: its text is the name of the module that is imported from
abbrev pub wasm_dependency : Resolves → List ℕ → Imported → Dependency
wasm_dependency resolves s i = record {
  kind = dependency_kind.Wasm;
  type_only = false;
  range = Some i.module_range;
  text = i.origin;
  attribute = Absent;
  resolution = resolves s i.origin;
}

-- the module at this specifier: its bytes, and one edge for each import, in order
abbrev pub wasm_module : Resolves → List ℕ → List ℕ → List Imported → Entry
wasm_module resolves s bytes imports =
    entry.Module (Wasm (record { bytes = bytes; dependencies = map (wasm_dependency resolves s) imports }))

-- what bytes make that are read as a WebAssembly module
pub data OfWasm (resolves : Resolves) (s : List ℕ) (bytes : List ℕ) (made : Entry) : Type 0 where
  -- the module that they are
  with_imports : (deps : Deps) → ReadsModule true bytes (Ok deps) → made ≡ wasm_module resolves s bytes deps.imports
      → OfWasm resolves s bytes made
  -- they are none: the first fault, which is never that memory ran out
  faulty : (e : ParseError) → e ≢ OutOfMemory → ReadsModule true bytes (Err e) → made ≡ entry.Error (WasmParse e)
      → OfWasm resolves s bytes made
