-- What the functions inside the crate promise each other.
use Rattle.std.specs.Prelude.{◌≡◌, ◌≢◌, ℕ, true, List, map, None, Result, Ok, Err}
use Rattle.url.specs.Parts.{Parts}
use Rattle.url.specs.Parser.{Parsed, parse_url}
use Rattle.graph_entry.specs.Specifier.{text_of}
use Rattle.wasm_dep_analyzer.specs.declared.error.ParseError.{ParseError}
use Rattle.wasm_dep_analyzer.specs.declared.error.ParseError.TheVariants.{OutOfMemory}
use Rattle.wasm_dep_analyzer.specs.Module.{Deps, ReadsModule}
use Rattle.graph_entry.specs.declared.entry.Dependency.{Dependency}
use Rattle.graph_entry.specs.Resolution.{Resolves}
use Rattle.graph_entry.specs.Wasm.{wasm_dependency}
use Rattle.graph_entry.specs.declared.analysis.Source.{Source}
use Rattle.graph_entry.specs.declared.resolution.ReadAgain.{ReadAgain}
use Rattle.graph_entry.specs.declared.resolution.ReadAgain.TheVariants.{Itself, Other, Refused}

-- the URL that was read, or why there is none
abbrev pub read_of : ReadAgain → Parsed Parts
read_of (Itself url) = Ok url.now
read_of (Other url) = Ok url
read_of (Refused e) = Err e

-- the base is what the specifier's text is read as
abbrev pub IsReadAgain : Source → Type 0
IsReadAgain source = read_of source.base.now ≡ parse_url None (text_of source.specifier.now)

-- the edges of the WebAssembly module at this specifier, or its first fault
abbrev pub GivesEdges : Resolves → List ℕ → List ℕ → Result (List Dependency) ParseError → Type 0
GivesEdges resolves s bytes (Ok edges) =
    (deps : Deps) × ReadsModule true bytes (Ok deps) × (edges ≡ map (wasm_dependency resolves s) deps.imports)
GivesEdges resolves s bytes (Err e) = (e ≢ OutOfMemory) × ReadsModule true bytes (Err e)
