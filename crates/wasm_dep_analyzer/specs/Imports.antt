-- Imports, and where their modules' names stand (WebAssembly Core, "Import Section").
use Rattle.std.specs.Prelude.{ℕ, ◌-◌, List, length, Ok}
use Rattle.base.specs.declared.range.Range.{Range}
use Rattle.wasm_dep_analyzer.specs.declared.deps.Import.{Import}
use Rattle.wasm_dep_analyzer.specs.declared.types.ImportType.{ImportType}
use Rattle.wasm_dep_analyzer.specs.Reading.{Read, ◌>>=◌}
use Rattle.wasm_dep_analyzer.specs.Values.{name_at}
use Rattle.wasm_dep_analyzer.specs.Types.{import_type_at}

-- an import without where its names lie in memory; `origin` is the name of its module
pub record Imported : Type 0 where
  pub name : List ℕ
  pub origin : List ℕ
  pub module_range : Range
  pub import_type : ImportType

-- the place of bytes that end where `rest` begins, in a payload that ends at `end`
abbrev pub range_before : ℕ → List ℕ → List ℕ → Range
range_before end bytes rest = record { start = end - length rest - length bytes; end = end - length rest }

-- two names and a type, in a payload that ends at `end`
unfoldable pub import_at : ℕ → List ℕ → Read Imported
import_at end bytes = do
  origin ← name_at bytes
  name ← name_at origin.1
  import_type ← import_type_at name.1
  Ok (record { name = name.0; origin = origin.0; module_range = range_before end origin.0 origin.1; import_type = import_type.0 }, import_type.1)

-- an import as contracts see it
abbrev pub imported : Import → Imported
imported i = record { name = i.name.now; origin = i.module.now; module_range = i.module_range; import_type = i.import_type }
