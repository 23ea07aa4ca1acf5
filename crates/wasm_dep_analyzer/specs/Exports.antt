-- Exports before their types are looked up (WebAssembly Core, "Export Section").
use Rattle.std.specs.Prelude.{ℕ, Bool, true, false, List, Ok, ◌==◌, if◌then◌else◌}
use Rattle.std.specs.List.{list_any}
use Rattle.wasm_dep_analyzer.specs.declared.exports.ExportKind.{ExportKind}
use Rattle.wasm_dep_analyzer.specs.declared.exports.ExportKind.TheVariants.{Function, Table, Memory, Global, Tag, Unknown}
use Rattle.wasm_dep_analyzer.specs.declared.exports.ExportItem.{ExportItem}
use Rattle.wasm_dep_analyzer.specs.Reading.{Read, ◌>>=◌}
use Rattle.wasm_dep_analyzer.specs.Values.{u8_at, u32_at, name_at}

-- an export as the section has it, without where its name lies in memory
pub record Listed : Type 0 where
  pub name : List ℕ
  pub kind : ExportKind
  pub index : ℕ

-- the kind of a byte
abbrev pub export_kind_of : ℕ → ExportKind
export_kind_of b =
    if b == 0 then Function else if b == 1 then Table else if b == 2 then Memory else if b == 3 then Global
    else if b == 4 then Tag else Unknown

-- a name, a kind byte and a number
unfoldable pub export_at : List ℕ → Read Listed
export_at bytes = do
  name ← name_at bytes
  kind ← u8_at name.1
  index ← u32_at kind.1
  Ok (record { name = name.0; kind = export_kind_of kind.0; index = index.0 }, index.1)

-- an export of the section as contracts see it
abbrev pub listed : ExportItem → Listed
listed e = record { name = e.name.now; kind = e.kind; index = e.index }

-- the export is a function
abbrev pub is_function : Listed → Bool
is_function e = function_kind e.kind
  where
    function_kind : ExportKind → Bool
    function_kind Function = true
    function_kind _ = false

-- the export is a global
abbrev pub is_global : Listed → Bool
is_global e = global_kind e.kind
  where
    global_kind : ExportKind → Bool
    global_kind Global = true
    global_kind _ = false

-- some export is a function
abbrev pub has_function : List Listed → Bool
has_function exports = list_any is_function exports

-- some export is a global
abbrev pub has_global : List Listed → Bool
has_global exports = list_any is_global exports
