-- The types of imports and exports (WebAssembly Core, "Types" and "Import Section").
use Rattle.std.specs.Prelude.{ℕ, ◌%◌, Bool, true, false, List, Option, Some, None, Result, Ok, Err, ◌==◌, if◌then◌else◌}
use Rattle.wasm_dep_analyzer.specs.declared.error.ParseError.{ParseError}
use Rattle.wasm_dep_analyzer.specs.declared.error.ParseError.TheVariants.{UnknownImportType, UnknownElementType, InvalidMutabilityFlag, UnknownTagKind, InvalidTypeIndicator}
use Rattle.wasm_dep_analyzer.specs.declared.types.ValueType.{ValueType}
use Rattle.wasm_dep_analyzer.specs.declared.types.ValueType.TheVariants.{I32, I64, F32, F64, Unknown}
use Rattle.wasm_dep_analyzer.specs.declared.types.Limits.{Limits}
use Rattle.wasm_dep_analyzer.specs.declared.types.GlobalType.{GlobalType}
use Rattle.wasm_dep_analyzer.specs.declared.types.ImportType.{ImportType}
use Rattle.wasm_dep_analyzer.specs.declared.types.ImportType.TheVariants.{Function, Table, Memory, Global, Tag}
use Rattle.wasm_dep_analyzer.specs.declared.types.FunctionSignature.{FunctionSignature}
use Rattle.wasm_dep_analyzer.specs.Reading.{Read, ◌>>=◌}
use Rattle.wasm_dep_analyzer.specs.Values.{u8_at, u32_at, vector_at}

-- the value type of a byte ("Number Types")
abbrev pub value_type_of : ℕ → ValueType
value_type_of b =
    if b == 0x7F then I32 else if b == 0x7E then I64 else if b == 0x7D then F32 else if b == 0x7C then F64 else Unknown

-- a value type is one byte
unfoldable pub value_type_at : List ℕ → Read ValueType
value_type_at bytes = do
  b ← u8_at bytes
  Ok (value_type_of b.0, b.1)

-- a number where the flag's lowest bit is set, else none
unfoldable pub maximum_at : ℕ → List ℕ → Read (Option ℕ)
maximum_at flag bytes =
    if flag % 2 == 0 then Ok (None, bytes) else (do
      n ← u32_at bytes
      Ok (Some n.0, n.1))

-- a flag, a number, and the second number that the flag tells of ("Limits")
unfoldable pub limits_at : List ℕ → Read Limits
limits_at bytes = do
  flag ← u8_at bytes
  initial ← u32_at flag.1
  maximum ← maximum_at flag.0 initial.1
  Ok (record { initial = initial.0; maximum = maximum.0 }, maximum.1)

-- the byte 0 or 1
abbrev pub mutability_of : ℕ → Result Bool ParseError
mutability_of b = if b == 0 then Ok false else if b == 1 then Ok true else Err (InvalidMutabilityFlag b)

-- a value type and whether it may be written ("Global Types")
unfoldable pub global_type_at : List ℕ → Read GlobalType
global_type_at bytes = do
  value_type ← value_type_at bytes
  flag ← u8_at value_type.1
  mutability ← mutability_of flag.0
  Ok (record { value_type = value_type.0; mutability = mutability }, flag.1)

-- the byte is the mark that must stand here
abbrev pub marked : ℕ → ℕ → ParseError → Result (Unit {0}) ParseError
marked b mark fault = if b == mark then Ok tt else Err fault

-- the mark of references to functions, and limits ("Table Types")
unfoldable pub table_at : List ℕ → Read ImportType
table_at bytes = do
  mark ← u8_at bytes
  _ ← marked mark.0 0x70 (UnknownElementType mark.0)
  limits ← limits_at mark.1
  Ok (Table (record { element_type = mark.0; limits = limits.0 }), limits.1)

-- the byte 0 and a type number ("Tag Types")
unfoldable pub tag_at : List ℕ → Read ImportType
tag_at bytes = do
  kind ← u8_at bytes
  _ ← marked kind.0 0 (UnknownTagKind kind.0)
  n ← u32_at kind.1
  Ok (Tag (record { kind = kind.0; type_index = n.0 }), n.1)

-- the type number of a function
unfoldable pub function_at : List ℕ → Read ImportType
function_at bytes = do
  n ← u32_at bytes
  Ok (Function n.0, n.1)

-- a memory is its limits ("Memory Types")
unfoldable pub memory_at : List ℕ → Read ImportType
memory_at bytes = do
  limits ← limits_at bytes
  Ok (Memory (record { limits = limits.0 }), limits.1)

-- an imported global is its type
unfoldable pub global_at : List ℕ → Read ImportType
global_at bytes = do
  global ← global_type_at bytes
  Ok (Global global.0, global.1)

-- what the kind byte tells ("Import Section")
abbrev pub import_type_of : ℕ → List ℕ → Read ImportType
import_type_of kind bytes =
    if kind == 0 then function_at bytes
    else if kind == 1 then table_at bytes
    else if kind == 2 then memory_at bytes
    else if kind == 3 then global_at bytes
    else if kind == 4 then tag_at bytes
    else Err (UnknownImportType kind)

-- a kind byte and what it tells
unfoldable pub import_type_at : List ℕ → Read ImportType
import_type_at bytes = do
  kind ← u8_at bytes
  import_type_of kind.0 kind.1

-- the mark of function types, their parameters and their results ("Function Types")
unfoldable pub signature_at : List ℕ → Read FunctionSignature
signature_at bytes = do
  mark ← u8_at bytes
  _ ← marked mark.0 0x60 (InvalidTypeIndicator mark.0)
  params ← vector_at value_type_at mark.1
  returns ← vector_at value_type_at params.1
  Ok (record { params = params.0; returns = returns.0 }, returns.1)
