-- Bundles made by number: modules `file:///m/0.ts` and on, of which each imports the two below it in a binary tree, and each but the
-- first imports the first one back when it runs (this project's own, for measurements; JSON is that of RFC 8259, without blanks).
use Rattle.std.specs.Prelude.{◌≡◌, ℕ, zero, suc, ◌+◌, ◌*◌, ◌==◌, nat_lt, List, [], ◌++◌, codes, decimal, String, string_bytes, if◌then◌else◌}
use Rattle.json.specs.Print.{quoted}

-- the import of a module, if there is one with this number
unfoldable pub child_line : ℕ → ℕ → List ℕ
child_line count child = if nat_lt child count then codes "import \"./" ++ decimal child ++ codes ".ts\";\n" else []

-- the import of the first module, in each other one
unfoldable pub back_line : ℕ → List ℕ
back_line number = if number == 0 then [] else codes "import(\"./0.ts\");\n"

-- what stands in front of a value's number
unfoldable pub declared : List ℕ
declared = codes "export const v"

-- what a value is
unfoldable pub assigned : ℕ → List ℕ
assigned number = codes " = " ++ decimal number ++ codes ";\n"

-- a value
unfoldable pub value_line : ℕ → List ℕ
value_line number = declared ++ decimal number ++ assigned number

-- the text of a module
unfoldable pub module_text : ℕ → ℕ → List ℕ
module_text count number =
    child_line count (2 * number + 1) ++ child_line count (2 * number + 2) ++ back_line number ++ value_line number

-- what stands in front of a module's number in JSON
unfoldable pub module_front : List ℕ
module_front = codes "{\"specifier\":\"file:///m/"

-- the front of a module in JSON, with its specifier
unfoldable pub specifier_json : ℕ → List ℕ
specifier_json number = module_front ++ decimal number ++ codes ".ts\""

-- the rest, with its text
unfoldable pub text_json : List ℕ → List ℕ
text_json text = codes ",\"text\":" ++ quoted text ++ codes "}"

-- a module in JSON
unfoldable pub module_json : ℕ → ℕ → List ℕ
module_json count number = specifier_json number ++ text_json (module_text count number)

-- what stands in front of a module
abbrev pub comma : ℕ → List ℕ
comma zero = []
comma (suc number) = codes ","

-- the first so many modules
abbrev pub modules_upto : ℕ → ℕ → List ℕ
modules_upto count zero = []
modules_upto count (suc number) = modules_upto count number ++ (comma number ++ module_json count number)

-- the bundle of so many modules: as many specifiers are allowed, and the first module is the root
unfoldable pub made_text : ℕ → List ℕ
made_text count =
    codes "{\"limit\":" ++ decimal count ++ codes ",\"modules\":[" ++ modules_upto count count
    ++ codes "],\"roots\":[\"file:///m/0.ts\"]}\n"

-- a text was put behind a string
abbrev pub Adds : {A : Type 0} → String A → String A → List ℕ → Type 0
Adds old new text = string_bytes new ≡ string_bytes old ++ text
