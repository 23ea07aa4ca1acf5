-- The JSON value of a bundle made by number.
use Rattle.std.specs.Prelude.{ℕ, zero, suc, List, ◌++◌, codes, decimal}
use Rattle.serde_json.specs.Data.{Data, number, string, array, object, unsigned, Items, no_items, item, no_members, member}
use Rattle.made_bundle.specs.Made.{module_text}

-- the specifier of a module
abbrev pub specifier_text : ℕ → List ℕ
specifier_text i = codes "file:///m/" ++ decimal i ++ codes ".ts"

-- a module
abbrev pub module_value : ℕ → ℕ → Data
module_value count i =
    object (member (codes "specifier") (string (specifier_text i))
    (member (codes "text") (string (module_text count i)) no_members))

-- so many modules from a number on
abbrev pub modules_from : ℕ → ℕ → ℕ → Items
modules_from count i zero = no_items
modules_from count i (suc k) = item (module_value count i) (modules_from count (suc i) k)

-- the root
abbrev pub roots_value : Items
roots_value = item (string (codes "file:///m/0.ts")) no_items

-- the bundle
abbrev pub made_value : ℕ → Data
made_value count =
    object (member (codes "limit") (number (unsigned count))
    (member (codes "modules") (array (modules_from count 0 count))
    (member (codes "roots") (array roots_value) no_members)))
