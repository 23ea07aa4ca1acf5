-- What content makes that is read as a text of JSON: its text, whatever stands in it.
use Rattle.std.specs.Prelude.{◌≡◌, ℕ, List, IsUtf8}
use Rattle.graph_entry.specs.declared.entry.Entry.{Entry}
use Rattle.graph_entry.specs.declared.entry.Entry.TheVariants as entry
use Rattle.graph_entry.specs.declared.entry.Module.TheVariants.{Json}
use Rattle.graph_entry.specs.declared.entry.ModuleError.TheVariants.{Decode}
use Rattle.source_text.specs.module_text.ModuleText.{without_mark}

-- bytes that were to be a text are none
abbrev pub no_utf8 : Entry
no_utf8 = entry.Error Decode

-- the module of a text of JSON
abbrev pub json_module : List ℕ → Entry
json_module text = entry.Module (Json (record { text = text }))

-- what bytes make that are read as a text of JSON
pub data OfJson (bytes : List ℕ) (made : Entry) : Type 0 where
  -- the module of their text
  with_json : IsUtf8 bytes → made ≡ json_module (without_mark bytes) → OfJson bytes made
  -- they are no text
  no_json : ¬ IsUtf8 bytes → made ≡ no_utf8 → OfJson bytes made
