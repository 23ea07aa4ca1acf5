-- The text of bytes, or why they have none that is read.
use Rattle.std.specs.Prelude.{◌≡◌, ℕ, ◌<◌, ◌≤◌, List, length, IsUtf8}
use Rattle.std.specs.Str.{IsValidUpTo}
use Rattle.source_text.specs.module_text.ModuleText.{without_mark}
use Rattle.graph_c.specs.declared.text.NoText.{NoText}
use Rattle.graph_c.specs.declared.text.NoText.TheVariants.{TooLong, NoUtf8}

-- the most bytes of a source that is read
abbrev pub text_limit : ℕ
text_limit = 16777216

-- they are this text, less one byte order mark at the front
pub record IsText (bytes text : List ℕ) : Type 0 where
  pub within : length bytes ≤ text_limit
  pub utf8 : IsUtf8 bytes
  pub less_mark : text ≡ without_mark bytes

-- there are too many, or they are UTF-8 up to this byte, and no further
abbrev pub IsNoText : List ℕ → NoText → Type 0
IsNoText bytes TooLong = text_limit < length bytes
IsNoText bytes (NoUtf8 place) = (length bytes ≤ text_limit) × IsValidUpTo bytes place
