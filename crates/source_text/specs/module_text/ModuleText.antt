-- The text of a module: its bytes as UTF-8, less one byte order mark at the front (Encoding Standard, "UTF-8 decode";
-- bytes that are no UTF-8 have no text). All places of a module count from this text.
use Rattle.std.specs.Prelude.{ℕ, List, [], ◌∷◌, drop, if◌then◌else◌}
use Rattle.lexical_path.specs.Specifiers.{begins}

-- the byte order mark U+FEFF in UTF-8
abbrev pub mark : List ℕ
mark = 0xEF ∷ 0xBB ∷ 0xBF ∷ []

-- the text less one mark at the front
unfoldable pub without_mark : List ℕ → List ℕ
without_mark text = if begins text mark then drop 3 text else text
