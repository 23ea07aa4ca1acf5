-- The temporary path of an atomic write.
use Rattle.std.specs.Prelude.{◌≡◌, ℕ, ◌<◌, List, ◌++◌, length, codes}
use Rattle.std.specs.List.{All}
use Rattle.std.specs.Path.{path_set_extension}
use Rattle.hex.specs.Hex.{encode_lower}
use Rattle.sys_traits.specs.Paths.{Path}

-- what a temporary path has in place of the extension: these bytes in lower-case hexadecimal digits, and `.tmp`
abbrev pub temporary_end : List ℕ → List ℕ
temporary_end bytes = encode_lower bytes ++ codes ".tmp"

-- the temporary path of these bytes beside a path: what stands behind the file name is dropped
unfoldable pub atomic_path : Path → List ℕ → Path
atomic_path path bytes = path_set_extension path (temporary_end bytes)

-- a temporary path of this one
abbrev pub IsTemporaryPath : Path → Path → Type 0
IsTemporaryPath path temporary = (bytes : List ℕ) × (length bytes ≡ 4) × (temporary ≡ atomic_path path bytes)
