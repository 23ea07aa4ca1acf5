-- Where a path stands among the files of a system.
use Rattle.std.specs.Prelude.{ℕ, nat_eq, Bool, ◌||◌, ◌&&◌, ◌==◌, List, length, slice_index, codes, bytes_eq, unwrap_or}
use Rattle.std.specs.List.{starts_with}
use Rattle.lexical_path.specs.Paths.{path_in, parent}

-- the bytes of a path
abbrev pub Path : Type 0
Path = List ℕ

-- the place of a path: joined to the current folder where it doesn't begin with `/`, and normalized
unfoldable pub spot : Path → Path → Path
spot folder path = path_in folder path

-- the root
abbrev pub root : Path
root = codes "/"

-- the path stands somewhere below the folder
abbrev pub is_below : Path → Path → Bool
is_below folder path = starts_with nat_eq path folder && slice_index path (length folder) == 47

-- the path is the folder or stands below it
abbrev pub is_at_or_below : Path → Path → Bool
is_at_or_below folder path = bytes_eq path folder || is_below folder path

-- the folder that a path stands in
abbrev pub parent_of : Path → Path
parent_of path = unwrap_or (parent path) root
