-- Files as a list in the order of their paths: one read, added, replaced or taken away.
use Rattle.std.specs.Prelude.{ℕ, List, Option, not, filter, map, bytes_eq, unwrap_or, [], String, string_bytes}
use Rattle.std.specs.Ordering.{nat_cmp}
use Rattle.std.specs.Cmp.Lexicographic.{slice_cmp}
use Rattle.std.specs.FinMap.{find, put}
use Rattle.sys_traits.specs.Paths.{Path}

-- files: the bytes at each normalized path
abbrev pub Files : Type 0
Files = List (Path × List ℕ)

-- the bytes that a path reads, if there is a file
abbrev pub file_at : Files → Path → Option (List ℕ)
file_at files path = find (slice_cmp nat_cmp) path files

-- the entries of a map from texts to bytes, as files
abbrev pub files_of : {A : Type 0} → List (String A × List ℕ) → Files
files_of entries = map (λ e. (string_bytes e.0, e.1)) entries

-- the files, with these bytes at the path
abbrev pub with_file : Files → Path → List ℕ → Files
with_file files path bytes = put (slice_cmp nat_cmp) path bytes files

-- the files without that of the path
abbrev pub without_file : Files → Path → Files
without_file files path = filter (λ file. not (bytes_eq file.0 path)) files

-- the files, with that of the first path at the second one
abbrev pub moved_file : Files → Path → Path → Files
moved_file files from to = with_file (without_file files from) to (unwrap_or (file_at files from) [])
