-- Paths as texts. The parts of a path stand between its slashes; its components are the parts that aren't empty,
-- where a part `.` counts at the very front alone (as `std::path` counts them).
use Rattle.std.specs.Prelude.{ℕ, ◌-◌, nat_eq, Bool, ◌||◌, ◌==◌, List, [], ◌∷◌, ◌++◌, map, take, length, slice_index, fold, codes, bytes_eq, Option, if◌then◌else◌}
use Rattle.std.specs.List.{ends_with, list_any, slice_split, join_with_byte}
use Rattle.std.specs.Borrow.{Bor}
use Rattle.std.specs.Path.{path_join, path_parent, path_file_name}

-- what the texts of a list are
abbrev pub texts : List (Bor (List ℕ)) → List (List ℕ)
texts list = map (λ text. text.now) list

-- the parts of a text between the bytes `c`: one more than there are such bytes
abbrev pub parts_at : ℕ → List ℕ → List (List ℕ)
parts_at c text = slice_split (λ b. b == c) text

-- the parts of a path: those between its slashes
abbrev pub parts : List ℕ → List (List ℕ)
parts path = parts_at 47 path

-- the part is `.` or `..`
abbrev pub is_dots : List ℕ → Bool
is_dots part = bytes_eq part (codes ".") || bytes_eq part (codes "..")

-- a part of the text is `.` or `..`: its component is one of these, or it has `/./` within or `/.` at its end
abbrev pub has_dots : List ℕ → Bool
has_dots path = list_any is_dots (parts path)

-- the path begins with a slash
abbrev pub is_absolute : List ℕ → Bool
is_absolute path = slice_index path 0 == 47

-- the names without the last one
abbrev pub without_last : List (List ℕ) → List (List ℕ)
without_last names = take (length names - 1) names

-- the names after one more part: an empty one and `.` change nothing, `..` takes the last name away
abbrev pub after_part : List (List ℕ) → List ℕ → List (List ℕ)
after_part names part =
    if length part == 0 || bytes_eq part (codes ".") then names
    else (if bytes_eq part (codes "..") then without_last names
    else names ++ part ∷ [])

-- the names that are left of a path
abbrev pub names_of : List ℕ → List (List ℕ)
names_of path = fold after_part [] (parts path)

-- the names with `/` between them, and one before them all in an absolute path
abbrev pub path_of : Bool → List (List ℕ) → List ℕ
path_of absolute names = (if absolute then codes "/" else []) ++ join_with_byte 47 names

-- the path ends with `/` or `\.`, or a part of it is `.` or `..`
abbrev pub needs_normalizing : List ℕ → Bool
needs_normalizing path =
    ends_with nat_eq path (codes "/") || ends_with nat_eq path (codes "\\.") || has_dots path

-- the normalized path
unfoldable pub normal_path : List ℕ → List ℕ
normal_path path = if needs_normalizing path then path_of (is_absolute path) (names_of path) else path

-- the path as seen from a folder: an absolute one stands for itself, and any other follows the folder and a `/`,
-- unless the folder is empty or ends with one
abbrev pub joined_path : List ℕ → List ℕ → List ℕ
joined_path folder path = path_join folder path

-- the same, normalized
abbrev pub path_in : List ℕ → List ℕ → List ℕ
path_in folder path = normal_path (joined_path folder path)

-- the last component, unless there is none or it is `/`, `.` or `..`
abbrev pub file_name : List ℕ → Option (List ℕ)
file_name path = path_file_name path

-- what stands before the last component, without the slashes before it; `/` and the empty path have none
abbrev pub parent : List ℕ → Option (List ℕ)
parent path = path_parent path
