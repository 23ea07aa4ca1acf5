-- Paths with backslashes and file URLs with hosts, as programs on Windows write them.
use Rattle.std.specs.Prelude.{◌≡◌, ℕ, nat_lt, Bool, false, not, ◌&&◌, ◌||◌, ◌==◌, List, [], ◌∷◌, ◌++◌, map, drop, length, slice_index, filter, codes, bytes_eq, Option, None, Some, Result, Err, is_ok, option_map, if◌then◌else◌}
use Rattle.std.specs.List.{flat_map, list_all, list_any, prefix_len, position_or_len, before_first, after_first}
use Rattle.std.specs.Char.{is_ascii_alphabetic, is_ascii_alphanumeric}
use Rattle.std.specs.Borrow.{Bor}
use Rattle.std.specs.Str.Lossy.{utf8_lossy}
use Rattle.percent_encoding.specs.Percent.{percent_decode}
use Rattle.url.specs.Host.{host_text}
use Rattle.url.specs.Parts.{Parts, nonempty_host}
use Rattle.url.specs.Parser.{parse_url}
use Rattle.lexical_path.specs.Paths.{parts, parts_at, is_dots, path_of}
use Rattle.lexical_path.specs.Specifiers.{begins}
use Rattle.file_url.specs.declared.errors.PathToUrlError.{PathToUrlError}
use Rattle.file_url.specs.declared.errors.PathToUrlError.TheVariants.{Path}
use Rattle.file_url.specs.FileUrls.{plain_parts, file_url}

-- ---- from a path

-- a letter, a digit, `-`, `.`, `_` or `$`
abbrev pub is_host_byte : ℕ → Bool
is_host_byte b = is_ascii_alphanumeric b || b == 45 || b == 46 || b == 95 || b == 36

-- the text of a file URL on a host, of its root
abbrev pub root_text : List ℕ → List ℕ
root_text host = codes "file://" ++ (host ++ codes "/")

-- a URL is read from the text
abbrev pub is_read : List ℕ → Bool
is_read text = is_ok (parse_url None text)

-- one or more such bytes of which a file URL is read
unfoldable pub is_host : List ℕ → Bool
is_host text = not (length text == 0) && list_all is_host_byte text && is_read (root_text text)

-- the byte is a backslash
abbrev pub is_backslash : ℕ → Bool
is_backslash b = b == 92

-- the host before the first backslash and what follows it, where there is one; else no host and the other text
abbrev pub host_before : List ℕ → List ℕ → List ℕ × List ℕ
host_before text other =
    if nat_lt (position_or_len is_backslash text) (length text) && is_host (before_first is_backslash text)
    then (before_first is_backslash text, after_first is_backslash text)
    else ([], other)

-- the host of a path with backslashes and what is left of it after one first step: `\\?\UNC\` or `\\`, a host and a
-- backslash are taken off and the host is kept, or `\\?\` alone is taken off
abbrev pub first_step : List ℕ → List ℕ × List ℕ
first_step path =
    if begins path (codes "\\\\?\\UNC\\") then host_before (drop 8 path) path
    else (if begins path (codes "\\\\?\\") then ([], drop 4 path)
    else (if begins path (codes "\\\\") then host_before (drop 2 path) path
    else ([], path)))

-- two texts are these
abbrev pub IsStep : Bor (List ℕ) × Bor (List ℕ) → List ℕ × List ℕ → Type 0
IsStep step expected = (step.0.now ≡ expected.0) × (step.1.now ≡ expected.1)

-- the part is empty
abbrev pub is_empty_part : List ℕ → Bool
is_empty_part part = length part == 0

-- the parts without the empty ones at the front
abbrev pub without_empty_front : List (List ℕ) → List (List ℕ)
without_empty_front list = drop (prefix_len is_empty_part list) list

-- the parts between backslashes, without `.` and `..`, and then without the empty ones at the front
abbrev pub backslash_parts : List ℕ → List (List ℕ)
backslash_parts path = without_empty_front (filter (λ part. not (is_dots part)) (parts_at 92 path))

-- the part is `..`
abbrev pub is_parent_dir : List ℕ → Bool
is_parent_dir part = bytes_eq part (codes "..")

-- a part is `..`
abbrev pub has_parent_dir : List ℕ → Bool
has_parent_dir path = list_any is_parent_dir (parts path)

-- a component of a path without backslash is `.`, which counts at the front alone, or `..`
abbrev pub has_dot_component : List ℕ → Bool
has_dot_component path =
    bytes_eq path (codes ".") || begins path (codes "./") || has_parent_dir path

-- the URL of a path with backslashes
abbrev pub backslash_url : Bool → List ℕ × List ℕ → Result Parts PathToUrlError
backslash_url folder step = file_url step.0 folder (backslash_parts step.1)

-- the URL of a path without
abbrev pub slash_url : Bool → List ℕ → Result Parts PathToUrlError
slash_url folder path =
    if has_dot_component path then Err (Path path) else file_url [] folder (plain_parts path)

-- the URL of a path, by whether it has a backslash
unfoldable pub wasm_url_of_path : Bool → List ℕ → Result Parts PathToUrlError
wasm_url_of_path folder path =
    if list_any is_backslash path then backslash_url folder (first_step path)
    else slash_url folder path

-- ---- from a URL

-- the segments of a path that begins with `/`
abbrev pub segments : Parts → List (List ℕ)
segments url = parts (drop 1 url.path)

-- a segment, its escapes decoded, with U+FFFD where the bytes are no UTF-8
abbrev pub decoded : List ℕ → List ℕ
decoded segment = utf8_lossy (percent_decode segment)

-- `\` and the decoded segment
abbrev pub share_part : List ℕ → List ℕ
share_part segment = codes "\\" ++ decoded segment

-- a letter and `:`
abbrev pub is_drive : List ℕ → Bool
is_drive segment =
    length segment == 2 && is_ascii_alphabetic (slice_index segment 0) && slice_index segment 1 == 58

-- the first segment of the list is a letter and `:`
abbrev pub starts_with_drive : List (List ℕ) → Bool
starts_with_drive [] = false
starts_with_drive (first ∷ list) = is_drive first

-- the path on a host
abbrev pub share_path : List ℕ → List (List ℕ) → List ℕ
share_path host list = codes "\\\\" ++ (host ++ flat_map share_part list)

-- the path without a host
abbrev pub local_path : List (List ℕ) → List ℕ
local_path list = path_of (not (starts_with_drive list)) (map decoded (without_empty_front list))

-- the path by the host, if there is one that is not empty
abbrev pub share_or_local : Option (List ℕ) → List (List ℕ) → List ℕ
share_or_local (Some host) list = share_path host list
share_or_local None list = local_path list

-- the path of a URL whose path begins with `/`
abbrev pub wasm_path_of_url : Parts → List ℕ
wasm_path_of_url url = share_or_local (option_map host_text (nonempty_host url)) (segments url)
