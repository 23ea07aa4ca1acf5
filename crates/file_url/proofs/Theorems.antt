-- Laws of file URLs.
use Rattle.std.proofs.Common.{◌≡◌, ◌⊎◌, inl, inr, Bool, true, false, List, ℕ, [], ◌&&◌, drop, length, codes, nat_lt, None, Ok, Err, refl, sym, subst}
use Rattle.std.specs.Prelude.{IsOk}
use Rattle.std.specs.Bool.{if◌then◌else◌}
use Rattle.std.specs.List.{list_any, position_or_len, before_first, after_first}
use Rattle.std.proofs.lemmas.Bool.{and_parts, cond-true, cond-false, cond_both}
use Rattle.std.proofs.lemmas.List.Elements.{All-nil}
use Rattle.url.specs.Parts.{Parts}
use Rattle.url.specs.Parser.{Parsed, parse_url}
use Rattle.url.proofs.InputLemmas.{Passes, All_from_list_all}
use Rattle.lexical_path.specs.Paths.{is_absolute, normal_path}
use Rattle.lexical_path.specs.Specifiers.{begins}
use Rattle.file_url.specs.FileUrls.{plain_parts, file_text, read_or_memory, file_url, url_of_path}
use Rattle.file_url.specs.WindowsPaths.{is_host_byte, is_host, is_backslash, host_before, first_step, backslash_parts, has_dot_component, slash_url, wasm_url_of_path}
use Rattle.file_url.proofs.ReadLemmas.{file_text_at_host, root_is_read}

-- the text of a file URL is never refused
pub file_text_is_read : (folder : Bool) (names : List (List ℕ)) → IsOk (parse_url None (file_text [] folder names))
file_text_is_read folder names = file_text_at_host [] folder names (All-nil (Passes is_host_byte)) root_is_read

-- nor is that of a file URL on a host
pub file_text_is_read_at : (host : List ℕ) (folder : Bool) (names : List (List ℕ)) → is_host host ≡ true
    → IsOk (parse_url None (file_text host folder names))
unfolding is_host
file_text_is_read_at host folder names is =
    let parts = and_parts _ _ is in
    file_text_at_host host folder names (All_from_list_all is_host_byte host (and_parts _ _ parts.0).1) parts.1

-- a URL that is read is the answer
read_ok : (read : Parsed Parts) → IsOk read → IsOk (read_or_memory read)
read_ok (Ok url) ok = refl
read_ok (Err e) ok = absurd (cc ok)

-- an absolute path has a URL
pub absolute_path_has_a_url : (folder : Bool) (path : List ℕ) → is_absolute (normal_path path) ≡ true
    → IsOk (url_of_path folder path)
absolute_path_has_a_url folder path absolute =
    subst IsOk (sym (cond-true _ _ _ absolute)) (read_ok _ (file_text_is_read folder (plain_parts (normal_path path))))

-- no host, or one that is read
abbrev MayBeHost : List ℕ → Type 0
MayBeHost host = (host ≡ []) ⊎ (is_host host ≡ true)

-- of a pair
abbrev MayBeFirst : List ℕ × List ℕ → Type 0
MayBeFirst step = MayBeHost step.0

host_url : (host : List ℕ) (folder : Bool) (names : List (List ℕ)) → MayBeHost host → IsOk (file_url host folder names)
host_url host folder names (inl none) =
    subst (λ h. IsOk (file_url h folder names)) (sym none) (read_ok _ (file_text_is_read folder names))
host_url host folder names (inr is) = read_ok _ (file_text_is_read_at host folder names is)

host_before_host : (text other : List ℕ) → MayBeHost (host_before text other).0
host_before_host text other =
    let host = before_first is_backslash text in
    let cut = nat_lt (position_or_len is_backslash text) (length text) in
    cond_both (cut && is_host host) (host, after_first is_backslash text) ([], other) MayBeFirst
    (λ found. inr (and_parts cut (is_host host) found).1) (λ _. inl refl)

first_step_host : (path : List ℕ) → MayBeHost (first_step path).0
first_step_host path =
    let share = host_before (drop 2 path) path in
    let last : List ℕ × List ℕ = if begins path (codes "\\\\") then share else ([], path) in
    let long : List ℕ × List ℕ = if begins path (codes "\\\\?\\") then ([], drop 4 path) else last in
    cond_both (begins path (codes "\\\\?\\UNC\\")) (host_before (drop 8 path) path) long MayBeFirst
    (λ _. host_before_host (drop 8 path) path)
    (λ _. cond_both (begins path (codes "\\\\?\\")) ([], drop 4 path) last MayBeFirst (λ _. inl refl)
    (λ _. cond_both (begins path (codes "\\\\")) share ([], path) MayBeFirst (λ _. host_before_host (drop 2 path) path)
    (λ _. inl refl)))

-- a path with backslashes has a URL
pub wasm_path_has_a_url : (folder : Bool) (path : List ℕ) → list_any is_backslash path ≡ true
    → IsOk (wasm_url_of_path folder path)
unfolding wasm_url_of_path
wasm_path_has_a_url folder path backslash =
    subst IsOk (sym (cond-true _ _ _ backslash))
    (host_url (first_step path).0 folder (backslash_parts (first_step path).1) (first_step_host path))

-- and one without has a URL where no component is `.` or `..`
pub slash_path_has_a_url : (folder : Bool) (path : List ℕ) → has_dot_component path ≡ false
    → IsOk (slash_url folder path)
slash_path_has_a_url folder path none =
    subst IsOk (sym (cond-false _ _ _ none)) (read_ok _ (file_text_is_read folder (plain_parts path)))
