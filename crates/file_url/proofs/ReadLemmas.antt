-- What the parser of URLs makes of the text of a file URL.
use Rattle.std.proofs.Common.{◌≡◌, ◌≢◌, ℕ, ◌-◌, ◌<◌, Bool, true, false, not, ◌&&◌, ◌||◌, ◌==◌, ltb, List, [], ◌∷◌, ◌++◌, length, get_or, take, drop, None, Ok, Err, All, sym, refl, ap, ◌∙◌, subst, arith, take_all, take_at, drop_at}
use Rattle.std.specs.Prelude.{codes, reverse, IsOk}
use Rattle.std.specs.List.{prefix_len, list_all, flat_map}
use Rattle.std.specs.Char.{is_ascii_alphabetic}
use Rattle.std.proofs.lemmas.Bool.{cond-false, cond_both, lt-leb, and_right}
use Rattle.std.proofs.lemmas.Bool.Decides.{nat_tests}
use Rattle.std.proofs.lemmas.List.{get_or-reverse, length-reverse}
use Rattle.std.proofs.Math.Nat.{sub-zero}
use Rattle.std.proofs.lemmas.List.Elements.{All-nil, All-cons, All-head, All-tail, All-append, All-weaker}
use Rattle.url.specs.Input.{is_c0_control_or_space, is_tab_or_new_line, trim_c0_control_and_space, strip_tabs_and_new_lines, split_once}
use Rattle.url.specs.Scheme.{IsScheme, scheme_len, scheme_type, is_slash, default_port}
use Rattle.url.specs.declared.scheme.SchemeType.TheVariants.{File}
use Rattle.url.specs.declared.host.Host.{Host}
use Rattle.url.specs.Host.{parse_file_host}
use Rattle.url.specs.Path.{segment_len, is_windows_drive_letter, parse_path_start}
use Rattle.url.specs.Parts.{Parts}
use Rattle.url.specs.Parser.{Parsed, and_then, split_scheme, parse_by_scheme, parse_parts, parse_body, parse_file, leading_slashes, after_file_double_slash, file_with_host, with_path, with_tail, before_tail, parse_url}
use Rattle.url.proofs.InputLemmas.{IsNot, Passes, split_once_none, prefix_len_at, filter_all, All_from_list_all}
use Rattle.url.proofs.SetLemmas.{passes_from_kept}
use Rattle.url.proofs.RoundTrip.{split_own_scheme}
use Rattle.percent_encoding.proofs.PercentLemmas.{All-percent_encode}
use Rattle.file_url.specs.declared.sets.TheConstants.{NAME}
use Rattle.file_url.specs.FileUrls.{escaped_byte, escaped, escaped_path, file_text}
use Rattle.file_url.specs.WindowsPaths.{is_host_byte}
use Rattle.file_url.proofs.SetLemmas.{name_is_escaped}

-- neither a control nor a space nor a mark of the query or the fragment
pub record IsPlainByte (b : ℕ) : Type 0 where
  pub visible : 32 < b
  pub no_hash : b ≢ 35
  pub no_question : b ≢ 63

none_at_front : (xs : List ℕ) → (0 < length xs → 32 < get_or xs 0 0) → prefix_len is_c0_control_or_space xs ≡ 0
none_at_front [] first = refl
none_at_front (x ∷ xs) first = cond-false _ _ _ (lt-leb x 32 (first (omega arith)))

-- nothing is trimmed
untrimmed : (xs : List ℕ) → All IsPlainByte xs → trim_c0_control_and_space xs ≡ xs
unfolding trim_c0_control_and_space
untrimmed xs plain =
    let start = none_at_front xs (λ inside. (plain 0 0 inside).visible) in
    let len = length-reverse xs in
    let end = none_at_front (reverse xs)
    (λ inside. rw (get_or-reverse xs 0 0 (omega arith), sub-zero)
    ((plain (length xs - 1) 0 (omega arith)).visible)) in
    rw (start, end) (take_all _ xs (omega arith))

-- nothing is taken out
unstripped : (xs : List ℕ) → All IsPlainByte xs → strip_tabs_and_new_lines xs ≡ xs
unfolding strip_tabs_and_new_lines
unstripped xs plain =
    filter_all _ xs (All-weaker IsPlainByte (Passes (λ b. not (is_tab_or_new_line b)))
    (λ b is. let above = is.visible in grind (arith, nat_tests)) xs plain)

file_scheme : IsScheme (codes "file")
unfolding scheme_len
file_scheme = record { nonempty = omega arith; whole = refl; lower = refl }

-- the same as a test
abbrev pub is_plain_byte : ℕ → Bool
is_plain_byte b = ltb 32 b && not (b == 35) && not (b == 63)

pub plain_from_test : (b : ℕ) → Passes is_plain_byte b → IsPlainByte b
plain_from_test b passes = record {
  visible = grind (arith, nat_tests);
  no_hash = λ e. grind (arith, nat_tests);
  no_question = λ e. grind (arith, nat_tests);
}

pub plain_from_tests : (xs : List ℕ) → list_all is_plain_byte xs ≡ true → All IsPlainByte xs
plain_from_tests xs all =
    All-weaker (Passes is_plain_byte) IsPlainByte plain_from_test xs (All_from_list_all is_plain_byte xs all)

-- the bytes `file://`
plain_front : All IsPlainByte (codes "file://")
plain_front = plain_from_tests (codes "file://") refl

-- the last step of reading
abbrev pub whole : Parts → Parsed Parts
whole url = Ok (with_tail (before_tail url None None) None None)

-- a file URL is read by what follows its two slashes
pub parse_file_text : (after : List ℕ) → All IsPlainByte after
    → parse_url None (codes "file://" ++ after) ≡ and_then (after_file_double_slash after) whole
unfolding parse_url parse_parts parse_body parse_file leading_slashes scheme_type default_port
parse_file_text after plain =
    let text : List ℕ = codes "file://" ++ after in
    let all = All-append IsPlainByte (codes "file://") after plain_front plain in
    let clean = ap strip_tabs_and_new_lines (untrimmed text all) ∙ unstripped text all in
    let hash = ap (split_once 35) clean
    ∙ split_once_none 35 text (All-weaker IsPlainByte (IsNot 35) (λ b is. is.no_hash) text all) in
    let question = ap (λ r. split_once 63 r.0) hash
    ∙ split_once_none 63 text (All-weaker IsPlainByte (IsNot 63) (λ b is. is.no_question) text all) in
    let scheme = ap (λ r. split_scheme r.0) question ∙ split_own_scheme (codes "file") (47 ∷ 47 ∷ after) file_scheme in
    (λ i. parse_by_scheme (scheme i) None (question i).0 (question i).1 (hash i).1)

-- the URL of a host and a path
abbrev pub with_host_and_path : List ℕ → Host (List ℕ) → Parsed Parts
with_host_and_path path h = Ok (with_path (file_with_host h) (parse_path_start File [] path))

-- a host that is no drive letter is read as such, and what follows it is the path
after_host : (host path : List ℕ) → All (λ b. is_slash File b ≡ false) host → is_windows_drive_letter host ≡ false
    → after_file_double_slash (host ++ 47 ∷ path) ≡ and_then (parse_file_host host) (with_host_and_path (47 ∷ path))
unfolding after_file_double_slash
after_host host path no_slash no_drive =
    let test = λ (b : ℕ). not (is_slash File b) in
    let after = host ++ 47 ∷ path in
    let passes = All-weaker (λ b. is_slash File b ≡ false) (Passes test) (λ b e. rw e) host no_slash in
    let len : segment_len File after ≡ length host = prefix_len_at test host (47 ∷ path) passes refl in
    let front : take (segment_len File after) after ≡ host =
    ap (λ n. take n after) len ∙ take_at host (47 ∷ path) _ refl in
    let back : drop (segment_len File after) after ≡ 47 ∷ path =
    ap (λ n. drop n after) len ∙ drop_at host (47 ∷ path) _ refl in
    cond-false _ _ _ (ap is_windows_drive_letter front ∙ no_drive)
    ∙ (λ i. and_then (parse_file_host (front i)) (with_host_and_path (back i)))

-- the two steps of reading, from what reading the host gave
abbrev from_host : Parsed (Host (List ℕ)) → List ℕ → Parsed Parts
from_host read path = and_then (and_then read (with_host_and_path path)) whole

-- whether they are refused is the host's matter alone
same_refusal : (read : Parsed (Host (List ℕ))) (path other : List ℕ) → IsOk (from_host read path)
    → IsOk (from_host read other)
same_refusal (Ok host) path other ok = refl
same_refusal (Err e) path other ok = absurd (cc ok)

read_from_host : (host path : List ℕ) → All IsPlainByte (host ++ 47 ∷ path) → All (λ b. is_slash File b ≡ false) host
    → is_windows_drive_letter host ≡ false
    → parse_url None (codes "file://" ++ (host ++ 47 ∷ path)) ≡ from_host (parse_file_host host) (47 ∷ path)
read_from_host host path plain no_slash no_drive =
    parse_file_text (host ++ 47 ∷ path) plain ∙ ap (λ r. and_then r whole) (after_host host path no_slash no_drive)

-- ---- escaped names

plain_escaped : (name : List ℕ) → All IsPlainByte (escaped name)
plain_escaped name =
    All-cons IsPlainByte 47 (flat_map escaped_byte name) (plain_from_test 47 refl)
    (subst (All IsPlainByte) (name_is_escaped name)
    (All-percent_encode IsPlainByte NAME name
    (λ b kept. plain_from_test b (passes_from_kept NAME is_plain_byte refl b kept))
    (λ b escape. plain_from_test b (grind (arith, nat_tests)))))

pub plain_escaped_path : (folder : Bool) (names : List (List ℕ)) → All IsPlainByte (escaped_path folder names)
unfolding escaped_path
plain_escaped_path folder names =
    All-append IsPlainByte (flat_map escaped names) _ (each names)
    (cond_both (length names == 0 || folder) (codes "/") [] (All IsPlainByte) (λ _. plain_from_tests (codes "/") refl)
    (λ _. All-nil IsPlainByte))
  where
    each : (list : List (List ℕ)) → All IsPlainByte (flat_map escaped list)
    each [] = All-nil IsPlainByte
    each (name ∷ list) = All-append IsPlainByte (escaped name) (flat_map escaped list) (plain_escaped name) (each list)

-- they begin with a slash
pub escaped_path_first : (folder : Bool) (names : List (List ℕ))
    → (rest : List ℕ) × (escaped_path folder names ≡ 47 ∷ rest)
unfolding escaped_path
escaped_path_first folder [] = ([], refl)
escaped_path_first folder (name ∷ names) = (_, refl)

-- ---- hosts

-- the bytes of a host are plain, and none is a slash
host_plain : (b : ℕ) → Passes is_host_byte b → IsPlainByte b
host_plain b passes = plain_from_test b (grind (arith, nat_tests))

host_no_slash : (b : ℕ) → Passes is_host_byte b → is_slash File b ≡ false
host_no_slash b passes = grind (arith, nat_tests)

-- a host is no drive letter, which ends with `:` or `|`
host_no_drive : (host : List ℕ) → All (Passes is_host_byte) host → is_windows_drive_letter host ≡ false
unfolding is_windows_drive_letter
host_no_drive [] all = refl
host_no_drive (first ∷ []) all = and_right (length (first ∷ []) == 2 && is_ascii_alphabetic first) _ refl
host_no_drive (first ∷ second ∷ host) all =
    and_right (length (first ∷ second ∷ host) == 2 && is_ascii_alphabetic first) _
    (no_mark second (All-head (Passes is_host_byte) second host
    (All-tail (Passes is_host_byte) first (second ∷ host) all)))
  where
    no_mark : (b : ℕ) → Passes is_host_byte b → (b == 58 || b == 124) ≡ false
    no_mark b passes = grind (arith, nat_tests)

-- what is read of a host and one path is read of it and another
read_of_host : (host path other : List ℕ) → All (Passes is_host_byte) host → All IsPlainByte (47 ∷ path)
    → All IsPlainByte (47 ∷ other)
    → IsOk (parse_url None (codes "file://" ++ (host ++ 47 ∷ path)))
    → IsOk (parse_url None (codes "file://" ++ (host ++ 47 ∷ other)))
read_of_host host path other all plain plain_other ok =
    let no_slash = All-weaker (Passes is_host_byte) (λ b. is_slash File b ≡ false) host_no_slash host all in
    let no_drive = host_no_drive host all in
    let bytes = All-weaker (Passes is_host_byte) IsPlainByte host_plain host all in
    let here = read_from_host host path (All-append IsPlainByte host (47 ∷ path) bytes plain) no_slash no_drive in
    let there = read_from_host host other (All-append IsPlainByte host (47 ∷ other) bytes plain_other) no_slash
    no_drive in
    subst IsOk (sym there) (same_refusal (parse_file_host host) (47 ∷ path) (47 ∷ other) (subst IsOk here ok))

-- the text of a file URL on a host is read, where that of its root is
pub file_text_at_host : (host : List ℕ) (folder : Bool) (names : List (List ℕ)) → All (Passes is_host_byte) host
    → IsOk (parse_url None (codes "file://" ++ (host ++ codes "/")))
    → IsOk (parse_url None (file_text host folder names))
file_text_at_host host folder names all ok =
    let first = escaped_path_first folder names in
    let plain = subst (All IsPlainByte) first.1 (plain_escaped_path folder names) in
    let read = read_of_host host [] first.0 all (plain_from_tests (codes "/") refl) plain ok in
    subst (λ path. IsOk (parse_url None (codes "file://" ++ (host ++ path)))) (sym first.1) read

-- `file:///` is read
pub root_is_read : IsOk (parse_url None (codes "file:///"))
unfolding parse_file_host
root_is_read = subst IsOk
    (sym (read_from_host [] [] (plain_from_tests (codes "/") refl) (All-nil _) (host_no_drive [] (All-nil _)))) refl
