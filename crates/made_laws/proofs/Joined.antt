-- A module's import of another leads to it.
use Rattle.std.proofs.Common.{◌≡◌, ◌∙◌, ◌⊎◌, inl, inr, refl, ap, ℕ, ◌+◌, ◌-◌, ◌<◌, ◌^◌, ◌==◌, true, false, not, List, [], ◌∷◌, ◌++◌, length, get_or, Some, None, Ok, decimal, arith, take_all, length-append}
use Rattle.std.specs.Prelude.{All, Option, codes, reverse, unwrap_or}
use Rattle.std.specs.List.{prefix_len}
use Rattle.std.proofs.lemmas.Bool.{cond-false, lt-leb, ne_eqb}
use Rattle.std.proofs.lemmas.Bool.Decides.{nat_tests}
use Rattle.std.proofs.lemmas.List.{get_or-reverse, length-reverse}
use Rattle.std.proofs.Math.Nat.{sub-zero}
use Rattle.std.proofs.lemmas.List.Elements.{All-nil, All-cons, All-append, All-weaker}
use Rattle.percent_encoding.specs.Percent.{IsKept, percent_encode}
use Rattle.percent_encoding.proofs.OnLiterals.{percent_encoding_on_literals}
use Rattle.percent_encoding.proofs.PercentLemmas.{percent_encode_unchanged}
use Rattle.url.specs.declared.sets.TheConstants.{PATH}
use Rattle.url.specs.declared.scheme.SchemeType.TheVariants.{File}
use Rattle.url.specs.Input.{is_empty, is_c0_control_or_space, is_tab_or_new_line, trim_c0_control_and_space, strip_tabs_and_new_lines, split_once, rsplit_once}
use Rattle.url.specs.Path.{dot_count, parse_path, push_segment, shorten_path}
use Rattle.url.specs.Parser.{parse_url, parse_by_scheme, split_scheme, with_path, with_tail}
use Rattle.url.specs.Head.{head_only}
use Rattle.url.proofs.InputLemmas.{IsNot, Passes, filter_all, split_once_none, rsplit_once_at, is_empty_nonempty}
use Rattle.url.proofs.PathLemmas.{IsNoSlash, parse_path_last, parse_path_more}
use Rattle.url.proofs.OnLiterals.{url_on_literals}
use Rattle.made_laws.specs.Urls.{path_of, url_at}
use Rattle.made_laws.proofs.Urls.{all_digits, begins_with_digit, no_dots, ending, kept_digit, whole_digit}

-- the name of a module's file, and the text that imports it
abbrev pub name_of : ℕ → List ℕ
name_of j = decimal j ++ codes ".ts"

abbrev pub import_text : ℕ → List ℕ
import_text j = 46 ∷ 47 ∷ name_of j

-- ---- its bytes

named : (Q : ℕ → Type 0) → ((m : ℕ) → m < 10 → Q (48 + m)) → Q 46 → Q 116 → Q 115 → (j : ℕ) → j < 2 ^ 64
    → All Q (name_of j)
named Q each a b c j l = All-append Q (decimal j) (codes ".ts") (all_digits Q each j l) (ending Q a b c)

imported : (Q : ℕ → Type 0) → ((m : ℕ) → m < 10 → Q (48 + m)) → Q 46 → Q 116 → Q 115 → Q 47 → (j : ℕ) → j < 2 ^ 64
    → All Q (import_text j)
imported Q each a b c d j l =
    All-cons Q 46 (47 ∷ name_of j) a (All-cons Q 47 (name_of j) d (named Q each a b c j l))

abbrev IsVisible : ℕ → Type 0
IsVisible b = 32 < b

pub visible : (j : ℕ) → j < 2 ^ 64 → All IsVisible (import_text j)
visible = imported IsVisible (λ m l. omega arith) (omega arith) (omega arith) (omega arith) (omega arith)

-- ---- the input is clean

none_at_front : (xs : List ℕ) → (0 < length xs → 32 < get_or xs 0 0) → prefix_len is_c0_control_or_space xs ≡ 0
none_at_front [] first = refl
none_at_front (x ∷ xs) first = cond-false _ _ _ (lt-leb x 32 (first (omega arith)))

pub untrimmed : (xs : List ℕ) → All IsVisible xs → trim_c0_control_and_space xs ≡ xs
unfolding url_on_literals
untrimmed xs shown =
    let start = none_at_front xs (λ inside. shown 0 0 inside) in
    let len = length-reverse xs in
    let end = none_at_front (reverse xs)
    (λ inside. rw (get_or-reverse xs 0 0 (omega arith), sub-zero) (shown (length xs - 1) 0 (omega arith))) in
    rw (start, end) (take_all _ xs (omega arith))

pub unstripped : (xs : List ℕ) → All IsVisible xs → strip_tabs_and_new_lines xs ≡ xs
unfolding url_on_literals
unstripped xs shown =
    filter_all _ xs
    (All-weaker IsVisible (Passes (λ b. not (is_tab_or_new_line b))) (λ b above. grind (arith, nat_tests)) xs shown)

pub no_mark : (mark : ℕ) → (mark < 46) ⊎ ((57 < mark) × (mark < 115)) → (j : ℕ) → j < 2 ^ 64
    → All (IsNot mark) (import_text j)
no_mark mark (inl low) =
    imported (IsNot mark) (λ m l e. omega (arith, low, e)) (λ e. omega (arith, low, e)) (λ e. omega (arith, low, e))
    (λ e. omega (arith, low, e)) (λ e. omega (arith, low, e))
no_mark mark (inr (above, below)) =
    imported (IsNot mark) (λ m l e. omega (arith, above, e)) (λ e. omega (arith, above, e))
    (λ e. omega (arith, below, e))
    (λ e. omega (arith, below, e)) (λ e. omega (arith, above, e))

-- ---- the path

kept_name : (j : ℕ) → j < 2 ^ 64 → All (IsKept PATH) (name_of j)
unfolding percent_encoding_on_literals
kept_name = named (IsKept PATH) kept_digit refl refl refl

shortened : (i : ℕ) → i < 2 ^ 64 → shorten_path File (path_of i) ≡ codes "/m"
unfolding url_on_literals
shortened i l =
    let long : (length (path_of i) == 3) ≡ false
    = ne_eqb (length (path_of i)) 3 (λ e. omega (arith, e, length-append (decimal i) (codes ".ts"))) in
    let cut : rsplit_once 47 (path_of i) ≡ (Some (codes "/m"), name_of i) =
    rsplit_once_at 47 (codes "/m") (name_of i)
    (named (IsNot 47) (λ m l e. omega (arith, e)) (λ e. omega (arith, e)) (λ e. omega (arith, e))
    (λ e. omega (arith, e)) i l) in
    rw long (ap (λ (p : Option (List ℕ) × List ℕ). unwrap_or p.0 []) cut)

pushed : (j : ℕ) → j < 2 ^ 64 → push_segment File (codes "/m") (name_of j) true ≡ path_of j
unfolding url_on_literals
pushed j l =
    let first = begins_with_digit j l in
    let none : dot_count (name_of j) ≡ 0
    = ap (λ (x : List ℕ). dot_count (x ++ codes ".ts")) first.is
    ∙ no_dots first.digit (first.rest ++ codes ".ts") first.below in
    let kept : percent_encode PATH (name_of j) ≡ name_of j
    = percent_encode_unchanged PATH (name_of j) (kept_name j l) in
    rw none (ap (λ (x : List ℕ). codes "/m" ++ 47 ∷ x) kept)

-- ---- the whole

joined_path : (i j : ℕ) → i < 2 ^ 64 → j < 2 ^ 64
    → parse_path File (shorten_path File (path_of i)) (import_text j) ≡ path_of j
unfolding url_on_literals
joined_path i j li lj =
    ap (λ (p : List ℕ). parse_path File p (import_text j)) (shortened i li)
    ∙ parse_path_more File (codes "/m") (46 ∷ []) 47 (name_of j)
    (All-cons (IsNoSlash File) 46 [] refl (All-nil (IsNoSlash File))) refl
    ∙ parse_path_last File (codes "/m") (name_of j)
    (named (IsNoSlash File) whole_digit refl refl refl j lj)
    ∙ pushed j lj

by_file : (i j : ℕ) → i < 2 ^ 64 → j < 2 ^ 64
    → parse_by_scheme (split_scheme (import_text j)) (Some (url_at i)) (import_text j) None None ≡ Ok (url_at j)
unfolding url_on_literals
by_file i j li lj =
    let filled : is_empty (import_text j) ≡ false = is_empty_nonempty (import_text j) (omega arith) in
    rw filled (ap (λ (p : List ℕ). Ok (with_tail (with_path (head_only (url_at i)) p) None None))
    (joined_path i j li lj))

pub import_read : (i j : ℕ) → i < 2 ^ 64 → j < 2 ^ 64 → parse_url (Some (url_at i)) (import_text j) ≡ Ok (url_at j)
unfolding url_on_literals
import_read i j li lj =
    let shown = visible j lj in
    let clean : strip_tabs_and_new_lines (trim_c0_control_and_space (import_text j)) ≡ import_text j
    = ap strip_tabs_and_new_lines (untrimmed (import_text j) shown) ∙ unstripped (import_text j) shown in
    let hash = ap (split_once 35) clean ∙ split_once_none 35 (import_text j) (no_mark 35 (inl (omega arith)) j lj) in
    let question = ap (λ (r : List ℕ × Option (List ℕ)). split_once 63 r.0) hash
    ∙ split_once_none 63 (import_text j) (no_mark 63 (inr (omega arith, omega arith)) j lj) in
    (λ k. parse_by_scheme (split_scheme (question k).0) (Some (url_at i)) (question k).0 (question k).1 (hash k).1)
    ∙ by_file i j li lj
