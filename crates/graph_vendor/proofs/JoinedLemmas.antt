-- The URL that a plain name joins to at a folder ends with a slash and that name: no two names join to one URL.
use Rattle.std.proofs.Common.{◌≡◌, ◌∙◌, refl, sym, ap, subst, ℕ, zero, suc, ◌-◌, ◌<◌, ◌==◌, true, false, Bool, not, List, [], ◌∷◌, ◌++◌, length, get_or, Some, None, Ok, Err, arith, take_all, append_assoc, append-nil}
use Rattle.std.specs.Prelude.{All, Option, reverse, take, drop, nat_le, ◌&&◌, ◌||◌, slice_index, if◌then◌else◌}
use Rattle.std.specs.List.{prefix_len, concat, list_all}
use Rattle.std.specs.Char.{is_ascii_alphabetic}
use Rattle.std.proofs.lemmas.Bool.{cond-false, lt-leb, ne_eqb}
use Rattle.std.proofs.lemmas.Bool.Decides.{nat_tests}
use Rattle.std.proofs.lemmas.List.{get_or-reverse, length-reverse}
use Rattle.std.proofs.Math.Nat.{sub-zero}
use Rattle.std.proofs.lemmas.List.Elements.{All-head, All-tail, All-weaker}
use Rattle.percent_encoding.specs.Percent.{IsKept, percent_encode}
use Rattle.percent_encoding.proofs.OnLiterals.{percent_encoding_on_literals}
use Rattle.percent_encoding.proofs.PercentLemmas.{percent_encode_unchanged}
use Rattle.url.specs.declared.sets.TheConstants.{PATH}
use Rattle.url.specs.declared.scheme.SchemeType.{SchemeType}
use Rattle.url.specs.declared.scheme.SchemeType.TheVariants.{File}
use Rattle.url.specs.Input.{is_empty, is_c0_control_or_space, is_tab_or_new_line, trim_c0_control_and_space, strip_tabs_and_new_lines, split_once, rsplit_once}
use Rattle.url.specs.Scheme.{is_slash, is_special, is_file, scheme_len, scheme_type}
use Rattle.url.specs.Path.{dot_count, is_windows_drive_letter, parse_path, push_segment, segment_text}
use Rattle.url.specs.Parts.{Parts, pieces, serialize, kind_of, cannot_be_a_base}
use Rattle.url.specs.declared.error.ParseError.{ParseError}
use Rattle.url.specs.declared.error.ParseError.TheVariants.{RelativeUrlWithCannotBeABaseBase}
use Rattle.url.specs.Parser.{Parsed, and_then, parse_url, parse_by_scheme, parse_parts, parse_body, parse_file, parse_relative, split_scheme, inherit, inherit_file, with_path, with_tail, before_tail}
use Rattle.url.proofs.InputLemmas.{IsNot, Passes, filter_all, split_once_none, rsplit_once_at, is_empty_nonempty}
use Rattle.url.proofs.PathLemmas.{IsNoSlash, parse_path_last}
use Rattle.url.proofs.SetLemmas.{kept_from_passes}
use Rattle.url.proofs.OnLiterals.{url_on_literals}

-- a digit, a small letter or a dot
abbrev pub is_plain : ℕ → Bool
is_plain b = (nat_le 48 b && nat_le b 57) || ((nat_le 97 b && nat_le b 122) || b == 46)

abbrev pub IsPlain : ℕ → Type 0
IsPlain b = is_plain b ≡ true

visible : (b : ℕ) → IsPlain b → 32 < b
visible b p = grind (arith, nat_tests)

ascii : (b : ℕ) → IsPlain b → b < 128
ascii b p = grind (arith, nat_tests)

pub not_mark : (mark b : ℕ) → is_plain mark ≡ false → IsPlain b → IsNot mark b
not_mark mark b other p e = let bad : true ≡ false = sym p ∙ ap is_plain e ∙ other in let no : ⊥ = cc in no

no_slash : (kind : SchemeType) (b : ℕ) → IsPlain b → IsNoSlash kind b
no_slash kind b p =
    let one = ne_eqb b 47 (not_mark 47 b refl p) in
    let two = ne_eqb b 92 (not_mark 92 b refl p) in
    rw (one, two) refl

kept : (b : ℕ) → IsPlain b → IsKept PATH b
unfolding percent_encoding_on_literals
kept b p = kept_from_passes is_plain PATH refl b (ascii b p) p

all_not : (mark : ℕ) (xs : List ℕ) → is_plain mark ≡ false → All IsPlain xs → All (IsNot mark) xs
all_not mark xs other = All-weaker IsPlain (IsNot mark) (λ b p. not_mark mark b other p) xs

-- ---- the input is clean

abbrev IsVisible : ℕ → Type 0
IsVisible b = 32 < b

none_at_front : (xs : List ℕ) → (0 < length xs → 32 < get_or xs 0 0) → prefix_len is_c0_control_or_space xs ≡ 0
none_at_front [] first = refl
none_at_front (x ∷ xs) first = cond-false _ _ _ (lt-leb x 32 (first (omega arith)))

untrimmed : (xs : List ℕ) → All IsVisible xs → trim_c0_control_and_space xs ≡ xs
unfolding url_on_literals
untrimmed xs shown =
    let start = none_at_front xs (λ inside. shown 0 0 inside) in
    let len = length-reverse xs in
    let end = none_at_front (reverse xs)
    (λ inside. rw (get_or-reverse xs 0 0 (omega arith), sub-zero) (shown (length xs - 1) 0 (omega arith))) in
    rw (start, end) (take_all _ xs (omega arith))

unstripped : (xs : List ℕ) → All IsVisible xs → strip_tabs_and_new_lines xs ≡ xs
unfolding url_on_literals
unstripped xs shown =
    filter_all _ xs
    (All-weaker IsVisible (Passes (λ b. not (is_tab_or_new_line b))) (λ b above. grind (arith, nat_tests)) xs shown)

-- ---- it has no scheme

index_not : (mark : ℕ) (xs : List ℕ) (n : ℕ) → (0 == mark) ≡ false → All (IsNot mark) xs
    → (slice_index xs n == mark) ≡ false
index_not mark [] n some h = some
index_not mark (x ∷ xs) zero some h = ne_eqb x mark (All-head (IsNot mark) x xs h)
index_not mark (x ∷ xs) (suc n) some h = index_not mark xs n some (All-tail (IsNot mark) x xs h)

or_false : (a b : Bool) → a ≡ false → b ≡ false → (a || b) ≡ false
or_false true b h e = h
or_false false b h e = e

ok_is : (a b : Parts) → ◌≡◌ {A = Parsed Parts} (Ok a) (Ok b) → a ≡ b
ok_is a b e = cc

refused : (why : ParseError) (url : Parts) → ◌≡◌ {A = Parsed Parts} (Err why) (Ok url) → ⊥
refused why url e = cc

and_false : (a b : Bool) → b ≡ false → (a && b) ≡ false
and_false true b e = e
and_false false b e = refl

no_scheme : (xs : List ℕ) → All IsPlain xs → split_scheme xs ≡ None
unfolding split_scheme
no_scheme xs plain =
    cond-false _ _ _ (and_false _ _ (index_not 58 xs (scheme_len xs) refl (all_not 58 xs refl plain)))

-- ---- the path

-- a text that ends with a slash and this
abbrev pub Ends : List ℕ → List ℕ → Type 0
Ends name text = (front : List ℕ) × (text ≡ front ++ 47 ∷ name)

behind : (name a x : List ℕ) → Ends name x → Ends name (a ++ x)
behind name a x e = (a ++ e.0, ap (λ (y : List ℕ). a ++ y) e.1 ∙ sym (append_assoc a e.0 (47 ∷ name)))

module _ (rest : List ℕ) (plain : All IsPlain (109 ∷ rest)) where
  abbrev name : List ℕ
  name = 109 ∷ rest

  no_drive : is_windows_drive_letter name ≡ false
  unfolding url_on_literals
  no_drive =
      let one = index_not 58 name 1 refl (all_not 58 name refl plain) in
      let two = index_not 124 name 1 refl (all_not 124 name refl plain) in
      rw (one, two) (and_false (length name == 2 && is_ascii_alphabetic (slice_index name 0)) false refl)

  pushed : (kind : SchemeType) (path : List ℕ) → push_segment kind path name true ≡ path ++ 47 ∷ name
  unfolding url_on_literals
  pushed kind path =
      let same : percent_encode PATH name ≡ name
      = percent_encode_unchanged PATH name (All-weaker IsPlain (IsKept PATH) kept name plain) in
      ap (λ (x : List ℕ). path ++ 47 ∷ x)
      (cond-false _ _ _ (and_false (is_file kind && is_empty path) (is_windows_drive_letter name) no_drive) ∙ same)

  whole_path : (kind : SchemeType) (path : List ℕ) → parse_path kind path name ≡ path ++ 47 ∷ name
  whole_path kind path =
      parse_path_last kind path name (All-weaker IsPlain (IsNoSlash kind) (no_slash kind) name plain)
      ∙ pushed kind path

  -- ---- the text
  before : (ps qs : List (List ℕ)) → Ends name (concat qs) → Ends name (concat (ps ++ qs))
  before [] qs e = e
  before (p ∷ ps) qs e = behind name p (concat (ps ++ qs)) (before ps qs e)

  ended : (start : Parts) (path : List ℕ) → path ≡ start.path ++ 47 ∷ name
      → Ends name (serialize (with_tail (with_path start path) None None))
  ended start path is =
      before (take 10 (pieces (with_tail (with_path start path) None None))) (path ∷ [] ∷ [] ∷ [] ∷ [] ∷ [])
      (start.path, append-nil path ∙ is)

  untailed : (url : Parts) → before_tail url None None ≡ url
  untailed url = cond-false _ _ _ (and_false (not (is_special (kind_of url))) false refl)

  by_path : (start url : Parts) (kind : SchemeType)
      → ◌≡◌ {A = Parsed Parts}
      (Ok (with_tail (before_tail (with_path start (parse_path kind start.path name)) None None) None None)) (Ok url)
      → Ends name (serialize url)
  by_path start url kind e =
      let made = with_path start (parse_path kind start.path name) in
      let same : with_tail made None None ≡ url =
      ap (λ (u : Parts). with_tail u None None) (sym (untailed made)) ∙ ok_is _ url e in
      subst (λ (u : Parts). Ends name (serialize u)) same
      (ended start (parse_path kind start.path name) (whole_path kind start.path))

  -- ---- the whole
  filled : is_empty name ≡ false
  filled = is_empty_nonempty name (omega arith)

  abbrev Next : Parts → Bool → Parsed Parts
  Next base b =
      and_then (if b then parse_file (Some base) name else parse_relative base name)
      (λ (u : Parts). Ok (with_tail (before_tail u None None) None None))

  body_step : (base : Parts) → parse_parts base.scheme (Some base) name None None
      ≡ Next base (is_file (scheme_type base.scheme))
  unfolding parse_parts parse_body
  body_step base = rw filled refl

  by_file : (base url : Parts) → Next base true ≡ Ok url → Ends name (serialize url)
  unfolding url_on_literals
  by_file base url e = by_path (inherit_file base true name) url File e

  by_relative : (base url : Parts) → Next base false ≡ Ok url → Ends name (serialize url)
  unfolding url_on_literals
  by_relative base url e = by_path (inherit base true) url (kind_of base) e

  by_body : (base url : Parts) → parse_parts base.scheme (Some base) name None None ≡ Ok url
      → Ends name (serialize url)
  by_body base url e = by (is_file (scheme_type base.scheme)) (sym (body_step base) ∙ e)
    where
      by : (b : Bool) → Next base b ≡ Ok url → Ends name (serialize url)
      by true e = by_file base url e
      by false e = by_relative base url e

  abbrev Based : Parts → Bool → Parsed Parts
  Based base b =
      if b then Err RelativeUrlWithCannotBeABaseBase else parse_parts base.scheme (Some base) name None None

  base_step : (base : Parts) → parse_by_scheme None (Some base) name None None
      ≡ Based base (cannot_be_a_base base && true)
  base_step base = rw filled refl

  by_base : (base url : Parts) → parse_by_scheme None (Some base) name None None ≡ Ok url → Ends name (serialize url)
  by_base base url e = by (cannot_be_a_base base) (sym (base_step base) ∙ e)
    where
      by : (b : Bool) → Based base (b && true) ≡ Ok url → Ends name (serialize url)
      by true e = absurd (refused RelativeUrlWithCannotBeABaseBase url e)
      by false e = by_body base url e

  pub joined_ends : (base url : Parts) → parse_url (Some base) name ≡ Ok url → Ends name (serialize url)
  unfolding url_on_literals
  joined_ends base url e =
      let shown = All-weaker IsPlain IsVisible visible name plain in
      let clean : strip_tabs_and_new_lines (trim_c0_control_and_space name) ≡ name
      = ap strip_tabs_and_new_lines (untrimmed name shown) ∙ unstripped name shown in
      let hash = ap (split_once 35) clean ∙ split_once_none 35 name (all_not 35 name refl plain) in
      let question = ap (λ (r : List ℕ × Option (List ℕ)). split_once 63 r.0) hash
      ∙ split_once_none 63 name (all_not 63 name refl plain) in
      let parsed : parse_url (Some base) name ≡ parse_by_scheme None (Some base) name None None
      = (λ k. parse_by_scheme (split_scheme (question k).0) (Some base) (question k).0 (question k).1 (hash k).1)
      ∙ ap (λ (o : Option (List ℕ × List ℕ)). parse_by_scheme o (Some base) name None None) (no_scheme name plain) in
      by_base base url (sym parsed ∙ e)

-- no two names join to one URL
pub joined_apart : (xs ys : List ℕ) → All IsPlain (109 ∷ xs) → All IsPlain (109 ∷ ys) → (base u v : Parts)
    → parse_url (Some base) (109 ∷ xs) ≡ Ok u → parse_url (Some base) (109 ∷ ys) ≡ Ok v
    → serialize u ≡ serialize v → xs ≡ ys
joined_apart xs ys px py base u v eu ev same =
    let a = joined_ends xs px base u eu in
    let b = joined_ends ys py base v ev in
    let left = rsplit_once_at 47 a.0 (109 ∷ xs) (all_not 47 (109 ∷ xs) refl px) in
    let right = rsplit_once_at 47 b.0 (109 ∷ ys) (all_not 47 (109 ∷ ys) refl py) in
    let one : (Some a.0, 109 ∷ xs) ≡ (Some b.0, 109 ∷ ys) =
    sym left ∙ ap (rsplit_once 47) (sym a.1 ∙ same ∙ b.1) ∙ right in
    ap (λ (p : Option (List ℕ) × List ℕ). drop 1 p.1) one
