-- The tests hold just of the URLs that are what their own text is read as.
use Rattle.std.proofs.Common.{◌≡◌, ◌≢◌, ◌↔◌, ◌∙◌, ⊎_elim, ℕ, ◌-◌, Bool, true, false, cond, not, ◌&&◌, ◌||◌, ◌==◌, List, [], ◌∷◌, length, get_or, take, one-add, None, refl, sym, ap, arith}
use Rattle.std.specs.Prelude.{IsTrue, is_some, codes, bytes_eq, if◌then◌else◌}
use Rattle.std.proofs.lemmas.Bool.{cases_Bool, true≢false, and_parts, and_left, and_right, or_right, or_from, cond-true, cond-false, ne_eqb}
use Rattle.std.specs.List.{prefix_len}
use Rattle.std.specs.Char.{is_ascii_alphabetic}
use Rattle.std.proofs.lemmas.Bool.Decides.{nat_tests}
use Rattle.std.proofs.lemmas.Slice.Eq.{bytes_eq-Decides}
use Rattle.url.specs.declared.host.Host.{Host}
use Rattle.url.specs.declared.host.Host.TheVariants.{Domain, Ipv4, Ipv6}
use Rattle.url.specs.declared.scheme.SchemeType.{SchemeType}
use Rattle.url.specs.declared.scheme.SchemeType.TheVariants.{File, SpecialNotFile, NotSpecial}
use Rattle.url.specs.Host.{host_text}
use Rattle.url.specs.Path.{is_windows_drive_letter, ends_in_space}
use Rattle.url.specs.Parts.{Parts, kind_of, host_or_empty, serialize, IsValid}
use Rattle.url.specs.Scheme.{default_port, scheme_type, is_special, is_file, is_slash}
use Rattle.url.specs.Canonical.{first_segment, IsNotIpv4, IsCanonicalFile, IsCanonicalAs}
use Rattle.url.proofs.ParsedCanonical.{parse_url_canonical}
use Rattle.url.proofs.Theorems.{parse_url-serialize}
use Rattle.file_url.specs.canonical_url.OwnText.{ReadsAsItself}
use Rattle.file_url.specs.canonical_url.Steps.{is_on_localhost, begins_with_bar_drive, is_canonical_file, is_ipv4, is_canonical_other, is_canonical}

-- what isn't so isn't
off : (b : Bool) → not b ≡ true → b ≡ false
off true e = sym e
off false e = refl

-- each follows from the other
same_test : (a b : Bool) → (a ≡ true → b ≡ true) → (b ≡ true → a ≡ true) → a ≡ b
same_test true b to from = sym (to refl)
same_test false true to from = from refl
same_test false false to from = refl

-- two that are so
both : (a b : Bool) → a ≡ true → b ≡ true → (a && b) ≡ true
both a b one two = ap (λ t. t && b) one ∙ two

-- ---- file

-- a letter and a mark that isn't `|` end with `:`
drive_mark : (segment : List ℕ) → (is_windows_drive_letter segment && get_or segment 1 0 == 124) ≡ false
    → is_windows_drive_letter segment ≡ true → get_or segment 1 0 ≡ 58
unfolding is_windows_drive_letter
drive_mark segment other drive = grind (arith, nat_tests)

colon_mark : (segment : List ℕ) → (is_windows_drive_letter segment ≡ true → get_or segment 1 0 ≡ 58)
    → (is_windows_drive_letter segment && get_or segment 1 0 == 124) ≡ false
colon_mark segment colon =
    ⊎_elim (λ drive. and_right _ _ (ap (λ (b : ℕ). b == 124) (colon drive))) (λ other. and_left _ _ other)
    (cases_Bool (is_windows_drive_letter segment))

canonical_file : (url : Parts) → is_canonical_file url ≡ true → IsCanonicalFile url
canonical_file url passes =
    let parts = and_parts _ _ passes in
    let named = bytes_eq-Decides (host_text (host_or_empty url)) (codes "localhost") in
    record {
      host = λ same. true≢false (sym (named.1 same) ∙ off _ parts.0);
      drive = drive_mark (first_segment File url.path) (off _ parts.1);
    }

file_canonical : (url : Parts) → IsCanonicalFile url → is_canonical_file url ≡ true
file_canonical url canonical =
    let text = host_text (host_or_empty url) in
    let named : is_on_localhost (host_or_empty url) ≡ false =
    ⊎_elim (λ same. absurd (canonical.host ((bytes_eq-Decides text (codes "localhost")).0 same))) (λ other. other)
    (cases_Bool (is_on_localhost (host_or_empty url))) in
    both _ _ (ap not named) (ap not (colon_mark (first_segment File url.path) canonical.drive))

-- ---- every scheme that isn't special

not_ipv4 : (host : Host (List ℕ)) → is_ipv4 host ≡ false → IsNotIpv4 host
not_ipv4 (Domain domain) is = tt
not_ipv4 (Ipv4 address) is = true≢false is
not_ipv4 (Ipv6 address) is = tt

ipv4_not : (host : Host (List ℕ)) → IsNotIpv4 host → is_ipv4 host ≡ false
ipv4_not (Domain domain) is = refl
ipv4_not (Ipv4 address) is = absurd is
ipv4_not (Ipv6 address) is = refl

visible : (text : List ℕ) → ends_in_space text ≡ false → get_or text (length text - 1) 0 ≢ 32
visible [] ends = λ space. cc
visible (b ∷ text) ends = λ space. grind (arith, nat_tests)

canonical_other : (url : Parts) → is_canonical_other url ≡ true → IsCanonicalAs NotSpecial url
canonical_other url passes =
    let parts = and_parts _ _ passes in
    let first = and_parts _ _ parts.0 in
    (not_ipv4 _ (off _ first.0), visible (serialize url) (off _ first.1), off _ parts.1)

other_canonical : (url : Parts) → IsCanonicalAs NotSpecial url → is_canonical_other url ≡ true
other_canonical url (opaque, end, path) =
    both _ _ (both _ _ (ap not (ipv4_not _ opaque)) (ap not (and_right _ _ (ne_eqb _ _ end)))) (ap not path)

-- ---- each kind of scheme

canonical_as : (kind : SchemeType) (url : Parts)
    → (if is_file kind then is_canonical_file url else is_special kind || is_canonical_other url) ≡ true
    → IsCanonicalAs kind url
canonical_as File url passes = canonical_file url passes
canonical_as SpecialNotFile url passes = tt
canonical_as NotSpecial url passes = canonical_other url passes

as_canonical : (kind : SchemeType) (url : Parts) → IsCanonicalAs kind url
    → (if is_file kind then is_canonical_file url else is_special kind || is_canonical_other url) ≡ true
as_canonical File url is = file_canonical url is
as_canonical SpecialNotFile url is = refl
as_canonical NotSpecial url is = other_canonical url is

-- the laws of URLs: the text of such a valid URL is read as this URL, and nothing else is read
pub read_or_not : (url : Parts) → IsValid url → IsTrue (is_canonical url) ↔ ReadsAsItself url
read_or_not url valid = (
  λ passes. parse_url-serialize url None valid (canonical_as (kind_of url) url passes),
  λ reads. as_canonical (kind_of url) url (parse_url_canonical None (serialize url) url tt valid reads),
)

-- ---- what the functions look at

-- the kind of a scheme is told by its text
pub file_test : (scheme : List ℕ) → is_file (scheme_type scheme) ≡ bytes_eq scheme (codes "file")
unfolding scheme_type
file_test scheme =
    elim (bytes_eq scheme (codes "file")) as
    (λ v. is_file (cond v File (cond (is_some (default_port scheme)) SpecialNotFile NotSpecial)) ≡ v) [
      | true ↦ refl
      | false ↦ elim (is_some (default_port scheme)) as (λ v. is_file (cond v SpecialNotFile NotSpecial) ≡ false) [
        | true ↦ refl
        | false ↦ refl
      ]
    ]

-- a byte that stops the front is no part of it, and any other is
cut_at : (p : ℕ → Bool) (b : ℕ) (rest : List ℕ) → p b ≡ false → take (prefix_len p (b ∷ rest)) (b ∷ rest) ≡ []
cut_at p b rest stops = ap (λ (n : ℕ). take n (b ∷ rest)) (cond-false _ _ _ stops)

cut_behind : (p : ℕ → Bool) (b : ℕ) (rest : List ℕ) → p b ≡ true
    → take (prefix_len p (b ∷ rest)) (b ∷ rest) ≡ b ∷ take (prefix_len p rest) rest
cut_behind p b rest passes = ap (λ (n : ℕ). take n (b ∷ rest)) (cond-true _ _ _ passes ∙ one-add _)

-- a segment that is a drive letter with `|`
abbrev is_bar : List ℕ → Bool
is_bar segment = is_windows_drive_letter segment && get_or segment 1 0 == 124

bar_is_two : (segment : List ℕ) → length segment ≢ 2 → is_bar segment ≡ false
unfolding is_windows_drive_letter
bar_is_two segment other = and_left _ _ (and_left _ _ (and_left _ _ (ne_eqb _ _ other)))

bar_of_two : (a b : ℕ) → is_bar (a ∷ b ∷ []) ≡ (b == 124 && is_ascii_alphabetic a)
unfolding is_windows_drive_letter
bar_of_two a b = same_test _ _ (λ e. grind (arith, nat_tests)) (λ e. grind (arith, nat_tests))

-- a byte of a segment
abbrev is_inner : ℕ → Bool
is_inner b = not (is_slash File b)

-- the front of the bytes up to a slash
abbrev front : List ℕ → List ℕ
front bytes = take (prefix_len is_inner bytes) bytes

and_true : (x y : Bool) → y ≡ true → x ≡ (x && y)
and_true true y e = sym e
and_true false y e = refl

no_letter : (b : ℕ) → is_slash File b ≡ true → is_ascii_alphabetic b ≡ false
no_letter b slash = grind (arith, nat_tests)

no_bar : (b : ℕ) → is_slash File b ≡ true → (b == 124) ≡ false
no_bar b slash = grind (arith, nat_tests)

-- the bar and the letter, with the end of the path or a slash behind them
abbrev is_bar_at : List ℕ → Bool
is_bar_at bytes =
    get_or bytes 1 0 == 124 && is_ascii_alphabetic (get_or bytes 0 0)
    && (length bytes == 2 || is_slash File (get_or bytes 2 0))

bar_behind : (a b : ℕ) (rest : List ℕ) → is_bar (a ∷ b ∷ front rest) ≡ is_bar_at (a ∷ b ∷ rest)
bar_behind a b [] = bar_of_two a b ∙ and_true _ _ refl
bar_behind a b (c ∷ rest) =
    ⊎_elim
    (λ slash. ap (λ xs. is_bar (a ∷ b ∷ xs)) (cut_at is_inner c rest (ap not slash)) ∙ bar_of_two a b
    ∙ and_true _ _ (or_right _ _ slash))
    (λ other. let long = ap (λ xs. is_bar (a ∷ b ∷ xs)) (cut_behind is_inner c rest (ap not other)) in
    long ∙ bar_is_two (a ∷ b ∷ c ∷ front rest) (λ two. omega arith)
    ∙ sym (and_right _ _ (or_from _ _ (ne_eqb (length (a ∷ b ∷ c ∷ rest)) 2 (λ two. omega arith)) other)))
    (cases_Bool (is_slash File c))

bar_front : (bytes : List ℕ) → is_bar (front bytes) ≡ is_bar_at bytes
bar_front [] = bar_is_two [] (λ two. omega arith)
bar_front (a ∷ []) =
    ⊎_elim
    (λ slash. ap is_bar (cut_at is_inner a [] (ap not slash)) ∙ bar_is_two [] (λ two. omega arith))
    (λ other. ap is_bar (cut_behind is_inner a [] (ap not other)) ∙ bar_is_two (a ∷ []) (λ two. omega arith))
    (cases_Bool (is_slash File a))
bar_front (a ∷ b ∷ rest) =
    ⊎_elim
    (λ slash. ap is_bar (cut_at is_inner a (b ∷ rest) (ap not slash)) ∙ bar_is_two [] (λ two. omega arith)
    ∙ sym (and_left _ _ (and_right _ _ (no_letter a slash))))
    (λ other. ap is_bar (cut_behind is_inner a (b ∷ rest) (ap not other))
    ∙ ⊎_elim
    (λ slash. ap (λ xs. is_bar (a ∷ xs)) (cut_at is_inner b rest (ap not slash))
    ∙ bar_is_two (a ∷ []) (λ two. omega arith) ∙ sym (and_left _ _ (and_left _ _ (no_bar b slash))))
    (λ more. ap (λ xs. is_bar (a ∷ xs)) (cut_behind is_inner b rest (ap not more)) ∙ bar_behind a b rest)
    (cases_Bool (is_slash File b)))
    (cases_Bool (is_slash File a))

-- by the bytes of the path
abbrev pub is_bar_in : List ℕ → Bool
is_bar_in path =
    get_or path 2 0 == 124 && is_ascii_alphabetic (get_or path 1 0)
    && (length path == 3 || is_slash File (get_or path 3 0))

pub bar_test : (path : List ℕ) → begins_with_bar_drive path ≡ is_bar_in path
bar_test [] = bar_front []
bar_test (s ∷ bytes) =
    bar_front bytes ∙ ap
    (λ (t : Bool). get_or bytes 1 0 == 124 && is_ascii_alphabetic (get_or bytes 0 0) &&
    (t || is_slash File (get_or bytes 2 0))) one_more
  where
    one_more : (length bytes == 2) ≡ (length (s ∷ bytes) == 3)
    one_more = same_test _ _ (λ e. grind (arith, nat_tests)) (λ e. grind (arith, nat_tests))
