-- No two modules get one new name.
use Rattle.std.proofs.Common.{◌≡◌, ◌∙◌, refl, sym, ap, subst, ℕ, suc, ◌+◌, ◌%◌, ◌<◌, ◌≤◌, ◌^◌, Bool, true, false, List, [], ◌∷◌, ◌++◌, length, append_assoc, Option, Some, None, decimal, arith}
use Rattle.std.specs.Prelude.{All, codes, bytes_eq, map, Ok, Err, Result, option_map, option_and_then, drop}
use Rattle.std.specs.List.{AllByRecursion, IsDistinct, cons_option, list_all}
use Rattle.std.specs.List.Sorted.{IsStrictlySortedBy}
use Rattle.std.specs.Cmp.Lexicographic.{nat_list_eq_equiv, same_text}
use Rattle.std.specs.Result.{result_ok}
use Rattle.std.proofs.lemmas.Bool.Decides.{nat_tests}
use Rattle.std.proofs.lemmas.Fmt.{decimal_by_steps, decimal_injective}
use Rattle.std.proofs.lemmas.List.Elements.{All-nil, All-cons, All-append}
use Rattle.std.proofs.lemmas.Option.{none-some, same_Some}
use Rattle.url.specs.Parts.{Parts, serialize}
use Rattle.url.specs.Parser.{Parsed, parse_url}
use Rattle.url.specs.Input.{split_once}
use Rattle.url.proofs.InputLemmas.{IsNot, All_from_list_all, split_once_at}
use Rattle.media_type.specs.declared.media_type.MediaType.{MediaType}
use Rattle.media_type.specs.declared.media_type.MediaType.TheVariants as media
use Rattle.graph_entry.specs.declared.entry.Module.{Module}
use Rattle.graph_entry.specs.Specifier.{text_of}
use Rattle.graph_builder.specs.Reach.{Specifier}
use Rattle.graph_builder.specs.Graph.{IsAscending, members_of}
use Rattle.graph_builder.specs.ByText.{value_at, keys_at}
use Rattle.graph_builder.proofs.ByTextLemmas.{distinct_sorted}
use Rattle.vendor_files.specs.declared.file.VendorFile.{VendorFile}
use Rattle.graph_vendor.specs.declared.names.NewName.{NewName}
use Rattle.graph_vendor.specs.Names.{Entries, Held, Names, modules_of, media_of, extension, file_name, name_of, names_from, names_in, target_at}
use Rattle.graph_vendor.specs.Plan.{targets_of, file_at, files_of, bytes_of}
use Rattle.graph_vendor.proofs.vendored.Lists.{at_first, at_later, apart_key}
use Rattle.graph_vendor.proofs.JoinedLemmas.{is_plain, IsPlain, joined_apart}
use Rattle.graph_vendor.proofs.NameLemmas.{keys, keys_named, keys_ascend}

-- ---- the names of files

digit_plain : (m : ℕ) → m < 10 → IsPlain (48 + m)
digit_plain m l = grind (arith, nat_tests)

digits_plain : (n : ℕ) → n < 2 ^ 64 → All IsPlain (decimal n)
digits_plain =
    decimal_by_steps (λ n ds. All IsPlain ds)
    (λ m l. All-cons IsPlain (48 + m) [] (digit_plain m l) (All-nil IsPlain))
    (λ m ds l h. All-append IsPlain ds ((48 + m % 10) ∷ []) h
    (All-cons IsPlain (48 + m % 10) [] (digit_plain (m % 10) (omega arith)) (All-nil IsPlain)))

extension_plain : (kind : MediaType) → list_all is_plain (extension kind) ≡ true
extension_plain media.Dts = refl
extension_plain media.Dmts = refl
extension_plain media.Dcts = refl
extension_plain media.TypeScript = refl
extension_plain media.Mts = refl
extension_plain media.Cts = refl
extension_plain media.Tsx = refl
extension_plain media.JavaScript = refl
extension_plain media.Mjs = refl
extension_plain media.Cjs = refl
extension_plain media.Jsx = refl
extension_plain media.Json = refl
extension_plain media.Jsonc = refl
extension_plain media.Json5 = refl
extension_plain media.Wasm = refl
extension_plain media.Css = refl
extension_plain media.Html = refl
extension_plain media.Markdown = refl
extension_plain media.Sql = refl
extension_plain media.SourceMap = refl
extension_plain media.Unknown = refl

-- what stands behind the `m` of a file's name
abbrev behind_m : ℕ → MediaType → List ℕ
behind_m k kind = decimal k ++ 46 ∷ extension kind

spelled : (k : ℕ) (kind : MediaType) → file_name k kind ≡ 109 ∷ behind_m k kind
unfolding file_name
spelled k kind = append_assoc (codes "m" ++ decimal k) (codes ".") (extension kind)

plain_name : (k : ℕ) (kind : MediaType) → k < 2 ^ 64 → All IsPlain (109 ∷ behind_m k kind)
plain_name k kind few =
    All-cons IsPlain 109 (behind_m k kind) refl
    (All-append IsPlain (decimal k) (46 ∷ extension kind) (digits_plain k few)
    (All-cons IsPlain 46 (extension kind) refl (All_from_list_all is_plain (extension kind) (extension_plain kind))))

no_dot : (n : ℕ) → n < 2 ^ 64 → All (IsNot 46) (decimal n)
no_dot =
    decimal_by_steps (λ n ds. All (IsNot 46) ds)
    (λ m l. All-cons (IsNot 46) (48 + m) [] (λ e. omega (arith, e)) (All-nil (IsNot 46)))
    (λ m ds l h. All-append (IsNot 46) ds ((48 + m % 10) ∷ []) h
    (All-cons (IsNot 46) (48 + m % 10) [] (λ e. omega (arith, e)) (All-nil (IsNot 46))))

same_number : (j k : ℕ) (a b : MediaType) → j < 2 ^ 64 → k < 2 ^ 64 → behind_m j a ≡ behind_m k b → j ≡ k
same_number j k a b lj lk e =
    decimal_injective j k lj lk
    (ap (λ (p : List ℕ × Option (List ℕ)). p.0)
    (sym (split_once_at 46 (decimal j) (extension a) (no_dot j lj)) ∙ ap (split_once 46) e
    ∙ split_once_at 46 (decimal k) (extension b) (no_dot k lk)))

-- ---- the URLs that they join to

abbrev JoinsTo : Parts → ℕ → MediaType → Parts → Type 0
JoinsTo base k kind url = parse_url (Some base) (file_name k kind) ≡ Ok url

joins : (base : Parts) (name : List ℕ) (url : Parts) → result_ok (parse_url (Some base) name) ≡ Some url
    → parse_url (Some base) name ≡ Ok url
joins base name url e = by (parse_url (Some base) name) e
  where
    by : (r : Parsed Parts) → result_ok r ≡ Some url → r ≡ Ok url
    by (Ok there) e = ap (λ (u : Parts). Ok u) (same_Some there url e)
    by (Err why) e = absurd (none-some url e)

other_place : (base : Parts) (j k : ℕ) (a b : MediaType) (u v : Parts) → j < k → k < 2 ^ 64
    → JoinsTo base j a u → JoinsTo base k b v → bytes_eq (text_of u) (text_of v) ≡ false
unfolding text_of
other_place base j k a b u v less few eu ev = by (bytes_eq (serialize u) (serialize v)) refl
  where
    by : (t : Bool) → bytes_eq (serialize u) (serialize v) ≡ t → t ≡ false
    by true e =
        let one = joined_apart (behind_m j a) (behind_m k b) (plain_name j a (omega (arith, less, few)))
        (plain_name k b few) base u v (sym (ap (parse_url (Some base)) (spelled j a)) ∙ eu)
        (sym (ap (parse_url (Some base)) (spelled k b)) ∙ ev) (same_text (serialize u) (serialize v) (sym e)) in
        let same = same_number j k a b (omega (arith, less, few)) few one in
        absurd (let bad : ⊥ = omega (arith, same, less) in bad)
    by false e = refl

-- ---- the files of a graph

module _ (base : Parts) (entries : Entries) (names : Names) where
  -- the modules have these names, numbered from here on
  abbrev AreNamed : ℕ → List Held → Type 0
  AreNamed k [] = Unit {0}
  AreNamed k (m ∷ ms) = (value_at names (text_of m.0) ≡ Some (name_of base k m.1)) × AreNamed (k + 1) ms

  abbrev targets : List Held → List Specifier
  targets ms = targets_of (files_of entries names ms)

  -- the target of a module of this number
  joined_target : (k : ℕ) (m : Held) (url : Parts) → value_at names (text_of m.0) ≡ Some (name_of base k m.1)
      → target_at names (text_of m.0) ≡ Some url → JoinsTo base k (media_of m.1) url
  joined_target k m url named at =
      joins base (file_name k (media_of m.1)) url
      (sym (ap (λ (o : Option NewName). option_and_then (λ (n : NewName). n.target) o) named) ∙ at)

  later_apart : (j k : ℕ) (kind : MediaType) (u : Parts) (ms : List Held) → JoinsTo base j kind u → j < k
      → k + length ms ≤ 2 ^ 64 → AreNamed k ms → AllByRecursion (λ t. bytes_eq (text_of u) t ≡ false) (targets ms)
  later_apart j k kind u [] at less few named = tt
  later_apart j k kind u (m ∷ ms) at less few named =
      by (target_at names (text_of m.0)) refl
      (later_apart j (k + 1) kind u ms at (omega (arith, less)) (omega (arith, few)) named.1)
    where
      by : (o : Option Parts) → target_at names (text_of m.0) ≡ o
          → AllByRecursion (λ t. bytes_eq (text_of u) t ≡ false) (targets ms)
          → AllByRecursion (λ t. bytes_eq (text_of u) t ≡ false)
          (targets_of (cons_option (option_map (λ target. record {
            source = m.0;
            target = target;
            bytes = bytes_of entries names m.1;
          }) o) (files_of entries names ms)))
      by None e rest = rest
      by (Some url) e rest = (
        other_place base j k kind (media_of m.1) u url less (omega (arith, few)) at (joined_target k m url named.0 e),
        rest,
      )

  all_apart : (k : ℕ) (ms : List Held) → k + length ms ≤ 2 ^ 64 → AreNamed k ms → IsDistinct bytes_eq (targets ms)
  unfolding IsDistinct
  all_apart k [] few named = tt
  all_apart k (m ∷ ms) few named =
      by (target_at names (text_of m.0)) refl (all_apart (k + 1) ms (omega (arith, few)) named.1)
    where
      by : (o : Option Parts) → target_at names (text_of m.0) ≡ o → IsDistinct bytes_eq (targets ms)
          → IsDistinct bytes_eq
          (targets_of (cons_option (option_map (λ target. record {
            source = m.0;
            target = target;
            bytes = bytes_of entries names m.1;
          }) o) (files_of entries names ms)))
      by None e rest = rest
      by (Some url) e rest = (
        later_apart k (k + 1) (media_of m.1) url ms (joined_target k m url named.0 e) (omega arith)
            (omega (arith, few)) named.1,
        rest,
      )

  -- ---- the names of a graph
  named_from : (k : ℕ) (ms : List Held) → IsDistinct bytes_eq (keys ms)
      → ((s : Specifier) (n : NewName) → value_at (names_from base k ms) s ≡ Some n → value_at names s ≡ Some n)
      → AreNamed k ms
  unfolding IsDistinct
  named_from k [] apart there = tt
  named_from k (m ∷ ms) apart there = (
    there (text_of m.0) (name_of base k m.1)
        (at_first (m.0, name_of base k m.1) (names_from base (k + 1) ms) (text_of m.0)
        (nat_list_eq_equiv.refl (text_of m.0))),
    named_from (k + 1) ms apart.1 (λ s n at. there s n
        (at_later (m.0, name_of base k m.1) (names_from base (k + 1) ms) s
        (apart_key (text_of m.0) s (names_from base (k + 1) ms) n
        (subst (AllByRecursion (λ t. bytes_eq (text_of m.0) t ≡ false)) (sym (keys_named base (k + 1) ms)) apart.0) at)
        ∙ at)),
  )

-- the new names of modules differ
pub names_apart : (base : Parts) (entries : Entries) (names : Names) → IsAscending entries
    → names ≡ names_in base entries → length names ≤ 2 ^ 63
    → IsDistinct bytes_eq (targets_of (files_of entries names (modules_of entries)))
names_apart base entries names ascending is few =
    let ms = modules_of entries in
    let count : length names ≡ length ms = ap length is ∙ counted 0 ms in
    all_apart base entries names 0 ms (omega (arith, count, few))
    (named_from base entries names 0 ms (distinct_sorted (keys ms) (keys_ascend entries ascending))
    (λ s n at. ap (λ (ns : Names). value_at ns s) is ∙ at))
  where
    counted : (k : ℕ) (ms : List Held) → length (names_from base k ms) ≡ length ms
    counted k [] = refl
    counted k (m ∷ ms) = ap suc (counted (k + 1) ms)
