-- The URL of a module is valid and canonical, so its text is read as itself.
use Rattle.std.proofs.Common.{◌≡◌, ◌∙◌, refl, sym, ap, ℕ, ◌+◌, ◌<◌, ◌%◌, ◌^◌, false, List, [], ◌∷◌, ◌++◌, Ok, inl, append_assoc, append-nil, decimal, arith}
use Rattle.std.specs.Prelude.{All, Option, codes}
use Rattle.std.proofs.lemmas.List.Elements.{All-nil, All-cons, All-append}
use Rattle.std.proofs.lemmas.Fmt.{decimal_by_steps}
use Rattle.percent_encoding.specs.Percent.{IsKept}
use Rattle.percent_encoding.proofs.OnLiterals.{percent_encoding_on_literals}
use Rattle.url.specs.declared.sets.TheConstants.{PATH, USERINFO, FORBIDDEN_DOMAIN}
use Rattle.url.specs.declared.scheme.SchemeType.TheVariants.{File}
use Rattle.url.specs.Scheme.{is_slash}
use Rattle.url.specs.Host.{IsDomain}
use Rattle.url.specs.Path.{dot_count, IsSegment, IsSegmentList}
use Rattle.url.specs.Parts.{Parts, serialize, IsValidHead, IsValid}
use Rattle.url.specs.Canonical.{IsCanonical}
use Rattle.url.specs.Parser.{parse_url}
use Rattle.url.proofs.Theorems.{parse_url-serialize}
use Rattle.url.proofs.OnLiterals.{url_on_literals}
use Rattle.made_laws.specs.Value.{specifier_text}
use Rattle.made_laws.specs.Urls.{path_of, url_at}
use Rattle.made_laws.proofs.Digits.{each_digit}

-- ---- the digits

-- what holds of each digit holds of all of a number
pub all_digits : (Q : ℕ → Type 0) → ((m : ℕ) → m < 10 → Q (48 + m)) → (n : ℕ) → n < 2 ^ 64 → All Q (decimal n)
all_digits Q each =
    decimal_by_steps (λ n ds. All Q ds)
    (λ m l. All-cons Q (48 + m) [] (each m l) (All-nil Q))
    (λ m ds l h. All-append Q ds ((48 + m % 10) ∷ []) h
    (All-cons Q (48 + m % 10) [] (each (m % 10) (omega arith)) (All-nil Q)))

-- a digit stands first
pub record BeginsWithDigit (text : List ℕ) : Type 0 where
  pub digit : ℕ
  pub below : digit < 10
  pub rest : List ℕ
  pub is : text ≡ (48 + digit) ∷ rest

pub begins_with_digit : (n : ℕ) → n < 2 ^ 64 → BeginsWithDigit (decimal n)
begins_with_digit =
    decimal_by_steps (λ n ds. BeginsWithDigit ds)
    (λ m l. record { digit = m; below = l; rest = []; is = refl })
    (λ m ds l h. record {
      digit = h.digit;
      below = h.below;
      rest = h.rest ++ (48 + m % 10) ∷ [];
      is = ap (λ (x : List ℕ). x ++ (48 + m % 10) ∷ []) h.is;
    })

-- ---- the segments

pub kept_digit : (m : ℕ) → m < 10 → IsKept PATH (48 + m)
unfolding percent_encoding_on_literals
kept_digit = each_digit (IsKept PATH) refl refl refl refl refl refl refl refl refl refl

pub whole_digit : (m : ℕ) → m < 10 → is_slash File (48 + m) ≡ false
whole_digit = each_digit (λ b. is_slash File b ≡ false) refl refl refl refl refl refl refl refl refl refl

pub no_dots : (m : ℕ) (rest : List ℕ) → m < 10 → dot_count ((48 + m) ∷ rest) ≡ 0
unfolding url_on_literals
no_dots m rest =
    each_digit (λ b. dot_count (b ∷ rest) ≡ 0) refl refl refl refl refl refl refl refl refl refl m

pub ending : (Q : ℕ → Type 0) → Q 46 → Q 116 → Q 115 → All Q (codes ".ts")
ending Q a b c = All-cons Q 46 (codes "ts") a (All-cons Q 116 (codes "s") b (All-cons Q 115 [] c (All-nil Q)))

pub name_segment : (i : ℕ) → i < 2 ^ 64 → IsSegment File (decimal i ++ codes ".ts")
unfolding percent_encoding_on_literals
name_segment i l =
    let first = begins_with_digit i l in
    record {
      escaped = All-append (IsKept PATH) (decimal i) (codes ".ts") (all_digits (IsKept PATH) kept_digit i l)
          (ending (IsKept PATH) refl refl refl);
      whole = All-append (λ b. is_slash File b ≡ false) (decimal i) (codes ".ts")
          (all_digits (λ b. is_slash File b ≡ false) whole_digit i l)
          (ending (λ b. is_slash File b ≡ false) refl refl refl);
      resolved = ap (λ (x : List ℕ). dot_count (x ++ codes ".ts")) first.is
          ∙ no_dots first.digit (first.rest ++ codes ".ts") first.below;
    }

folder_segment : IsSegment File (codes "m")
unfolding url_on_literals percent_encoding_on_literals
folder_segment = record {
  escaped = All-cons (IsKept PATH) 109 [] refl (All-nil (IsKept PATH));
  whole = All-cons (λ b. is_slash File b ≡ false) 109 [] refl (All-nil (λ b. is_slash File b ≡ false));
  resolved = refl;
}

segments_of : (i : ℕ) → i < 2 ^ 64 → IsSegmentList File (path_of i)
segments_of i l = record {
  segments = codes "m" ∷ (decimal i ++ codes ".ts") ∷ [];
  joined = ap (λ (x : List ℕ). codes "/m/" ++ x) (sym (append-nil (decimal i ++ codes ".ts")));
  each = All-cons (IsSegment File) (codes "m") ((decimal i ++ codes ".ts") ∷ []) folder_segment
      (All-cons (IsSegment File) (decimal i ++ codes ".ts") [] (name_segment i l) (All-nil (IsSegment File)));
}

-- ---- the whole

no_domain : IsDomain []
unfolding url_on_literals
no_domain = record { allowed = All-nil (IsKept FORBIDDEN_DOMAIN); lower = refl; named = refl }

head_valid : (i : ℕ) → IsValidHead (url_at i)
unfolding url_on_literals
head_valid i = record {
  scheme = record { nonempty = omega arith; whole = refl; lower = refl };
  username = All-nil (IsKept USERINFO);
  password = All-nil (IsKept USERINFO);
  host = no_domain;
  port = tt;
  bare = λ e. (refl, refl, refl);
}

pub url_valid : (i : ℕ) → i < 2 ^ 64 → IsValid (url_at i)
unfolding url_on_literals
url_valid i l = record {
  head = head_valid i;
  path = inl (segments_of i l, λ e. omega arith);
  query = tt;
  fragment = tt;
}

pub url_canonical : (i : ℕ) → IsCanonical (url_at i)
unfolding url_on_literals
url_canonical i = record { host = λ e. let bad : ⊥ = cc in bad; drive = λ e. absurd (let bad : ⊥ = cc in bad) }

pub serialize_at : (i : ℕ) → serialize (url_at i) ≡ specifier_text i
serialize_at i =
    ap (λ (x : List ℕ). codes "file:///m/" ++ x) (append-nil (decimal i ++ codes ".ts"))
    ∙ sym (append_assoc (codes "file:///m/") (decimal i) (codes ".ts"))

pub specifier_read : (i : ℕ) (base : Option Parts) → i < 2 ^ 64 → parse_url base (specifier_text i) ≡ Ok (url_at i)
specifier_read i base l =
    ap (parse_url base) (sym (serialize_at i)) ∙ parse_url-serialize (url_at i) base (url_valid i l) (url_canonical i)
