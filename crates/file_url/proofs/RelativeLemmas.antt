-- A text that begins with `/`, `./` or `../` has no scheme: by itself it is no URL.
use Rattle.std.proofs.Common.{◌≡◌, ◌⊎◌, inl, inr, ℕ, suc, ◌+◌, ◌-◌, ◌<◌, ◌≤◌, Bool, true, false, true≢false, not, ◌||◌, ◌==◌, nat_eq, List, [], ◌∷◌, length, get_or, take, drop, reverse, None, Ok, Err, refl, sym, ◌∙◌, ap, subst, arith, codes}
use Rattle.std.specs.List.{suffix_len, prefix_len, starts_with}
use Rattle.std.proofs.lemmas.Bool.{cases_eq}
use Rattle.std.proofs.lemmas.List.{get_or-reverse, length-reverse}
use Rattle.std.proofs.lemmas.List.Sums.{suffix_len-le-length, prefix_len_passes}
use Rattle.url.specs.declared.error.ParseError.TheVariants.{RelativeUrlWithoutBase}
use Rattle.url.specs.Ascii.{number_sign, question_mark}
use Rattle.url.specs.Input.{is_c0_control_or_space, trim_end, trim_c0_control_and_space, strip_tabs_and_new_lines, split_once}
use Rattle.url.specs.Scheme.{scheme_len}
use Rattle.url.specs.Parser.{Parsed, parse_by_scheme, split_scheme, parse_url}
use Rattle.url.specs.Parts.{Parts}
use Rattle.lexical_path.specs.Specifiers.{has_relative_prefix}

-- a first byte that isn't trimmed stays, and something of what is behind it
first_stays : (p : ℕ → Bool) (b : ℕ) (rest : List ℕ) → p b ≡ false
    → (n : ℕ) × (trim_end p (b ∷ rest) ≡ b ∷ take n rest)
first_stays p b rest stays =
    let xs = b ∷ rest in
    let most = suffix_len-le-length p xs in
    let len = length-reverse xs in
    elim (cases_eq (suffix_len p xs) (length xs)) [
      | inl all ↦
          let passes = prefix_len_passes p (reverse xs) (length rest) 0 (omega arith) in
          let same : length xs - 1 - length rest ≡ 0 = omega arith in
          let first = rw (get_or-reverse xs (length rest) 0 (omega arith), same) at passes in
          absurd (true≢false (sym first ∙ stays))
      | inr some ↦
          let n = length rest - suffix_len p xs in
          let next : length xs - suffix_len p xs ≡ suc n = omega arith in
          (n, ap (λ (k : ℕ). take k xs) next)
    ]

-- what is read of the trimmed input
abbrev of_trimmed : List ℕ → Parsed Parts
of_trimmed input =
    let hash = split_once number_sign (strip_tabs_and_new_lines input) in
    let question = split_once question_mark hash.0 in
    parse_by_scheme (split_scheme question.0) None question.0 question.1 hash.1

-- `.` and `/` are no letters, and no separators
dot_first : (rest : List ℕ) → of_trimmed (46 ∷ rest) ≡ Err RelativeUrlWithoutBase
unfolding split_once strip_tabs_and_new_lines split_scheme scheme_len
dot_first rest = refl

slash_first : (rest : List ℕ) → of_trimmed (47 ∷ rest) ≡ Err RelativeUrlWithoutBase
unfolding split_once strip_tabs_and_new_lines split_scheme scheme_len
slash_first rest = refl

dot_front : (rest : List ℕ) → parse_url None (46 ∷ rest) ≡ Err RelativeUrlWithoutBase
unfolding parse_url trim_c0_control_and_space
dot_front rest =
    let stays = first_stays is_c0_control_or_space 46 rest refl in
    ap of_trimmed stays.1 ∙ dot_first (take stays.0 rest)

slash_front : (rest : List ℕ) → parse_url None (47 ∷ rest) ≡ Err RelativeUrlWithoutBase
unfolding parse_url trim_c0_control_and_space
slash_front rest =
    let stays = first_stays is_c0_control_or_space 47 rest refl in
    ap of_trimmed stays.1 ∙ slash_first (take stays.0 rest)

-- such a text begins with one of the two
first_of : (text : List ℕ) → has_relative_prefix text ≡ true
    → (rest : List ℕ) × ((text ≡ 46 ∷ rest) ⊎ (text ≡ 47 ∷ rest))
first_of [] begins = absurd (cc)
first_of (b ∷ rest) begins =
    elim (cases_eq b 46) [
      | inl dot ↦ (rest, inl (ap (λ (x : ℕ). x ∷ rest) dot))
      | inr other ↦ elim (cases_eq b 47) [
        | inl slash ↦ (rest, inr (ap (λ (x : ℕ). x ∷ rest) slash))
        | inr neither ↦ absurd (grind (arith))
      ]
    ]

-- the law
pub relative_alone : (text : List ℕ) → has_relative_prefix text ≡ true
    → parse_url None text ≡ Err RelativeUrlWithoutBase
relative_alone text begins =
    let (rest, first) = first_of text begins in
    elim first [
      | inl dot ↦ ap (parse_url None) dot ∙ dot_front rest
      | inr slash ↦ ap (parse_url None) slash ∙ slash_front rest
    ]
