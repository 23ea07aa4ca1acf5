-- Words are no brackets and no string literals, and may stand anywhere.
use Rattle.std.proofs.Common.{◌≡◌, ℕ, Bool, true, false, if◌then◌else◌, ◌&&◌, ◌==◌, List, [], ◌∷◌, length, bytes_eq, refl, sym, subst}
use Rattle.es_lexer.specs.declared.goal.Goal.{Goal}
use Rattle.es_token.specs.declared.token.TokenKind.{TokenKind}
use Rattle.es_token.specs.declared.token.TokenKind.TheVariants as kind
use Rattle.es_lexer.specs.Brackets.{role_of, may_close}
use Rattle.es_lexer.specs.Goal.{allows, may_stand, stands_apart}
use Rattle.es_lexer.specs.Words.{WordTable, kind_in, word_kind, is_keyword, kind_at, words_of, words_of_two, words_of_three, words_of_four, words_of_five, words_of_six, words_of_seven, words_of_eight, words_of_nine, words_of_ten, words_of_eleven}

-- neither a Str nor a token that may stand at some places only
abbrev pub is_free : TokenKind → Bool
is_free kind.Str = false
is_free kind.CloseParen = false
is_free kind.CloseBracket = false
is_free kind.CloseBrace = false
is_free kind.TemplateMiddle = false
is_free kind.TemplateTail = false
is_free kind.RegExp = false
is_free kind.Slash = false
is_free kind.SlashEqual = false
is_free kind.QuestionDot = false
is_free kind.Dot = false
is_free kind.Number = false
is_free kind.BigInt = false
is_free kind.Shebang = false
is_free k = true

pub free_allows : (goal : Goal) (k : TokenKind) (after : List ℕ) → is_free k ≡ true → allows goal k after ≡ true
unfolding allows may_close role_of may_stand
free_allows goal kind.Str after e = cc
free_allows goal kind.CloseParen after e = cc
free_allows goal kind.CloseBracket after e = cc
free_allows goal kind.CloseBrace after e = cc
free_allows goal kind.TemplateMiddle after e = cc
free_allows goal kind.TemplateTail after e = cc
free_allows goal kind.RegExp after e = cc
free_allows goal kind.Slash after e = cc
free_allows goal kind.SlashEqual after e = cc
free_allows goal kind.QuestionDot after e = cc
free_allows goal kind.Dot after e = cc
free_allows goal kind.Number after e = cc
free_allows goal kind.BigInt after e = cc
free_allows goal kind.Shebang after e = cc
free_allows goal k after e = refl

abbrev all_free : WordTable → Bool
all_free [] = true
all_free (entry ∷ table) = is_free entry.1 && all_free table

free_if : (v : Bool) (a b : WordTable) → all_free a ≡ true → all_free b ≡ true → all_free (if v then a else b) ≡ true
free_if true a b p q = p
free_if false a b p q = q

words_free : (n : ℕ) → all_free (words_of n) ≡ true
unfolding words_of words_of_two words_of_three words_of_four words_of_five words_of_six words_of_seven words_of_eight
    words_of_nine words_of_ten words_of_eleven
words_free n =
    free_if (n == 2) _ _ refl (free_if (n == 3) _ _ refl (free_if (n == 4) _ _ refl (free_if (n == 5) _ _ refl
    (free_if (n == 6) _ _ refl
    (free_if (n == 7) _ _ refl (free_if (n == 8) _ _ refl (free_if (n == 9) _ _ refl
    (free_if (n == 10) _ _ refl (free_if (n == 11) _ _ refl refl)))))))))

first_free : (u v : Bool) → (u && v) ≡ true → u ≡ true
first_free true v e = refl
first_free false v e = cc

rest_free : (u v : Bool) → (u && v) ≡ true → v ≡ true
rest_free true v e = e
rest_free false v e = cc

pick_free : (v : Bool) (a b : TokenKind) → is_free a ≡ true → is_free b ≡ true → is_free (if v then a else b) ≡ true
pick_free true a b p q = p
pick_free false a b p q = q

kind_in_free : (table : WordTable) (s : List ℕ) → all_free table ≡ true → is_free (kind_in table s) ≡ true
unfolding kind_in
kind_in_free [] s h = refl
kind_in_free (entry ∷ table) s h =
    pick_free (bytes_eq s entry.0) entry.1 (kind_in table s) (first_free (is_free entry.1) (all_free table) h)
    (kind_in_free table s (rest_free (is_free entry.1) (all_free table) h))

pub word_free : (member : Bool) (s : List ℕ) → is_free (kind_at member s) ≡ true
unfolding kind_at word_kind
word_free member s =
    pick_free (member && is_keyword (kind_in (words_of (length s)) s)) kind.Name (kind_in (words_of (length s)) s) refl
    (kind_in_free (words_of (length s)) s (words_free (length s)))

-- no word is a Str
pub word_no_str : (member : Bool) (s : List ℕ) → kind.Str ≡ kind_at member s → ⊥
word_no_str member s e =
    let g : is_free kind.Str ≡ true = subst (λ (j : TokenKind). is_free j ≡ true) (sym e) (word_free member s) in
    cc

-- what is no number stands apart
pub free_apart : (k : TokenKind) (after : List ℕ) → is_free k ≡ true → stands_apart k after ≡ true
unfolding stands_apart
free_apart kind.Number after e = cc
free_apart kind.BigInt after e = cc
free_apart k after e = refl
