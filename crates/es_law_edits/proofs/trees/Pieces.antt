-- How many bytes of a piece of a template stand around its text.
use Rattle.std.specs.Prelude.{Some, None}
use Rattle.std.proofs.Common.{◌≡◌, ℕ, ◌≤◌, ◌+◌, Bool, true, false, if◌then◌else◌, not, ◌&&◌, ◌==◌, List, [], ◌∷◌, ◌++◌, length, bytes_eq, refl, sym, ◌∙◌, ap, subst, arith, length-append}
use Rattle.es_token.specs.declared.token.TokenKind.{TokenKind}
use Rattle.es_token.specs.declared.token.TokenKind.TheVariants as kind
use Rattle.es_lexer.specs.declared.goal.Goal.{Goal}
use Rattle.es_lexer.specs.Words.{WordTable, kind_in, word_kind, is_keyword, kind_at, words_of, words_of_two, words_of_three, words_of_four, words_of_five, words_of_six, words_of_seven, words_of_eight, words_of_nine, words_of_ten, words_of_eleven}
use Rattle.es_lexer.specs.Signs.{signs_of_one, signs_of_two, signs_of_three, sign_kind}
use Rattle.es_lexer.specs.Spelling.{Spells, word, str, sign, private_name, template, number, regexp, shebang, number_kind, template_start, template_stop, template_kind}
use Rattle.es_lexer.proofs.SignLemmas as mark
use Rattle.es_literal.specs.spelling.Units.{concat}
use Rattle.es_lowering.specs.Texts.{stop_of}

abbrev is_piece : TokenKind → Bool
is_piece kind.TemplateWhole = true
is_piece kind.TemplateHead = true
is_piece kind.TemplateMiddle = true
is_piece kind.TemplateTail = true
is_piece k = false

-- ---- no word and no punctuator is one
abbrev no_piece : WordTable → Bool
no_piece [] = true
no_piece (entry ∷ table) = not (is_piece entry.1) && no_piece table

none_if : (v : Bool) (a b : WordTable) → no_piece a ≡ true → no_piece b ≡ true → no_piece (if v then a else b) ≡ true
none_if true a b p q = p
none_if false a b p q = q

words_none : (n : ℕ) → no_piece (words_of n) ≡ true
unfolding words_of words_of_two words_of_three words_of_four words_of_five words_of_six words_of_seven words_of_eight
    words_of_nine words_of_ten words_of_eleven
words_none n =
    none_if (n == 2) _ _ refl (none_if (n == 3) _ _ refl (none_if (n == 4) _ _ refl (none_if (n == 5) _ _ refl
    (none_if (n == 6) _ _ refl
    (none_if (n == 7) _ _ refl (none_if (n == 8) _ _ refl (none_if (n == 9) _ _ refl
    (none_if (n == 10) _ _ refl (none_if (n == 11) _ _ refl refl)))))))))

first_holds : (u v : Bool) → (u && v) ≡ true → u ≡ true
first_holds true v e = refl
first_holds false v e = cc

rest_holds : (u v : Bool) → (u && v) ≡ true → v ≡ true
rest_holds true v e = e
rest_holds false v e = cc

pick_none : (v : Bool) (a b : TokenKind) → not (is_piece a) ≡ true → not (is_piece b) ≡ true
    → not (is_piece (if v then a else b)) ≡ true
pick_none true a b p q = p
pick_none false a b p q = q

kind_in_none : (table : WordTable) (s : List ℕ) → no_piece table ≡ true → not (is_piece (kind_in table s)) ≡ true
unfolding kind_in
kind_in_none [] s h = refl
kind_in_none (entry ∷ table) s h =
    pick_none (bytes_eq s entry.0) entry.1 (kind_in table s) (first_holds (not (is_piece entry.1)) (no_piece table) h)
    (kind_in_none table s (rest_holds (not (is_piece entry.1)) (no_piece table) h))

word_none : (member : Bool) (s : List ℕ) → not (is_piece (kind_at member s)) ≡ true
unfolding kind_at word_kind
word_none member s =
    pick_none (member && is_keyword (kind_in (words_of (length s)) s)) kind.Name (kind_in (words_of (length s)) s) refl
    (kind_in_none (words_of (length s)) s (words_none (length s)))

sign_none : (s : List ℕ) (k : TokenKind) → sign_kind s ≡ Some k → not (is_piece k) ≡ true
unfolding signs_of_one signs_of_two signs_of_three
sign_none s k w = mark.sign_passes (λ t j. not (is_piece j)) s k refl refl refl w

number_none : (big : Bool) → not (is_piece (number_kind big)) ≡ true
unfolding number_kind
number_none true = refl
number_none false = refl

moved : (k j : TokenKind) → k ≡ j → not (is_piece j) ≡ true → not (is_piece k) ≡ true
moved k j e h = let P : TokenKind → Type 0 = λ i. not (is_piece i) ≡ true in subst P (sym e) h

clash : {A : Type 0} → false ≡ true → A
clash e = absurd (let bad : ⊥ = cc in bad)

stop_none : (k : TokenKind) → not (is_piece k) ≡ true → stop_of k ≡ None
unfolding stop_of
stop_none kind.TemplateWhole h = clash h
stop_none kind.TemplateHead h = clash h
stop_none kind.TemplateMiddle h = clash h
stop_none kind.TemplateTail h = clash h
stop_none k h = refl

no_stop : {A : Type 0} (k : TokenKind) (stop : ℕ) → stop_of k ≡ Some stop → not (is_piece k) ≡ true → A
no_stop k stop e h = let none = stop_none k h in absurd (let bad : ⊥ = cc in bad)

-- ---- a piece has a byte before its text, and its end behind it
template_stops : (opens sub : Bool) → stop_of (template_kind opens sub) ≡ Some (length (template_stop sub))
unfolding template_kind template_stop stop_of
template_stops true true = refl
template_stops true false = refl
template_stops false true = refl
template_stops false false = refl

same_stop : (k : TokenKind) (b : ℕ) (opens sub : Bool) → k ≡ template_kind opens sub → stop_of k ≡ Some b
    → b ≡ length (template_stop sub)
same_stop k b opens sub f e =
    let one = template_stops opens sub in
    let other = ap stop_of f in
    cc

around : (b stop : ℕ) (s inner back : List ℕ) → s ≡ b ∷ (inner ++ back) → stop ≡ length back → 1 + stop ≤ length s
around b stop s inner back e f =
    let long : length s ≡ length (b ∷ (inner ++ back)) = ap length e in
    let size = length-append inner back in omega (arith, long, size, f)

pub piece_size : (goal : Goal) (k : TokenKind) (s : List ℕ) (stop : ℕ) → stop_of k ≡ Some stop → Spells goal k s
    → 1 + stop ≤ length s
piece_size goal k s stop e (word w f) = no_stop k stop e (moved k (kind_at goal.member s) f (word_none goal.member s))
piece_size goal k s stop e (str l f) = no_stop k stop e (moved k kind.Str f refl)
piece_size goal k s stop e (sign f) = no_stop k stop e (sign_none s k f)
piece_size goal k s stop e (regexp i f) = no_stop k stop e (moved k kind.RegExp f refl)
piece_size goal k s stop e (shebang text h f w q) = no_stop k stop e (moved k kind.Shebang q refl)
piece_size goal k s stop e (private_name name w q f) = no_stop k stop e (moved k kind.PrivateName f refl)
piece_size goal k s stop e (number big i f) = no_stop k stop e (moved k (number_kind big) f (number_none big))
piece_size goal k s stop e (template opens sub body t q f) =
    around (template_start opens) stop s (concat t.units) (template_stop sub)
    (q ∙ ap (λ rest. template_start opens ∷ rest) t.whole) (same_stop k stop opens sub f e)
