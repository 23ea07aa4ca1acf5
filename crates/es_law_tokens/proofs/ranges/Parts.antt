-- What stands in the text of private names, shebangs and pieces of templates, and of no other token.
use Rattle.std.specs.Prelude.{Some, None}
use Rattle.std.proofs.Common.{◌≡◌, ℕ, ◌<◌, Bool, true, false, if◌then◌else◌, not, ◌&&◌, ◌==◌, List, [], ◌∷◌, ◌++◌, length, get_or, bytes_eq, refl, sym, ◌∙◌, ap, subst, arith}
use Rattle.es_token.specs.declared.token.TokenKind.{TokenKind}
use Rattle.es_token.specs.declared.token.TokenKind.TheVariants as kind
use Rattle.es_lexer.specs.declared.goal.Goal.{Goal}
use Rattle.es_lexer.specs.Words.{WordTable, kind_in, word_kind, is_keyword, kind_at, words_of, words_of_two, words_of_three, words_of_four, words_of_five, words_of_six, words_of_seven, words_of_eight, words_of_nine, words_of_ten, words_of_eleven}
use Rattle.es_lexer.specs.Signs.{signs_of_one, signs_of_two, signs_of_three, sign_kind}
use Rattle.es_lexer.specs.Spelling.{Spells, word, str, sign, private_name, template, number, regexp, shebang, number_kind, template_start, template_stop, template_kind}
use Rattle.es_lexer.proofs.SignLemmas as mark
use Rattle.es_literal.specs.spelling.Units.{concat}
use Rattle.es_lowering.specs.Texts.{stop_of}

-- a private name, a shebang, or a piece of a template
abbrev is_cut : TokenKind → Bool
is_cut kind.PrivateName = true
is_cut kind.Shebang = true
is_cut kind.TemplateWhole = true
is_cut kind.TemplateHead = true
is_cut kind.TemplateMiddle = true
is_cut kind.TemplateTail = true
is_cut k = false

-- ---- no word and no punctuator is one
abbrev none_cut : WordTable → Bool
none_cut [] = true
none_cut (entry ∷ table) = not (is_cut entry.1) && none_cut table

none_if : (v : Bool) (a b : WordTable) → none_cut a ≡ true → none_cut b ≡ true → none_cut (if v then a else b) ≡ true
none_if true a b p q = p
none_if false a b p q = q

words_none : (n : ℕ) → none_cut (words_of n) ≡ true
unfolding words_of words_of_two words_of_three words_of_four words_of_five words_of_six words_of_seven words_of_eight
    words_of_nine words_of_ten words_of_eleven
words_none n =
    none_if (n == 2) _ _ refl (none_if (n == 3) _ _ refl (none_if (n == 4) _ _ refl (none_if (n == 5) _ _ refl
    (none_if (n == 6) _ _ refl
    (none_if (n == 7) _ _ refl (none_if (n == 8) _ _ refl (none_if (n == 9) _ _ refl
    (none_if (n == 10) _ _ refl (none_if (n == 11) _ _ refl refl)))))))))

first_holds : (u v : Bool) → (u && v) ≡ true → u ≡ true
first_holds true v e = refl
first_holds false v e = cc

rest_holds : (u v : Bool) → (u && v) ≡ true → v ≡ true
rest_holds true v e = e
rest_holds false v e = cc

pick_none : (v : Bool) (a b : TokenKind) → not (is_cut a) ≡ true → not (is_cut b) ≡ true
    → not (is_cut (if v then a else b)) ≡ true
pick_none true a b p q = p
pick_none false a b p q = q

kind_in_none : (table : WordTable) (s : List ℕ) → none_cut table ≡ true → not (is_cut (kind_in table s)) ≡ true
unfolding kind_in
kind_in_none [] s h = refl
kind_in_none (entry ∷ table) s h =
    pick_none (bytes_eq s entry.0) entry.1 (kind_in table s) (first_holds (not (is_cut entry.1)) (none_cut table) h)
    (kind_in_none table s (rest_holds (not (is_cut entry.1)) (none_cut table) h))

word_none : (member : Bool) (s : List ℕ) → not (is_cut (kind_at member s)) ≡ true
unfolding kind_at word_kind
word_none member s =
    pick_none (member && is_keyword (kind_in (words_of (length s)) s)) kind.Name (kind_in (words_of (length s)) s) refl
    (kind_in_none (words_of (length s)) s (words_none (length s)))

sign_none : (s : List ℕ) (k : TokenKind) → sign_kind s ≡ Some k → not (is_cut k) ≡ true
unfolding signs_of_one signs_of_two signs_of_three
sign_none s k w = mark.sign_passes (λ t j. not (is_cut j)) s k refl refl refl w

number_none : (big : Bool) → not (is_cut (number_kind big)) ≡ true
unfolding number_kind
number_none true = refl
number_none false = refl

moved : (k j : TokenKind) → k ≡ j → not (is_cut j) ≡ true → not (is_cut k) ≡ true
moved k j e h = let P : TokenKind → Type 0 = λ i. not (is_cut i) ≡ true in subst P (sym e) h

clash : {A : Type 0} → false ≡ true → A
clash e = absurd (let bad : ⊥ = cc in bad)

-- ---- private names
not_private : {A : Type 0} (k : TokenKind) → k ≡ kind.PrivateName → not (is_cut k) ≡ true → A
not_private k e h = clash (moved kind.PrivateName k (sym e) h)

template_no_private : {A : Type 0} (opens sub : Bool) → kind.PrivateName ≡ template_kind opens sub → A
unfolding template_kind
template_no_private true true e = absurd (let bad : ⊥ = cc in bad)
template_no_private true false e = absurd (let bad : ⊥ = cc in bad)
template_no_private false true e = absurd (let bad : ⊥ = cc in bad)
template_no_private false false e = absurd (let bad : ⊥ = cc in bad)

-- a private name is `#` and more
pub private_of : (goal : Goal) (k : TokenKind) (s : List ℕ) → k ≡ kind.PrivateName → Spells goal k s
    → (name : List ℕ) × (s ≡ 35 ∷ name)
private_of goal k s e (word w f) = not_private k e (moved k (kind_at goal.member s) f (word_none goal.member s))
private_of goal k s e (str l f) = not_private k e (moved k kind.Str f refl)
private_of goal k s e (sign f) = not_private k e (sign_none s k f)
private_of goal k s e (regexp i f) = not_private k e (moved k kind.RegExp f refl)
private_of goal k s e (shebang text h f w q) = absurd (let bad : ⊥ = cc in bad)
private_of goal k s e (private_name name w q f) = (name, q)
private_of goal k s e (number big i f) = not_private k e (moved k (number_kind big) f (number_none big))
private_of goal k s e (template opens sub body t q f) = template_no_private opens sub (sym e ∙ f)

-- ---- shebangs
not_shebang : {A : Type 0} (k : TokenKind) → k ≡ kind.Shebang → not (is_cut k) ≡ true → A
not_shebang k e h = clash (moved kind.Shebang k (sym e) h)

template_no_shebang : {A : Type 0} (opens sub : Bool) → kind.Shebang ≡ template_kind opens sub → A
unfolding template_kind
template_no_shebang true true e = absurd (let bad : ⊥ = cc in bad)
template_no_shebang true false e = absurd (let bad : ⊥ = cc in bad)
template_no_shebang false true e = absurd (let bad : ⊥ = cc in bad)
template_no_shebang false false e = absurd (let bad : ⊥ = cc in bad)

-- a shebang is `#!` and more
pub shebang_of : (goal : Goal) (k : TokenKind) (s : List ℕ) → k ≡ kind.Shebang → Spells goal k s
    → (text : List ℕ) × (s ≡ 35 ∷ 33 ∷ text)
shebang_of goal k s e (word w f) = not_shebang k e (moved k (kind_at goal.member s) f (word_none goal.member s))
shebang_of goal k s e (str l f) = not_shebang k e (moved k kind.Str f refl)
shebang_of goal k s e (sign f) = not_shebang k e (sign_none s k f)
shebang_of goal k s e (regexp i f) = not_shebang k e (moved k kind.RegExp f refl)
shebang_of goal k s e (shebang text h f w q) = (text, w)
shebang_of goal k s e (private_name name w q f) = absurd (let bad : ⊥ = cc in bad)
shebang_of goal k s e (number big i f) = not_shebang k e (moved k (number_kind big) f (number_none big))
shebang_of goal k s e (template opens sub body t q f) = template_no_shebang opens sub (sym e ∙ f)

-- ---- pieces of templates
stop_none : (k : TokenKind) → not (is_cut k) ≡ true → stop_of k ≡ None
unfolding stop_of
stop_none kind.TemplateWhole h = clash h
stop_none kind.TemplateHead h = clash h
stop_none kind.TemplateMiddle h = clash h
stop_none kind.TemplateTail h = clash h
stop_none k h = refl

no_stop : {A : Type 0} (k : TokenKind) (stop : ℕ) → stop_of k ≡ Some stop → not (is_cut k) ≡ true → A
no_stop k stop e h = let none = stop_none k h in absurd (let bad : ⊥ = cc in bad)

private_none : stop_of kind.PrivateName ≡ None
unfolding stop_of
private_none = refl

shebang_none : stop_of kind.Shebang ≡ None
unfolding stop_of
shebang_none = refl

none_some : {A : Type 0} (k j : TokenKind) (stop : ℕ) → k ≡ j → stop_of j ≡ None → stop_of k ≡ Some stop → A
none_some k j stop f h e = let none = ap stop_of f ∙ h in absurd (let bad : ⊥ = cc in bad)

-- a byte, what stands between it and the end of the piece, and that end
pub record IsPieceText (s : List ℕ) (stop : ℕ) : Type 0 where
  pub first : ℕ
  pub inner : List ℕ
  pub back : List ℕ
  pub whole : s ≡ (first ∷ inner) ++ back
  pub starts : first < 128
  pub stops : stop ≡ length back
  pub some : 0 < length back
  pub ends : get_or back 0 0 < 128

template_stops : (opens sub : Bool) → stop_of (template_kind opens sub) ≡ Some (length (template_stop sub))
unfolding template_kind template_stop stop_of
template_stops true true = refl
template_stops true false = refl
template_stops false true = refl
template_stops false false = refl

start_ascii : (opens : Bool) → template_start opens < 128
unfolding template_start
start_ascii true = omega arith
start_ascii false = omega arith

stop_some : (sub : Bool) → 0 < length (template_stop sub)
unfolding template_stop
stop_some true = omega arith
stop_some false = omega arith

stop_ascii : (sub : Bool) → get_or (template_stop sub) 0 0 < 128
unfolding template_stop
stop_ascii true = omega arith
stop_ascii false = omega arith

same_stop : (k : TokenKind) (a b : ℕ) (opens sub : Bool) → k ≡ template_kind opens sub → stop_of k ≡ Some b
    → b ≡ length (template_stop sub)
same_stop k a b opens sub f e =
    let one = template_stops opens sub in
    let other = ap stop_of f in
    cc

pub piece_of : (goal : Goal) (k : TokenKind) (s : List ℕ) (stop : ℕ) → stop_of k ≡ Some stop → Spells goal k s
    → IsPieceText s stop
piece_of goal k s stop e (word w f) = no_stop k stop e (moved k (kind_at goal.member s) f (word_none goal.member s))
piece_of goal k s stop e (str l f) = no_stop k stop e (moved k kind.Str f refl)
piece_of goal k s stop e (sign f) = no_stop k stop e (sign_none s k f)
piece_of goal k s stop e (regexp i f) = no_stop k stop e (moved k kind.RegExp f refl)
piece_of goal k s stop e (shebang text h f w q) = none_some k kind.Shebang stop q shebang_none e
piece_of goal k s stop e (private_name name w q f) = none_some k kind.PrivateName stop f private_none e
piece_of goal k s stop e (number big i f) = no_stop k stop e (moved k (number_kind big) f (number_none big))
piece_of goal k s stop e (template opens sub body t q f) = record {
  first = template_start opens;
  inner = concat t.units;
  back = template_stop sub;
  whole = q ∙ ap (λ rest. template_start opens ∷ rest) t.whole;
  starts = start_ascii opens;
  stops = same_stop k 0 stop opens sub f e;
  some = stop_some sub;
  ends = stop_ascii sub;
}
