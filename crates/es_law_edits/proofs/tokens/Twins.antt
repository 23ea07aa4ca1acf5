-- Texts that agree up to their ends, or up to a quote in both.
use Rattle.std.proofs.Common.{◌≡◌, ℕ, Bool, true, false, not, ◌&&◌, ◌||◌, ◌==◌, List, [], ◌∷◌, ◌++◌, refl, sym, ◌∙◌, ap, subst, zero, suc, eqb-true, if◌then◌else◌, ◌⊎◌, inl, inr}
use Rattle.std.specs.Char.{is_ascii_digit}
use Rattle.es_literal.specs.Strings.{is_quote}
use Rattle.es_literal.specs.spelling.Lines.{begins_line_end, begins_separator}
use Rattle.es_unicode.specs.Wide.{wide_size, wide_by, two_size, three_size, four_size, is_tail, tail_of}
use Rattle.es_token.specs.declared.token.TokenKind.{TokenKind}
use Rattle.es_token.specs.declared.token.TokenKind.TheVariants as kind
use Rattle.es_lexer.specs.declared.goal.Goal.{Goal}
use Rattle.es_lexer.specs.Bytes.{begins_comment, ends_line, joins, part_unit, is_part, begins_backslash}
use Rattle.es_lexer.specs.Brackets.{role_of, may_close}
use Rattle.es_lexer.specs.Goal.{begins_digit, may_stand, allows, stands_apart}

pub data Twin : List ℕ → List ℕ → Type 0 where
  ends : Twin [] []
  goes_on : (b : ℕ) (s t : List ℕ) → Twin s t → Twin (b ∷ s) (b ∷ t)
  cut : (q r : ℕ) (s t : List ℕ) → is_quote q ≡ true → is_quote r ≡ true → Twin (q ∷ s) (r ∷ t)

pub twin_self : (s : List ℕ) → Twin s s
twin_self [] = ends
twin_self (b ∷ s) = goes_on b s s (twin_self s)

pub twin_back : (s t : List ℕ) → Twin s t → Twin t s
twin_back s t ends = ends
twin_back s t (goes_on b u v w) = goes_on b v u (twin_back u v w)
twin_back s t (cut q r u v f g) = cut r q v u g f

pub twin_behind : (u s t : List ℕ) → Twin s t → Twin (u ++ s) (u ++ t)
twin_behind [] s t w = w
twin_behind (b ∷ u) s t w = goes_on b (u ++ s) (u ++ t) (twin_behind u s t w)

-- ---- a test that no quote passes answers the same of both
quote_by : (p : ℕ → Bool) (q : ℕ) (u v : Bool) → p 34 ≡ false → p 39 ≡ false → (q == 34) ≡ u → (q == 39) ≡ v
    → (u || v) ≡ true → p q ≡ false
quote_by p q true v f g m n e = ap p (eqb-true q 34 m) ∙ f
quote_by p q false true f g m n e = ap p (eqb-true q 39 n) ∙ g
quote_by p q false false f g m n e = cc

-- a test that is false of both quotes
pub quote_fails : (p : ℕ → Bool) (q : ℕ) → p 34 ≡ false → p 39 ≡ false → is_quote q ≡ true → p q ≡ false
unfolding is_quote
quote_fails p q f g e = quote_by p q (q == 34) (q == 39) f g refl refl e

quote_two_by : (q : ℕ) (u v : Bool) → (q == 34) ≡ u → (q == 39) ≡ v → (u || v) ≡ true → (q ≡ 34) ⊎ (q ≡ 39)
quote_two_by q true v m n e = inl (eqb-true q 34 m)
quote_two_by q false true m n e = inr (eqb-true q 39 n)
quote_two_by q false false m n e = cc

-- a quote is one of two bytes
pub quote_two : (q : ℕ) → is_quote q ≡ true → (q ≡ 34) ⊎ (q ≡ 39)
unfolding is_quote
quote_two q e = quote_two_by q (q == 34) (q == 39) refl refl e

-- ---- what tokens look at behind them
pub twin_digit : (s t : List ℕ) → Twin s t → begins_digit s ≡ begins_digit t
unfolding begins_digit
twin_digit s t ends = refl
twin_digit s t (goes_on b u v w) = refl
twin_digit s t (cut q r u v f g) =
    quote_fails is_ascii_digit q refl refl f ∙ sym (quote_fails is_ascii_digit r refl refl g)

and_none : (u : Bool) → (u && false) ≡ false
and_none true = refl
and_none false = refl

twin_separator : (s t : List ℕ) → Twin s t → begins_separator s ≡ begins_separator t
unfolding begins_separator
twin_separator s t ends = refl
twin_separator s t (goes_on b u v ends) = refl
twin_separator s t (goes_on b u v (goes_on c x y w)) = refl
twin_separator s t (goes_on b u v (cut q r x y f g)) =
    ap (λ z. b == 128 && z) (quote_fails (λ c. c == 168 || c == 169) q refl refl f
    ∙ sym (quote_fails (λ c. c == 168 || c == 169) r refl refl g))
twin_separator s t (cut q r [] [] f g) = refl
twin_separator s t (cut q r [] (y ∷ v) f g) = sym (rw (quote_fails (λ c. c == 128) r refl refl g) refl)
twin_separator s t (cut q r (x ∷ u) [] f g) = rw (quote_fails (λ c. c == 128) q refl refl f) refl
twin_separator s t (cut q r (x ∷ u) (y ∷ v) f g) =
    rw (quote_fails (λ c. c == 128) q refl refl f, quote_fails (λ c. c == 128) r refl refl g) refl

quote_no_line : (q : ℕ) (s : List ℕ) → is_quote q ≡ true → begins_line_end (q ∷ s) ≡ false
unfolding begins_line_end
quote_no_line q s f =
    rw (
      quote_fails (λ c. c == 10) q refl refl f,
      quote_fails (λ c. c == 13) q refl refl f,
      quote_fails (λ c. c == 226) q refl refl f,
    ) refl

twin_line : (s t : List ℕ) → Twin s t → begins_line_end s ≡ begins_line_end t
unfolding begins_line_end
twin_line s t ends = refl
twin_line s t (goes_on b u v w) = ap (λ z. b == 10 || (b == 13 || b == 226 && z)) (twin_separator u v w)
twin_line s t (cut q r u v f g) = quote_no_line q u f ∙ sym (quote_no_line r v g)

pub twin_ends : (s t : List ℕ) → Twin s t → ends_line s ≡ ends_line t
unfolding ends_line
twin_ends s t ends = refl
twin_ends s t (goes_on b u v w) = twin_line (b ∷ u) (b ∷ v) (goes_on b u v w)
twin_ends s t (cut q r u v f g) = quote_no_line q u f ∙ sym (quote_no_line r v g)

second_by : (b : ℕ) (q r : ℕ) → is_quote q ≡ true → is_quote r ≡ true
    → (b == 47 && (q == 47 || q == 42)) ≡ (b == 47 && (r == 47 || r == 42))
second_by b q r f g =
    ap (λ z. b == 47 && z) (quote_fails (λ c. c == 47 || c == 42) q refl refl f
    ∙ sym (quote_fails (λ c. c == 47 || c == 42) r refl refl g))

quote_no_comment : (q : ℕ) (s : List ℕ) → is_quote q ≡ true → begins_comment (q ∷ s) ≡ false
unfolding begins_comment
quote_no_comment q [] f = refl
quote_no_comment q (b ∷ s) f = rw (quote_fails (λ c. c == 47) q refl refl f) refl

pub twin_comment : (s t : List ℕ) → Twin s t → begins_comment s ≡ begins_comment t
unfolding begins_comment
twin_comment s t ends = refl
twin_comment s t (goes_on b u v ends) = refl
twin_comment s t (goes_on b u v (goes_on c x y w)) = refl
twin_comment s t (goes_on b u v (cut q r x y f g)) = second_by b q r f g
twin_comment s t (cut q r u v f g) = quote_no_comment q u f ∙ sym (quote_no_comment r v g)

-- ---- characters of names
twin_two : (a : ℕ) (s t : List ℕ) → Twin s t → two_size a s ≡ two_size a t
unfolding two_size is_tail
twin_two a s t ends = refl
twin_two a s t (goes_on b u v w) = refl
twin_two a s t (cut q r u v f g) =
    rw (quote_fails is_tail q refl refl f, quote_fails is_tail r refl refl g) refl

quote_no_three : (a q : ℕ) (s : List ℕ) → is_quote q ≡ true → three_size a (q ∷ s) ≡ 0
unfolding three_size is_tail
quote_no_three a q [] f = refl
quote_no_three a q (c ∷ s) f = rw (quote_fails is_tail q refl refl f) refl

second_no_three : (a b q : ℕ) (s : List ℕ) → is_quote q ≡ true → three_size a (b ∷ q ∷ s) ≡ 0
unfolding three_size is_tail
second_no_three a b q s f = rw (quote_fails is_tail q refl refl f, and_none (is_tail b)) refl

twin_three : (a : ℕ) (s t : List ℕ) → Twin s t → three_size a s ≡ three_size a t
unfolding three_size is_tail
twin_three a s t ends = refl
twin_three a s t (goes_on b u v ends) = refl
twin_three a s t (goes_on b u v (goes_on c x y w)) = refl
twin_three a s t (goes_on b u v (cut q r x y f g)) = second_no_three a b q x f ∙ sym (second_no_three a b r y g)
twin_three a s t (cut q r u v f g) = quote_no_three a q u f ∙ sym (quote_no_three a r v g)

quote_no_four : (q : ℕ) (s : List ℕ) → is_quote q ≡ true → four_size (q ∷ s) ≡ 0
unfolding four_size is_tail
quote_no_four q [] f = refl
quote_no_four q (c ∷ []) f = refl
quote_no_four q (c ∷ d ∷ s) f = rw (quote_fails is_tail q refl refl f) refl

second_no_four : (b q : ℕ) (s : List ℕ) → is_quote q ≡ true → four_size (b ∷ q ∷ s) ≡ 0
unfolding four_size is_tail
second_no_four b q [] f = refl
second_no_four b q (d ∷ s) f = rw (quote_fails is_tail q refl refl f, and_none (is_tail b)) refl

third_no_four : (b c q : ℕ) (s : List ℕ) → is_quote q ≡ true → four_size (b ∷ c ∷ q ∷ s) ≡ 0
unfolding four_size is_tail
third_no_four b c q s f =
    rw (quote_fails is_tail q refl refl f, and_none (is_tail c), and_none (is_tail b)) refl

twin_four : (s t : List ℕ) → Twin s t → four_size s ≡ four_size t
unfolding four_size is_tail
twin_four s t ends = refl
twin_four s t (goes_on b u v ends) = refl
twin_four s t (goes_on b u v (goes_on c x y ends)) = refl
twin_four s t (goes_on b u v (goes_on c x y (goes_on d m n w))) = refl
twin_four s t (goes_on b u v (goes_on c x y (cut q r m n f g))) =
    third_no_four b c q m f ∙ sym (third_no_four b c r n g)
twin_four s t (goes_on b u v (cut q r x y f g)) = second_no_four b q x f ∙ sym (second_no_four b r y g)
twin_four s t (cut q r u v f g) = quote_no_four q u f ∙ sym (quote_no_four r v g)

twin_by : (n a : ℕ) (s t : List ℕ) → Twin s t → wide_by n a s ≡ wide_by n a t
unfolding wide_by
twin_by zero a s t w = refl
twin_by (suc zero) a s t w = twin_two a s t w
twin_by (suc (suc zero)) a s t w = twin_three a s t w
twin_by (suc (suc (suc n))) a s t w = twin_four s t w

quote_no_tail : (q : ℕ) → is_quote q ≡ true → tail_of q ≡ 0
unfolding tail_of
quote_no_tail q f = elim (quote_two q f) [
  | inl e ↦ ap tail_of e
  | inr e ↦ ap tail_of e
]

quote_no_part : (q : ℕ) (s : List ℕ) → is_quote q ≡ true → part_unit (q ∷ s) ≡ 0
unfolding part_unit wide_size wide_by
quote_no_part q s f = rw (quote_fails is_part q refl refl f, quote_no_tail q f) refl

pub twin_part : (s t : List ℕ) → Twin s t → part_unit s ≡ part_unit t
unfolding part_unit wide_size
twin_part s t ends = refl
twin_part s t (goes_on b u v w) = ap (λ n. if is_part b then 1 else n) (twin_by (tail_of b) b u v w)
twin_part s t (cut q r u v f g) = quote_no_part q u f ∙ sym (quote_no_part r v g)

twin_backslash : (s t : List ℕ) → Twin s t → begins_backslash s ≡ begins_backslash t
unfolding begins_backslash
twin_backslash s t ends = refl
twin_backslash s t (goes_on b u v w) = refl
twin_backslash s t (cut q r u v f g) =
    quote_fails (λ c. c == 92) q refl refl f ∙ sym (quote_fails (λ c. c == 92) r refl refl g)

pub twin_joins : (s t : List ℕ) → Twin s t → joins s ≡ joins t
unfolding joins
twin_joins s t w = rw (twin_part s t w, twin_backslash s t w) refl

-- ---- so a token may stand before both or before none
pub twin_apart : (k : TokenKind) (s t : List ℕ) → Twin s t → stands_apart k s ≡ stands_apart k t
unfolding stands_apart
twin_apart kind.Number s t w = ap not (twin_joins s t w)
twin_apart kind.BigInt s t w = ap not (twin_joins s t w)
twin_apart k s t w = refl

twin_stand : (regexp : Bool) (k : TokenKind) (s t : List ℕ) → Twin s t → may_stand regexp k s ≡ may_stand regexp k t
unfolding may_stand
twin_stand regexp kind.QuestionDot s t w = ap not (twin_digit s t w)
twin_stand regexp kind.Dot s t w = ap not (twin_digit s t w)
twin_stand regexp kind.Shebang s t w = twin_ends s t w
twin_stand regexp k s t w = refl

pub twin_allows : (goal : Goal) (k : TokenKind) (s t : List ℕ) → Twin s t → allows goal k s ≡ allows goal k t
unfolding allows
twin_allows goal k s t w = ap (λ z. may_close goal.bracket (role_of k) && z) (twin_stand goal.regexp k s t w)

-- ---- where a front of one of them ends
pub data Split (more rest a : List ℕ) : Type 0 where
  whole : (left : List ℕ) → a ≡ more ++ left → Twin left rest → Split more rest a
  within : (u v w : List ℕ) (q r : ℕ) → is_quote q ≡ true → is_quote r ≡ true → more ≡ u ++ q ∷ v → a ≡ u ++ r ∷ w
      → Split more rest a

split_more : (b : ℕ) (more rest a : List ℕ) → Split more rest a → Split (b ∷ more) rest (b ∷ a)
split_more b more rest a (whole left e w) = whole left (ap (λ z. b ∷ z) e) w
split_more b more rest a (within u v w q r f g d e) =
    within (b ∷ u) v w q r f g (ap (λ z. b ∷ z) d) (ap (λ z. b ∷ z) e)

split_by : (b c : ℕ) (more rest a u : List ℕ) → c ≡ b → u ≡ more ++ rest → Split more rest a
    → Split (b ∷ more) rest (c ∷ a)
split_by b c more rest a u e f s =
    subst (λ (d : ℕ). Split (b ∷ more) rest (d ∷ a)) (sym e) (split_more b more rest a s)

pub split : (more rest a t : List ℕ) → Twin a t → t ≡ more ++ rest → Split more rest a
split [] rest a t w e = whole a refl (subst (Twin a) e w)
split (b ∷ more) rest a t ends e = cc
split (b ∷ more) rest a t (goes_on c u v w) e =
    let heads : c ≡ b = cc in
    let tails : v ≡ more ++ rest = cc in
    split_by b c more rest u v heads tails (split more rest u v w tails)
split (b ∷ more) rest a t (cut q r u v f g) e =
    let heads : r ≡ b = cc in
    within [] more u r q g f (ap (λ z. z ∷ more) (sym heads)) refl
