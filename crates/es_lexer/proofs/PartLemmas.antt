-- Parts of names: where they end, and that they end there alone.
use Rattle.std.proofs.Common.{◌≡◌, ℕ, zero, suc, ◌+◌, ◌<◌, ◌≤◌, Bool, true, false, not, ◌||◌, ◌==◌, List, [], ◌∷◌, ◌++◌, length, drop, get_or, refl, sym, ◌∙◌, ap, subst, arith, eq-eqb, eqb-true, true≢false}
use Rattle.std.proofs.lemmas.Bool.Decides.{nat_tests}
use Rattle.es_literal.specs.spelling.Units.{concat, AreUnits, units_end}
use Rattle.es_unicode.specs.Wide.{wide_size}
use Rattle.es_unicode.specs.Escapes.{escaped_start, escaped_part}
use Rattle.es_literal.proofs.spelling_lemmas.UnitLemmas.{Within, Units, units, Step, step, passes_unit, passes_units, stops, ap2}
use Rattle.es_unicode.proofs.WideLemmas.{wide_local, wide_within, wide_more, wide_begins}
use Rattle.es_unicode.proofs.EscapeLemmas as escape
use Rattle.std.specs.Char.{is_ascii_digit}
use Rattle.es_lexer.specs.declared.bytes.First.{First}
use Rattle.es_lexer.specs.declared.bytes.First.TheVariants.{Start, Blank, LineEnd, Quote, Slash, Backtick, Brace, Hash, Digit, Dot, Backslash, Wide, Other}
use Rattle.es_lexer.specs.Bytes.{is_start, is_part, is_letter, first_of, part_unit, word_unit, begins_name, begins_letter, begins_comment}
use Rattle.es_lexer.specs.Spelling.{AreParts}
use Rattle.es_lexer.specs.Look.{word_end, flags_end}
use Rattle.es_lexer.proofs.ByteLemmas.{start_is, start_class, backslash_is, backslash_class, wide_class, apart, no_comment_at}

-- ---- one part
-- a size that is found in front of some text is found in front of every other
abbrev pub Local : (List ℕ → ℕ) → Type 0
Local size = (u x y : List ℕ) → 0 < length u → size (u ++ x) ≡ length u → size (u ++ y) ≡ length u

part_by : (b : ℕ) (u x y : List ℕ) (v : Bool) → is_part b ≡ v → part_unit (b ∷ (u ++ x)) ≡ length (b ∷ u)
    → part_unit (b ∷ (u ++ y)) ≡ length (b ∷ u)
unfolding part_unit
part_by b u x y true p e = let one : 1 ≡ length (b ∷ u) = rw p at e in rw p one
part_by b u x y false p e =
    let wide : wide_size (b ∷ (u ++ x)) ≡ length (b ∷ u) = rw p at e in rw p (wide_local b u x y wide)

part_local : Local part_unit
part_local [] x y l e = absurd (omega arith)
part_local (b ∷ u) x y l e = part_by b u x y (is_part b) refl e

within_by : (b : ℕ) (rest : List ℕ) (v : Bool) → is_part b ≡ v → part_unit (b ∷ rest) ≤ length (b ∷ rest)
unfolding part_unit
within_by b rest true p = rw p (omega arith)
within_by b rest false p = rw p (wide_within (b ∷ rest))

part_within : Within part_unit
unfolding part_unit
part_within [] = omega arith
part_within (b ∷ rest) = within_by b rest (is_part b) refl

-- an escape too
word_by : (b : ℕ) (u x y : List ℕ) (v : Bool) → (b == 92) ≡ v → word_unit (b ∷ (u ++ x)) ≡ length (b ∷ u)
    → word_unit (b ∷ (u ++ y)) ≡ length (b ∷ u)
unfolding word_unit
word_by b u x y true p e = rw p (escape.part_local b u x y (rw p at e))
word_by b u x y false p e = rw p (part_local (b ∷ u) x y (omega arith) (rw p at e))

word_local : Local word_unit
word_local [] x y l e = absurd (omega arith)
word_local (b ∷ u) x y l e = word_by b u x y (b == 92) refl e

word_within_by : (b : ℕ) (rest : List ℕ) (v : Bool) → (b == 92) ≡ v → word_unit (b ∷ rest) ≤ length (b ∷ rest)
unfolding word_unit
word_within_by b rest true p = rw p (escape.part_within (b ∷ rest))
word_within_by b rest false p = rw p (part_within (b ∷ rest))

word_within : Within word_unit
unfolding word_unit
word_within [] = omega arith
word_within (b ∷ rest) = word_within_by b rest (b == 92) refl

-- what follows parts tells nothing of them
units_local : (size : List ℕ → ℕ) → Local size → (us : List (List ℕ)) (x y : List ℕ) → AreUnits size us x
    → AreUnits size us y
units_local size local [] x y h = tt
units_local size local (u ∷ us) x y h =
    (local u (concat us ++ x) (concat us ++ y) h.1 h.0, h.1, units_local size local us x y h.2)

-- ---- parts in a row
parts_pass : (size : List ℕ → ℕ) → Local size → (at : ℕ) (s after : List ℕ) → AreParts size s
    → units_end size at 0 (s ++ after) ≡ units_end size (at + length s) 0 after
parts_pass size local at s after p =
    ap (λ t. units_end size at 0 (t ++ after)) p.whole
    ∙ (passes_units size at p.units after (units_local size local p.units [] after p.each)
    ∙ ap (λ n. units_end size (at + n) 0 after) (sym (ap length p.whole)))

pub word_pass : (at : ℕ) (s after : List ℕ) → AreParts word_unit s
    → word_end at (s ++ after) ≡ word_end (at + length s) after
unfolding word_end
word_pass at s after p = parts_pass word_unit word_local at s after p

pub flags_pass : (at : ℕ) (s after : List ℕ) → AreParts part_unit s
    → flags_end at (s ++ after) ≡ flags_end (at + length s) after
unfolding flags_end
flags_pass at s after p = parts_pass part_unit part_local at s after p

pub not_zero : (n : ℕ) → 0 < n → (n == 0) ≡ false
not_zero n l = grind (arith, nat_tests)

-- a text is the longest row of parts, and what follows
pub record Parts (size : List ℕ → ℕ) (at : ℕ) (s : List ℕ) : Type 0 where
  pub front : List ℕ
  pub back : List ℕ
  pub whole : s ≡ front ++ back
  pub passes : AreParts size front
  pub ends : size back ≡ 0
  pub end : units_end size at 0 s ≡ at + length front

parts_of : (size : List ℕ → ℕ) → Local size → (at : ℕ) (s : List ℕ) → Units size at s → Parts size at s
parts_of size local at s r = record {
  front = concat r.units;
  back = r.back;
  whole = r.whole;
  passes = record { units = r.units; each = units_local size local r.units r.back [] r.each; whole = refl };
  ends = r.ends;
  end = r.end;
}

pub word_parts : (at : ℕ) (s : List ℕ) → Parts word_unit at s
word_parts at s = parts_of word_unit word_local at s (units word_unit word_within at s)

pub flag_parts : (at : ℕ) (s : List ℕ) → Parts part_unit at s
flag_parts at s = parts_of part_unit part_local at s (units part_unit part_within at s)

pub word_ends : (at : ℕ) (s : List ℕ) → (r : Parts word_unit at s) → word_end at s ≡ at + length r.front
unfolding word_end
word_ends at s r = r.end

pub flags_ends : (at : ℕ) (s : List ℕ) → (r : Parts part_unit at s) → flags_end at s ≡ at + length r.front
unfolding flags_end
flags_ends at s r = r.end

-- ---- the loops
pub part_turn : (size : List ℕ → ℕ) (at first n : ℕ) (s t text : List ℕ) → n ≡ size s → 0 < n → n ≤ length s
    → t ≡ drop n s → units_end size at 0 s ≡ units_end size first 0 text
    → units_end size (at + n) 0 t ≡ units_end size first 0 text
part_turn size at first n s t text e l w d p =
    let one : Step size at s = step size at s (omega arith) (omega arith) in
    let left : drop (size s) s ≡ t = ap (λ m. drop m s) (sym e) ∙ sym d in
    ap2 (λ m v. units_end size m 0 v) (ap (λ m. at + m) e) (sym left) ∙ (sym one.end ∙ p)

pub word_stops : (at first : ℕ) (s text : List ℕ) → word_unit s ≡ 0
    → units_end word_unit at 0 s ≡ units_end word_unit first 0 text → at ≡ word_end first text
unfolding word_end
word_stops at first s text e p = sym (stops word_unit at s e) ∙ p

-- a letter, a digit, `$` or `_` is passed over
one_part : (b : ℕ) (after : List ℕ) (v : Bool) → (b == 92) ≡ v → is_part b ≡ true → word_unit (b ∷ after) ≡ 1
unfolding word_unit part_unit
one_part b after true p h =
    let no : is_part 92 ≡ true = subst (λ (c : ℕ). is_part c ≡ true) (eqb-true b 92 p) h in absurd cc
one_part b after false p h = rw (p, h) refl

part_passed : (at b : ℕ) (after : List ℕ) → is_part b ≡ true → word_end at (b ∷ after) ≡ word_end (at + 1) after
unfolding word_end
part_passed at b after h =
    passes_unit word_unit at (b ∷ []) after (one_part b after (b == 92) refl h) (omega arith)

pub word_turn : (at first : ℕ) (s t text : List ℕ) (v : Bool) → 1 ≤ length s → v ≡ is_part (get_or s 0 0) → v ≡ true
    → t ≡ drop 1 s → word_end at s ≡ word_end first text → word_end (at + 1) t ≡ word_end first text
word_turn at first [] t text v l e p d w = absurd (omega arith)
word_turn at first (b ∷ s) t text v l e p d w =
    ap (word_end (at + 1)) d ∙ (sym (part_passed at b s (sym e ∙ p)) ∙ w)

-- behind what begins a word
letter_class : (c : First) → is_letter c ≡ true → c ≡ Start
unfolding is_letter
letter_class Start h = refl
letter_class Blank h = absurd (true≢false (sym h))
letter_class LineEnd h = absurd (true≢false (sym h))
letter_class Quote h = absurd (true≢false (sym h))
letter_class Slash h = absurd (true≢false (sym h))
letter_class Backtick h = absurd (true≢false (sym h))
letter_class Brace h = absurd (true≢false (sym h))
letter_class Hash h = absurd (true≢false (sym h))
letter_class Digit h = absurd (true≢false (sym h))
letter_class Dot h = absurd (true≢false (sym h))
letter_class Backslash h = absurd (true≢false (sym h))
letter_class Wide h = absurd (true≢false (sym h))
letter_class Other h = absurd (true≢false (sym h))

letter_part : (b : ℕ) → is_letter (first_of b) ≡ true → is_part b ≡ true
letter_part b h = ap (λ v. v || is_ascii_digit b) (start_is b (letter_class (first_of b) h))

pub letter_passed : (r at : ℕ) (s t : List ℕ) → begins_letter s ≡ true → 1 ≤ length s
    → t ≡ drop 1 s → r ≡ word_end (at + 1) t → r ≡ word_end at s
unfolding begins_letter
letter_passed r at [] t h l d w = absurd (omega arith)
letter_passed r at (c ∷ s) t h l d w =
    w ∙ (ap (word_end (at + 1)) d ∙ sym (part_passed at c s (letter_part c h)))

-- nothing is left
pub word_done : (at first : ℕ) (s text : List ℕ) → length s < 1 → word_end at s ≡ word_end first text
    → at ≡ word_end first text
unfolding word_end word_unit
word_done at first [] text l w = sym (stops word_unit at [] refl) ∙ w
word_done at first (b ∷ s) text l w = absurd (omega arith)

pub flags_stop : (at first : ℕ) (s text : List ℕ) → part_unit s ≡ 0
    → units_end part_unit at 0 s ≡ units_end part_unit first 0 text → at ≡ flags_end first text
unfolding flags_end
flags_stop at first s text e p = sym (stops part_unit at s e) ∙ p

-- ---- starts
some_of : (n : ℕ) → not (n == 0) ≡ true → 0 < n
some_of zero e = cc
some_of (suc n) e = omega arith

-- what a name begins with
pub data NameStart (b : ℕ) (rest : List ℕ) : Type 0 where
  letter : first_of b ≡ Start → NameStart b rest
  character : first_of b ≡ Wide → 0 < wide_size (b ∷ rest) → NameStart b rest
  escaped : first_of b ≡ Backslash → (n : ℕ) → escaped_start (b ∷ rest) ≡ suc n → NameStart b rest

escaped_by : (b : ℕ) (rest : List ℕ) (n : ℕ) → escaped_start (b ∷ rest) ≡ n → not (n == 0) ≡ true → NameStart b rest
escaped_by b rest zero e s = cc
escaped_by b rest (suc n) e s = escaped (ap first_of (escape.start_begins b rest n e) ∙ backslash_class) n e

high_class : (b : ℕ) → 194 ≤ b → first_of b ≡ Wide
high_class b l = wide_class b (omega arith)

name_by : (b : ℕ) (rest : List ℕ) (u v w : Bool) → is_start b ≡ u → not (wide_size (b ∷ rest) == 0) ≡ v
    → not (escaped_start (b ∷ rest) == 0) ≡ w → (u || (v || w)) ≡ true → NameStart b rest
name_by b rest true v w p q r e = letter (start_class b p)
name_by b rest false true w p q r e =
    let wide : 0 < wide_size (b ∷ rest) = some_of (wide_size (b ∷ rest)) q in
    character (high_class b (wide_begins b rest wide)) wide
name_by b rest false false true p q r e = escaped_by b rest (escaped_start (b ∷ rest)) refl r
name_by b rest false false false p q r e = cc

pub name_class : (b : ℕ) (rest : List ℕ) → begins_name (b ∷ rest) ≡ true → NameStart b rest
unfolding begins_name
name_class b rest e =
    name_by b rest (is_start b) (not (wide_size (b ∷ rest) == 0)) (not (escaped_start (b ∷ rest) == 0)) refl refl refl e

pub name_high : (b : ℕ) (rest : List ℕ) → 0 < wide_size (b ∷ rest) → 194 ≤ b
name_high b rest l = wide_begins b rest l

-- and what begins so is a name
or_first : (u v : Bool) → u ≡ true → (u || v) ≡ true
or_first true v e = refl
or_first false v e = cc

or_second : (u v : Bool) → v ≡ true → (u || v) ≡ true
or_second true v e = refl
or_second false v e = e

some_by : (n : ℕ) → 0 < n → not (n == 0) ≡ true
some_by n l = rw (not_zero n l) refl

pub named : (b : ℕ) (rest : List ℕ) → NameStart b rest → begins_name (b ∷ rest) ≡ true
unfolding begins_name
named b rest (letter f) = or_first (is_start b) _ (start_is b f)
named b rest (character f l) = or_second (is_start b) _ (or_first (not (wide_size (b ∷ rest) == 0)) _ (some_by _ l))
named b rest (escaped f n e) =
    or_second (is_start b) _ (or_second (not (wide_size (b ∷ rest) == 0)) _ (ap (λ (m : ℕ). not (m == 0)) e
    ∙ some_by (suc n) (omega arith)))

-- a name before more text
wide_grows : (b : ℕ) (s x : List ℕ) (n : ℕ) → wide_size (b ∷ s) ≡ n → 0 < n → 0 < wide_size (b ∷ (s ++ x))
wide_grows b s x zero e l = absurd (omega arith)
wide_grows b s x (suc n) e l = rw (wide_more b s x n e) (omega arith)

start_grows : (b : ℕ) (s x : List ℕ) → NameStart b s → NameStart b (s ++ x)
start_grows b s x (letter f) = letter f
start_grows b s x (character f l) = character f (wide_grows b s x (wide_size (b ∷ s)) refl l)
start_grows b s x (escaped f n e) = escaped f n (escape.start_more (b ∷ s) x n e)

nothing_named : begins_name [] ≡ true → ⊥
unfolding begins_name
nothing_named e = cc

pub name_more : (s x : List ℕ) → begins_name s ≡ true → begins_name (s ++ x) ≡ true
name_more [] x e = absurd (nothing_named e)
name_more (b ∷ s) x e = named b (s ++ x) (start_grows b s x (name_class b s e))

no_comment_by : (b : ℕ) (rest : List ℕ) → NameStart b rest → begins_comment (b ∷ rest) ≡ false
no_comment_by b rest (letter f) = no_comment_at b rest Start f (λ g. cc)
no_comment_by b rest (character f l) = no_comment_at b rest Wide f (λ g. cc)
no_comment_by b rest (escaped f n e) = no_comment_at b rest Backslash f (λ g. cc)

pub name_no_comment : (text : List ℕ) → begins_name text ≡ true → begins_comment text ≡ false
name_no_comment [] e = absurd (nothing_named e)
name_no_comment (b ∷ rest) e = no_comment_by b rest (name_class b rest e)

-- a start is a part
high_no_part : (b : ℕ) → 194 ≤ b → is_part b ≡ false
high_no_part b l = grind (arith, nat_tests)

start_some : (b : ℕ) (rest : List ℕ) → NameStart b rest → 0 < word_unit (b ∷ rest)
unfolding word_unit part_unit
start_some b rest (letter f) = rw (apart b 92 Start Backslash f backslash_class (λ g. cc), start_is b f) (omega arith)
start_some b rest (character f l) =
    rw (apart b 92 Wide Backslash f backslash_class (λ g. cc), high_no_part b (wide_begins b rest l)) l
start_some b rest (escaped f n e) =
    rw (eq-eqb b 92 (backslash_is b f), escape.start_part (b ∷ rest) n e) (omega arith)

-- parts begin with one
first_part : (size : List ℕ → ℕ) → Local size → (us : List (List ℕ)) → AreUnits size us [] → 0 < length (concat us)
    → 0 < size (concat us)
first_part size local [] h l = absurd (omega arith)
first_part size local (u ∷ us) h l =
    let here : size (u ++ concat us) ≡ length u =
    local u (concat us ++ []) (concat us) h.1 h.0 in
    let some : 0 < length u = h.1 in omega arith

word_begins : (s : List ℕ) → AreParts word_unit s → 0 < length s → 0 < word_unit s
word_begins s p l =
    subst (λ (t : List ℕ). 0 < word_unit t) (sym p.whole)
    (first_part word_unit word_local p.units p.each
    (let e : length s ≡ length (concat p.units) = ap length p.whole in omega arith))

-- the part at the front of a text that a name begins is that start
start_front_by : (b : ℕ) (s x : List ℕ) (m n : ℕ) → first_of b ≡ Backslash → escaped_part (b ∷ s) ≡ m → 0 < m
    → escaped_start (b ∷ (s ++ x)) ≡ suc n → NameStart b s
start_front_by b s x zero n f p l e = absurd (omega arith)
start_front_by b s x (suc m) n f p l e = escaped f m (escape.part_start (b ∷ s) x m n p e)

start_front : (b : ℕ) (s x : List ℕ) → NameStart b (s ++ x) → 0 < word_unit (b ∷ s) → NameStart b s
unfolding word_unit part_unit
start_front b s x (letter f) l = letter f
start_front b s x (character f m) l =
    character f (rw (
      apart b 92 Wide Backslash f backslash_class (λ g. cc),
      high_no_part b (wide_begins b (s ++ x) m),
    ) at l)
start_front b s x (escaped f n e) l =
    let part : 0 < escaped_part (b ∷ s) = rw (eq-eqb b 92 (backslash_is b f)) at l in
    start_front_by b s x (escaped_part (b ∷ s)) n f refl part e

-- the parts at the front of a text that a name begins are a word
pub name_front : (text front back : List ℕ) → begins_name text ≡ true → text ≡ front ++ back
    → AreParts word_unit front → word_unit back ≡ 0 → begins_name front ≡ true
name_front [] front back e w p n = absurd (nothing_named e)
name_front (b ∷ rest) [] back e w p n =
    let some : 0 < word_unit (b ∷ rest) = start_some b rest (name_class b rest e) in
    let none : word_unit (b ∷ rest) ≡ 0 = ap word_unit w ∙ n in
    absurd (omega arith)
name_front (b ∷ rest) (c ∷ f) back e w p n =
    let same : b ≡ c = cc in
    let tails : rest ≡ f ++ back = cc in
    let starts : NameStart c (f ++ back) =
    subst (λ (d : ℕ). NameStart d (f ++ back)) same
    (subst (λ (t : List ℕ). NameStart b t) tails (name_class b rest e)) in
    named c f (start_front c f back starts (word_begins (c ∷ f) p (omega arith)))
