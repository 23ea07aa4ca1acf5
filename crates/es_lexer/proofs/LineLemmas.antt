-- Line ends in a row of bytes: where the line ends, and what two texts side by side hold.
use Rattle.std.proofs.Common.{◌≡◌, ℕ, ◌+◌, ◌<◌, ◌≤◌, Bool, true, false, ◌==◌, ◌&&◌, ◌||◌, List, [], ◌∷◌, ◌++◌, length, refl, sym, ◌∙◌, ap, arith, eqb-true, true≢false}
use Rattle.es_literal.specs.spelling.Lines.{begins_separator, begins_line_end}
use Rattle.es_literal.proofs.spelling_lemmas.UnitLemmas.{ap2}
use Rattle.es_lexer.specs.Bytes.{has_line_end, ends_line}
use Rattle.es_lexer.specs.Look.{line_stop}

-- ---- tests in a row
pub or_assoc : (u v w : Bool) → ((u || v) || w) ≡ (u || (v || w))
or_assoc true v w = refl
or_assoc false v w = refl

pub or_left : (u v : Bool) → (u || v) ≡ false → u ≡ false
or_left true v e = cc
or_left false v e = refl

pub or_right : (u v : Bool) → (u || v) ≡ false → v ≡ false
or_right true v e = cc
or_right false v e = e

pub and_none : (u : Bool) → (u && false) ≡ false
and_none true = refl
and_none false = refl

-- ---- two texts side by side
-- the text is empty, or its first byte begins a character
abbrev pub StartsChar : List ℕ → Type 0
StartsChar [] = Unit {0}
StartsChar (b ∷ rest) = 128 ≤ b → 192 ≤ b

pub ascii_starts : (b : ℕ) (rest : List ℕ) → b < 128 → StartsChar (b ∷ rest)
ascii_starts b rest l = λ h. absurd (omega arith)

-- a byte that begins a character is no further byte of one
no_tail_by : (b n : ℕ) (v : Bool) → (b == n) ≡ v → 128 ≤ n → n < 192 → (128 ≤ b → 192 ≤ b) → (b == n) ≡ false
no_tail_by b n true e l m s =
    let same : b ≡ n = eqb-true b n e in
    let high : 192 ≤ b = s (omega arith) in absurd (omega arith)
no_tail_by b n false e l m s = e

no_tail : (b n : ℕ) → 128 ≤ n → n < 192 → (128 ≤ b → 192 ≤ b) → (b == n) ≡ false
no_tail b n l m s = no_tail_by b n (b == n) refl l m s

separator_front : (u t : List ℕ) → StartsChar t → begins_separator (u ++ t) ≡ begins_separator u
unfolding begins_separator
separator_front [] [] s = refl
separator_front [] (c ∷ []) s = refl
separator_front [] (c ∷ d ∷ t) s = rw (no_tail c 128 (omega arith) (omega arith) s) refl
separator_front (b ∷ []) [] s = refl
separator_front (b ∷ []) (c ∷ t) s =
    rw (no_tail c 168 (omega arith) (omega arith) s, no_tail c 169 (omega arith) (omega arith) s) (and_none (b == 128))
separator_front (b ∷ c ∷ u) t s = refl

-- a character tells nothing of a line end before it
pub line_front : (b : ℕ) (u t : List ℕ) → StartsChar t → begins_line_end (b ∷ (u ++ t)) ≡ begins_line_end (b ∷ u)
unfolding begins_line_end
line_front b u t s = ap (λ (v : Bool). b == 10 || (b == 13 || b == 226 && v)) (separator_front u t s)

pub lines-append : (s t : List ℕ) → StartsChar t → has_line_end (s ++ t) ≡ (has_line_end s || has_line_end t)
unfolding has_line_end
lines-append [] t h = refl
lines-append (b ∷ s) t h =
    ap2 (λ (u v : Bool). u || v) (line_front b s t h) (lines-append s t h)
    ∙ sym (or_assoc (begins_line_end (b ∷ s)) (has_line_end s) (has_line_end t))

-- a line end stands there whatever stands behind it
separator_more : (u t : List ℕ) → begins_separator u ≡ true → begins_separator (u ++ t) ≡ true
unfolding begins_separator
separator_more [] t e = cc
separator_more (b ∷ []) t e = cc
separator_more (b ∷ c ∷ u) t e = e

less_by : (x y z v w : Bool) → (v ≡ true → w ≡ true) → (x || (y || z && w)) ≡ false → (x || (y || z && v)) ≡ false
less_by true y z v w h e = cc
less_by false true z v w h e = cc
less_by false false false v w h e = refl
less_by false false true true w h e = absurd (true≢false (sym (h refl) ∙ e))
less_by false false true false w h e = refl

line_less : (b : ℕ) (s after : List ℕ) → begins_line_end (b ∷ (s ++ after)) ≡ false → begins_line_end (b ∷ s) ≡ false
unfolding begins_line_end
line_less b s after e =
    less_by (b == 10) (b == 13) (b == 226) (begins_separator s) (begins_separator (s ++ after))
    (separator_more s after) e

-- ---- the rest of a line
-- no line end begins in these bytes, before this text
abbrev pub InLine : List ℕ → List ℕ → Type 0
InLine [] after = Unit {0}
InLine (b ∷ s) after = (begins_line_end (b ∷ (s ++ after)) ≡ false) × InLine s after

in_line : (s after : List ℕ) → has_line_end s ≡ false → StartsChar after → InLine s after
unfolding has_line_end
in_line [] after h c = tt
in_line (b ∷ s) after h c = (
  line_front b s after c ∙ or_left (begins_line_end (b ∷ s)) (has_line_end s) h,
  in_line s after (or_right (begins_line_end (b ∷ s)) (has_line_end s) h) c,
)

pub in_line_back : (s after : List ℕ) → InLine s after → has_line_end s ≡ false
unfolding has_line_end
in_line_back [] after h = refl
in_line_back (b ∷ s) after h = rw (line_less b s after h.0) (in_line_back s after h.1)

-- where a line ends a character begins
starts_by : (b : ℕ) (w u v x : Bool) → (b == 10) ≡ u → (b == 13) ≡ v → (b == 226) ≡ x → (u || (v || x && w)) ≡ true
    → 128 ≤ b → 192 ≤ b
starts_by b w true v x p q r e l = let s : b ≡ 10 = eqb-true b 10 p in absurd (omega arith)
starts_by b w false true x p q r e l = let s : b ≡ 13 = eqb-true b 13 q in absurd (omega arith)
starts_by b w false false true p q r e l = let s : b ≡ 226 = eqb-true b 226 r in omega arith
starts_by b w false false false p q r e l = cc

pub line_starts : (after : List ℕ) → ends_line after ≡ true → StartsChar after
unfolding ends_line begins_line_end
line_starts [] e = tt
line_starts (b ∷ rest) e = starts_by b (begins_separator rest) (b == 10) (b == 13) (b == 226) refl refl refl e

-- a text is the rest of a line, and what follows
pub record Run (at : ℕ) (s : List ℕ) : Type 0 where
  pub front : List ℕ
  pub back : List ℕ
  pub whole : s ≡ front ++ back
  pub passes : InLine front back
  pub ends : ends_line back ≡ true
  pub end : line_stop at s ≡ at + length front

run_step : (at b : ℕ) (s : List ℕ) (v : Bool) → begins_line_end (b ∷ s) ≡ v → Run (at + 1) s → Run at (b ∷ s)
unfolding line_stop ends_line
run_step at b s true e r = record {
  front = [];
  back = b ∷ s;
  whole = refl;
  passes = tt;
  ends = e;
  end = rw e (omega arith);
}
run_step at b s false e r = record {
  front = b ∷ r.front;
  back = r.back;
  whole = ap (λ t. b ∷ t) r.whole;
  passes = (ap (λ t. begins_line_end (b ∷ t)) (sym r.whole) ∙ e, r.passes);
  ends = r.ends;
  end = rw e (r.end ∙ (omega arith));
}

pub run : (at : ℕ) (s : List ℕ) → Run at s
unfolding line_stop ends_line
run at [] = record { front = []; back = []; whole = refl; passes = tt; ends = refl; end = omega arith }
run at (b ∷ s) = run_step at b s (begins_line_end (b ∷ s)) refl (run (at + 1) s)

stop-append : (at : ℕ) (s after : List ℕ) → InLine s after
    → line_stop at (s ++ after) ≡ line_stop (at + length s) after
unfolding line_stop
stop-append at [] after h = ap (λ n. line_stop n after) (let e : at ≡ at + 0 = omega arith in e)
stop-append at (b ∷ s) after h = rw h.0 (stop-append (at + 1) s after h.1
    ∙ ap (λ n. line_stop n after) (let e : at + 1 + length s ≡ at + length (b ∷ s) = omega arith in e))

stop_here : (at : ℕ) (after : List ℕ) → ends_line after ≡ true → line_stop at after ≡ at
unfolding line_stop ends_line
stop_here at [] h = refl
stop_here at (b ∷ after) h = rw h refl

-- it is passed over
pub line_passed : (at : ℕ) (s after : List ℕ) → has_line_end s ≡ false → ends_line after ≡ true
    → line_stop at (s ++ after) ≡ at + length s
line_passed at s after h e =
    stop-append at s after (in_line s after h (line_starts after e)) ∙ stop_here (at + length s) after e
