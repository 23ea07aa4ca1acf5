-- A look at a block comment finds its end or its fault, and what spells or breaks one is found.
use Rattle.std.proofs.Common.{◌≡◌, ℕ, ◌+◌, Bool, true, false, not, ◌==◌, ◌&&◌, ◌||◌, List, [], ◌∷◌, ◌++◌, length, refl, ◌∙◌, ap, arith, eqb-true}
use Rattle.es_lexer.specs.declared.look.Look.{Look}
use Rattle.es_lexer.specs.declared.look.Look.TheVariants.{Comment, Fault}
use Rattle.es_token.specs.declared.token.CommentKind.TheVariants.{Block}
use Rattle.es_lexer.specs.declared.error.LexicalKind.TheVariants.{UnterminatedComment}
use Rattle.es_literal.specs.spelling.Lines.{begins_line_end}
use Rattle.es_literal.proofs.spelling_lemmas.UnitLemmas.{ap2}
use Rattle.es_lexer.specs.Bytes.{begins_closer, has_closer, has_line_end}
use Rattle.es_lexer.specs.Look.{block_look}
use Rattle.es_lexer.proofs.LineLemmas.{or_assoc, or_left, or_right, ascii_starts, line_front}

-- ---- tests in a row
or_false : (u : Bool) → (u || false) ≡ u
or_false true = refl
or_false false = refl

and_left : (u v : Bool) → (u && v) ≡ true → u ≡ true
and_left true v e = refl
and_left false v e = cc

and_right : (u v : Bool) → (u && v) ≡ true → v ≡ true
and_right true v e = e
and_right false v e = cc

pub not_true : (u : Bool) → not u ≡ true → u ≡ false
not_true true e = cc
not_true false e = refl

-- ---- block comments
pub record Closer (b : ℕ) (s : List ℕ) : Type 0 where
  pub star : b ≡ 42
  pub after : List ℕ
  pub slash : s ≡ 47 ∷ after

closer_is : (b : ℕ) (s : List ℕ) → begins_closer (b ∷ s) ≡ true → Closer b s
unfolding begins_closer
closer_is b [] e = cc
closer_is b (c ∷ s) e = record {
  star = eqb-true _ _ (and_left (b == 42) (c == 47) e);
  after = s;
  slash = ap (λ d. d ∷ s) (eqb-true _ _ (and_right (b == 42) (c == 47) e));
}

-- whether a closer begins here depends on the next byte alone
closer_same : (b : ℕ) (text x y : List ℕ)
    → begins_closer (b ∷ (text ++ 42 ∷ x)) ≡ begins_closer (b ∷ (text ++ 42 ∷ y))
unfolding begins_closer
closer_same b [] x y = refl
closer_same b (c ∷ text) x y = refl

-- what a look at the rest of a block comment finds
pub data BlockFound (start : ℕ) (line : Bool) (at : ℕ) (s : List ℕ) (found : Look) : Type 0 where
  closed : (text after : List ℕ) → s ≡ text ++ 42 ∷ 47 ∷ after → has_closer (text ++ 42 ∷ []) ≡ false
      → found ≡ Comment Block (at + length text + 2) (line || has_line_end text) → BlockFound start line at s found
  unclosed : has_closer s ≡ false → found ≡ Fault UnterminatedComment start → BlockFound start line at s found

-- a line end in a comment is one by itself
lines_behind : (line : Bool) (b : ℕ) (s text after : List ℕ) → s ≡ text ++ 42 ∷ 47 ∷ after
    → ((line || begins_line_end (b ∷ s)) || has_line_end text) ≡ (line || has_line_end (b ∷ text))
unfolding has_line_end
lines_behind line b s text after w =
    or_assoc line (begins_line_end (b ∷ s)) (has_line_end text)
    ∙ ap (λ (v : Bool). line || (v || has_line_end text))
    (ap (λ t. begins_line_end (b ∷ t)) w
    ∙ line_front b text (42 ∷ 47 ∷ after) (ascii_starts 42 (47 ∷ after) (omega arith)))

block_more : (start : ℕ) (line : Bool) (at b : ℕ) (s : List ℕ) (found : Look) → begins_closer (b ∷ s) ≡ false
    → BlockFound start (line || begins_line_end (b ∷ s)) (at + 1) s found → BlockFound start line at (b ∷ s) found
unfolding has_closer
block_more start line at b s found n (closed text after w h f) =
    let size : at + 1 + length text + 2 ≡ at + length (b ∷ text) + 2 = omega arith in
    closed (b ∷ text) after (ap (λ t. b ∷ t) w)
    (rw (closer_same b text [] (47 ∷ after), ← w, n) h)
    (f ∙ ap2 (λ (m : ℕ) (v : Bool). Comment Block m v) size (lines_behind line b s text after w))
block_more start line at b s found n (unclosed h f) = unclosed (rw n h) f

block_step : (start : ℕ) (line : Bool) (at b : ℕ) (s : List ℕ) (v : Bool) → begins_closer (b ∷ s) ≡ v
    → BlockFound start (line || begins_line_end (b ∷ s)) (at + 1) s
    (block_look start (line || begins_line_end (b ∷ s)) (at + 1) s)
    → BlockFound start line at (b ∷ s) (block_look start line at (b ∷ s))
unfolding block_look has_line_end has_closer begins_closer
block_step start line at b s true e found =
    let c : Closer b s = closer_is b s e in
    closed [] c.after (ap (λ d. d ∷ s) c.star ∙ ap (λ t. 42 ∷ t) c.slash) refl
    (rw e (rw or_false (ap (λ n. Comment Block n line) (let q : at + 2 ≡ at + 0 + 2 = omega arith in q))))
block_step start line at b s false e found = rw e (block_more start line at b s _ e found)

pub block_finds : (start : ℕ) (line : Bool) (at : ℕ) (s : List ℕ)
    → BlockFound start line at s (block_look start line at s)
unfolding block_look has_closer
block_finds start line at [] = unclosed refl refl
block_finds start line at (b ∷ s) =
    block_step start line at b s (begins_closer (b ∷ s)) refl
    (block_finds start (line || begins_line_end (b ∷ s)) (at + 1) s)

block_opens : (start : ℕ) (line : Bool) (at : ℕ) (after : List ℕ)
    → block_look start line at (42 ∷ 47 ∷ after) ≡ Comment Block (at + 2) line
unfolding block_look begins_closer
block_opens start line at after = refl

-- a block comment is found
pub block_closes : (start : ℕ) (line : Bool) (at : ℕ) (text after : List ℕ) → has_closer (text ++ 42 ∷ []) ≡ false
    → block_look start line at (text ++ 42 ∷ 47 ∷ after) ≡ Comment Block (at + length text + 2)
    (line || has_line_end text)
unfolding block_look has_closer has_line_end
block_closes start line at [] after h =
    block_opens start line at after
    ∙ rw or_false (ap (λ n. Comment Block n line) (let e : at + 2 ≡ at + 0 + 2 = omega arith in e))
block_closes start line at (b ∷ text) after h =
    let n : begins_closer (b ∷ (text ++ 42 ∷ 47 ∷ after)) ≡ false =
    closer_same b text (47 ∷ after) []
    ∙ or_left (begins_closer (b ∷ (text ++ 42 ∷ []))) (has_closer (text ++ 42 ∷ [])) h in
    let g : has_closer (text ++ 42 ∷ []) ≡ false =
    or_right (begins_closer (b ∷ (text ++ 42 ∷ []))) (has_closer (text ++ 42 ∷ [])) h in
    let size : at + 1 + length text + 2 ≡ at + length (b ∷ text) + 2 = omega arith in
    rw n (block_closes start (line || begins_line_end (b ∷ (text ++ 42 ∷ 47 ∷ after))) (at + 1) text after g
    ∙ ap2 (λ (m : ℕ) (v : Bool). Comment Block m v) size
    (lines_behind line b (text ++ 42 ∷ 47 ∷ after) text after refl))

-- and one without its end
pub block_runs_out : (start : ℕ) (line : Bool) (at : ℕ) (s : List ℕ) → has_closer s ≡ false
    → block_look start line at s ≡ Fault UnterminatedComment start
unfolding block_look has_closer
block_runs_out start line at [] h = refl
block_runs_out start line at (b ∷ s) h =
    rw (or_left (begins_closer (b ∷ s)) (has_closer s) h)
    (block_runs_out start (line || begins_line_end (b ∷ s)) (at + 1) s
    (or_right (begins_closer (b ∷ s)) (has_closer s) h))
