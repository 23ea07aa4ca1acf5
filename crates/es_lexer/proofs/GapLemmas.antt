-- What stands between tokens: whether a line end does, that comments stand apart, and that all else is blanks and line
-- ends.
use Rattle.std.proofs.Common.{◌≡◌, ℕ, zero, suc, ◌+◌, ◌-◌, ◌<◌, ◌≤◌, nat_le, Bool, true, false, ◌==◌, ◌||◌, ◌&&◌, List, [], ◌∷◌, ◌++◌, length, take, drop, Some, slice_get, slice_range, refl, sym, ◌∙◌, ap, subst, arith, length-append, append_assoc, drop_at, take_at, ◌⊎◌, inl, inr}
use Rattle.es_lexer.specs.declared.bytes.First.TheVariants as first
use Rattle.es_token.specs.declared.token.Token.{Token}
use Rattle.es_token.specs.declared.token.Comment.{Comment}
use Rattle.es_token.specs.declared.token.CommentKind.{CommentKind}
use Rattle.es_token.specs.declared.token.CommentKind.TheVariants.{Line, Block}
use Rattle.es_literal.specs.spelling.Lines.{begins_separator, begins_line_end}
use Rattle.es_lexer.specs.Bytes.{is_blank, is_line_end, has_line_end}
use Rattle.es_lexer.specs.Goal.{goal_of}
use Rattle.es_lexer.specs.Pieces.{Piece, blank, line_end, comment, token, comment_spelling, pieces_text, place_of, is_behind, line_since}
use Rattle.es_lexer.specs.Readable.{IsByte, IsWideBlank, IsWideLine, ArePieces}
use Rattle.es_lexer.specs.Reads.{tokens_of, comments_of, token_of, comment_of}
use Rattle.es_lexer.specs.Gaps.{IsGap, GapAt, IsOutside}
use Rattle.std.specs.List.{AllByRecursion}
use Rattle.std.proofs.lemmas.Bool.Decides.{nat_tests}
use Rattle.es_unicode.specs.Wide.{is_separator, blank_of_three, wide_blank, wide_line}
use Rattle.es_unicode.proofs.WideLemmas.{blank_high, blank_three_is, Line as WideLine, line_separator, paragraph_separator, line_is, line_no_blank}
use Rattle.es_lexer.proofs.ByteLemmas as byte
use Rattle.es_lexer.proofs.LineLemmas.{and_none, ascii_starts, lines-append}
use Rattle.es_lexer.proofs.PlaceLemmas.{shift, moved, spelling_starts}

-- ---- tests in a row
or_false : (u : Bool) → (u || false) ≡ u
or_false true = refl
or_false false = refl

or_true : (u : Bool) → (u || true) ≡ true
or_true true = refl
or_true false = refl

-- ---- the text behind the latest token
high_by : (b : ℕ) → 128 ≤ b → ((b == 10) ≡ false) × ((b == 13) ≡ false)
high_by b l = (grind (arith, nat_tests), grind (arith, nat_tests))

-- a blank past ASCII holds no line end
one_high : (b : ℕ) → 128 ≤ b → begins_line_end (b ∷ []) ≡ false
unfolding begins_line_end begins_separator
one_high b l = rw ((high_by b l).0, (high_by b l).1) (and_none (b == 226))

two_high : (b c : ℕ) → 128 ≤ b → begins_line_end (b ∷ c ∷ []) ≡ false
unfolding begins_line_end begins_separator
two_high b c l = rw ((high_by b l).0, (high_by b l).1) (and_none (b == 226))

three_high : (a b c : ℕ) → 128 ≤ a → is_separator a b c ≡ false → begins_line_end (a ∷ b ∷ c ∷ []) ≡ false
unfolding begins_line_end begins_separator is_separator
three_high a b c l e = rw ((high_by a l).0, (high_by a l).1) e

no_separator : (a b c : ℕ) (v : Bool) → is_separator a b c ≡ v → wide_blank (a ∷ b ∷ c ∷ []) ≡ 3 → v ≡ false
unfolding wide_line
no_separator a b c true p e =
    let none : wide_blank (a ∷ b ∷ c ∷ []) ≡ 0 = line_no_blank (a ∷ b ∷ c ∷ []) 2 (rw p refl) in absurd (omega arith)
no_separator a b c false p e = refl

three_lines : (a b c : ℕ) → AllByRecursion (λ n. 128 ≤ n) (a ∷ b ∷ c ∷ []) → is_separator a b c ≡ false
    → has_line_end (a ∷ b ∷ c ∷ []) ≡ false
unfolding has_line_end
three_lines a b c h e = rw (three_high a b c h.0 e, two_high b c h.1.0, one_high c h.1.1.0) refl

two_lines : (a b : ℕ) → AllByRecursion (λ n. 128 ≤ n) (a ∷ b ∷ []) → has_line_end (a ∷ b ∷ []) ≡ false
unfolding has_line_end
two_lines a b h = rw (two_high a b h.0, one_high b h.1.0) refl

wide_lines : (s : List ℕ) → 0 < length s → wide_blank s ≡ length s → has_line_end s ≡ false
unfolding wide_blank
wide_lines [] l e = absurd (omega arith)
wide_lines (a ∷ []) l e = absurd (omega arith)
wide_lines (a ∷ b ∷ []) l e = two_lines a b (blank_high (a ∷ b ∷ []) l e)
wide_lines (a ∷ b ∷ c ∷ []) l e =
    three_lines a b c (blank_high (a ∷ b ∷ c ∷ []) l e) (no_separator a b c (is_separator a b c) refl e)
wide_lines (a ∷ b ∷ c ∷ d ∷ s) l e =
    absurd (let m : blank_of_three a b c ≤ 3 = blank_three_is a b c in omega arith)

-- nor does one of one byte
byte_lines : (b : ℕ) → is_blank b ≡ true → has_line_end (b ∷ []) ≡ false
unfolding has_line_end begins_line_end begins_separator
byte_lines b e =
    let n : ((b == 10) ≡ false) × (((b == 13) ≡ false) × ((b == 226) ≡ false)) =
    (grind (arith, nat_tests), (grind (arith, nat_tests), grind (arith, nat_tests))) in
    rw (n.0, n.1.0, n.1.1) refl

blank_lines : (s : List ℕ) → IsByte first.Blank s ⊎ IsWideBlank s → has_line_end s ≡ false
blank_lines s (inl b) = ap has_line_end b.whole ∙ byte_lines b.byte (byte.blank_is b.byte b.is)
blank_lines s (inr b) = wide_lines s b.0 b.1

line_byte : (b : ℕ) (u v w : Bool) → (u || v) ≡ true → ((u || (v || w)) || false) ≡ true
line_byte b true v w e = refl
line_byte b false true w e = refl
line_byte b false false w e = cc

one_line : (b : ℕ) → is_line_end b ≡ true → has_line_end (b ∷ []) ≡ true
unfolding has_line_end begins_line_end
one_line b e = line_byte b (b == 10) (b == 13) (b == 226 && begins_separator []) e

line_is_one : (s : List ℕ) (n : ℕ) → WideLine s n → has_line_end s ≡ true
unfolding has_line_end begins_line_end begins_separator
line_is_one s n (line_separator after w e) = rw w refl
line_is_one s n (paragraph_separator after w e) = rw w refl

far_line : (s : List ℕ) (n : ℕ) → length s ≡ n → 0 < n → wide_line s ≡ n → has_line_end s ≡ true
far_line s zero p l e = absurd (omega arith)
far_line s (suc n) p l e = line_is_one s (suc n) (line_is s n e)

line_lines : (s : List ℕ) → IsByte first.LineEnd s ⊎ IsWideLine s → has_line_end s ≡ true
line_lines s (inl b) = ap has_line_end b.whole ∙ one_line b.byte (byte.line_end_is b.byte b.is)
line_lines s (inr b) = far_line s (length s) refl b.0 b.1

comment_lines : (kind : CommentKind) (text : List ℕ) → has_line_end (comment_spelling kind text) ≡ has_line_end text
unfolding comment_spelling has_line_end begins_line_end begins_separator
comment_lines Line text = refl
comment_lines Block text =
    lines-append text (42 ∷ 47 ∷ []) (ascii_starts 42 (47 ∷ []) (omega arith)) ∙ or_false (has_line_end text)

-- whether a line end stands between the latest token and this place, which the text from `front` on shows
pub record Between (x front gap : List ℕ) (before : List Piece) : Type 0 where
  pub behind : is_behind before ≡ true
  pub line : line_since before ≡ has_line_end gap
  pub place : place_of before ≡ length front + length gap

cut_gap : (x front gap rest : List ℕ) (n : ℕ) → x ≡ front ++ (gap ++ rest) → n ≡ length front + length gap
    → slice_range x (length front) n ≡ gap
cut_gap x front gap rest n w e =
    ap (λ y. take (n - length front) (drop (length front) y)) w
    ∙ (ap (take (n - length front)) (drop_at front (gap ++ rest) (length front) refl)
    ∙ take_at gap rest (n - length front) (omega arith))

more_gap : (x front gap s rest : List ℕ) → x ≡ front ++ (gap ++ (s ++ rest)) → x ≡ front ++ ((gap ++ s) ++ rest)
more_gap x front gap s rest w = w ∙ ap (λ t. front ++ t) (sym (append_assoc gap s rest))

gap_place : (before : List Piece) (front gap s : List ℕ) → place_of before ≡ length front + length gap
    → place_of before + length s ≡ length front + length (gap ++ s)
gap_place before front gap s e = omega (arith, length-append gap s)

with_comment : (l b t g : Bool) → l ≡ g → b ≡ true → (l || b && t) ≡ (g || t)
with_comment true true t true e h = refl
with_comment true true t false e h = cc
with_comment false true t true e h = cc
with_comment false true t false e h = refl
with_comment l false t g e h = cc

without_comment : (l b t : Bool) → l ≡ false → b ≡ false → (l || b && t) ≡ false
without_comment true b t e h = cc
without_comment false true t e h = cc
without_comment false false t e h = refl

-- the first token among pieces
pub line_of_first : (ps before : List Piece) (x front gap after : List ℕ) (u : Token)
    → x ≡ front ++ (gap ++ (pieces_text ps ++ after)) → Between x front gap before → ArePieces before ps after
    → slice_get (tokens_of before ps) 0 ≡ Some u
    → u.line_before ≡ has_line_end (slice_range x (length front) u.range.start)
unfolding tokens_of line_since is_behind
line_of_first [] before x front gap after u w b h g = cc
line_of_first (blank s ∷ ps) before x front gap after u w b h g =
    line_of_first ps (blank s ∷ before) x front (gap ++ s) after u
    (more_gap x front gap s (pieces_text ps ++ after)
    (w ∙ ap (λ t. front ++ (gap ++ t)) (append_assoc s (pieces_text ps) after)))
    (record {
      behind = b.behind;
      line = b.line ∙ sym (lines-append gap s (spelling_starts (goal_of before) (blank s) (pieces_text ps ++ after) h.0)
          ∙ (ap (λ v. has_line_end gap || v) (blank_lines s h.0)
          ∙ or_false (has_line_end gap)));
      place = gap_place before front gap s b.place;
    }) h.1 g
line_of_first (line_end s ∷ ps) before x front gap after u w b h g =
    line_of_first ps (line_end s ∷ before) x front (gap ++ s) after u
    (more_gap x front gap s (pieces_text ps ++ after)
    (w ∙ ap (λ t. front ++ (gap ++ t)) (append_assoc s (pieces_text ps) after)))
    (record {
      behind = b.behind;
      line = b.behind
          ∙ sym (lines-append gap s (spelling_starts (goal_of before) (line_end s) (pieces_text ps ++ after) h.0)
          ∙ (ap (λ v. has_line_end gap || v) (line_lines s h.0)
          ∙ or_true (has_line_end gap)));
      place = gap_place before front gap s b.place;
    }) h.1 g
line_of_first (comment kind t ∷ ps) before x front gap after u w b h g =
    line_of_first ps (comment kind t ∷ before) x front (gap ++ comment_spelling kind t) after u
    (more_gap x front gap (comment_spelling kind t) (pieces_text ps ++ after)
    (w ∙ ap (λ v. front ++ (gap ++ v)) (append_assoc (comment_spelling kind t) (pieces_text ps) after)))
    (record {
      behind = b.behind;
      line = with_comment (line_since before) (is_behind before) (has_line_end t) (has_line_end gap) b.line b.behind
          ∙ sym (lines-append gap (comment_spelling kind t)
          (spelling_starts (goal_of before) (comment kind t) (pieces_text ps ++ after) h.0)
          ∙ ap (λ v. has_line_end gap || v) (comment_lines kind t));
      place = gap_place before front gap (comment_spelling kind t) b.place;
    }) h.1 g
line_of_first (token k s ∷ ps) before x front gap after u w b h g =
    let same : token_of before k s ps ≡ u = cc in
    subst (λ (v : Token). v.line_before ≡ has_line_end (slice_range x (length front) v.range.start)) same
    (b.line ∙ ap has_line_end
    (sym (cut_gap x front gap (pieces_text (token k s ∷ ps) ++ after) (place_of before) w b.place)))

-- and each token behind another
pub line_of_next : (ps before : List Piece) (x front after : List ℕ) (n : ℕ) (t u : Token)
    → x ≡ front ++ (pieces_text ps ++ after) → place_of before ≡ length front → ArePieces before ps after
    → slice_get (tokens_of before ps) n ≡ Some t → slice_get (tokens_of before ps) (suc n) ≡ Some u
    → u.line_before ≡ has_line_end (slice_range x t.range.end u.range.start)
unfolding tokens_of line_since is_behind has_line_end
line_of_next [] before x front after n t u w p h f g = cc
line_of_next (blank s ∷ ps) before x front after n t u w p h f g =
    line_of_next ps (blank s ∷ before) x (front ++ s) after n t u (shift x front s (pieces_text ps) after w)
    (moved (place_of before) front s p) h.1 f g
line_of_next (line_end s ∷ ps) before x front after n t u w p h f g =
    line_of_next ps (line_end s ∷ before) x (front ++ s) after n t u (shift x front s (pieces_text ps) after w)
    (moved (place_of before) front s p) h.1 f g
line_of_next (comment kind s ∷ ps) before x front after n t u w p h f g =
    line_of_next ps (comment kind s ∷ before) x (front ++ comment_spelling kind s) after n t u
    (shift x front (comment_spelling kind s) (pieces_text ps) after w)
    (moved (place_of before) front (comment_spelling kind s) p) h.1 f g
line_of_next (token k s ∷ ps) before x front after zero t u w p h f g =
    let same : token_of before k s ps ≡ t = cc in
    let end : place_of before + length s ≡ length (front ++ s) = moved (place_of before) front s p in
    let next : u.line_before ≡ has_line_end (slice_range x (length (front ++ s)) u.range.start) =
    line_of_first ps (token k s ∷ before) x (front ++ s) [] after u (shift x front s (pieces_text ps) after w)
    (record { behind = refl; line = refl; place = omega arith }) h.1 g in
    subst (λ (v : Token). u.line_before ≡ has_line_end (slice_range x v.range.end u.range.start)) same
    (subst (λ (m : ℕ). u.line_before ≡ has_line_end (slice_range x m u.range.start)) (sym end) next)
line_of_next (token k s ∷ ps) before x front after (suc n) t u w p h f g =
    line_of_next ps (token k s ∷ before) x (front ++ s) after n t u
    (shift x front s (pieces_text ps) after w) (moved (place_of before) front s p) h.1 f g

-- none stands before the first token
pub first_line : (ps before : List Piece) (u : Token) → is_behind before ≡ false → line_since before ≡ false
    → slice_get (tokens_of before ps) 0 ≡ Some u → u.line_before ≡ false
unfolding tokens_of line_since is_behind
first_line [] before u b l g = cc
first_line (blank s ∷ ps) before u b l g = first_line ps (blank s ∷ before) u b l g
first_line (line_end s ∷ ps) before u b l g = first_line ps (line_end s ∷ before) u b b g
first_line (comment kind t ∷ ps) before u b l g =
    first_line ps (comment kind t ∷ before) u b
    (without_comment (line_since before) (is_behind before) (has_line_end t) l b) g
first_line (token k s ∷ ps) before u b l g =
    let same : token_of before k s ps ≡ u = cc in
    subst (λ (v : Token). v.line_before ≡ false) same l

-- ---- order
-- a token stands behind what stands before it
token_above : (ps before : List Piece) (n : ℕ) (t : Token) → slice_get (tokens_of before ps) n ≡ Some t
    → place_of before ≤ t.range.start
unfolding tokens_of
token_above [] before n t g = cc
token_above (blank s ∷ ps) before n t g =
    let h : place_of before + length s ≤ t.range.start = token_above ps (blank s ∷ before) n t g in omega arith
token_above (line_end s ∷ ps) before n t g =
    let h : place_of before + length s ≤ t.range.start = token_above ps (line_end s ∷ before) n t g in omega arith
token_above (comment kind s ∷ ps) before n t g =
    let h : place_of before + length (comment_spelling kind s) ≤ t.range.start =
    token_above ps (comment kind s ∷ before) n t g in omega arith
token_above (token k s ∷ ps) before zero t g =
    let same : token_of before k s ps ≡ t = cc in
    subst (λ (v : Token). place_of before ≤ v.range.start) same (omega arith)
token_above (token k s ∷ ps) before (suc n) t g =
    let h : place_of before + length s ≤ t.range.start = token_above ps (token k s ∷ before) n t g in omega arith

-- so does a comment
comment_above : (ps before : List Piece) (n : ℕ) (c : Comment) → slice_get (comments_of before ps) n ≡ Some c
    → place_of before ≤ c.range.start
unfolding comments_of
comment_above [] before n c g = cc
comment_above (blank s ∷ ps) before n c g =
    let h : place_of before + length s ≤ c.range.start = comment_above ps (blank s ∷ before) n c g in omega arith
comment_above (line_end s ∷ ps) before n c g =
    let h : place_of before + length s ≤ c.range.start = comment_above ps (line_end s ∷ before) n c g in omega arith
comment_above (token k s ∷ ps) before n c g =
    let h : place_of before + length s ≤ c.range.start = comment_above ps (token k s ∷ before) n c g in omega arith
comment_above (comment kind s ∷ ps) before zero c g =
    let same : comment_of before kind s ≡ c = cc in
    subst (λ (v : Comment). place_of before ≤ v.range.start) same (omega arith)
comment_above (comment kind s ∷ ps) before (suc n) c g =
    let h : place_of before + length (comment_spelling kind s) ≤ c.range.start =
    comment_above ps (comment kind s ∷ before) n c g in omega arith

-- a comment ends before the next one begins
pub comments_ascend : (ps before : List Piece) (n : ℕ) (c d : Comment)
    → slice_get (comments_of before ps) n ≡ Some c → slice_get (comments_of before ps) (suc n) ≡ Some d
    → c.range.end ≤ d.range.start
unfolding comments_of
comments_ascend [] before n c d f g = cc
comments_ascend (blank s ∷ ps) before n c d f g = comments_ascend ps (blank s ∷ before) n c d f g
comments_ascend (line_end s ∷ ps) before n c d f g = comments_ascend ps (line_end s ∷ before) n c d f g
comments_ascend (token k s ∷ ps) before n c d f g = comments_ascend ps (token k s ∷ before) n c d f g
comments_ascend (comment kind s ∷ ps) before zero c d f g =
    let same : comment_of before kind s ≡ c = cc in
    subst (λ (v : Comment). v.range.end ≤ d.range.start) same (comment_above ps (comment kind s ∷ before) 0 d g)
comments_ascend (comment kind s ∷ ps) before (suc n) c d f g = comments_ascend ps (comment kind s ∷ before) n c d f g

-- a token and a comment stand apart
pub stand_apart : (ps before : List Piece) (m n : ℕ) (t : Token) (c : Comment)
    → slice_get (tokens_of before ps) m ≡ Some t → slice_get (comments_of before ps) n ≡ Some c
    → (t.range.end ≤ c.range.start) ⊎ (c.range.end ≤ t.range.start)
unfolding tokens_of comments_of
stand_apart [] before m n t c f g = cc
stand_apart (blank s ∷ ps) before m n t c f g = stand_apart ps (blank s ∷ before) m n t c f g
stand_apart (line_end s ∷ ps) before m n t c f g = stand_apart ps (line_end s ∷ before) m n t c f g
stand_apart (token k s ∷ ps) before zero n t c f g =
    let same : token_of before k s ps ≡ t = cc in
    subst (λ (v : Token). (v.range.end ≤ c.range.start) ⊎ (c.range.end ≤ v.range.start)) same
    (inl (comment_above ps (token k s ∷ before) n c g))
stand_apart (token k s ∷ ps) before (suc m) n t c f g = stand_apart ps (token k s ∷ before) m n t c f g
stand_apart (comment kind s ∷ ps) before m zero t c f g =
    let same : comment_of before kind s ≡ c = cc in
    subst (λ (v : Comment). (t.range.end ≤ v.range.start) ⊎ (v.range.end ≤ t.range.start)) same
    (inr (token_above ps (comment kind s ∷ before) m t f))
stand_apart (comment kind s ∷ ps) before m (suc n) t c f g = stand_apart ps (comment kind s ∷ before) m n t c f g

-- ---- what is left
-- no token among these pieces, and no comment, covers the place
abbrev NoToken : List Piece → List Piece → ℕ → Type 0
NoToken before ps place = (n : ℕ) (t : Token) → slice_get (tokens_of before ps) n ≡ Some t → IsOutside place t.range

abbrev NoComment : List Piece → List Piece → ℕ → Type 0
NoComment before ps place =
    (n : ℕ) (c : Comment) → slice_get (comments_of before ps) n ≡ Some c → IsOutside place c.range

-- the first piece, if it is a gap that reaches past the place, and else what stands behind it
gap_here : (x front s rest : List ℕ) (place : ℕ) → x ≡ front ++ (s ++ rest) → IsGap s → length front ≤ place
    → place < length front + length s → GapAt x place
gap_here x front s rest place w g l m =
    let cut : slice_range x (length front) (length front + length s) ≡ s =
    cut_gap x front s rest (length front + length s) w refl in
    record {
      start = length front;
      end = length front + length s;
      from = l;
      to = m;
      is = subst IsGap (sym cut) g;
    }

gap_or : (x front s rest : List ℕ) (place : ℕ)
    → (place < length front + length s) ⊎ (length front + length s ≤ place) → x ≡ front ++ (s ++ rest) → IsGap s
    → length front ≤ place
    → (length (front ++ s) ≤ place → GapAt x place) → GapAt x place
gap_or x front s rest place (inl m) w g l more = gap_here x front s rest place w g l m
gap_or x front s rest place (inr m) w g l more = more (omega (arith, length-append front s))

less_by : (m n : ℕ) (v : Bool) → nat_le n m ≡ v → (m < n) ⊎ (n ≤ m)
less_by m n true e = inr (grind (arith, nat_tests))
less_by m n false e = inl (grind (arith, nat_tests))

less_or : (m n : ℕ) → (m < n) ⊎ (n ≤ m)
less_or m n = less_by m n (nat_le n m) refl

-- past a piece that covers no such place
past : (at size place : ℕ) → at ≤ place → IsOutside place (record { start = at; end = at + size }) → at + size ≤ place
past at size place l (inl m) = absurd (omega arith)
past at size place l (inr m) = m

pub left_over : (ps before : List Piece) (x front after : List ℕ) (place : ℕ)
    → x ≡ front ++ (pieces_text ps ++ after) → place_of before ≡ length front → ArePieces before ps after
    → NoToken before ps place → NoComment before ps place → length front ≤ place
    → place < length front + length (pieces_text ps) → GapAt x place
unfolding tokens_of comments_of
left_over [] before x front after place w p h t c l m = absurd (omega arith)
left_over (blank s ∷ ps) before x front after place w p h t c l m =
    gap_or x front s (pieces_text ps ++ after) place (less_or place (length front + length s))
    (w ∙ ap (λ v. front ++ v) (append_assoc s (pieces_text ps) after)) (inl h.0) l
    (λ n. left_over ps (blank s ∷ before) x (front ++ s) after place (shift x front s (pieces_text ps) after w)
    (moved (place_of before) front s p) h.1 t c n
    (omega (arith, length-append front s, length-append s (pieces_text ps))))
left_over (line_end s ∷ ps) before x front after place w p h t c l m =
    gap_or x front s (pieces_text ps ++ after) place (less_or place (length front + length s))
    (w ∙ ap (λ v. front ++ v) (append_assoc s (pieces_text ps) after)) (inr h.0) l
    (λ n. left_over ps (line_end s ∷ before) x (front ++ s) after place (shift x front s (pieces_text ps) after w)
    (moved (place_of before) front s p) h.1 t c n
    (omega (arith, length-append front s, length-append s (pieces_text ps))))
left_over (comment kind s ∷ ps) before x front after place w p h t c l m =
    let own : IsOutside place (comment_of before kind s).range = c 0 (comment_of before kind s) refl in
    let far : place_of before + length (comment_spelling kind s) ≤ place =
    past (place_of before) (length (comment_spelling kind s)) place (omega arith) own in
    left_over ps (comment kind s ∷ before) x (front ++ comment_spelling kind s) after place
    (shift x front (comment_spelling kind s) (pieces_text ps) after w)
    (moved (place_of before) front (comment_spelling kind s) p) h.1 t (λ n d e. c (suc n) d e)
    (omega (arith, length-append front (comment_spelling kind s)))
    (omega (
      arith,
      length-append front (comment_spelling kind s),
      length-append (comment_spelling kind s) (pieces_text ps),
    ))
left_over (token k s ∷ ps) before x front after place w p h t c l m =
    let own : IsOutside place (token_of before k s ps).range = t 0 (token_of before k s ps) refl in
    let far : place_of before + length s ≤ place = past (place_of before) (length s) place (omega arith) own in
    left_over ps (token k s ∷ before) x (front ++ s) after place (shift x front s (pieces_text ps) after w)
    (moved (place_of before) front s p) h.1 (λ n u e. t (suc n) u e) c
    (omega (arith, length-append front s))
    (omega (arith, length-append front s, length-append s (pieces_text ps)))
