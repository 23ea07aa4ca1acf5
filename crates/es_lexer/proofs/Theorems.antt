-- The laws of readings: a text has one reading or one fault, and not both; where its tokens stand, and what they cut.
use Rattle.std.proofs.Common.{◌≡◌, ℕ, suc, ◌+◌, ◌<◌, ◌≤◌, false, List, [], length, Some, None, slice_get, slice_range, IsUtf8, IsCharBoundary, refl, sym, ◌∙◌, ap, subst, append-nil, add-one, arith, ◌⊎◌, inl, inr}
use Rattle.es_token.specs.declared.token.Token.{Token}
use Rattle.es_token.specs.declared.token.Comment.{Comment}
use Rattle.es_lexer.specs.declared.look.Look.TheVariants as look
use Rattle.es_lexer.specs.declared.error.LexicalKind.{LexicalKind}
use Rattle.es_lexer.specs.declared.goal.Goal.{Goal}
use Rattle.es_lexer.specs.Goal.{goal_of}
use Rattle.es_lexer.specs.Pieces.{Piece, pieces_text, comment_spelling, behind, open_at}
use Rattle.es_lexer.specs.Reads.{Reads, tokens_of, comments_of}
use Rattle.es_lexer.specs.Stops.{Stops, Stuck}
use Rattle.es_lexer.specs.Look.{end_look, look_at}
use Rattle.es_lexer.proofs.LookLemmas.{stuck_reads}
use Rattle.es_token.specs.declared.token.TokenKind.TheVariants.{Str}
use Rattle.es_literal.specs.Strings.{IsString}
use Rattle.es_lexer.specs.Spelling.{Spells}
use Rattle.es_lexer.proofs.PlaceLemmas.{TokenAt, token_at, not_nothing, boundaries, ascends, cuts, literal_of, comment_at, comment_cuts, comment_inside}
use Rattle.es_lexer.specs.Bytes.{has_line_end}
use Rattle.es_lexer.specs.Pieces.{is_behind, line_since}
use Rattle.es_lexer.specs.declared.bracket.BracketKind.{BracketKind}
use Rattle.es_lexer.specs.declared.bracket.Role.TheVariants.{Opens}
use Rattle.es_lexer.specs.Brackets.{role_of}
use Rattle.es_lexer.specs.Pieces.{count_of}
use Rattle.es_lexer.proofs.PartnerLemmas.{ClosedBy, opener_back}
use Rattle.es_lexer.specs.Gaps.{GapAt, IsOutside}
use Rattle.es_lexer.proofs.GapLemmas.{line_of_next, first_line, comments_ascend, stand_apart, left_over}
use Rattle.es_lexer.proofs.WholeLemmas.{Ended, reads, stops, cut_from}
use Rattle.es_lexer.proofs.ReadingLemmas.{Once, once, halts_at_end, halts_at_fault}

-- a text has at most one reading
pub one_reading : (x : List ℕ) (ts us : List Token) (cs ds : List Comment) → Reads x ts cs → Reads x us ds
    → (ts ≡ us) × (cs ≡ ds)
one_reading x ts us cs ds r s =
    let o : Once r.pieces s.pieces [] [] = once [] r.pieces s.pieces [] []
    (append-nil (pieces_text r.pieces) ∙ (sym r.whole ∙ (s.whole ∙ sym (append-nil (pieces_text s.pieces)))))
    r.each s.each (halts_at_end _) (halts_at_end _) in (
      r.tokens_are ∙ (ap (tokens_of []) o.pieces ∙ sym s.tokens_are),
      r.comments_are
          ∙ (ap (comments_of []) o.pieces ∙ sym s.comments_are),
    )

same_look : (ps qs : List Piece) (a b : List ℕ) → ps ≡ qs → a ≡ b
    → look_at (goal_of (behind [] ps)) (length (pieces_text ps)) a
    ≡ look_at (goal_of (behind [] qs)) (length (pieces_text qs)) b
same_look ps qs a b p q = cc

-- at the end of a text of which all brackets are closed
end_by : (goal : Goal) (at : ℕ) → goal.bracket ≡ None → look_at goal at [] ≡ look.End
unfolding look_at end_look
end_by goal at e = rw e refl

closed_goal : (before : List Piece) → open_at 0 before ≡ None → (goal_of before).bracket ≡ None
unfolding goal_of
closed_goal before e = rw e refl

-- and at most one first fault
pub one_fault : (x : List ℕ) (k l : LexicalKind) (at by : ℕ) → Stops x k at → Stops x l by → (k ≡ l) × (at ≡ by)
one_fault x k l at by r s =
    let o : Once r.pieces s.pieces r.rest s.rest =
    once [] r.pieces s.pieces r.rest s.rest (sym r.whole ∙ s.whole) r.each s.each
    (halts_at_fault _ r.rest _ k at r.stuck) (halts_at_fault _ s.rest _ l by s.stuck) in
    let same : look.Fault k at ≡ look.Fault l by =
    sym (stuck_reads _ r.rest _ k at r.stuck)
    ∙ (same_look r.pieces s.pieces r.rest s.rest o.pieces o.rests
    ∙ stuck_reads _ s.rest _ l by s.stuck) in
    (cc, cc)

-- and not both
pub no_reading_stops : (x : List ℕ) (ts : List Token) (cs : List Comment) (k : LexicalKind) (at : ℕ) → Reads x ts cs
    → Stops x k at → ⊥
no_reading_stops x ts cs k at r s =
    let o : Once r.pieces s.pieces [] s.rest = once [] r.pieces s.pieces [] s.rest
    (append-nil (pieces_text r.pieces) ∙ (sym r.whole ∙ s.whole)) r.each s.each (halts_at_end _)
    (halts_at_fault _ s.rest _ k at s.stuck) in
    let same : look.End ≡ look.Fault k at =
    sym (end_by (goal_of (behind [] r.pieces)) (length (pieces_text r.pieces))
    (closed_goal (behind [] r.pieces) r.all_closed))
    ∙ (same_look r.pieces s.pieces [] s.rest o.pieces o.rests ∙ stuck_reads _ s.rest _ k at s.stuck) in
    cc

-- ---- where tokens stand
reads_at : (x : List ℕ) (ts : List Token) (cs : List Comment) (n : ℕ) (t : Token) → Reads x ts cs
    → slice_get ts n ≡ Some t → TokenAt x 0 t
reads_at x ts cs n t r g =
    token_at r.pieces [] x [] [] n t (r.whole ∙ sym (append-nil (pieces_text r.pieces))) refl r.each
    (ap (λ us. slice_get us n) (sym r.tokens_are) ∙ g)

-- a token is not empty and ends within the text
pub reads_within : (x : List ℕ) (ts : List Token) (cs : List Comment) (n : ℕ) (t : Token) → Reads x ts cs
    → slice_get ts n ≡ Some t
    → (t.range.start < t.range.end) × (t.range.end ≤ length x)
reads_within x ts cs n t r g = not_nothing x 0 t (reads_at x ts cs n t r g)

-- it splits no character
pub reads_boundary : (x : List ℕ) (ts : List Token) (cs : List Comment) (n : ℕ) (t : Token) → IsUtf8 x
    → Reads x ts cs → slice_get ts n ≡ Some t
    → IsCharBoundary x t.range.start × IsCharBoundary x t.range.end
reads_boundary x ts cs n t u r g =
    boundaries r.pieces [] x [] [] n t (r.whole ∙ sym (append-nil (pieces_text r.pieces))) refl r.each tt
    (ap (λ us. slice_get us n) (sym r.tokens_are) ∙ g)

-- it ends where the next one begins, or before
pub reads_ascend : (x : List ℕ) (ts : List Token) (cs : List Comment) (n : ℕ) (t u : Token) → Reads x ts cs
    → slice_get ts n ≡ Some t → slice_get ts (n + 1) ≡ Some u → t.range.end ≤ u.range.start
reads_ascend x ts cs n t u r f g =
    ascends r.pieces [] x [] [] n t u (r.whole ∙ sym (append-nil (pieces_text r.pieces))) refl r.each
    (ap (λ us. slice_get us n) (sym r.tokens_are) ∙ f)
    (ap (λ us. slice_get us (suc n)) (sym r.tokens_are) ∙ (ap (slice_get ts) (sym (add-one n)) ∙ g))

-- the slice at its range spells its kind
pub reads_spells : (x : List ℕ) (ts : List Token) (cs : List Comment) (n : ℕ) (t : Token) → Reads x ts cs
    → slice_get ts n ≡ Some t
    → (goal : Goal) × Spells goal t.kind (slice_range x t.range.start t.range.end)
reads_spells x ts cs n t r g =
    let a : TokenAt x 0 t = reads_at x ts cs n t r g in
    (a.goal, subst (Spells a.goal t.kind) (sym (cuts x 0 t a)) a.spells)

-- a Str's slice is a string literal
pub reads_str : (x : List ℕ) (ts : List Token) (cs : List Comment) (n : ℕ) (t : Token) → Reads x ts cs
    → slice_get ts n ≡ Some t → t.kind ≡ Str
    → IsString (slice_range x t.range.start t.range.end)
reads_str x ts cs n t r g e = let s : (goal : Goal) × Spells goal t.kind (slice_range x t.range.start t.range.end) =
    reads_spells x ts cs n t r g in
    literal_of s.0 t.kind _ e s.1

-- a comment's slice is its text within its delimiters
pub reads_comment : (x : List ℕ) (ts : List Token) (cs : List Comment) (n : ℕ) (c : Comment) → Reads x ts cs
    → slice_get cs n ≡ Some c
    → slice_range x c.range.start c.range.end ≡ comment_spelling c.kind c.text
reads_comment x ts cs n c r g =
    comment_cuts x c (comment_at r.pieces [] x [] [] n c (r.whole ∙ sym (append-nil (pieces_text r.pieces))) refl
    (ap (λ ds. slice_get ds n) (sym r.comments_are) ∙ g))

-- it is not empty and ends within the text
pub reads_comment_within : (x : List ℕ) (ts : List Token) (cs : List Comment) (n : ℕ) (c : Comment) → Reads x ts cs
    → slice_get cs n ≡ Some c
    → (c.range.start < c.range.end) × (c.range.end ≤ length x)
reads_comment_within x ts cs n c r g =
    comment_inside x c (comment_at r.pieces [] x [] [] n c (r.whole ∙ sym (append-nil (pieces_text r.pieces))) refl
    (ap (λ ds. slice_get ds n) (sym r.comments_are) ∙ g))

-- ---- what stands between tokens
-- each byte that no token and no comment has belongs to a blank or to a line end
pub reads_gaps : (x : List ℕ) (ts : List Token) (cs : List Comment) (place : ℕ) → Reads x ts cs → place < length x
    → ((n : ℕ) (t : Token) → slice_get ts n ≡ Some t → IsOutside place t.range)
    → ((n : ℕ) (c : Comment) → slice_get cs n ≡ Some c → IsOutside place c.range) → GapAt x place
reads_gaps x ts cs place r l t c =
    let size : length x ≡ length (pieces_text r.pieces) = ap length r.whole in
    left_over r.pieces [] x [] [] place (r.whole ∙ sym (append-nil (pieces_text r.pieces))) refl r.each
    (λ n u e. t n u (ap (λ us. slice_get us n) r.tokens_are ∙ e))
    (λ n d e. c n d (ap (λ ds. slice_get ds n) r.comments_are ∙ e)) (omega arith) (omega arith)

-- a line end stands before a token exactly where one stands between the token before it and its start
pub reads_line_before : (x : List ℕ) (ts : List Token) (cs : List Comment) (n : ℕ) (t u : Token) → Reads x ts cs
    → slice_get ts n ≡ Some t → slice_get ts (n + 1) ≡ Some u
    → u.line_before ≡ has_line_end (slice_range x t.range.end u.range.start)
reads_line_before x ts cs n t u r f g =
    line_of_next r.pieces [] x [] [] n t u (r.whole ∙ sym (append-nil (pieces_text r.pieces))) refl r.each
    (ap (λ us. slice_get us n) (sym r.tokens_are) ∙ f)
    (ap (λ us. slice_get us (suc n)) (sym r.tokens_are) ∙ (ap (slice_get ts) (sym (add-one n)) ∙ g))

-- and never before the first
pub reads_first_line : (x : List ℕ) (ts : List Token) (cs : List Comment) (u : Token) → Reads x ts cs
    → slice_get ts 0 ≡ Some u → u.line_before ≡ false
unfolding is_behind line_since
reads_first_line x ts cs u r g =
    first_line r.pieces [] u refl refl (ap (λ us. slice_get us 0) (sym r.tokens_are) ∙ g)

-- a comment ends where the next one begins, or before
pub reads_comments_ascend : (x : List ℕ) (ts : List Token) (cs : List Comment) (n : ℕ) (c d : Comment) → Reads x ts cs
    → slice_get cs n ≡ Some c → slice_get cs (n + 1) ≡ Some d → c.range.end ≤ d.range.start
reads_comments_ascend x ts cs n c d r f g =
    comments_ascend r.pieces [] n c d (ap (λ us. slice_get us n) (sym r.comments_are) ∙ f)
    (ap (λ us. slice_get us (suc n)) (sym r.comments_are) ∙ (ap (slice_get cs) (sym (add-one n)) ∙ g))

-- a token and a comment stand apart
pub reads_apart : (x : List ℕ) (ts : List Token) (cs : List Comment) (m n : ℕ) (t : Token) (c : Comment)
    → Reads x ts cs → slice_get ts m ≡ Some t → slice_get cs n ≡ Some c
    → (t.range.end ≤ c.range.start) ⊎ (c.range.end ≤ t.range.start)
reads_apart x ts cs m n t c r f g =
    stand_apart r.pieces [] m n t c (ap (λ us. slice_get us m) (sym r.tokens_are) ∙ f)
    (ap (λ us. slice_get us n) (sym r.comments_are) ∙ g)

-- ---- a text reads or stops
whole_text : (x : List ℕ) → Ended [] 0 x
    → ((ts : List Token) × ((cs : List Comment) × Reads x ts cs)) ⊎ ((k : LexicalKind) × ((at : ℕ) × Stops x k at))
whole_text x (reads ps w h e) =
    inl (
      tokens_of [] ps,
      (
        comments_of [] ps,
        record {
          pieces = ps;
          whole = w ∙ append-nil (pieces_text ps);
          each = h;
          all_closed = e;
          tokens_are = refl;
          comments_are = refl;
        },
      ),
    )
whole_text x (stops ps rest k place w h s) =
    inr (
      k,
      (
        place,
        record {
          pieces = ps;
          rest = rest;
          whole = w;
          each = h;
          stuck = subst (λ (n : ℕ). Stuck (goal_of (behind [] ps)) rest n k place)
              (let q : 0 + length (pieces_text ps) ≡ length (pieces_text ps) = omega arith in q) s;
        },
      ),
    )

pub reads_or_stops : (x : List ℕ)
    → ((ts : List Token) × ((cs : List Comment) × Reads x ts cs)) ⊎ ((k : LexicalKind) × ((at : ℕ) × Stops x k at))
reads_or_stops x = whole_text x (cut_from (length x) [] 0 x (omega arith))

-- ---- brackets
-- the partner of an opening bracket closes it, and has it for its own partner
pub reads_partner : (x : List ℕ) (ts : List Token) (cs : List Comment) (n m : ℕ) (t : Token) (k : BracketKind)
    → Reads x ts cs → slice_get ts n ≡ Some t → role_of t.kind ≡ Opens k → t.partner ≡ Some m → ClosedBy ts 0 m n
unfolding count_of
reads_partner x ts cs n m t k r g o p =
    let c : ClosedBy (tokens_of [] r.pieces) 0 m (0 + n) =
    opener_back r.pieces [] n m t k (ap (λ us. slice_get us n) (sym r.tokens_are) ∙ g) o p in
    subst (λ (us : List Token). ClosedBy us 0 m n) (sym r.tokens_are)
    (subst (ClosedBy (tokens_of [] r.pieces) 0 m) (let q : 0 + n ≡ n = omega arith in q) c)
