-- Two cuttings of one text into pieces agree.
use Rattle.std.proofs.Common.{◌≡◌, ℕ, ◌+◌, List, [], ◌∷◌, ◌++◌, length, Option, Some, None, refl, sym, ◌∙◌, ap, subst, arith, append_assoc}
use Rattle.std.proofs.lemmas.List.{append_cancel_right}
use Rattle.es_lexer.specs.declared.look.Look.TheVariants as look
use Rattle.es_token.specs.declared.token.TokenKind.{TokenKind}
use Rattle.es_token.specs.declared.token.CommentKind.{CommentKind}
use Rattle.es_token.specs.declared.token.CommentKind.TheVariants.{Line, Block}
use Rattle.es_lexer.specs.declared.error.LexicalKind.{LexicalKind}
use Rattle.es_lexer.specs.declared.goal.Goal.{Goal}
use Rattle.es_lexer.specs.declared.bracket.BracketKind.{BracketKind}
use Rattle.es_lexer.specs.Goal.{goal_of}
use Rattle.es_lexer.specs.Pieces.{Piece, blank, line_end, comment, token, spelling, pieces_text, comment_spelling, behind}
use Rattle.es_lexer.specs.Readable.{IsPiece, ArePieces}
use Rattle.es_lexer.specs.Stops.{Stuck}
use Rattle.es_lexer.specs.Look.{end_look, look_at}
use Rattle.es_lexer.proofs.LookLemmas.{reading_of, piece_reads, stuck_reads}

-- two cuts of one text behind the same number of bytes are one
same_cut : (s t a b : List ℕ) → s ++ a ≡ t ++ b → length s ≡ length t → (s ≡ t) × (a ≡ b)
same_cut [] [] a b e l = (refl, e)
same_cut [] (y ∷ t) a b e l = absurd (omega arith)
same_cut (x ∷ s) [] a b e l = absurd (omega arith)
same_cut (x ∷ s) (y ∷ t) a b e l =
    let heads : x ≡ y = cc in
    let tails : s ++ a ≡ t ++ b = cc in
    let both : (s ≡ t) × (a ≡ b) = same_cut s t a b tails (omega arith) in
    let fronts : s ≡ t = both.0 in
    (cc, both.1)

-- ---- one piece at one place
-- a comment's spelling tells its text
comment_text : (kind : CommentKind) (s t : List ℕ) → comment_spelling kind s ≡ comment_spelling kind t → s ≡ t
unfolding comment_spelling
comment_text Line s t e = cc
comment_text Block s t e = append_cancel_right s t (42 ∷ 47 ∷ [])
    (let f : s ++ 42 ∷ 47 ∷ [] ≡ t ++ 42 ∷ 47 ∷ [] = cc in f)

-- what a look answers and the text tell the piece
pub record Same (p q : Piece) (a b : List ℕ) : Type 0 where
  pub pieces : p ≡ q
  pub rests : a ≡ b

same_comment : (k l : CommentKind) (s t a b : List ℕ) → k ≡ l
    → length (comment_spelling k s) ≡ length (comment_spelling l t)
    → comment_spelling k s ++ a ≡ comment_spelling l t ++ b → Same (comment k s) (comment l t) a b
same_comment k l s t a b e n w =
    let cut : (comment_spelling k s ≡ comment_spelling l t) × (a ≡ b) =
    same_cut (comment_spelling k s) (comment_spelling l t) a b w n in
    let texts : s ≡ t = comment_text l s t (ap (λ k. comment_spelling k s) (sym e) ∙ cut.0) in
    record { pieces = cc; rests = cut.1 }

same_token : (k l : TokenKind) (s t a b : List ℕ) → k ≡ l → length s ≡ length t → s ++ a ≡ t ++ b
    → Same (token k s) (token l t) a b
same_token k l s t a b e n w =
    let cut : (s ≡ t) × (a ≡ b) = same_cut s t a b w n in
    let texts : s ≡ t = cut.0 in
    record { pieces = cc; rests = cut.1 }

same_by : (p q : Piece) (a b : List ℕ) → spelling p ++ a ≡ spelling q ++ b → reading_of 0 p ≡ reading_of 0 q
    → Same p q a b
same_by (blank s) (blank t) a b w r =
    let ends : 0 + length s ≡ 0 + length t = cc in
    let cut : (s ≡ t) × (a ≡ b) = same_cut s t a b w (omega arith) in
    record { pieces = ap blank cut.0; rests = cut.1 }
same_by (blank x) (line_end y) a b w r = cc
same_by (blank x) (comment k s) a b w r = cc
same_by (blank x) (token k s) a b w r = cc
same_by (line_end x) (blank y) a b w r = cc
same_by (line_end s) (line_end t) a b w r =
    let ends : 0 + length s ≡ 0 + length t = cc in
    let cut : (s ≡ t) × (a ≡ b) = same_cut s t a b w (omega arith) in
    record { pieces = ap line_end cut.0; rests = cut.1 }
same_by (line_end x) (comment k s) a b w r = cc
same_by (line_end x) (token k s) a b w r = cc
same_by (comment k s) (blank y) a b w r = cc
same_by (comment k s) (line_end y) a b w r = cc
same_by (comment k s) (comment l t) a b w r =
    let kinds : k ≡ l = cc in
    let ends : 0 + length (comment_spelling k s) ≡ 0 + length (comment_spelling l t) = cc in
    same_comment k l s t a b kinds (omega arith) w
same_by (comment k s) (token l t) a b w r = cc
same_by (token k s) (blank y) a b w r = cc
same_by (token k s) (line_end y) a b w r = cc
same_by (token k s) (comment l t) a b w r = cc
same_by (token k s) (token l t) a b w r =
    let kinds : k ≡ l = cc in
    let ends : 0 + length s ≡ 0 + length t = cc in
    same_token k l s t a b kinds (omega arith) w

pub same_piece : (goal : Goal) (p q : Piece) (a b : List ℕ) → spelling p ++ a ≡ spelling q ++ b → IsPiece goal p a
    → IsPiece goal q b
    → Same p q a b
same_piece goal p q a b w f g =
    same_by p q a b w (sym (piece_reads goal 0 p a f) ∙ (ap (look_at goal 0) w ∙ piece_reads goal 0 q b g))

-- ---- the end
-- no piece stands at the front
abbrev pub Halts : Goal → List ℕ → Type 0
Halts goal text = (p : Piece) (after : List ℕ) → text ≡ spelling p ++ after → IsPiece goal p after → ⊥

no_end : (bracket : Option BracketKind) (p : Piece) → end_look bracket 0 ≡ reading_of 0 p → ⊥
unfolding end_look
no_end None (blank s) e = cc
no_end None (line_end s) e = cc
no_end None (comment k s) e = cc
no_end None (token k s) e = cc
no_end (Some bracket) (blank s) e = cc
no_end (Some bracket) (line_end s) e = cc
no_end (Some bracket) (comment k s) e = cc
no_end (Some bracket) (token k s) e = cc

no_fault : (kind : LexicalKind) (place at : ℕ) (p : Piece) → look.Fault kind place ≡ reading_of at p → ⊥
no_fault kind place at (blank b) e = cc
no_fault kind place at (line_end b) e = cc
no_fault kind place at (comment k s) e = cc
no_fault kind place at (token k s) e = cc

pub halts_at_end : (goal : Goal) → Halts goal []
unfolding look_at
halts_at_end goal p after w h = no_end goal.bracket p (ap (look_at goal 0) w ∙ piece_reads goal 0 p after h)

pub halts_at_fault : (goal : Goal) (rest : List ℕ) (at : ℕ) (kind : LexicalKind) (place : ℕ)
    → Stuck goal rest at kind place → Halts goal rest
halts_at_fault goal rest at kind place s p after w h =
    no_fault kind place at p
    (sym (stuck_reads goal rest at kind place s) ∙ (ap (look_at goal at) w ∙ piece_reads goal at p after h))

-- ---- whole texts
pub record Once (ps qs : List Piece) (a b : List ℕ) : Type 0 where
  pub pieces : ps ≡ qs
  pub rests : a ≡ b

once_more : (p q : Piece) (ps qs : List Piece) (a b : List ℕ) → p ≡ q → Once ps qs a b → Once (p ∷ ps) (q ∷ qs) a b
once_more p q ps qs a b e o = let f : ps ≡ qs = o.pieces in record { pieces = cc; rests = o.rests }

pub once : (before : List Piece) (ps qs : List Piece) (a b : List ℕ) → pieces_text ps ++ a ≡ pieces_text qs ++ b
    → ArePieces before ps a → ArePieces before qs b → Halts (goal_of (behind before ps)) a
    → Halts (goal_of (behind before qs)) b → Once ps qs a b
once before [] [] a b w f g h i = record { pieces = refl; rests = w }
once before [] (q ∷ qs) a b w f g h i =
    absurd (h q (pieces_text qs ++ b) (w ∙ append_assoc (spelling q) (pieces_text qs) b) g.0)
once before (p ∷ ps) [] a b w f g h i =
    absurd (i p (pieces_text ps ++ a) (sym w ∙ append_assoc (spelling p) (pieces_text ps) a) f.0)
once before (p ∷ ps) (q ∷ qs) a b w f g h i =
    let s : Same p q (pieces_text ps ++ a) (pieces_text qs ++ b) =
    same_piece (goal_of before) p q (pieces_text ps ++ a) (pieces_text qs ++ b)
    (sym (append_assoc (spelling p) (pieces_text ps) a) ∙ (w ∙ append_assoc (spelling q) (pieces_text qs) b)) f.0 g.0 in
    let others : ArePieces (p ∷ before) qs b =
    subst (λ (r : Piece). ArePieces (r ∷ before) qs b) (sym s.pieces) g.1 in
    let halts : Halts (goal_of (behind (p ∷ before) qs)) b =
    subst (λ (r : Piece). Halts (goal_of (behind (r ∷ before) qs)) b) (sym s.pieces) i in
    once_more p q ps qs a b s.pieces (once (p ∷ before) ps qs a b s.rests f.1 others h halts)
