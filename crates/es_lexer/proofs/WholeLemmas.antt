-- Each text is cut into pieces up to its end or up to a fault.
use Rattle.std.proofs.Common.{◌≡◌, ℕ, zero, suc, ◌+◌, ◌<◌, ◌≤◌, List, [], ◌∷◌, ◌++◌, length, Option, Some, None, refl, sym, ◌∙◌, ap, subst, arith, length-append, append_assoc, inl, inr}
use Rattle.es_lexer.specs.declared.error.LexicalKind.{LexicalKind}
use Rattle.es_lexer.specs.declared.goal.Goal.{Goal}
use Rattle.es_token.specs.declared.token.CommentKind.{CommentKind}
use Rattle.es_token.specs.declared.token.CommentKind.TheVariants.{Line, Block}
use Rattle.es_lexer.specs.Goal.{goal_of}
use Rattle.es_lexer.specs.Pieces.{Piece, blank, line_end, comment, token, Open, spelling, comment_spelling, pieces_text, behind, open_at, bracket_of}
use Rattle.es_lexer.specs.Readable.{IsPiece, ArePieces}
use Rattle.es_lexer.specs.Stops.{Stuck}
use Rattle.es_lexer.specs.Look.{look_at}
use Rattle.es_lexer.proofs.SpellingLemmas.{not_empty}
use Rattle.es_lexer.proofs.LookLemmas.{Found, ended, piece, fault, look_finds}

-- the text at a place, behind these pieces, reads to its end or stops
pub data Ended (before : List Piece) (at : ℕ) (text : List ℕ) : Type 0 where
  reads : (ps : List Piece) → text ≡ pieces_text ps ++ [] → ArePieces before ps [] → open_at 0 (behind before ps) ≡ None
      → Ended before at text
  stops : (ps : List Piece) (rest : List ℕ) (k : LexicalKind) (place : ℕ) → text ≡ pieces_text ps ++ rest
      → ArePieces before ps rest → Stuck (goal_of (behind before ps)) rest (at + length (pieces_text ps)) k place
      → Ended before at text

comment_bytes : (kind : CommentKind) (text : List ℕ) → 0 < length (comment_spelling kind text)
unfolding comment_spelling
comment_bytes Line text = omega arith
comment_bytes Block text = omega arith

-- a piece is not empty
some_bytes : (goal : Goal) (p : Piece) (after : List ℕ) → IsPiece goal p after → 0 < length (spelling p)
some_bytes goal (blank s) after (inl h) = let e : length s ≡ 1 = ap length h.whole in omega arith
some_bytes goal (blank s) after (inr h) = h.0
some_bytes goal (line_end s) after (inl h) = let e : length s ≡ 1 = ap length h.whole in omega arith
some_bytes goal (line_end s) after (inr h) = h.0
some_bytes goal (comment kind text) after h = comment_bytes kind text
some_bytes goal (token k []) after h = absurd (not_empty goal k h.spells)
some_bytes goal (token k (b ∷ s)) after h = omega arith

none_by : (o : Option Open) → bracket_of o ≡ None → o ≡ None
none_by None e = refl
none_by (Some o) e = cc

closed_at : (before : List Piece) → (goal_of before).bracket ≡ None → open_at 0 before ≡ None
unfolding goal_of
closed_at before e = none_by (open_at 0 before) e

-- a piece in front
more : (before : List Piece) (at : ℕ) (p : Piece) (after text : List ℕ) → text ≡ spelling p ++ after
    → IsPiece (goal_of before) p after → Ended (p ∷ before) (at + length (spelling p)) after → Ended before at text
more before at p after text w h (reads ps v each e) =
    reads (p ∷ ps) (w ∙ (ap (λ t. spelling p ++ t) v ∙ sym (append_assoc (spelling p) (pieces_text ps) [])))
    (subst (IsPiece (goal_of before) p) v h, each) e
more before at p after text w h (stops ps rest k place v each s) =
    stops (p ∷ ps) rest k place
    (w ∙ (ap (λ t. spelling p ++ t) v ∙ sym (append_assoc (spelling p) (pieces_text ps) rest)))
    (subst (IsPiece (goal_of before) p) v h, each)
    (subst (λ (n : ℕ). Stuck (goal_of (behind (p ∷ before) ps)) rest n k place)
    (let e : at + length (spelling p) + length (pieces_text ps) ≡ at + length (spelling p ++ pieces_text ps) =
    omega (arith, length-append (spelling p) (pieces_text ps)) in e) s)

cut_step : (fuel : ℕ) → ((before : List Piece) (at : ℕ) (text : List ℕ) → length text ≤ fuel → Ended before at text)
    → (before : List Piece) (at : ℕ) (text : List ℕ) → length text ≤ suc fuel
    → Found (goal_of before) at text (look_at (goal_of before) at text) → Ended before at text
cut_step fuel go before at text l (ended w b e) = reads [] w tt (closed_at before b)
cut_step fuel go before at text l (piece p after w h e) =
    let some : 0 < length (spelling p) = some_bytes (goal_of before) p after h in
    let size : length text ≡ length (spelling p ++ after) = ap length w in
    more before at p after text w h
    (go (p ∷ before) (at + length (spelling p)) after (omega (arith, length-append (spelling p) after)))
cut_step fuel go before at text l (fault k place s e) =
    stops [] text k place refl tt
    (subst (λ (n : ℕ). Stuck (goal_of before) text n k place) (let q : at ≡ at + 0 = omega arith in q) s)

nothing_found : (before : List Piece) (at : ℕ) → Found (goal_of before) at [] (look_at (goal_of before) at [])
    → Ended before at []
nothing_found before at (ended w b e) = reads [] refl tt (closed_at before b)
nothing_found before at (piece p after w h e) =
    let some : 0 < length (spelling p) = some_bytes (goal_of before) p after h in
    let size : 0 ≡ length (spelling p ++ after) = ap length w in
    absurd (omega (arith, length-append (spelling p) after))
nothing_found before at (fault k place s e) =
    stops [] [] k place refl tt
    (subst (λ (n : ℕ). Stuck (goal_of before) [] n k place) (let q : at ≡ at + 0 = omega arith in q) s)

pub cut_from : (fuel : ℕ) (before : List Piece) (at : ℕ) (text : List ℕ) → length text ≤ fuel → Ended before at text
cut_from zero before at [] l = nothing_found before at (look_finds (goal_of before) at [])
cut_from zero before at (b ∷ text) l = absurd (omega arith)
cut_from (suc fuel) before at text l =
    cut_step fuel (cut_from fuel) before at text l (look_finds (goal_of before) at text)
