-- What the new text has where its tokens stand.
use Rattle.std.proofs.Common.{◌≡◌, ℕ, ◌+◌, ◌<◌, ◌≤◌, Bool, true, false, ◌&&◌, ◌==◌, List, [], ◌∷◌, ◌++◌, length, map, slice_range, refl, sym, ◌∙◌, ap, arith, length-append, append_assoc, if◌then◌else◌}
use Rattle.std.proofs.lemmas.Bool.{eq-eqb, ne_eqb}
use Rattle.std.proofs.lemmas.Simd.{map-map}
use Rattle.base.specs.declared.range.Range.{Range}
use Rattle.es_literal.specs.Strings.{IsString}
use Rattle.es_token.specs.declared.token.Token.{Token}
use Rattle.es_token.specs.declared.token.Comment.{Comment}
use Rattle.es_token.specs.declared.token.TokenKind.{TokenKind}
use Rattle.es_token.specs.declared.token.TokenKind.TheVariants.{Str}
use Rattle.es_lexer.specs.declared.goal.Goal.{Goal}
use Rattle.es_lexer.specs.Goal.{goal_of}
use Rattle.es_lexer.specs.Pieces.{Piece, blank, line_end, comment, token, spelling, comment_spelling, pieces_text, place_of}
use Rattle.es_lexer.specs.Readable.{ArePieces, IsToken}
use Rattle.es_lexer.specs.Reads.{Reads, range_at, tokens_of}
use Rattle.es_lexer.proofs.SpellingLemmas.{not_empty}
use Rattle.es_lexer.specs.Spelling.{Spells}
use Rattle.source_text.specs.declared.text_changes.change.TextChange.{TextChange}
use Rattle.es_law_edits.specs.tokens.Moved.{moved, range_to, token_to, cut, is_range, text_to}
use Rattle.es_law_edits.proofs.tokens.Alike.{none}
use Rattle.es_law_edits.proofs.tokens.Places.{change_of, Changes, ends, kept, changed, string_bytes, cut_kept, all_move, tokens_move}

-- the spellings of the tokens among pieces
unfoldable spellings : List Piece → List (List ℕ)
spellings [] = []
spellings (blank s ∷ ps) = spellings ps
spellings (line_end s ∷ ps) = spellings ps
spellings (comment k s ∷ ps) = spellings ps
spellings (token k s ∷ ps) = s ∷ spellings ps

-- ---- each token of a text stands for its spelling
behind : (at : ℕ) (front s : List ℕ) → at ≡ length front → at + length s ≡ length (front ++ s)
behind at front s e = omega (arith, e, length-append front s)

whole_behind : (x front s : List ℕ) (ps : List Piece) → x ≡ front ++ (s ++ pieces_text ps)
    → x ≡ (front ++ s) ++ pieces_text ps
whole_behind x front s ps w = w ∙ sym (append_assoc front s (pieces_text ps))

token_cut : (at : ℕ) (x front s : List ℕ) (ps : List Piece) → x ≡ front ++ (s ++ pieces_text ps) → at ≡ length front
    → cut x (range_at at (length s)) ≡ s
token_cut at x front s ps w e =
    ap (λ n. slice_range x n (n + length s)) e ∙ cut_kept front s (pieces_text ps) x w

tokens_cut : (ps before : List Piece) (x front : List ℕ) → x ≡ front ++ pieces_text ps → place_of before ≡ length front
    → map (λ (t : Token). cut x t.range) (tokens_of before ps) ≡ spellings ps
unfolding tokens_of spellings
tokens_cut [] before x front w e = refl
tokens_cut (blank s ∷ ps) before x front w e =
    tokens_cut ps (blank s ∷ before) x (front ++ s) (whole_behind x front s ps w) (behind (place_of before) front s e)
tokens_cut (line_end s ∷ ps) before x front w e =
    tokens_cut ps (line_end s ∷ before) x (front ++ s) (whole_behind x front s ps w)
    (behind (place_of before) front s e)
tokens_cut (comment k s ∷ ps) before x front w e =
    tokens_cut ps (comment k s ∷ before) x (front ++ comment_spelling k s)
    (whole_behind x front (comment_spelling k s) ps w) (behind (place_of before) front (comment_spelling k s) e)
tokens_cut (token k s ∷ ps) before x front w e =
    let others = tokens_cut ps (token k s ∷ before) x (front ++ s) (whole_behind x front s ps w)
    (behind (place_of before) front s e) in
    ap (λ y. y ∷ map (λ (t : Token). cut x t.range) (tokens_of (token k s ∷ before) ps))
    (token_cut (place_of before) x front s ps w e) ∙ ap (λ ys. s ∷ ys) others

-- ---- and so says the definition of the new ones
pub other_start : (c r : Range) → (c.start ≡ r.start → ⊥) → is_range c r ≡ false
other_start c r differs = ap (λ (b : Bool). b && c.end == r.end) (ne_eqb c.start r.start differs)

same_range : (a b : ℕ) → is_range (record { start = a; end = b }) (record { start = a; end = b }) ≡ true
same_range a b = ap (λ (c : Bool). c && b == b) (eq-eqb a a refl) ∙ eq-eqb b b refl

pub passed : (c : TextChange) (cs : List TextChange) (x : List ℕ) (r : Range) → is_range c.range r ≡ false
    → text_to (c ∷ cs) x r ≡ text_to cs x r
unfolding text_to
passed c cs x r other = ap (λ (b : Bool). if b then c.new_text else text_to cs x r) other

pub met : (a b : ℕ) (t : List ℕ) (cs : List TextChange) (x : List ℕ)
    → text_to (change_of a b t ∷ cs) x (record { start = a; end = b }) ≡ t
unfolding text_to
met a b t cs x = ap (λ (c : Bool). if c then t else text_to cs x (record { start = a; end = b })) (same_range a b)

-- no change from a place on is of a range that starts before it
none_here : (at : ℕ) (x : List ℕ) (r : Range) (ps qs : List Piece) (cs : List TextChange) → Changes at ps qs cs
    → r.start < at → text_to cs x r ≡ cut x r
unfolding text_to
none_here at x r ps qs cs (ends n) l = refl
none_here at x r ps qs cs (kept n p rs us ds h) l = none_here (at + length (spelling p)) x r rs us ds h (omega arith)
none_here at x r ps qs cs (changed n s t rs us ds i j h) l =
    passed (change_of at (at + length s) t) ds x r (other_start _ r (λ e. omega (arith, e)))
    ∙ none_here (at + length s) x r rs us ds h (omega arith)

-- what stands for the ranges from a place on is told by the changes from there on
abbrev TextFrom : (Range → List ℕ) → ℕ → List ℕ → List TextChange → Type 0
TextFrom f at x cs = (r : Range) → at ≤ r.start → f r ≡ text_to cs x r

later : (f : Range → List ℕ) (at n : ℕ) (x : List ℕ) (cs : List TextChange) → TextFrom f at x cs
    → TextFrom f (at + n) x cs
later f at n x cs h r l = h r (omega arith)

behind_change : (f : Range → List ℕ) (at : ℕ) (x s t : List ℕ) (cs : List TextChange) → IsString s
    → TextFrom f at x (change_of at (at + length s) t ∷ cs) → TextFrom f (at + length s) x cs
behind_change f at x s t cs i h r l =
    let some = string_bytes s i in
    h r (omega arith) ∙ passed (change_of at (at + length s) t) cs x r (other_start _ r (λ e. omega (arith, e)))

token_bytes : (goal : Goal) (k : TokenKind) (s : List ℕ) → Spells goal k s → 0 < length s
token_bytes goal k [] h = absurd (not_empty goal k h)
token_bytes goal k (b ∷ s) h = omega arith

kept_text : (f : Range → List ℕ) (at : ℕ) (x front s : List ℕ) (ps qs : List Piece) (cs : List TextChange)
    → 0 < length s
    → x ≡ front ++ (s ++ pieces_text ps) → at ≡ length front → TextFrom f at x cs → Changes (at + length s) ps qs cs
    → f (range_at at (length s)) ≡ s
kept_text f at x front s ps qs cs some w e h c =
    h (range_at at (length s)) (omega arith)
    ∙ (none_here (at + length s) x (range_at at (length s)) ps qs cs c (omega arith) ∙ token_cut at x front s ps w e)

changed_text : (f : Range → List ℕ) (at : ℕ) (x s t : List ℕ) (cs : List TextChange)
    → TextFrom f at x (change_of at (at + length s) t ∷ cs) → f (range_at at (length s)) ≡ t
changed_text f at x s t cs h = h (range_at at (length s)) (omega arith) ∙ met at (at + length s) t cs x

one_more : (f : Range → List ℕ) (before ps qs : List Piece) (k : TokenKind) (s t : List ℕ) (at : ℕ)
    → at ≡ place_of before
    → f (range_at at (length s)) ≡ t
    → map (λ (u : Token). f u.range) (tokens_of (token k s ∷ before) ps) ≡ spellings qs
    → map (λ (u : Token). f u.range) (tokens_of before (token k s ∷ ps)) ≡ spellings (token k t ∷ qs)
unfolding tokens_of spellings
one_more f before ps qs k s t at e first others =
    ap (λ y. y ∷ map (λ (u : Token). f u.range) (tokens_of (token k s ∷ before) ps))
    (ap (λ n. f (range_at n (length s))) (sym e) ∙ first) ∙ ap (λ ys. t ∷ ys) others

texts_told : (f : Range → List ℕ) (before ps qs : List Piece) (cs : List TextChange) (at : ℕ) (x front : List ℕ)
    → x ≡ front ++ pieces_text ps → at ≡ length front → at ≡ place_of before → ArePieces before ps []
    → TextFrom f at x cs
    → Changes at ps qs cs → map (λ (u : Token). f u.range) (tokens_of before ps) ≡ spellings qs
unfolding tokens_of spellings
texts_told f before ps qs cs at x front w e g a h (ends n) = refl
texts_told f before ps qs cs at x front w e g a h (kept n (blank s) rs us ds c) =
    texts_told f (blank s ∷ before) rs us ds (at + length s) x (front ++ s) (whole_behind x front s rs w)
    (behind at front s e) (omega (arith, g)) a.1 (later f at (length s) x ds h) c
texts_told f before ps qs cs at x front w e g a h (kept n (line_end s) rs us ds c) =
    texts_told f (line_end s ∷ before) rs us ds (at + length s) x (front ++ s) (whole_behind x front s rs w)
    (behind at front s e) (omega (arith, g)) a.1 (later f at (length s) x ds h) c
texts_told f before ps qs cs at x front w e g a h (kept n (comment k s) rs us ds c) =
    texts_told f (comment k s ∷ before) rs us ds (at + length (comment_spelling k s)) x (front ++ comment_spelling k s)
    (whole_behind x front (comment_spelling k s) rs w) (behind at front (comment_spelling k s) e) (omega (arith, g)) a.1
    (later f at (length (comment_spelling k s)) x ds h) c
texts_told f before ps qs cs at x front w e g a h (kept n (token k s) rs us ds c) =
    let t : IsToken (goal_of before) k s (pieces_text rs ++ []) = a.0 in
    one_more f before rs us k s s at g
    (kept_text f at x front s rs us ds (token_bytes (goal_of before) k s t.spells) w e h c)
    (texts_told f (token k s ∷ before) rs us ds (at + length s) x (front ++ s) (whole_behind x front s rs w)
    (behind at front s e) (omega (arith, g)) a.1 (later f at (length s) x ds h) c)
texts_told f before ps qs cs at x front w e g a h (changed n s t rs us ds i j c) =
    one_more f before rs us Str s t at g (changed_text f at x s t ds h)
    (texts_told f (token Str s ∷ before) rs us ds (at + length s) x (front ++ s) (whole_behind x front s rs w)
    (behind at front s e) (omega (arith, g)) a.1 (behind_change f at x s t ds i h) c)

-- ---- the law
old_tokens : (x : List ℕ) (ts : List Token) (cs : List Comment) (r : Reads x ts cs) (qs : List Piece)
    (changes : List TextChange) → Changes 0 r.pieces qs changes
    → map (λ (t : Token). text_to changes x t.range) ts ≡ spellings qs
old_tokens x ts cs r qs changes c =
    ap (map (λ (t : Token). text_to changes x t.range)) r.tokens_are
    ∙ texts_told (text_to changes x) [] r.pieces qs changes 0 x [] r.whole refl refl r.each (λ r l. refl) c

new_tokens : (x : List ℕ) (ts : List Token) (cs : List Comment) (r : Reads x ts cs) (qs : List Piece)
    (changes : List TextChange) → Changes 0 r.pieces qs changes
    → map (λ (t : Token). cut (pieces_text qs) (range_to (moved changes) t.range)) ts ≡ spellings qs
new_tokens x ts cs r qs changes c =
    let moves : tokens_of [] qs ≡ map (token_to (moved changes)) ts =
    tokens_move (moved changes) [] [] r.pieces qs changes 0 0 0 none refl (all_move changes) c refl
    ∙ ap (map (token_to (moved changes))) (sym r.tokens_are) in
    sym (map-map (λ (t : Token). cut (pieces_text qs) t.range) (token_to (moved changes)) ts)
    ∙ (ap (map (λ (t : Token). cut (pieces_text qs) t.range)) (sym moves)
    ∙ tokens_cut qs [] (pieces_text qs) [] refl refl)

-- where a token moved to, the new text has the new literal, or what the old one has at the token
pub texts_moved : (x : List ℕ) (ts : List Token) (cs : List Comment) (r : Reads x ts cs) (qs : List Piece)
    (changes : List TextChange) → Changes 0 r.pieces qs changes
    → map (λ (t : Token). cut (pieces_text qs) (range_to (moved changes) t.range)) ts
    ≡ map (λ (t : Token). text_to changes x t.range) ts
texts_moved x ts cs r qs changes c = new_tokens x ts cs r qs changes c ∙ sym (old_tokens x ts cs r qs changes c)
