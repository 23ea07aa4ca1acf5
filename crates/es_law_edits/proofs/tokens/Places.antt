-- Where the tokens and comments of a text stand after string literals were replaced by others.
use Rattle.std.proofs.Common.{◌≡◌, ℕ, ◌+◌, ◌-◌, ◌<◌, ◌≤◌, true, false, nat_le, List, [], ◌∷◌, ◌++◌, length, map, refl, sym, ◌∙◌, ap, subst, arith, take, drop, slice_range}
use Rattle.std.proofs.lemmas.Bool.Decides.{nat_tests}
use Rattle.es_literal.specs.Strings.{IsString}
use Rattle.es_literal.specs.spelling.Units.{concat}
use Rattle.es_token.specs.declared.token.Token.{Token}
use Rattle.es_token.specs.declared.token.Comment.{Comment}
use Rattle.es_token.specs.declared.token.TokenKind.{TokenKind}
use Rattle.es_token.specs.declared.token.CommentKind.{CommentKind}
use Rattle.es_token.specs.declared.token.TokenKind.TheVariants.{Str}
use Rattle.es_lexer.specs.Brackets.{role_of}
use Rattle.es_lexer.specs.Pieces.{Piece, blank, line_end, comment, token, spelling, comment_spelling, pieces_text, place_of}
use Rattle.es_lexer.specs.Reads.{Reads, token_of, tokens_of, comment_of, comments_of}
use Rattle.grammar_theory.specs.Key.{keys_of}
use Rattle.source_text.specs.declared.text_changes.change.TextChange.{TextChange}
use Rattle.es_law_edits.specs.tokens.Moved.{added, removed, moved, token_to, comment_to}
use Rattle.es_law_edits.proofs.tokens.Alike.{same, other, AllAlike, none, one, same_line, reads_alike}
use Rattle.es_law_edits.proofs.tokens.Keys.{same_partner, reads_keys}

abbrev pub change_of : ℕ → ℕ → List ℕ → TextChange
change_of start end new_text = record { range = record { start = start; end = end }; new_text = new_text }

-- the pieces from a place on, with these changes, are those
pub data Changes : ℕ → List Piece → List Piece → List TextChange → Type 0 where
  ends : (at : ℕ) → Changes at [] [] []
  kept : (at : ℕ) (p : Piece) (ps qs : List Piece) (cs : List TextChange) → Changes (at + length (spelling p)) ps qs cs
      → Changes at (p ∷ ps) (p ∷ qs) cs
  changed : (at : ℕ) (s t : List ℕ) (ps qs : List Piece) (cs : List TextChange) → IsString s → IsString t
      → Changes (at + length s) ps qs cs
      → Changes at (token Str s ∷ ps) (token Str t ∷ qs) (change_of at (at + length s) t ∷ cs)

pub alike : (at : ℕ) (ps qs : List Piece) (cs : List TextChange) → Changes at ps qs cs → AllAlike ps qs
alike at ps qs cs (ends n) = none
alike at ps qs cs (kept n p rs us ds h) = one p p rs us (same p) (alike _ rs us ds h)
alike at ps qs cs (changed n s t rs us ds i j h) = one _ _ rs us (other s t i j) (alike _ rs us ds h)

-- ---- changes behind a place don't move it
pub string_bytes : (s : List ℕ) → IsString s → 0 < length s
string_bytes s i =
    let e : length s ≡ length (i.quote ∷ (concat i.units ++ i.quote ∷ [])) = ap length i.whole in omega arith

le_no : (e a : ℕ) → a < e → nat_le e a ≡ false
le_no e a l = grind (arith, nat_tests)

le_yes : (e a : ℕ) → e ≤ a → nat_le e a ≡ true
le_yes e a l = grind (arith, nat_tests)

none_added : (at a : ℕ) (ps qs : List Piece) (cs : List TextChange) → Changes at ps qs cs → a ≤ at → added cs a ≡ 0
unfolding added
none_added at a ps qs cs (ends n) l = refl
none_added at a ps qs cs (kept n p rs us ds h) l = none_added (at + length (spelling p)) a rs us ds h (omega arith)
none_added at a ps qs cs (changed n s t rs us ds i j h) l =
    let some = string_bytes s i in
    let no : nat_le (at + length s) a ≡ false = le_no (at + length s) a (omega arith) in
    let others = none_added (at + length s) a rs us ds h (omega arith) in
    rw (no, others) refl

none_removed : (at a : ℕ) (ps qs : List Piece) (cs : List TextChange) → Changes at ps qs cs → a ≤ at → removed cs a ≡ 0
unfolding removed
none_removed at a ps qs cs (ends n) l = refl
none_removed at a ps qs cs (kept n p rs us ds h) l = none_removed (at + length (spelling p)) a rs us ds h (omega arith)
none_removed at a ps qs cs (changed n s t rs us ds i j h) l =
    let some = string_bytes s i in
    let no : nat_le (at + length s) a ≡ false = le_no (at + length s) a (omega arith) in
    let others = none_removed (at + length s) a rs us ds h (omega arith) in
    rw (no, others) refl

-- how all places from one on move: so much was written and so much taken away before
abbrev MovesFrom : (ℕ → ℕ) → ℕ → ℕ → ℕ → List TextChange → Type 0
MovesFrom m at plus minus cs = (a : ℕ) → at ≤ a → m a ≡ a + (plus + added cs a) - (minus + removed cs a)

here : (m : ℕ → ℕ) (at now plus minus n : ℕ) (ps qs : List Piece) (cs : List TextChange) → MovesFrom m at plus minus cs
    → Changes (at + n) ps qs cs → now + minus ≡ at + plus → (a : ℕ) → at ≤ a → a ≤ at + n → m a + at ≡ now + a
here m at now plus minus n ps qs cs h c e a l k =
    let f = h a l in
    let p = none_added (at + n) a ps qs cs c k in
    let q = none_removed (at + n) a ps qs cs c k in
    omega (arith, f, p, q, e)

later : (m : ℕ → ℕ) (at plus minus n : ℕ) (cs : List TextChange) → MovesFrom m at plus minus cs
    → MovesFrom m (at + n) plus minus cs
later m at plus minus n cs h a l = h a (omega arith)

first_added : (at a : ℕ) (s t : List ℕ) (cs : List TextChange) → at + length s ≤ a
    → added (change_of at (at + length s) t ∷ cs) a ≡ length t + added cs a
unfolding added
first_added at a s t cs l = let yes : nat_le (at + length s) a ≡ true = le_yes (at + length s) a l in rw yes refl

first_removed : (at a : ℕ) (s t : List ℕ) (cs : List TextChange) → at + length s ≤ a
    → removed (change_of at (at + length s) t ∷ cs) a ≡ length s + removed cs a
unfolding removed
first_removed at a s t cs l =
    let yes : nat_le (at + length s) a ≡ true = le_yes (at + length s) a l in
    let size : at + length s - at ≡ length s = omega arith in rw (yes, size) refl

behind_change : (m : ℕ → ℕ) (at plus minus : ℕ) (s t : List ℕ) (cs : List TextChange)
    → MovesFrom m at plus minus (change_of at (at + length s) t ∷ cs)
    → MovesFrom m (at + length s) (plus + length t) (minus + length s) cs
behind_change m at plus minus s t cs h a l =
    let f = h a (omega arith) in
    let p = first_added at a s t cs l in
    let q = first_removed at a s t cs l in
    omega (arith, f, p, q)

token_moves : (m : ℕ → ℕ) (before since ps qs : List Piece) (k : TokenKind) (s t : List ℕ) → AllAlike before since
    → AllAlike ps qs → place_of since ≡ m (place_of before) → place_of since + length t ≡ m (place_of before + length s)
    → token_of since k t qs ≡ token_to m (token_of before k s ps)
token_moves m before since ps qs k s t b h e f =
    let line = same_line before since b in
    let partner = same_partner (role_of k) before since ps qs b h in cc

at_start : (m : ℕ → ℕ) (at now plus minus n : ℕ) (ps qs : List Piece) (cs : List TextChange)
    → MovesFrom m at plus minus cs
    → Changes (at + n) ps qs cs → now + minus ≡ at + plus → (now ≡ m at) × (now + n ≡ m (at + n))
at_start m at now plus minus n ps qs cs h c e =
    let one = here m at now plus minus n ps qs cs h c e at (omega arith) (omega arith) in
    let two = here m at now plus minus n ps qs cs h c e (at + n) (omega arith) (omega arith) in
    (omega (arith, one), omega (arith, two))

at_change : (m : ℕ → ℕ) (at now plus minus : ℕ) (s t : List ℕ) (ps qs : List Piece) (cs : List TextChange)
    → MovesFrom m at plus minus (change_of at (at + length s) t ∷ cs) → IsString s → IsString t
    → Changes (at + length s) ps qs cs → now + minus ≡ at + plus → (now ≡ m at) × (now + length t ≡ m (at + length s))
at_change m at now plus minus s t ps qs cs h i j c e =
    let f = h at (omega arith) in
    let all : Changes at (token Str s ∷ ps) (token Str t ∷ qs) (change_of at (at + length s) t ∷ cs) =
    changed at s t ps qs cs i j c in
    let p = none_added at at _ _ _ all (omega arith) in
    let q = none_removed at at _ _ _ all (omega arith) in
    let g = behind_change m at plus minus s t cs h (at + length s) (omega arith) in
    let v = none_added (at + length s) (at + length s) ps qs cs c (omega arith) in
    let w = none_removed (at + length s) (at + length s) ps qs cs c (omega arith) in
    (omega (arith, f, p, q, e), omega (arith, g, v, w, e))

pub tokens_move : (m : ℕ → ℕ) (before since ps qs : List Piece) (cs : List TextChange) (plus minus at : ℕ)
    → AllAlike before since
    → at ≡ place_of before → MovesFrom m at plus minus cs → Changes at ps qs cs → place_of since + minus ≡ at + plus
    → tokens_of since qs ≡ map (token_to m) (tokens_of before ps)
unfolding tokens_of
tokens_move m before since ps qs cs plus minus at b f h (ends n) e = refl
tokens_move m before since ps qs cs plus minus at b f h (kept n (blank s) rs us ds c) e =
    tokens_move m (blank s ∷ before) (blank s ∷ since) rs us ds plus minus (at + length s) (one _ _ _ _ (same _) b)
    (omega (arith, f)) (later m at plus minus (length s) ds h) c (omega (arith, e))
tokens_move m before since ps qs cs plus minus at b f h (kept n (line_end s) rs us ds c) e =
    tokens_move m (line_end s ∷ before) (line_end s ∷ since) rs us ds plus minus (at + length s)
    (one _ _ _ _ (same _) b)
    (omega (arith, f)) (later m at plus minus (length s) ds h) c (omega (arith, e))
tokens_move m before since ps qs cs plus minus at b f h (kept n (comment k s) rs us ds c) e =
    tokens_move m (comment k s ∷ before) (comment k s ∷ since) rs us ds plus minus (at + length (comment_spelling k s))
    (one _ _ _ _ (same _) b) (omega (arith, f)) (later m at plus minus (length (comment_spelling k s)) ds h) c
    (omega (arith, e))
tokens_move m before since ps qs cs plus minus at b f h (kept n (token k s) rs us ds c) e =
    let places = at_start m at (place_of since) plus minus (length s) rs us ds h c e in
    let first = token_moves m before since rs us k s s b (alike _ rs us ds c) (places.0 ∙ ap m f)
    (places.1 ∙ ap (λ z. m (z + length s)) f) in
    let others = tokens_move m (token k s ∷ before) (token k s ∷ since) rs us ds plus minus (at + length s)
    (one _ _ _ _ (same _) b) (omega (arith, f)) (later m at plus minus (length s) ds h) c (omega (arith, e)) in
    cc
tokens_move m before since ps qs cs plus minus at b f h (changed n s t rs us ds i j c) e =
    let places = at_change m at (place_of since) plus minus s t rs us ds h i j c e in
    let first = token_moves m before since rs us Str s t b (alike _ rs us ds c) (places.0 ∙ ap m f)
    (places.1 ∙ ap (λ z. m (z + length s)) f) in
    let others = tokens_move m (token Str s ∷ before) (token Str t ∷ since) rs us ds (plus + length t)
    (minus + length s)
    (at + length s) (one _ _ _ _ (other s t i j) b) (omega (arith, f)) (behind_change m at plus minus s t ds h) c
    (omega (arith, e)) in
    cc

comment_moves : (m : ℕ → ℕ) (before since : List Piece) (k : CommentKind) (s : List ℕ)
    → place_of since ≡ m (place_of before)
    → place_of since + length (comment_spelling k s) ≡ m (place_of before + length (comment_spelling k s))
    → comment_of since k s ≡ comment_to m (comment_of before k s)
comment_moves m before since k s e f = cc

pub comments_move : (m : ℕ → ℕ) (before since ps qs : List Piece) (cs : List TextChange) (plus minus at : ℕ)
    → AllAlike before since
    → at ≡ place_of before → MovesFrom m at plus minus cs → Changes at ps qs cs → place_of since + minus ≡ at + plus
    → comments_of since qs ≡ map (comment_to m) (comments_of before ps)
unfolding comments_of
comments_move m before since ps qs cs plus minus at b f h (ends n) e = refl
comments_move m before since ps qs cs plus minus at b f h (kept n (blank s) rs us ds c) e =
    comments_move m (blank s ∷ before) (blank s ∷ since) rs us ds plus minus (at + length s) (one _ _ _ _ (same _) b)
    (omega (arith, f)) (later m at plus minus (length s) ds h) c (omega (arith, e))
comments_move m before since ps qs cs plus minus at b f h (kept n (line_end s) rs us ds c) e =
    comments_move m (line_end s ∷ before) (line_end s ∷ since) rs us ds plus minus (at + length s)
    (one _ _ _ _ (same _) b)
    (omega (arith, f)) (later m at plus minus (length s) ds h) c (omega (arith, e))
comments_move m before since ps qs cs plus minus at b f h (kept n (comment k s) rs us ds c) e =
    let places = at_start m at (place_of since) plus minus (length (comment_spelling k s)) rs us ds h c e in
    let first = comment_moves m before since k s (places.0 ∙ ap m f)
    (places.1 ∙ ap (λ z. m (z + length (comment_spelling k s))) f) in
    let others = comments_move m (comment k s ∷ before) (comment k s ∷ since) rs us ds plus minus
    (at + length (comment_spelling k s))
    (one _ _ _ _ (same _) b) (omega (arith, f)) (later m at plus minus (length (comment_spelling k s)) ds h) c
    (omega (arith, e)) in
    cc
comments_move m before since ps qs cs plus minus at b f h (kept n (token k s) rs us ds c) e =
    comments_move m (token k s ∷ before) (token k s ∷ since) rs us ds plus minus (at + length s)
    (one _ _ _ _ (same _) b)
    (omega (arith, f)) (later m at plus minus (length s) ds h) c (omega (arith, e))
comments_move m before since ps qs cs plus minus at b f h (changed n s t rs us ds i j c) e =
    comments_move m (token Str s ∷ before) (token Str t ∷ since) rs us ds (plus + length t) (minus + length s)
    (at + length s)
    (one _ _ _ _ (other s t i j) b) (omega (arith, f)) (behind_change m at plus minus s t ds h) c (omega (arith, e))

-- ---- the law
pub all_move : (cs : List TextChange) → MovesFrom (moved cs) 0 0 0 cs
unfolding moved
all_move cs a l = let e : a + added cs a - removed cs a ≡ a + (0 + added cs a) - (0 + removed cs a) = omega arith in e

-- the text with other literals reads as the tokens and comments that moved
pub reads_moved : (x : List ℕ) (ts : List Token) (cs : List Comment) (r : Reads x ts cs) (qs : List Piece)
    (changes : List TextChange) → Changes 0 r.pieces qs changes
    → Reads (pieces_text qs) (map (token_to (moved changes)) ts) (map (comment_to (moved changes)) cs)
reads_moved x ts cs r qs changes c =
    let same = alike 0 r.pieces qs changes c in
    let read = reads_alike x ts cs r qs same in
    let tokens : map (token_to (moved changes)) ts ≡ tokens_of [] qs =
    ap (map (token_to (moved changes))) r.tokens_are
    ∙ sym (tokens_move (moved changes) [] [] r.pieces qs changes 0 0 0 none refl (all_move changes) c (omega arith)) in
    let comments : map (comment_to (moved changes)) cs ≡ comments_of [] qs =
    ap (map (comment_to (moved changes))) r.comments_are
    ∙ sym (comments_move (moved changes) [] [] r.pieces qs changes 0 0 0 none refl (all_move changes) c
    (omega arith)) in
    subst (λ (ds : List Comment). Reads (pieces_text qs) (map (token_to (moved changes)) ts) ds) (sym comments)
    (subst (λ (us : List Token). Reads (pieces_text qs) us (comments_of [] qs)) (sym tokens) read)

-- and the moved tokens have the keys of the old ones
pub moved_keys : (x : List ℕ) (ts : List Token) (cs : List Comment) (r : Reads x ts cs) (qs : List Piece)
    (changes : List TextChange) → Changes 0 r.pieces qs changes
    → keys_of ts ≡ keys_of (map (token_to (moved changes)) ts)
moved_keys x ts cs r qs changes c =
    reads_keys x ts cs r qs (alike 0 r.pieces qs changes c)
    ∙ ap keys_of (sym (ap (map (token_to (moved changes))) r.tokens_are
    ∙ sym (tokens_move (moved changes) [] [] r.pieces qs changes 0 0 0 none refl (all_move changes) c (omega arith))))

-- ---- parts of a text
pub drop_front : (front s : List ℕ) → drop (length front) (front ++ s) ≡ s
drop_front [] s = refl
drop_front (b ∷ front) s = drop_front front s

pub take_front : (front s : List ℕ) → take (length front) (front ++ s) ≡ front
take_front [] s = refl
take_front (b ∷ front) s = ap (λ t. b ∷ t) (take_front front s)

pub cut_kept : (done left rest : List ℕ) (x : List ℕ) → x ≡ done ++ (left ++ rest)
    → slice_range x (length done) (length done + length left) ≡ left
cut_kept done left rest x w =
    let size : length done + length left - length done ≡ length left = omega arith in
    let behind : drop (length done) x ≡ left ++ rest = ap (drop (length done)) w ∙ drop_front done (left ++ rest) in
    ap (λ n. take n (drop (length done) x)) size ∙ (ap (take (length left)) behind ∙ take_front left rest)
