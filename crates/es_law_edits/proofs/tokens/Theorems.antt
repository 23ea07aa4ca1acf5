-- String literals that are chosen among the tokens of a text, with others in their places: the new text and its reading.
use Rattle.std.proofs.Common.{◌≡◌, ℕ, ◌+◌, ◌<◌, ◌≤◌, List, [], ◌∷◌, ◌++◌, length, map, drop, slice_get, slice_range, Some, None, sym, ◌∙◌, ap, subst, arith, length-append, append_assoc, inl, inr}
use Rattle.std.specs.Option.{option_map}
use Rattle.std.specs.Str.{IsUtf8}
use Rattle.std.proofs.lemmas.Option.{slice_get-map, none-some}
use Rattle.base.specs.declared.range.Range.{Range}
use Rattle.es_literal.specs.Strings.{IsString}
use Rattle.es_token.specs.declared.token.Token.{Token}
use Rattle.es_token.specs.declared.token.Comment.{Comment}
use Rattle.es_token.specs.declared.token.TokenKind.{TokenKind}
use Rattle.es_token.specs.declared.token.TokenKind.TheVariants.{Str}
use Rattle.es_lexer.specs.Goal.{goal_of}
use Rattle.es_lexer.specs.Pieces.{Piece, blank, line_end, comment, token, spelling, pieces_text, place_of}
use Rattle.es_lexer.specs.Readable.{ArePieces, IsToken}
use Rattle.es_lexer.specs.Reads.{Reads, token_of, tokens_of}
use Rattle.es_lexer.proofs.PlaceLemmas.{literal_of}
use Rattle.es_lexer.proofs.Theorems.{reads_within, reads_boundary, reads_spells}
use Rattle.source_text.specs.declared.text_changes.change.TextChange.{TextChange}
use Rattle.source_text.specs.declared.text_changes.error.TextChangeError.{TextChangeError}
use Rattle.source_text.specs.text_changes.Changes as text
use Rattle.source_text.proofs.text_changes_lemmas.Theorems.{one_order}
use Rattle.es_law_edits.specs.tokens.Moved.{moved, range_to, token_to, comment_to, cut, text_to, Replaces, Chosen, Moved}
use Rattle.es_law_edits.proofs.tokens.Places.{change_of, Changes, ends, kept, changed, drop_front, cut_kept, reads_moved, moved_keys}
use Rattle.es_law_edits.proofs.tokens.Texts.{texts_moved}
use Rattle.es_law_edits.proofs.tokens.Strings.{str_of}
use Rattle.es_law_edits.proofs.tokens.Applied.{Runs, runs, cuts_none, faultless, in_order, told, chosen_token}

-- ---- the pieces of the new text
abbrev Other : ℕ → List Piece → List TextChange → Type 0
Other at ps cs = (qs : List Piece) × Changes at ps qs cs

keep : (at : ℕ) (p : Piece) (ps : List Piece) (cs : List TextChange) → Other (at + length (spelling p)) ps cs
    → Other at (p ∷ ps) cs
keep at p ps cs o = (p ∷ o.0, kept at p ps o.0 cs o.1)

same_change : (a b c d : ℕ) (t : List ℕ) → a ≡ b → c ≡ d → change_of a c t ≡ change_of b d t
same_change a b c d t e f = cc

change_at : (at : ℕ) (s : List ℕ) (ps qs : List Piece) (c : TextChange) (cs : List TextChange) → c.range.start ≡ at
    → c.range.end ≡ at + length s → IsString s → IsString c.new_text → Changes (at + length s) ps qs cs
    → Changes at (token Str s ∷ ps) (token Str c.new_text ∷ qs) (c ∷ cs)
change_at at s ps qs c cs e f i j h =
    let same : c ≡ change_of at (at + length s) c.new_text =
    same_change c.range.start at c.range.end (at + length s) c.new_text e f in
    subst (λ (d : TextChange). Changes at (token Str s ∷ ps) (token Str c.new_text ∷ qs) (d ∷ cs)) (sym same)
    (changed at s c.new_text ps qs cs i j h)

replace_at : (at : ℕ) (k : TokenKind) (s : List ℕ) (ps : List Piece) (c : TextChange) (cs : List TextChange) → k ≡ Str
    → c.range.start ≡ at → c.range.end ≡ at + length s → IsString s → IsString c.new_text → Other (at + length s) ps cs
    → Other at (token k s ∷ ps) (c ∷ cs)
replace_at at k s ps c cs e f g i j o =
    subst (λ (m : TokenKind). Other at (token m s ∷ ps) (c ∷ cs)) (sym e)
    (token Str c.new_text ∷ o.0, change_at at s ps o.0 c cs f g i j o.1)

choose : (before ps : List Piece) (cs : List TextChange) → ArePieces before ps [] → Chosen (tokens_of before ps) cs
    → Other (place_of before) ps cs
unfolding tokens_of
choose before [] [] h c = ([], ends (place_of before))
choose before [] (d ∷ cs) h c = absurd c
choose before (blank s ∷ ps) cs h c = keep (place_of before) (blank s) ps cs (choose (blank s ∷ before) ps cs h.1 c)
choose before (line_end s ∷ ps) cs h c =
    keep (place_of before) (line_end s) ps cs (choose (line_end s ∷ before) ps cs h.1 c)
choose before (comment k s ∷ ps) cs h c =
    keep (place_of before) (comment k s) ps cs (choose (comment k s ∷ before) ps cs h.1 c)
choose before (token k s ∷ ps) [] h c =
    keep (place_of before) (token k s) ps [] (choose (token k s ∷ before) ps [] h.1 tt)
choose before (token k s ∷ ps) (d ∷ cs) h (inl c) =
    let r : Replaces (token_of before k s ps) d = c.0 in
    let t : IsToken (goal_of before) k s (pieces_text ps ++ []) = h.0 in
    replace_at (place_of before) k s ps d cs r.literal r.starts r.ends
    (literal_of (goal_of before) k s r.literal t.spells)
    r.other (choose (token k s ∷ before) ps cs h.1 c.1)
choose before (token k s ∷ ps) (d ∷ cs) h (inr c) =
    keep (place_of before) (token k s) ps (d ∷ cs) (choose (token k s ∷ before) ps (d ∷ cs) h.1 c)

-- ---- its bytes
text_is : (at : ℕ) (ps qs : List Piece) (cs : List TextChange) (done left x : List ℕ) → Changes at ps qs cs
    → x ≡ done ++ (left ++ pieces_text ps) → at ≡ length done + length left
    → text.changed x (length done) cs ≡ left ++ pieces_text qs
text_is at ps qs cs done left x (ends n) w e =
    ap (drop (length done)) w ∙ drop_front done (left ++ [])
text_is at ps qs cs done left x (kept n p rs us ds h) w e =
    text_is (n + length (spelling p)) rs us ds done (left ++ spelling p) x h
    (w ∙ ap (λ z. done ++ z) (sym (append_assoc left (spelling p) (pieces_text rs))))
    (omega (arith, e, length-append left (spelling p)))
    ∙ append_assoc left (spelling p) (pieces_text us)
text_is at ps qs cs done left x (changed n s t rs us ds i j h) w e =
    let first : slice_range x (length done) n ≡ left =
    ap (slice_range x (length done)) e ∙ cut_kept done left (s ++ pieces_text rs) x w in
    let size : n + length s ≡ length (done ++ (left ++ s)) =
    omega (arith, e, length-append done (left ++ s), length-append left s) in
    let none : length (done ++ (left ++ s)) ≡ length (done ++ (left ++ s)) + length {A = ℕ} [] = omega arith in
    let whole : x ≡ (done ++ (left ++ s)) ++ ([] ++ pieces_text rs) =
    w ∙ (ap (λ z. done ++ z) (sym (append_assoc left s (pieces_text rs)))
    ∙ sym (append_assoc done (left ++ s) (pieces_text rs))) in
    let others : text.changed x (n + length s) ds ≡ pieces_text us =
    ap (λ m. text.changed x m ds) size
    ∙ text_is (n + length s) rs us ds (done ++ (left ++ s)) [] x h whole (size ∙ none) in
    ap (λ z. (z ++ t) ++ text.changed x (n + length s) ds) first
    ∙ (ap (λ z. (left ++ t) ++ z) others ∙ append_assoc left t (pieces_text us))

-- ---- the laws
pub literals_move : (x : List ℕ) (ts : List Token) (cs : List Comment) (changes : List TextChange) → Reads x ts cs
    → Chosen ts changes → Moved x ts cs changes
literals_move x ts cs changes r c =
    let other = choose [] r.pieces changes r.each (subst (λ (us : List Token). Chosen us changes) r.tokens_are c) in
    let text : text.changed x 0 changes ≡ pieces_text other.0 =
    text_is 0 r.pieces other.0 changes [] [] x other.1 r.whole (omega arith) in
    record {
      reads = subst (λ (y : List ℕ). Reads y (map (token_to (moved changes)) ts) (map (comment_to (moved changes)) cs))
          (sym text) (reads_moved x ts cs r other.0 changes other.1);
      keys = moved_keys x ts cs r other.0 changes other.1;
      texts = ap (λ y. map (λ (t : Token). cut y (range_to (moved changes) t.range)) ts) text
          ∙ texts_moved x ts cs r other.0 changes other.1;
    }

-- the slice at a moved token's range is the new literal, where one was put there, else the token's old text
pub text_moves : (x : List ℕ) (ts : List Token) (cs : List Comment) (changes : List TextChange) (n : ℕ) (t : Token)
    → Reads x ts cs → Chosen ts changes → slice_get ts n ≡ Some t
    → cut (text.changed x 0 changes) (range_to (moved changes) t.range) ≡ text_to changes x t.range
text_moves x ts cs changes n t r c g =
    let m = literals_move x ts cs changes r c in
    let new : Token → List ℕ = λ u. cut (text.changed x 0 changes) (range_to (moved changes) u.range) in
    let old : Token → List ℕ = λ u. text_to changes x u.range in
    let one : slice_get (map new ts) n ≡ Some (new t) = slice_get-map new ts n ∙ ap (option_map new) g in
    let two : slice_get (map old ts) n ≡ Some (old t) = slice_get-map old ts n ∙ ap (option_map old) g in
    let same : Some (new t) ≡ Some (old t) = sym one ∙ (ap (λ us. slice_get us n) m.texts ∙ two) in
    cc

-- the choice of a string literal is told by its text: no other token is one
pub reads_only_str : (x : List ℕ) (ts : List Token) (cs : List Comment) (n : ℕ) (t : Token) → Reads x ts cs
    → slice_get ts n ≡ Some t → IsString (slice_range x t.range.start t.range.end) → t.kind ≡ Str
reads_only_str x ts cs n t r g i =
    let spelled = reads_spells x ts cs n t r g in str_of spelled.0 t.kind _ spelled.1 i

-- ---- the changes can be applied
runs_of : (x : List ℕ) (ts : List Token) (cs : List Comment) (changes : List TextChange) → Reads x ts cs
    → Chosen ts changes → Runs 0 changes
runs_of x ts cs changes r c =
    let other = choose [] r.pieces changes r.each (subst (λ (us : List Token). Chosen us changes) r.tokens_are c) in
    runs 0 0 r.pieces other.0 changes (omega arith) other.1

-- they are in order, so the text that they make is this one
pub changes_apply : (x : List ℕ) (ts : List Token) (cs : List Comment) (changes : List TextChange) (y : List ℕ)
    → Reads x ts cs → Chosen ts changes → text.IsChanged x changes y → y ≡ text.changed x 0 changes
changes_apply x ts cs changes y r c i =
    i.value ∙ ap (text.changed x 0)
    (one_order changes i.sorted changes i.in_order (in_order 0 changes (runs_of x ts cs changes r c)))

-- and of a text of characters none is faulty
pub changes_pass : (x : List ℕ) (ts : List Token) (cs : List Comment) (changes : List TextChange)
    (fault : TextChangeError) → IsUtf8 x → Reads x ts cs → Chosen ts changes → text.IsRefused x changes fault → ⊥
changes_pass x ts cs changes fault u r c i =
    let order = runs_of x ts cs changes r c in
    let same : i.sorted ≡ changes = one_order changes i.sorted changes i.in_order (in_order 0 changes order) in
    let none : text.first_fault x 0 0 changes ≡ None = faultless x 0 0 changes order
    (cuts_none x ts changes (λ n t g. reads_boundary x ts cs n t u r g) c) in
    none-some fault (sym none ∙ (ap (text.first_fault x 0 0) (sym same) ∙ i.faulty))

-- ---- where each change is
abbrev range : ℕ → ℕ → Range
range start end = record { start = start; end = end }

same_range : (a b c d : ℕ) → c ≡ a → d ≡ b → range a b ≡ range c d
same_range a b c d s e = cc

range_by : (r q : Range) → q.start ≡ r.start → q.end ≡ r.end → r ≡ q
range_by r q s e = same_range r.start r.end q.start q.end s e

at_token : (x : List ℕ) (ts : List Token) (cs : List Comment) (changes : List TextChange) (n : ℕ) (t : Token)
    → Reads x ts cs → Chosen ts changes → slice_get ts n ≡ Some t
    → (moved changes t.range.start < moved changes t.range.end)
    × (moved changes t.range.end ≤ length (text.changed x 0 changes))
at_token x ts cs changes n t r c g =
    let m = literals_move x ts cs changes r c in
    let there : slice_get (map (token_to (moved changes)) ts) n ≡ Some (token_to (moved changes) t) =
    slice_get-map (token_to (moved changes)) ts n ∙ ap (option_map (token_to (moved changes))) g in
    reads_within (text.changed x 0 changes) (map (token_to (moved changes)) ts) (map (comment_to (moved changes)) cs) n
    (token_to (moved changes) t) m.reads there

-- at its moved range, which is not empty and lies within the new text, stands its new literal
pub change_stands : (x : List ℕ) (ts : List Token) (cs : List Comment) (changes : List TextChange) (k : ℕ)
    (c : TextChange) → Reads x ts cs → Chosen ts changes → slice_get changes k ≡ Some c
    → (moved changes c.range.start < moved changes c.range.end)
    × (moved changes c.range.end ≤ length (text.changed x 0 changes))
    × (cut (text.changed x 0 changes) (range_to (moved changes) c.range) ≡ c.new_text)
change_stands x ts cs changes k c r h at =
    let found = chosen_token ts changes k c h at in
    let t : Token = found.1 in
    let there : slice_get ts found.0 ≡ Some t = found.2 in
    let replaces : Replaces t c = found.3 in
    let same : t.range ≡ c.range = range_by t.range c.range replaces.starts replaces.ends in
    let place = at_token x ts cs changes found.0 t r h there in
    let slice : cut (text.changed x 0 changes) (range_to (moved changes) t.range) ≡ text_to changes x t.range =
    text_moves x ts cs changes found.0 t r h there in (
      subst (λ (q : Range). moved changes q.start < moved changes q.end) same place.0,
      subst (λ (q : Range). moved changes q.end ≤ length (text.changed x 0 changes)) same place.1,
      subst (λ (q : Range). cut (text.changed x 0 changes) (range_to (moved changes) q) ≡ text_to changes x q) same slice
          ∙ told 0 changes x k c (runs_of x ts cs changes r h) at,
    )
