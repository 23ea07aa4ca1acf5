-- Where the tokens of a reading stand in the text, and what they cut from it.
use Rattle.std.proofs.Common.{◌≡◌, ℕ, zero, suc, ◌+◌, ◌-◌, ◌<◌, ◌≤◌, Bool, true, false, not, ◌&&◌, List, [], ◌∷◌, ◌++◌, length, take, drop, get_or, Some, slice_get, slice_range, IsCharBoundary, refl, sym, ◌∙◌, ap, subst, arith, length-append, append_assoc, append-nil, drop_at, take_at, inl, inr}
use Rattle.std.proofs.lemmas.List.{get_or_at}
use Rattle.std.proofs.Math.Dec.{ltb}
use Rattle.std.proofs.lemmas.Bool.Decides.{nat_tests}
use Rattle.std.proofs.lemmas.Bool.{ltb-true}
use Rattle.std.proofs.lemmas.Str.{IsCharBoundary-end}
use Rattle.es_lexer.specs.declared.bytes.First.TheVariants as first
use Rattle.es_token.specs.declared.token.Token.{Token}
use Rattle.es_token.specs.declared.token.Comment.{Comment}
use Rattle.es_lexer.specs.declared.bytes.First.{First}
use Rattle.es_token.specs.declared.token.CommentKind.{CommentKind}
use Rattle.es_token.specs.declared.token.CommentKind.TheVariants.{Line, Block}
use Rattle.es_token.specs.declared.token.TokenKind.{TokenKind}
use Rattle.es_token.specs.declared.token.TokenKind.TheVariants.{Str}
use Rattle.es_lexer.specs.Bytes.{first_of, is_blank, is_line_end, is_start, is_quote, begins_name}
use Rattle.es_literal.specs.Strings.{IsString}
use Rattle.es_lexer.specs.declared.goal.Goal.{Goal}
use Rattle.es_lexer.specs.Goal.{goal_of}
use Rattle.es_lexer.specs.Signs.{sign_kind, signs_of_one, signs_of_two, signs_of_three}
use Rattle.es_lexer.specs.Spelling.{Spells, word, str, sign, private_name, template, number, regexp, shebang, number_kind, template_start, template_kind}
use Rattle.es_lexer.specs.Pieces.{Piece, blank, line_end, comment, token, spelling, comment_spelling, pieces_text, place_of}
use Rattle.es_lexer.specs.Readable.{IsByte, IsPiece, ArePieces}
use Rattle.es_lexer.specs.Reads.{tokens_of, comments_of, token_of, comment_of}
use Rattle.es_unicode.specs.Wide.{wide_blank, wide_line}
use Rattle.es_unicode.proofs.WideLemmas.{blank_begins, line_begins}
use Rattle.es_lexer.proofs.LineLemmas.{StartsChar, ascii_starts}
use Rattle.es_lexer.proofs.PartLemmas.{letter, escaped, character, name_class, name_high}
use Rattle.es_lexer.proofs.ByteLemmas as byte
use Rattle.es_lexer.proofs.SpellingLemmas.{not_empty}
use Rattle.es_literal.proofs.spelling_lemmas.AsciiLemmas.{number_ascii}
use Rattle.es_lexer.proofs.SignLemmas as mark
use Rattle.es_lexer.proofs.WordLemmas.{word_no_str}

-- ---- bytes of tokens are ASCII at both ends
start_ascii : (b : ℕ) → is_start b ≡ true → b < 128
start_ascii b e = grind (arith, nat_tests)

quote_ascii : (b : ℕ) → is_quote b ≡ true → b < 128
quote_ascii b e = grind (arith, nat_tests)

blank_byte_ascii : (b : ℕ) → is_blank b ≡ true → b < 128
blank_byte_ascii b e = grind (arith, nat_tests)

line_byte_ascii : (b : ℕ) → is_line_end b ≡ true → b < 128
line_byte_ascii b e = grind (arith, nat_tests)

blank_ascii : (b : ℕ) → first_of b ≡ first.Blank → b < 128
blank_ascii b h = blank_byte_ascii b (byte.blank_is b h)

line_ascii : (b : ℕ) → first_of b ≡ first.LineEnd → b < 128
line_ascii b h = line_byte_ascii b (byte.line_end_is b h)

mark_ascii : (b : ℕ) → first_of b ≡ first.Quote → b < 128
mark_ascii b h = elim (byte.classed b) [
  | byte.blank p e ↦ cc
  | byte.line_end p e ↦ cc
  | byte.start s e ↦ cc
  | byte.quote n q e ↦ quote_ascii b q
  | byte.slash s e ↦ cc
  | byte.backtick s e ↦ cc
  | byte.brace s e ↦ cc
  | byte.hash s e ↦ cc
  | byte.digit s e ↦ cc
  | byte.dot s e ↦ cc
  | byte.backslash s e ↦ cc
  | byte.wide l e ↦ cc
  | byte.other e ↦ cc
]

-- the bytes of a punctuator
abbrev all_ascii : List ℕ → TokenKind → Bool
all_ascii [] k = true
all_ascii (b ∷ s) k = ltb b 128 && all_ascii s k

sign_ascii : (s : List ℕ) (k : TokenKind) → sign_kind s ≡ Some k → all_ascii s k ≡ true
unfolding signs_of_one signs_of_two signs_of_three
sign_ascii s k w = mark.sign_passes all_ascii s k refl refl refl w

and_left : (u v : Bool) → (u && v) ≡ true → u ≡ true
and_left true v e = refl
and_left false v e = cc

and_right : (u v : Bool) → (u && v) ≡ true → v ≡ true
and_right true v e = e
and_right false v e = cc

template_ascii : (opens : Bool) → template_start opens < 128
unfolding template_start
template_ascii true = omega arith
template_ascii false = omega arith

-- the first byte of a token is ASCII, or begins a character
abbrev Begins : ℕ → Type 0
Begins b = 128 ≤ b → 192 ≤ b

ascii_begins : (b : ℕ) → b < 128 → Begins b
ascii_begins b l = λ h. absurd (omega arith)

name_begins : (b : ℕ) (rest : List ℕ) → begins_name (b ∷ rest) ≡ true → Begins b
name_begins b rest e = elim (name_class b rest e) [
  | letter f ↦ ascii_begins b (start_ascii b (byte.start_is b f))
  | escaped f n s ↦ let same : b ≡ 92 = byte.backslash_is b f in ascii_begins b (omega arith)
  | character f l ↦ λ h. let l : 194 ≤ b = name_high b rest l in omega arith
]

first_begins : (goal : Goal) (k : TokenKind) (b : ℕ) (rest : List ℕ) → Spells goal k (b ∷ rest) → Begins b
first_begins goal k b rest (word w e) = name_begins b rest w.starts
first_begins goal k b rest (str l e) =
    let same : b ≡ l.quote = cc in
    ascii_begins b (mark_ascii b (ap first_of same ∙ byte.quote_class l.quote l.quotes))
first_begins goal k b rest (sign e) =
    ascii_begins b (ltb-true b 128 (and_left (ltb b 128) (all_ascii rest k) (sign_ascii (b ∷ rest) k e)))
first_begins goal k b rest (private_name name w s e) = let same : b ≡ 35 = cc in ascii_begins b (omega arith)
first_begins goal k b rest (template opens sub body t s e) =
    let same : b ≡ template_start opens = cc in
    ascii_begins b (subst (λ (c : ℕ). c < 128) (sym same) (template_ascii opens))
first_begins goal k b rest (shebang text h f w e) = let same : b ≡ 35 = cc in ascii_begins b (omega arith)
first_begins goal k b rest (regexp i e) = let same : b ≡ 47 = cc in ascii_begins b (omega arith)
first_begins goal k b rest (number big i e) = ascii_begins b (number_ascii big (b ∷ rest) i).0

-- ---- a token in the text
pub record TokenAt (x : List ℕ) (low : ℕ) (t : Token) : Type 0 where
  pub front : List ℕ
  pub text : List ℕ
  pub after : List ℕ
  pub whole : x ≡ front ++ (text ++ after)
  pub goal : Goal
  pub spells : Spells goal t.kind text
  pub starts : t.range.start ≡ length front
  pub ends : t.range.end ≡ length front + length text
  pub above : low ≤ t.range.start

lower : (x : List ℕ) (m n : ℕ) (t : Token) → m ≤ n → TokenAt x n t → TokenAt x m t
lower x m n t l a = record {
  front = a.front;
  text = a.text;
  after = a.after;
  whole = a.whole;
  goal = a.goal;
  spells = a.spells;
  starts = a.starts;
  ends = a.ends;
  above = let h : n ≤ t.range.start = a.above in omega arith;
}

pub shift : (x front s rest after : List ℕ) → x ≡ front ++ ((s ++ rest) ++ after) → x ≡ (front ++ s) ++ (rest ++ after)
shift x front s rest after w = w
    ∙ (ap (λ t. front ++ t) (append_assoc s rest after) ∙ sym (append_assoc front s (rest ++ after)))

pub moved : (at : ℕ) (front s : List ℕ) → at ≡ length front → at + length s ≡ length (front ++ s)
moved at front s e = omega (arith, length-append front s)

-- each token of the pieces stands in the text, at or above the place where the pieces begin
pub token_at : (ps : List Piece) (before : List Piece) (x front after : List ℕ) (n : ℕ) (t : Token)
    → x ≡ front ++ (pieces_text ps ++ after) → place_of before ≡ length front → ArePieces before ps after
    → slice_get (tokens_of before ps) n ≡ Some t → TokenAt x (place_of before) t
unfolding tokens_of
token_at [] before x front after n t w p h g = cc
token_at (blank s ∷ ps) before x front after n t w p h g =
    lower x (place_of before) (place_of before + length s) t (omega arith)
    (token_at ps (blank s ∷ before) x (front ++ s) after n t (shift x front s (pieces_text ps) after w)
    (moved (place_of before) front s p) h.1 g)
token_at (line_end s ∷ ps) before x front after n t w p h g =
    lower x (place_of before) (place_of before + length s) t (omega arith)
    (token_at ps (line_end s ∷ before) x (front ++ s) after n t (shift x front s (pieces_text ps) after w)
    (moved (place_of before) front s p) h.1 g)
token_at (comment kind s ∷ ps) before x front after n t w p h g =
    lower x (place_of before) (place_of before + length (comment_spelling kind s)) t (omega arith)
    (token_at ps (comment kind s ∷ before) x (front ++ comment_spelling kind s) after n t
    (shift x front (comment_spelling kind s) (pieces_text ps) after w)
    (moved (place_of before) front (comment_spelling kind s) p) h.1 g)
token_at (token k s ∷ ps) before x front after zero t w p h g =
    let same : token_of before k s ps ≡ t = cc in
    subst (TokenAt x (place_of before)) same (record {
      front = front;
      text = s;
      after = pieces_text ps ++ after;
      whole = w ∙ ap (λ t. front ++ t) (append_assoc s (pieces_text ps) after);
      goal = goal_of before;
      spells = h.0.spells;
      starts = p;
      ends = ap (λ n. n + length s) p;
      above = omega arith;
    })
token_at (token k s ∷ ps) before x front after (suc n) t w p h g =
    lower x (place_of before) (place_of before + length s) t (omega arith)
    (token_at ps (token k s ∷ before) x (front ++ s) after n t (shift x front s (pieces_text ps) after w)
    (moved (place_of before) front s p) h.1 g)

-- a token ends before the next one begins
pub ascends : (ps : List Piece) (before : List Piece) (x front after : List ℕ) (n : ℕ) (t u : Token)
    → x ≡ front ++ (pieces_text ps ++ after) → place_of before ≡ length front → ArePieces before ps after
    → slice_get (tokens_of before ps) n ≡ Some t → slice_get (tokens_of before ps) (suc n) ≡ Some u
    → t.range.end ≤ u.range.start
unfolding tokens_of
ascends [] before x front after n t u w p h f g = cc
ascends (blank s ∷ ps) before x front after n t u w p h f g =
    ascends ps (blank s ∷ before) x (front ++ s) after n t u (shift x front s (pieces_text ps) after w)
    (moved (place_of before) front s p) h.1 f g
ascends (line_end s ∷ ps) before x front after n t u w p h f g =
    ascends ps (line_end s ∷ before) x (front ++ s) after n t u (shift x front s (pieces_text ps) after w)
    (moved (place_of before) front s p) h.1 f g
ascends (comment kind s ∷ ps) before x front after n t u w p h f g =
    ascends ps (comment kind s ∷ before) x (front ++ comment_spelling kind s) after n t u
    (shift x front (comment_spelling kind s) (pieces_text ps) after w)
    (moved (place_of before) front (comment_spelling kind s) p) h.1 f g
ascends (token k s ∷ ps) before x front after zero t u w p h f g =
    let same : token_of before k s ps ≡ t = cc in
    let next : TokenAt x (place_of before + length s) u =
    token_at ps (token k s ∷ before) x (front ++ s) after 0 u (shift x front s (pieces_text ps) after w)
    (moved (place_of before) front s p) h.1 g in
    subst (λ (v : Token). v.range.end ≤ u.range.start) same next.above
ascends (token k s ∷ ps) before x front after (suc n) t u w p h f g =
    ascends ps (token k s ∷ before) x (front ++ s) after n t u
    (shift x front s (pieces_text ps) after w) (moved (place_of before) front s p) h.1 f g

-- ---- what a token's range cuts
some_text : (goal : Goal) (k : TokenKind) (s : List ℕ) → Spells goal k s → 0 < length s
some_text goal k [] h = absurd (not_empty goal k h)
some_text goal k (b ∷ s) h = omega arith

pub not_nothing : (x : List ℕ) (low : ℕ) (t : Token) → TokenAt x low t
    → (t.range.start < t.range.end) × (t.range.end ≤ length x)
not_nothing x low t a =
    let size : 0 < length a.text = some_text a.goal t.kind a.text a.spells in
    let starts : t.range.start ≡ length a.front = a.starts in
    let ends : t.range.end ≡ length a.front + length a.text = a.ends in
    let whole : length x ≡ length (a.front ++ (a.text ++ a.after)) = ap length a.whole in
    (omega arith, omega (arith, length-append a.front (a.text ++ a.after), length-append a.text a.after))

pub cuts : (x : List ℕ) (low : ℕ) (t : Token) → (a : TokenAt x low t)
    → slice_range x t.range.start t.range.end ≡ a.text
cuts x low t a =
    let starts : t.range.start ≡ length a.front = a.starts in
    let ends : t.range.end ≡ length a.front + length a.text = a.ends in
    ap (λ y. take (t.range.end - t.range.start) (drop t.range.start y)) a.whole
    ∙ (ap (take (t.range.end - t.range.start)) (drop_at a.front (a.text ++ a.after) t.range.start (sym starts))
    ∙ take_at a.text a.after (t.range.end - t.range.start) (omega arith))

-- ---- tokens split no character
byte_starts : (s rest : List ℕ) (c : First) → (i : IsByte c s) → i.byte < 128 → StartsChar (s ++ rest)
byte_starts s rest c i l = subst (λ (t : List ℕ). StartsChar (t ++ rest)) (sym i.whole) (ascii_starts i.byte rest l)

token_starts : (goal : Goal) (k : TokenKind) (s rest : List ℕ) → Spells goal k s → StartsChar (s ++ rest)
token_starts goal k [] rest h = absurd (not_empty goal k h)
token_starts goal k (b ∷ s) rest h = first_begins goal k b s h

comment_starts : (kind : CommentKind) (text rest : List ℕ) → StartsChar (comment_spelling kind text ++ rest)
unfolding comment_spelling
comment_starts Line text rest = ascii_starts 47 (47 ∷ (text ++ rest)) (omega arith)
comment_starts Block text rest = ascii_starts 47 (42 ∷ ((text ++ 42 ∷ 47 ∷ []) ++ rest)) (omega arith)

blank_starts : (s rest : List ℕ) → 0 < length s → wide_blank s ≡ length s → StartsChar (s ++ rest)
blank_starts [] rest l e = absurd (omega arith)
blank_starts (b ∷ s) rest l e = λ h. blank_begins b s (length s) e

wide_line_starts : (s rest : List ℕ) → 0 < length s → wide_line s ≡ length s → StartsChar (s ++ rest)
wide_line_starts [] rest l e = absurd (omega arith)
wide_line_starts (b ∷ s) rest l e = λ h. line_begins b s (length s) e

piece_starts : (goal : Goal) (p : Piece) (after rest : List ℕ) → IsPiece goal p after → StartsChar (spelling p ++ rest)
piece_starts goal (blank s) after rest (inl h) = byte_starts s rest first.Blank h (blank_ascii h.byte h.is)
piece_starts goal (blank s) after rest (inr h) = blank_starts s rest h.0 h.1
piece_starts goal (line_end s) after rest (inl h) = byte_starts s rest first.LineEnd h (line_ascii h.byte h.is)
piece_starts goal (line_end s) after rest (inr h) = wide_line_starts s rest h.0 h.1
piece_starts goal (comment kind text) after rest h = comment_starts kind text rest
piece_starts goal (token k s) after rest h = token_starts goal k s rest h.spells

pub spelling_starts : (goal : Goal) (p : Piece) (after : List ℕ) → IsPiece goal p after → StartsChar (spelling p)
spelling_starts goal p after h = subst StartsChar (append-nil (spelling p)) (piece_starts goal p after [] h)

pieces_start : (ps before : List Piece) (after : List ℕ) → ArePieces before ps after → StartsChar after
    → StartsChar (pieces_text ps ++ after)
pieces_start [] before after h s = s
pieces_start (p ∷ ps) before after h s =
    subst StartsChar (sym (append_assoc (spelling p) (pieces_text ps) after))
    (piece_starts (goal_of before) p (pieces_text ps ++ after) (pieces_text ps ++ after) h.0)

cut_at : (x front back : List ℕ) (at : ℕ) → x ≡ front ++ back → at ≡ length front → StartsChar back
    → IsCharBoundary x at
cut_at x front [] at w p s =
    let size : length x ≡ length (front ++ []) = ap length w in
    let here : length x ≡ at = omega (arith, length-append front []) in
    subst (IsCharBoundary x) here (IsCharBoundary-end x)
cut_at x front (b ∷ rest) at w p s =
    let size : length x ≡ length (front ++ b ∷ rest) = ap length w in
    let byte : get_or x at 0 ≡ b = ap (λ y. get_or y at 0) w ∙ get_or_at front b rest 0 at (sym p) in (
      omega (arith, length-append front (b ∷ rest)),
      λ l a. subst (λ (c : ℕ). 192 ≤ c) (sym byte) (s (subst (λ (c : ℕ). 128 ≤ c) byte a)),
    )

-- each token of the pieces begins and ends where a character does
pub boundaries : (ps before : List Piece) (x front after : List ℕ) (n : ℕ) (t : Token)
    → x ≡ front ++ (pieces_text ps ++ after) → place_of before ≡ length front → ArePieces before ps after
    → StartsChar after → slice_get (tokens_of before ps) n ≡ Some t
    → IsCharBoundary x t.range.start × IsCharBoundary x t.range.end
unfolding tokens_of
boundaries [] before x front after n t w p h s g = cc
boundaries (blank b ∷ ps) before x front after n t w p h s g =
    boundaries ps (blank b ∷ before) x (front ++ b) after n t (shift x front b (pieces_text ps) after w)
    (moved (place_of before) front b p) h.1 s g
boundaries (line_end b ∷ ps) before x front after n t w p h s g =
    boundaries ps (line_end b ∷ before) x (front ++ b) after n t (shift x front b (pieces_text ps) after w)
    (moved (place_of before) front b p) h.1 s g
boundaries (comment kind b ∷ ps) before x front after n t w p h s g =
    boundaries ps (comment kind b ∷ before) x (front ++ comment_spelling kind b) after n t
    (shift x front (comment_spelling kind b) (pieces_text ps) after w)
    (moved (place_of before) front (comment_spelling kind b) p) h.1 s g
boundaries (token k b ∷ ps) before x front after zero t w p h s g =
    let same : token_of before k b ps ≡ t = cc in
    subst (λ (u : Token). IsCharBoundary x u.range.start × IsCharBoundary x u.range.end) same (
      cut_at x front ((b ++ pieces_text ps) ++ after) (place_of before) w p
          (pieces_start (token k b ∷ ps) before after h s),
      cut_at x (front ++ b) (pieces_text ps ++ after) (place_of before + length b)
          (shift x front b (pieces_text ps) after w) (moved (place_of before) front b p)
          (pieces_start ps (token k b ∷ before) after h.1 s),
    )
boundaries (token k b ∷ ps) before x front after (suc n) t w p h s g =
    boundaries ps (token k b ∷ before) x (front ++ b) after n t (shift x front b (pieces_text ps) after w)
    (moved (place_of before) front b p) h.1 s g

-- ---- a Str is a string literal
sign_no_str : (s : List ℕ) (k : TokenKind) → k ≡ Str → sign_kind s ≡ Some k → ⊥
sign_no_str s k e w =
    let h : not (mark.is_str k) ≡ true = mark.sign_no_str s k w in
    let g : not (mark.is_str Str) ≡ true = subst (λ (j : TokenKind). not (mark.is_str j) ≡ true) e h in
    cc

template_no_str : (opens sub : Bool) → Str ≡ template_kind opens sub → ⊥
unfolding template_kind
template_no_str true true e = cc
template_no_str true false e = cc
template_no_str false true e = cc
template_no_str false false e = cc

number_no_str : (big : Bool) → Str ≡ number_kind big → ⊥
unfolding number_kind
number_no_str true e = cc
number_no_str false e = cc

pub literal_of : (goal : Goal) (k : TokenKind) (s : List ℕ) → k ≡ Str → Spells goal k s → IsString s
literal_of goal k s e (word w f) = absurd (word_no_str goal.member s (sym e ∙ f))
literal_of goal k s e (str l f) = l
literal_of goal k s e (sign f) = absurd (sign_no_str s k e f)
literal_of goal k s e (regexp i f) = cc
literal_of goal k s e (shebang text h f w q) = cc
literal_of goal k s e (private_name name w q f) = cc
literal_of goal k s e (number big i f) = absurd (number_no_str big (sym e ∙ f))
literal_of goal k s e (template opens sub body t q f) = absurd (template_no_str opens sub (sym e ∙ f))

-- ---- comments
pub record CommentAt (x : List ℕ) (c : Comment) : Type 0 where
  pub front : List ℕ
  pub after : List ℕ
  pub whole : x ≡ front ++ (comment_spelling c.kind c.text ++ after)
  pub starts : c.range.start ≡ length front
  pub ends : c.range.end ≡ length front + length (comment_spelling c.kind c.text)

pub comment_at : (ps before : List Piece) (x front after : List ℕ) (n : ℕ) (c : Comment)
    → x ≡ front ++ (pieces_text ps ++ after) → place_of before ≡ length front
    → slice_get (comments_of before ps) n ≡ Some c
    → CommentAt x c
unfolding comments_of
comment_at [] before x front after n c w p g = cc
comment_at (blank s ∷ ps) before x front after n c w p g =
    comment_at ps (blank s ∷ before) x (front ++ s) after n c (shift x front s (pieces_text ps) after w)
    (moved (place_of before) front s p) g
comment_at (line_end s ∷ ps) before x front after n c w p g =
    comment_at ps (line_end s ∷ before) x (front ++ s) after n c (shift x front s (pieces_text ps) after w)
    (moved (place_of before) front s p) g
comment_at (comment kind s ∷ ps) before x front after zero c w p g =
    let same : comment_of before kind s ≡ c = cc in
    subst (CommentAt x) same (record {
      front = front;
      after = pieces_text ps ++ after;
      whole = w ∙ ap (λ t. front ++ t) (append_assoc (comment_spelling kind s) (pieces_text ps) after);
      starts = p;
      ends = ap (λ n. n + length (comment_spelling kind s)) p;
    })
comment_at (comment kind s ∷ ps) before x front after (suc n) c w p g =
    comment_at ps (comment kind s ∷ before) x (front ++ comment_spelling kind s) after n c
    (shift x front (comment_spelling kind s) (pieces_text ps) after w)
    (moved (place_of before) front (comment_spelling kind s) p) g
comment_at (token k s ∷ ps) before x front after n c w p g =
    comment_at ps (token k s ∷ before) x (front ++ s) after n c (shift x front s (pieces_text ps) after w)
    (moved (place_of before) front s p) g

pub comment_cuts : (x : List ℕ) (c : Comment) → CommentAt x c
    → slice_range x c.range.start c.range.end ≡ comment_spelling c.kind c.text
comment_cuts x c a =
    let starts : c.range.start ≡ length a.front = a.starts in
    let ends : c.range.end ≡ length a.front + length (comment_spelling c.kind c.text) = a.ends in
    ap (λ y. take (c.range.end - c.range.start) (drop c.range.start y)) a.whole
    ∙ (ap (take (c.range.end - c.range.start))
    (drop_at a.front (comment_spelling c.kind c.text ++ a.after) c.range.start (sym starts))
    ∙ take_at (comment_spelling c.kind c.text) a.after (c.range.end - c.range.start) (omega arith))

comment_size : (kind : CommentKind) (text : List ℕ) → 0 < length (comment_spelling kind text)
unfolding comment_spelling
comment_size Line text = omega arith
comment_size Block text = omega arith

pub comment_inside : (x : List ℕ) (c : Comment) → CommentAt x c
    → (c.range.start < c.range.end) × (c.range.end ≤ length x)
comment_inside x c a =
    let size : 0 < length (comment_spelling c.kind c.text) = comment_size c.kind c.text in
    let starts : c.range.start ≡ length a.front = a.starts in
    let ends : c.range.end ≡ length a.front + length (comment_spelling c.kind c.text) = a.ends in
    let whole : length x ≡ length (a.front ++ (comment_spelling c.kind c.text ++ a.after)) = ap length a.whole in (
      omega arith,
      omega (
        arith,
        length-append a.front (comment_spelling c.kind c.text ++ a.after),
        length-append (comment_spelling c.kind c.text) a.after,
      ),
    )
