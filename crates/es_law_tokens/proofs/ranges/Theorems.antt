-- Where the text of a token may be cut besides at its ends.
use Rattle.std.specs.Prelude.{Some}
use Rattle.std.proofs.Common.{◌≡◌, ℕ, ◌+◌, ◌-◌, ◌<◌, ◌≤◌, List, [], ◌∷◌, ◌++◌, length, get_or, slice_get, IsUtf8, IsCharBoundary, refl, sym, ◌∙◌, ap, subst, arith, length-append, append-nil}
use Rattle.std.proofs.lemmas.List.{get_or-append-add, get_or_append_left}
use Rattle.std.proofs.lemmas.Str.{IsCharBoundary-before_ascii, IsCharBoundary-after_ascii}
use Rattle.es_token.specs.declared.token.Token.{Token}
use Rattle.es_token.specs.declared.token.Comment.{Comment}
use Rattle.es_token.specs.declared.token.TokenKind.TheVariants as kind
use Rattle.es_lexer.specs.Reads.{Reads}
use Rattle.es_lexer.specs.Pieces.{pieces_text}
use Rattle.es_lexer.proofs.PlaceLemmas.{TokenAt, token_at}
use Rattle.es_lowering.specs.Texts.{stop_of}
use Rattle.es_law_tokens.proofs.ranges.Parts.{private_of, shebang_of, IsPieceText, piece_of}

reads_at : (x : List ℕ) (ts : List Token) (cs : List Comment) (n : ℕ) (t : Token) → Reads x ts cs
    → slice_get ts n ≡ Some t → TokenAt x 0 t
reads_at x ts cs n t r g =
    token_at r.pieces [] x [] [] n t (r.whole ∙ sym (append-nil (pieces_text r.pieces))) refl r.each
    (ap (λ us. slice_get us n) (sym r.tokens_are) ∙ g)

module _ (x front s after : List ℕ) (w : x ≡ front ++ (s ++ after)) where
  size : length x ≡ length front + (length s + length after)
  size = ap length w ∙ length-append front (s ++ after) ∙ ap (λ n. length front + n) (length-append s after)

  byte_at : (i : ℕ) → i < length s → get_or x (length front + i) 0 ≡ get_or s i 0
  byte_at i within =
      ap (λ y. get_or y (length front + i) 0) w ∙ get_or-append-add front (s ++ after) i 0
      ∙ get_or_append_left s after 0 i within

  -- behind an ASCII byte, and before one
  after_byte : (i : ℕ) → IsUtf8 x → i < length s → get_or s i 0 < 128 → IsCharBoundary x (length front + i + 1)
  after_byte i utf within ascii =
      let long = size in
      let same = byte_at i within in
      IsCharBoundary-after_ascii x (length front + i) utf (omega (arith, long)) (omega (arith, same))

  before_byte : (i : ℕ) → i < length s → get_or s i 0 < 128 → IsCharBoundary x (length front + i)
  before_byte i within ascii =
      let long = size in
      let same = byte_at i within in
      IsCharBoundary-before_ascii x (length front + i) (omega (arith, long)) (omega (arith, same))

at_place : (x : List ℕ) (m n : ℕ) → m ≡ n → IsCharBoundary x m → IsCharBoundary x n
at_place x m n e h = subst (IsCharBoundary x) e h

-- behind the `#` of a private name
pub reads_private : (x : List ℕ) (ts : List Token) (cs : List Comment) (n : ℕ) (t : Token) → IsUtf8 x → Reads x ts cs
    → slice_get ts n ≡ Some t → t.kind ≡ kind.PrivateName
    → (t.range.start + 1 ≤ t.range.end) × IsCharBoundary x (t.range.start + 1)
reads_private x ts cs n t utf r g e =
    let a : TokenAt x 0 t = reads_at x ts cs n t r g in
    let name = private_of a.goal t.kind a.text e a.spells in
    let long : length a.text ≡ length (35 ∷ name.0) = ap length name.1 in
    let byte : get_or a.text 0 0 ≡ 35 = ap (λ y. get_or y 0 0) name.1 in
    let starts = a.starts in
    let ends = a.ends in (
      omega (arith, long),
      at_place x (length a.front + 0 + 1) (t.range.start + 1) (omega (arith, starts))
          (after_byte x a.front a.text a.after a.whole 0 utf (omega (arith, long)) (omega (arith, byte))),
    )

-- behind `#!`
pub reads_shebang : (x : List ℕ) (ts : List Token) (cs : List Comment) (n : ℕ) (t : Token) → IsUtf8 x → Reads x ts cs
    → slice_get ts n ≡ Some t → t.kind ≡ kind.Shebang
    → (t.range.start + 2 ≤ t.range.end) × IsCharBoundary x (t.range.start + 2)
reads_shebang x ts cs n t utf r g e =
    let a : TokenAt x 0 t = reads_at x ts cs n t r g in
    let text = shebang_of a.goal t.kind a.text e a.spells in
    let long : length a.text ≡ length (35 ∷ 33 ∷ text.0) = ap length text.1 in
    let byte : get_or a.text 1 0 ≡ 33 = ap (λ y. get_or y 1 0) text.1 in
    let starts = a.starts in
    let ends = a.ends in (
      omega (arith, long),
      at_place x (length a.front + 1 + 1) (t.range.start + 2) (omega (arith, starts))
          (after_byte x a.front a.text a.after a.whole 1 utf (omega (arith, long)) (omega (arith, byte))),
    )

-- behind the backtick or `}` of a piece of a template, and before its backtick or `${`
pub reads_piece : (x : List ℕ) (ts : List Token) (cs : List Comment) (n : ℕ) (t : Token) (stop : ℕ) → IsUtf8 x
    → Reads x ts cs → slice_get ts n ≡ Some t → stop_of t.kind ≡ Some stop
    → (t.range.start + 1 ≤ t.range.end - stop) × IsCharBoundary x (t.range.start + 1)
    × IsCharBoundary x (t.range.end - stop)
reads_piece x ts cs n t stop utf r g e =
    let a : TokenAt x 0 t = reads_at x ts cs n t r g in
    let p : IsPieceText a.text stop = piece_of a.goal t.kind a.text stop e a.spells in
    let lead : List ℕ = p.first ∷ p.inner in
    let size : length a.text ≡ length lead + length p.back = ap length p.whole ∙ length-append lead p.back in
    let long : 0 < length lead = omega arith in
    let first : get_or a.text 0 0 ≡ p.first = ap (λ y. get_or y 0 0) p.whole in
    let last : get_or a.text (length lead + 0) 0 ≡ get_or p.back 0 0 =
    ap (λ y. get_or y (length lead + 0) 0) p.whole ∙ get_or-append-add lead p.back 0 0 in
    let starts = a.starts in
    let ends = a.ends in
    let stops = p.stops in
    let some = p.some in
    let ascii = p.starts in
    let back = p.ends in (
      omega (arith, size),
      at_place x (length a.front + 0 + 1) (t.range.start + 1) (omega (arith, starts))
          (after_byte x a.front a.text a.after a.whole 0 utf (omega (arith, size)) (omega (arith, first))),
      at_place x (length a.front + (length lead + 0)) (t.range.end - stop) (omega (arith, size))
          (before_byte x a.front a.text a.after a.whole (length lead + 0) (omega (arith, size)) (omega (arith, last))),
    )
