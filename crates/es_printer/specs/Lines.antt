-- The lines of what is printed: one step a piece, and one test that tells where a blank stands.
use Rattle.std.specs.Prelude.{ℕ, zero, suc, ◌+◌, ◌-◌, Bool, true, false, ◌&&◌, ◌||◌, if◌then◌else◌, List, [], ◌∷◌, ◌++◌, Option, Some, None, slice_get, slice_range, fold}
use Rattle.es_token.specs.declared.token.Token.{Token}
use Rattle.es_token.specs.declared.token.TokenKind.{TokenKind}
use Rattle.es_token.specs.declared.token.TokenKind.TheVariants as k
use Rattle.es_token.specs.declared.token.Comment.{Comment}
use Rattle.es_token.specs.declared.token.CommentKind.{CommentKind}
use Rattle.es_token.specs.declared.token.CommentKind.TheVariants as vKind
use Rattle.grammar_theory.specs.Key.{same_kind}
use Rattle.es_comments.specs.Placed.{Placed, comments_at}
use Rattle.es_grammar.specs.declared.cst.tree.Cst.{Cst}
use Rattle.es_printer.specs.declared.piece.Left.{Left}
use Rattle.es_printer.specs.declared.piece.Left.TheVariants as left
use Rattle.es_printer.specs.declared.piece.Right.{Right}
use Rattle.es_printer.specs.declared.piece.Right.TheVariants as right
use Rattle.es_printer.specs.declared.piece.Stand.{Stand}
use Rattle.es_printer.specs.declared.piece.Piece.{Piece}
use Rattle.es_printer.specs.declared.piece.Piece.TheVariants as piece
use Rattle.es_printer.specs.declared.piece.Last.{Last}
use Rattle.es_printer.specs.declared.piece.Last.TheVariants as last
use Rattle.es_printer.specs.Made.{stand_of, kind_of, text_of}
use Rattle.es_printer.specs.Sheet.{pieces}

-- ---- all rules of blanks
-- what stands before, what stands behind it
abbrev pub is_apart : Right → Left → Bool
is_apart _ left.Never = false
is_apart right.Run left.Run = false
is_apart _ left.Run = true
is_apart _ left.Apart = true
is_apart right.Apart _ = true
is_apart right.Run _ = true
is_apart right.Word left.Word = true
is_apart right.Word left.Begins = true
is_apart right.Ends left.Word = true
is_apart right.Body left.Word = true
is_apart _ _ = false

-- two tokens that would be read as others: `+` `+`, `+` `++`, `-` `-`, `-` `--`, `<` `<`, and a number before `.`
unfoldable pub joins : TokenKind → TokenKind → Bool
joins a b =
    (same_kind a k.Plus && (same_kind b k.Plus || same_kind b k.PlusPlus))
    || ((same_kind a k.Minus && (same_kind b k.Minus || same_kind b k.MinusMinus))
    || ((same_kind a k.Less && same_kind b k.Less) || (same_kind a k.Number && same_kind b k.Dot)))

-- ---- lines
-- what is written so far, how deep the line stands, and what was written last
pub record Page : Type 0 where
  pub text : List ℕ
  pub depth : ℕ
  pub last : Last

abbrev pub indent : ℕ → List ℕ
indent zero = []
indent (suc n) = 32 ∷ 32 ∷ indent n

-- a line end and two blanks a step, or one blank, or nothing
abbrev pub gap : ℕ → Last → Left → TokenKind → List ℕ
gap depth last.Nothing left kind = []
gap depth last.Line left kind = 10 ∷ indent depth
gap depth (last.Token right before) left kind = if is_apart right left || joins before kind then 32 ∷ [] else []

abbrev pub write : Left → Right → TokenKind → List ℕ → Page → Page
write l r kind text p =
    record { text = p.text ++ (gap p.depth p.last l kind ++ text); depth = p.depth; last = last.Token r kind }

abbrev pub line_before : Option ℕ → Page → Page
line_before None p = p
line_before (Some n) p = record { text = p.text; depth = p.depth - n; last = last.Line }

abbrev pub line_behind : Option ℕ → Page → Page
line_behind None p = p
line_behind (Some n) p = record { text = p.text; depth = p.depth + n; last = last.Line }

abbrev pub token : Stand → TokenKind → List ℕ → Page → Page
token s kind text p = line_behind s.into (write s.left s.right kind text (line_before s.out p))

abbrev pub semicolon : Page → Page
semicolon p = write left.Never right.Tight k.Semicolon (59 ∷ []) p

-- none stands behind a body
abbrev pub bare_end : Last → Page → Page
bare_end (last.Token right.Body kind) p = p
bare_end _ p = semicolon p

abbrev pub closed : Last → Last
closed (last.Token r kind) = last.Token right.Tight kind
closed other = other

-- ---- comments
abbrev pub opened : CommentKind → List ℕ
opened vKind.Line = 47 ∷ 47 ∷ []
opened vKind.Block = 47 ∷ 42 ∷ []

abbrev pub closed_by : CommentKind → List ℕ
closed_by vKind.Line = []
closed_by vKind.Block = 42 ∷ 47 ∷ []

-- a comment with its delimiters
abbrev pub comment_text : Comment → List ℕ
comment_text c = opened c.kind ++ (c.text ++ closed_by c.kind)

-- each on a line
abbrev pub comment_line : Page → Comment → Page
comment_line p c = line_behind (Some 0) (write left.Never right.Tight k.Semicolon (comment_text c) p)

abbrev pub comment_lines : Page → List Comment → Page
comment_lines p cs = fold comment_line p cs

abbrev pub some : {A : Type 0} → Option (List A) → List A
some (Some xs) = xs
some None = []

-- those that lead at a place
abbrev pub leading_at : Option Placed → ℕ → List Comment
leading_at (Some placed) place = some (comments_at placed.leading place)
leading_at None place = []

abbrev pub leading : Option Placed → Option Token → List Comment
leading comments (Some t) = leading_at comments t.range.start
leading comments None = []

-- ---- the whole
-- a line end stands behind the last line
abbrev pub end_of : Last → List ℕ
end_of last.Line = 10 ∷ []
end_of _ = []

abbrev pub finished : Page → List ℕ
finished p = p.text ++ end_of p.last

abbrev pub start : Page
start = record { text = []; depth = 0; last = last.Nothing }

-- a text and its tokens, and the comments, where they are printed
module _ (x : List ℕ) (ts : List Token) (comments : Option Placed) where
  abbrev pub by_token : Option Token → Stand → Page → Page
  by_token (Some t) s p = token s t.kind (slice_range x t.range.start t.range.end) p
  by_token None s p = p

  unfoldable pub step : Page → Piece → Page
  step p (piece.Leading at) = comment_lines p (leading comments (slice_get ts at))
  step p piece.Close = record { text = p.text; depth = p.depth; last = closed p.last }
  step p (piece.Token s at) = by_token (slice_get ts at) s p
  step p (piece.Made it) = token (stand_of it) (kind_of it) (text_of it) p
  step p piece.End = semicolon p
  step p piece.BareEnd = bare_end p.last p
  step p piece.Line = line_behind (Some 0) p

  abbrev pub laid : Page → List Piece → Page
  laid p qs = fold step p qs

  -- what is printed of a program
  unfoldable pub printed : Cst → List ℕ
  printed tree = finished (laid start (pieces ts tree))
