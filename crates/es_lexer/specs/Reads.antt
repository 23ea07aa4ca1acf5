-- The reading of a text: its tokens and its comments. The definition speaks of the whole text and of whole lists.
use Rattle.std.specs.Prelude.{◌≡◌, ℕ, ◌+◌, List, [], ◌∷◌, length, None}
use Rattle.base.specs.declared.range.Range.{Range}
use Rattle.es_token.specs.declared.token.TokenKind.{TokenKind}
use Rattle.es_token.specs.declared.token.Token.{Token}
use Rattle.es_token.specs.declared.token.Comment.{Comment}
use Rattle.es_token.specs.declared.token.CommentKind.{CommentKind}
use Rattle.es_lexer.specs.Brackets.{role_of}
use Rattle.es_lexer.specs.Pieces.{Piece, blank, line_end, comment, token, comment_spelling, pieces_text, place_of, line_since, open_at, behind, partner_of}
use Rattle.es_lexer.specs.Readable.{ArePieces}

-- the bytes of a text of this length at this place
abbrev pub range_at : ℕ → ℕ → Range
range_at at size = record { start = at; end = at + size }

-- the token behind the pieces `before`, the latest first, and before others
abbrev pub token_of : List Piece → TokenKind → List ℕ → List Piece → Token
token_of before k s pieces = record {
  kind = k;
  range = range_at (place_of before) (length s);
  line_before = line_since before;
  partner = partner_of (role_of k) before pieces;
}

-- the comment behind the pieces `before`
abbrev pub comment_of : List Piece → CommentKind → List ℕ → Comment
comment_of before kind text =
    record { kind = kind; range = range_at (place_of before) (length (comment_spelling kind text)); text = text }

-- the tokens among pieces, behind the pieces `before`
unfoldable pub tokens_of : List Piece → List Piece → List Token
tokens_of before [] = []
tokens_of before (blank s ∷ pieces) = tokens_of (blank s ∷ before) pieces
tokens_of before (line_end s ∷ pieces) = tokens_of (line_end s ∷ before) pieces
tokens_of before (comment kind text ∷ pieces) = tokens_of (comment kind text ∷ before) pieces
tokens_of before (token k s ∷ pieces) = token_of before k s pieces ∷ tokens_of (token k s ∷ before) pieces

-- the comments among pieces, behind the pieces `before`
unfoldable pub comments_of : List Piece → List Piece → List Comment
comments_of before [] = []
comments_of before (blank s ∷ pieces) = comments_of (blank s ∷ before) pieces
comments_of before (line_end s ∷ pieces) = comments_of (line_end s ∷ before) pieces
comments_of before (comment kind text ∷ pieces) =
    comment_of before kind text ∷ comments_of (comment kind text ∷ before) pieces
comments_of before (token k s ∷ pieces) = comments_of (token k s ∷ before) pieces

-- these are the tokens and the comments of the text
pub record Reads (x : List ℕ) (tokens : List Token) (comments : List Comment) : Type 0 where
  -- the text in pieces
  pub pieces : List Piece
  pub whole : x ≡ pieces_text pieces
  pub each : ArePieces [] pieces []
  -- no bracket is open behind them
  pub all_closed : open_at 0 (behind [] pieces) ≡ None
  pub tokens_are : tokens ≡ tokens_of [] pieces
  pub comments_are : comments ≡ comments_of [] pieces

-- these are the tokens of the text
abbrev pub ReadsTokens : List ℕ → List Token → Type 0
ReadsTokens x tokens = (comments : List Comment) × Reads x tokens comments
