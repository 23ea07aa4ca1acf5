-- A text cut into pieces: tokens, comments and the gaps between them (ECMA-262, "Lexical Grammar").
-- Where pieces stand before a place, the latest comes first.
use Rattle.std.specs.Prelude.{ℕ, zero, suc, ◌+◌, Bool, true, false, ◌&&◌, ◌||◌, List, [], ◌∷◌, ◌++◌, length, flat_map, Option, Some, None}
use Rattle.es_lexer.specs.declared.bracket.BracketKind.{BracketKind}
use Rattle.es_lexer.specs.declared.bracket.BracketKind.TheVariants.{Template}
use Rattle.es_lexer.specs.declared.bracket.Role.{Role}
use Rattle.es_lexer.specs.declared.bracket.Role.TheVariants.{Opens, Closes, Continues, Plain}
use Rattle.es_token.specs.declared.token.TokenKind.{TokenKind}
use Rattle.es_token.specs.declared.token.CommentKind.{CommentKind}
use Rattle.es_token.specs.declared.token.CommentKind.TheVariants.{Line, Block}
use Rattle.es_lexer.specs.Bytes.{has_line_end}
use Rattle.es_lexer.specs.Brackets.{role_of}

-- a comment's text is what stands within its delimiters
pub data Piece : Type 0 where
  blank : List ℕ → Piece
  line_end : List ℕ → Piece
  comment : CommentKind → List ℕ → Piece
  token : TokenKind → List ℕ → Piece

-- `//` and the text, or the text between `/*` and `*/`
unfoldable pub comment_spelling : CommentKind → List ℕ → List ℕ
comment_spelling Line text = 47 ∷ 47 ∷ text
comment_spelling Block text = 47 ∷ 42 ∷ (text ++ 42 ∷ 47 ∷ [])

-- the bytes of a piece
abbrev pub spelling : Piece → List ℕ
spelling (blank s) = s
spelling (line_end s) = s
spelling (comment kind text) = comment_spelling kind text
spelling (token k s) = s

-- the text that the pieces make
abbrev pub pieces_text : List Piece → List ℕ
pieces_text pieces = flat_map spelling pieces

-- all pieces up to the end of these, the latest first
abbrev pub behind : List Piece → List Piece → List Piece
behind before [] = before
behind before (p ∷ pieces) = behind (p ∷ before) pieces

-- the place behind these pieces
abbrev pub place_of : List Piece → ℕ
place_of [] = 0
place_of (p ∷ before) = place_of before + length (spelling p)

-- how many tokens are among them
unfoldable pub count_of : List Piece → ℕ
count_of [] = 0
count_of (blank s ∷ before) = count_of before
count_of (line_end s ∷ before) = count_of before
count_of (comment kind text ∷ before) = count_of before
count_of (token k s ∷ before) = count_of before + 1

-- a token is among them
unfoldable pub is_behind : List Piece → Bool
is_behind [] = false
is_behind (blank s ∷ before) = is_behind before
is_behind (line_end s ∷ before) = is_behind before
is_behind (comment kind text ∷ before) = is_behind before
is_behind (token k s ∷ before) = true

-- a line end stands behind the latest token, in a comment or between
unfoldable pub line_since : List Piece → Bool
line_since [] = false
line_since (blank s ∷ before) = line_since before
line_since (line_end s ∷ before) = is_behind before
line_since (comment kind text ∷ before) = line_since before || is_behind before && has_line_end text
line_since (token k s ∷ before) = false

-- a bracket that is open: its kind, and what stands before it
pub record Open : Type 0 where
  pub kind : BracketKind
  pub before : List Piece

abbrev pub opened : BracketKind → List Piece → Option Open
opened kind before = Some (record { kind = kind; before = before })

-- the open bracket that has so many open brackets within it, behind a token of this role
unfoldable pub open_behind : ℕ → Role → List Piece → (ℕ → Option Open) → Option Open
open_behind zero (Opens kind) before outer = opened kind before
open_behind zero (Closes kind) before outer = outer 1
open_behind zero Continues before outer = opened Template before
open_behind zero Plain before outer = outer 0
open_behind (suc depth) (Opens kind) before outer = outer depth
open_behind (suc depth) (Closes kind) before outer = outer (suc (suc depth))
open_behind (suc depth) Continues before outer = outer (suc depth)
open_behind (suc depth) Plain before outer = outer (suc depth)

-- the open bracket that has so many open brackets within it, behind these pieces
unfoldable pub open_at : ℕ → List Piece → Option Open
open_at depth [] = None
open_at depth (blank s ∷ before) = open_at depth before
open_at depth (line_end s ∷ before) = open_at depth before
open_at depth (comment kind text ∷ before) = open_at depth before
open_at depth (token k s ∷ before) = open_behind depth (role_of k) before (λ d. open_at d before)

abbrev pub number_of : Option Open → Option ℕ
number_of None = None
number_of (Some bracket) = Some (count_of bracket.before)

abbrev pub bracket_of : Option Open → Option BracketKind
bracket_of None = None
bracket_of (Some bracket) = Some bracket.kind

-- the number of the token that closes a bracket with so many open brackets within it, at a token of this role
unfoldable pub closer_by : ℕ → Role → ℕ → (ℕ → Option ℕ) → Option ℕ
closer_by zero (Opens kind) number later = later 1
closer_by zero (Closes kind) number later = Some number
closer_by zero Continues number later = Some number
closer_by zero Plain number later = later 0
closer_by (suc depth) (Opens kind) number later = later (suc (suc depth))
closer_by (suc depth) (Closes kind) number later = later depth
closer_by (suc depth) Continues number later = later (suc depth)
closer_by (suc depth) Plain number later = later (suc depth)

-- the number of the token among these pieces that closes it, where the first token has this number
unfoldable pub closer_at : ℕ → ℕ → List Piece → Option ℕ
closer_at depth number [] = None
closer_at depth number (blank s ∷ pieces) = closer_at depth number pieces
closer_at depth number (line_end s ∷ pieces) = closer_at depth number pieces
closer_at depth number (comment kind text ∷ pieces) = closer_at depth number pieces
closer_at depth number (token k s ∷ pieces) =
    closer_by depth (role_of k) number (λ d. closer_at d (number + 1) pieces)

-- the number of the token that a token of this role matches: what opens is matched by what closes it
unfoldable pub partner_of : Role → List Piece → List Piece → Option ℕ
partner_of (Opens kind) before pieces = closer_at 0 (count_of before + 1) pieces
partner_of (Closes kind) before pieces = number_of (open_at 0 before)
partner_of Continues before pieces = closer_at 0 (count_of before + 1) pieces
partner_of Plain before pieces = None
