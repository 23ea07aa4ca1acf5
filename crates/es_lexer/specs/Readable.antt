-- Which pieces may stand at a place (ECMA-262, "Lexical Grammar").
use Rattle.std.specs.Prelude.{◌≡◌, ℕ, ◌<◌, true, false, List, [], ◌∷◌, ◌++◌, length, ◌⊎◌}
use Rattle.es_unicode.specs.Wide.{wide_blank, wide_line}
use Rattle.es_lexer.specs.declared.bytes.First.{First}
use Rattle.es_lexer.specs.declared.bytes.First.TheVariants.{Blank, LineEnd}
use Rattle.es_lexer.specs.declared.goal.Goal.{Goal}
use Rattle.es_token.specs.declared.token.TokenKind.{TokenKind}
use Rattle.es_token.specs.declared.token.CommentKind.{CommentKind}
use Rattle.es_token.specs.declared.token.CommentKind.TheVariants.{Line, Block}
use Rattle.es_lexer.specs.Bytes.{first_of, begins_comment, has_closer, has_line_end, ends_line}
use Rattle.es_lexer.specs.Spelling.{Spells}
use Rattle.es_lexer.specs.Goal.{goal_of, allows, stands_apart}
use Rattle.es_lexer.specs.Pieces.{Piece, blank, line_end, comment, token, pieces_text}

-- no token that may stand here has a longer spelling
abbrev pub IsLongest : Goal → List ℕ → List ℕ → Type 0
IsLongest goal s after = (k : TokenKind) (more rest : List ℕ)
    → after ≡ more ++ rest → Spells goal k (s ++ more) → allows goal k rest ≡ true → more ≡ []

-- a token: the longest spelling at its place, where no comment begins
pub record IsToken (goal : Goal) (k : TokenKind) (s after : List ℕ) : Type 0 where
  pub spells : Spells goal k s
  pub allowed : allows goal k after ≡ true
  pub longest : IsLongest goal s after
  pub no_comment : begins_comment (s ++ after) ≡ false
  pub apart : stands_apart k after ≡ true

-- a comment: up to the line's end, or through the first closer ("Comments")
abbrev pub IsComment : CommentKind → List ℕ → List ℕ → Type 0
IsComment Line text after = (has_line_end text ≡ false) × (ends_line after ≡ true)
IsComment Block text after = has_closer (text ++ 42 ∷ []) ≡ false

-- one byte of this class
pub record IsByte (class : First) (s : List ℕ) : Type 0 where
  pub byte : ℕ
  pub whole : s ≡ byte ∷ []
  pub is : first_of byte ≡ class

-- a blank past ASCII
abbrev pub IsWideBlank : List ℕ → Type 0
IsWideBlank s = (0 < length s) × (wide_blank s ≡ length s)

-- a line end past ASCII
abbrev pub IsWideLine : List ℕ → Type 0
IsWideLine s = (0 < length s) × (wide_line s ≡ length s)

-- the piece may stand before this text
abbrev pub IsPiece : Goal → Piece → List ℕ → Type 0
IsPiece goal (blank s) after = IsByte Blank s ⊎ IsWideBlank s
IsPiece goal (line_end s) after = IsByte LineEnd s ⊎ IsWideLine s
IsPiece goal (comment kind text) after = IsComment kind text after
IsPiece goal (token k s) after = IsToken goal k s after

-- each piece may stand where it does, behind the pieces `before` and before the text `after`
abbrev pub ArePieces : List Piece → List Piece → List ℕ → Type 0
ArePieces before [] after = Unit {0}
ArePieces before (p ∷ pieces) after =
    IsPiece (goal_of before) p (pieces_text pieces ++ after) × ArePieces (p ∷ before) pieces after
