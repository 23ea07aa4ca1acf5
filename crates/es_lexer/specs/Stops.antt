-- The first lexical fault of a text: pieces cut a front of it, and nothing can be read behind them.
use Rattle.std.specs.Prelude.{◌≡◌, ℕ, ◌+◌, true, false, List, [], ◌∷◌, ◌++◌, length, Bool, ◌&&◌, Some, None, ◌⊎◌, if◌then◌else◌}
use Rattle.es_lexer.specs.declared.bracket.BracketKind.{BracketKind}
use Rattle.es_lexer.specs.declared.bytes.First.TheVariants.{Brace, Wide, Other}
use Rattle.es_lexer.specs.declared.goal.Goal.{Goal}
use Rattle.es_token.specs.declared.token.TokenKind.{TokenKind}
use Rattle.es_lexer.specs.declared.error.LexicalKind.{LexicalKind}
use Rattle.es_lexer.specs.declared.error.LexicalKind.TheVariants.{UnterminatedString, UnterminatedComment, UnterminatedTemplate, UnterminatedRegExp, InvalidEscape, InvalidChar, Unbalanced}
use Rattle.es_lexer.specs.Bytes.{first_of, begins_comment, begins_mark, begins_backslash, begins_escape, has_closer, joins, begins_name}
use Rattle.es_lexer.specs.declared.bracket.BracketKind.TheVariants.{Template}
use Rattle.es_lexer.specs.Brackets.{role_of, is_open, may_close}
use Rattle.es_lexer.specs.Signs.{sign_kind}
use Rattle.es_lexer.specs.Spelling.{template_start}
use Rattle.es_literal.specs.spelling.Units.{concat}
use Rattle.es_unicode.specs.Wide.{wide_size, wide_blank, wide_line}
use Rattle.es_literal.specs.spelling.RegExps.{IsBody}
use Rattle.es_literal.specs.spelling.Templates.{IsUnclosed}
use Rattle.es_literal.specs.Strings.{Begins, IsBad, IsCut}
use Rattle.es_literal.specs.spelling.Numbers.{IsNumber}
use Rattle.es_lexer.specs.Goal.{goal_of}
use Rattle.es_lexer.specs.Pieces.{Piece, pieces_text, behind}
use Rattle.es_lexer.specs.Readable.{ArePieces}

-- no body of a regular expression begins here
abbrev pub BeginsNoBody : List ℕ → Type 0
BeginsNoBody text = (body after : List ℕ) → text ≡ body ++ after → IsBody body → ⊥

-- the byte begins nothing but a punctuator: a `}` goes on in a template where a `${` is open
abbrev pub BeginsSign : Goal → ℕ → Type 0
BeginsSign goal b = first_of b ≡ Other ⊎ (first_of b ≡ Brace) × (is_open goal.bracket Template ≡ false)

-- no longer text at this place is a number
abbrev pub IsLongestNumber : List ℕ → List ℕ → Type 0
IsLongestNumber s after = (big : Bool) (more rest : List ℕ) → after ≡ more ++ rest → IsNumber big (s ++ more)
    → more ≡ []

-- the fault of a `\` that begins no name: a bad escape where `u` stands behind it
unfoldable pub backslash_fault : List ℕ → LexicalKind
backslash_fault text = if begins_escape text then InvalidEscape else InvalidChar

-- nothing can be read from `rest`, which stands at `at`: the kind of the fault, and its place
pub data Stuck (goal : Goal) (rest : List ℕ) (at : ℕ) (kind : LexicalKind) (place : ℕ) : Type 0 where
  -- a string literal without its end
  open_string : Begins (λ quote back. IsCut back) rest → kind ≡ UnterminatedString → place ≡ at
      → Stuck goal rest at kind place
  -- a `\` in a string literal that begins no escape
  bad_escape : (b : Begins IsBad rest) → kind ≡ InvalidEscape → place ≡ at + 1 + length (concat b.units)
      → Stuck goal rest at kind place
  -- a block comment without its end
  open_comment : (body : List ℕ) → rest ≡ 47 ∷ 42 ∷ body → has_closer body ≡ false
      → kind ≡ UnterminatedComment → place ≡ at → Stuck goal rest at kind place
  -- a character that begins nothing
  no_token : (b : ℕ) (after : List ℕ) → rest ≡ b ∷ after → first_of b ≡ Other → sign_kind (b ∷ []) ≡ None
      → kind ≡ InvalidChar → place ≡ at → Stuck goal rest at kind place
  -- bytes past ASCII that are no character
  no_character : (b : ℕ) (after : List ℕ) → rest ≡ b ∷ after → first_of b ≡ Wide → wide_size rest ≡ 0
      → wide_blank rest ≡ 0 → wide_line rest ≡ 0 → kind ≡ InvalidChar → place ≡ at → Stuck goal rest at kind place
  -- a regular expression without its end
  open_regexp : (text : List ℕ) → rest ≡ 47 ∷ text → begins_comment rest ≡ false → goal.regexp ≡ true
      → BeginsNoBody text → kind ≡ UnterminatedRegExp → place ≡ at → Stuck goal rest at kind place
  -- a bracket that doesn't close the innermost open one
  wrong_closer : (b : ℕ) (after : List ℕ) (k : TokenKind) → rest ≡ b ∷ after → BeginsSign goal b
      → sign_kind (b ∷ []) ≡ Some k → may_close goal.bracket (role_of k) ≡ false
      → kind ≡ Unbalanced → place ≡ at → Stuck goal rest at kind place
  -- a `\` that begins no name
  bad_name : begins_backslash rest ≡ true → begins_name rest ≡ false → kind ≡ backslash_fault rest → place ≡ at
      → Stuck goal rest at kind place
  -- one behind a `#`
  bad_private : (after : List ℕ) → rest ≡ 35 ∷ after → begins_backslash after ≡ true → begins_name after ≡ false
      → kind ≡ backslash_fault after → place ≡ at + 1 → Stuck goal rest at kind place
  -- a `#` that begins neither a private name nor, at the text's front, a shebang
  lone_hash : (after : List ℕ) → rest ≡ 35 ∷ after → begins_backslash after ≡ false → begins_name after ≡ false
      → (goal.front && begins_mark after) ≡ false → kind ≡ InvalidChar → place ≡ at → Stuck goal rest at kind place
  -- a character of a name, a `\` or a wrong `_`, right behind a number
  joined : (big : Bool) (s after : List ℕ) → rest ≡ s ++ after → IsNumber big s → IsLongestNumber s after
      → joins after ≡ true → kind ≡ InvalidChar → place ≡ at + length s → Stuck goal rest at kind place
  -- a template without its end, or what goes on in one
  open_template : (opens : Bool) (body : List ℕ) → rest ≡ template_start opens ∷ body
      → (opens ≡ false → is_open goal.bracket Template ≡ true) → IsUnclosed body
      → kind ≡ UnterminatedTemplate → place ≡ at → Stuck goal rest at kind place
  -- a bracket that is open at the text's end
  open_bracket : (bracket : BracketKind) → rest ≡ [] → goal.bracket ≡ Some bracket
      → kind ≡ Unbalanced → place ≡ at → Stuck goal rest at kind place

-- the first fault of the text has this kind and this place
pub record Stops (x : List ℕ) (kind : LexicalKind) (place : ℕ) : Type 0 where
  pub pieces : List Piece
  pub rest : List ℕ
  pub whole : x ≡ pieces_text pieces ++ rest
  pub each : ArePieces [] pieces rest
  pub stuck : Stuck (goal_of (behind [] pieces)) rest (length (pieces_text pieces)) kind place
