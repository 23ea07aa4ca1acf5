-- What the loop over a text keeps apart from its lists.
use Rattle.std.specs.Prelude.{ℕ, zero, suc, ◌+◌, ◌-◌, ◌≤◌, Bool, false, List, [], ◌∷◌, Option, Some, None, IsCharBoundary, slice_range}
use Rattle.base.specs.declared.range.Range.{Range}
use Rattle.es_lexer.specs.declared.bracket.BracketKind.{BracketKind}
use Rattle.es_lexer.specs.declared.bracket.BracketKind.TheVariants.{Template}
use Rattle.es_lexer.specs.declared.bracket.OpenBracket.{OpenBracket}
use Rattle.es_lexer.specs.declared.bracket.Role.{Role}
use Rattle.es_lexer.specs.declared.bracket.Role.TheVariants.{Opens, Closes, Continues, Plain}
use Rattle.es_token.specs.declared.token.TokenKind.{TokenKind}
use Rattle.es_token.specs.declared.token.Comment.{Comment}
use Rattle.es_token.specs.declared.token.Token.{Token}
use Rattle.es_token.specs.declared.token.CommentKind.{CommentKind}
use Rattle.es_token.specs.declared.token.CommentKind.TheVariants.{Line, Block}

-- where the text of a comment that ends here ends
abbrev pub text_end : CommentKind → ℕ → ℕ
text_end Line end = end
text_end Block end = end - 2

-- the text of such a comment can be cut out
pub record HasCommentText (x : List ℕ) (kind : CommentKind) (at end : ℕ) : Type 0 where
  pub room : at + 2 ≤ text_end kind end
  pub starts : IsCharBoundary x (at + 2)
  pub stops : IsCharBoundary x (text_end kind end)

-- the comment between two places of the text
abbrev pub comment_at : List ℕ → CommentKind → ℕ → ℕ → Comment
comment_at x kind at end =
    record { kind = kind; range = record { start = at; end = end }; text = slice_range x (at + 2) (text_end kind end) }

-- ---- brackets that are open, the innermost first
abbrev pub innermost : List OpenBracket → Option BracketKind
innermost [] = None
innermost (bracket ∷ brackets) = Some bracket.kind

abbrev pub first_of_open : List OpenBracket → Option OpenBracket
first_of_open [] = None
first_of_open (bracket ∷ brackets) = Some bracket

abbrev pub rest_of_open : List OpenBracket → List OpenBracket
rest_of_open [] = []
rest_of_open (bracket ∷ brackets) = brackets

-- the one that a token of this role closes
unfoldable pub closed_of : Role → List OpenBracket → Option OpenBracket
closed_of (Opens kind) brackets = None
closed_of (Closes kind) brackets = first_of_open brackets
closed_of Continues brackets = first_of_open brackets
closed_of Plain brackets = None

-- what it leaves
unfoldable pub left_of : Role → List OpenBracket → List OpenBracket
left_of (Opens kind) brackets = brackets
left_of (Closes kind) brackets = rest_of_open brackets
left_of Continues brackets = rest_of_open brackets
left_of Plain brackets = brackets

-- the one that it opens, before the others
unfoldable pub pushed : Role → ℕ → Bool → List OpenBracket → List OpenBracket
pushed (Opens kind) number headed brackets = record { kind = kind; number = number; headed = headed } ∷ brackets
pushed (Closes kind) number headed brackets = brackets
pushed Continues number headed brackets = record { kind = Template; number = number; headed = headed } ∷ brackets
pushed Plain number headed brackets = brackets

-- the tokens, with this partner at this place
unfoldable pub partnered : List Token → ℕ → Option ℕ → List Token
partnered [] place partner = []
partnered (t ∷ tokens) zero partner = record t { partner = partner } ∷ tokens
partnered (t ∷ tokens) (suc place) partner = t ∷ partnered tokens place partner

-- the tokens, where the token of this number closes this bracket
unfoldable pub joined : Option OpenBracket → ℕ → List Token → List Token
joined None number tokens = tokens
joined (Some bracket) number tokens = partnered tokens bracket.number (Some number)

-- the partner of a token that closes the bracket
unfoldable pub numbered : Role → Option OpenBracket → Option ℕ
numbered (Closes kind) (Some bracket) = Some bracket.number
numbered role closed = None

unfoldable pub is_headed : Option OpenBracket → Bool
is_headed None = false
is_headed (Some bracket) = bracket.headed

abbrev pub token_with : TokenKind → Range → Bool → Role → Option OpenBracket → Token
token_with k range line role closed =
    record { kind = k; range = range; line_before = line; partner = numbered role closed }
