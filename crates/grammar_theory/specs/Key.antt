-- What the grammar looks at of a token: a key. No row and no predicate looks at a text.
use Rattle.std.specs.Prelude.{ℕ, Bool, true, false, List, [], ◌∷◌, Option, Some, None, slice_get, ◌==◌}
use denote.Enum.Bare.{sameb}
use Rattle.es_token.specs.declared.token.Token.{Token}
use Rattle.es_token.specs.declared.token.TokenKind.{TokenKind}
use Rattle.es_token.specs.contracts.token.TokenKind.{the_type}

-- a token's kind, whether a line end stands before it, the number of its matching bracket, and whether it starts where the
-- token before it ends
pub record Key : Type 0 where
  pub kind : TokenKind
  pub line_before : Bool
  pub partner : Option ℕ
  pub adjacent : Bool

-- a token's key
abbrev pub key_of : Bool → Token → Key
key_of adjacent t = record { kind = t.kind; line_before = t.line_before; partner = t.partner; adjacent = adjacent }

-- the keys of tokens that stand behind a token with this end
abbrev pub keys_after : ℕ → List Token → List Key
keys_after end [] = []
keys_after end (t ∷ ts) = key_of (t.range.start == end) t ∷ keys_after t.range.end ts

-- the keys of all tokens of a text
abbrev pub keys_of : List Token → List Key
keys_of [] = []
keys_of (t ∷ ts) = key_of false t ∷ keys_after t.range.end ts

-- what a test of one token looks at: the token's kind, and whether a line end stands before it
pub record Seen : Type 0 where
  pub kind : TokenKind
  pub line_before : Bool

-- what is seen of a token, or nothing at the end
abbrev pub seen_of : Option Key → Option Seen
seen_of (Some key) = Some (record { kind = key.kind; line_before = key.line_before })
seen_of None = None

-- what is seen at a place
abbrev pub seen : List Key → ℕ → Option Seen
seen K at = seen_of (slice_get K at)

-- a test of the next token, or of the end
abbrev pub TokenTest : Type 0
TokenTest = Option Seen → Bool

-- two kinds are the same
abbrev pub same_kind : TokenKind → TokenKind → Bool
same_kind a b = sameb the_type a b

-- the next token is of such a kind
abbrev pub has_kind : (TokenKind → Bool) → TokenTest
has_kind may (Some s) = may s.kind
has_kind may None = false

-- the next token is of this kind
abbrev pub is : TokenKind → TokenTest
is kind x = has_kind (λ k. same_kind k kind) x

-- there is no next token
abbrev pub is_end : TokenTest
is_end (Some s) = false
is_end None = true

-- there is a next token
abbrev pub is_token : TokenTest
is_token (Some s) = true
is_token None = false

-- a line end stands before the next token
abbrev pub is_after_line : TokenTest
is_after_line (Some s) = s.line_before
is_after_line None = false
