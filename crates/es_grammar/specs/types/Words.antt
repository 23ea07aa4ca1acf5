-- Kinds of tokens by what is written with them, and what the written predicates look at.
use Rattle.std.specs.Prelude.{ℕ, ◌+◌, leb, Bool, false, not, ◌&&◌, ◌||◌, List, Option, Some, None, slice_get}
use denote.Enum.Declared.{tag_of}
use Rattle.es_token.specs.declared.token.TokenKind.{TokenKind}
use Rattle.es_token.specs.declared.token.TokenKind.TheVariants as k
use Rattle.es_token.specs.contracts.token.TokenKind.{the_type}
use Rattle.grammar_theory.specs.Key.{Key, TokenTest, seen, same_kind, has_kind, is, is_after_line}
use Rattle.grammar_theory.specs.Productions.{Predicate}

-- this kind alone
abbrev pub only : TokenKind → TokenKind → Bool
only a kind = same_kind kind a

-- the kinds from one to another, in the order of `TokenKind`
abbrev pub is_between : TokenKind → TokenKind → TokenKind → Bool
is_between a b kind = leb (tag_of the_type a) (tag_of the_type kind) && leb (tag_of the_type kind) (tag_of the_type b)

-- a name: a plain one, or a contextual word
unfoldable pub is_name : TokenKind → Bool
is_name kind = same_kind kind k.Name || is_between k.AbstractWord k.UsingWord kind

-- a word: a name or a keyword
unfoldable pub is_word : TokenKind → Bool
is_word kind = same_kind kind k.Name || is_between k.AwaitWord k.UsingWord kind

-- a name or `this`
unfoldable pub is_name_or_this : TokenKind → Bool
is_name_or_this kind = is_name kind || same_kind kind k.ThisWord

-- a number or a bigint
unfoldable pub is_numeric : TokenKind → Bool
is_numeric kind = same_kind kind k.Number || same_kind kind k.BigInt

-- `+` or `-`
unfoldable pub is_sign : TokenKind → Bool
is_sign kind = same_kind kind k.Plus || same_kind kind k.Minus

-- `get` or `set`
unfoldable pub is_accessor_word : TokenKind → Bool
is_accessor_word kind = same_kind kind k.GetWord || same_kind kind k.SetWord

-- ~: on the line of the token before it
unfoldable pub is_near : TokenTest
is_near x = not (is_after_line x)

-- another token than this one
abbrev pub is_other : TokenKind → TokenTest
is_other kind x = not (is kind x)

-- a token that can begin the key of a property
unfoldable pub begins_key : TokenTest
begins_key x = has_kind is_word x || (is k.Str x || (has_kind is_numeric x || is k.OpenBracket x))

-- the number of the bracket that matches one
abbrev pub partner_of : Option Key → Option ℕ
partner_of (Some key) = key.partner
partner_of None = None

-- the test of the token behind a bracket
abbrev pub is_behind : TokenTest → List Key → Option ℕ → Bool
is_behind t K (Some closer) = t (seen K (closer + 1))
is_behind t K None = false

-- the test of the token behind the bracket that matches the one at the place
abbrev pub closes_before : TokenTest → Predicate
closes_before t K at = is_behind t K (partner_of (slice_get K at))
