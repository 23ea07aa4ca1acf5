-- Predicates of patterns, parameters, keys and properties of objects (ECMA-262, "Function Definitions", "Destructuring
-- Binding Patterns").
use Rattle.std.specs.Prelude.{ℕ, ◌+◌, Bool, true, false, not, ◌&&◌, ◌||◌, Option, Some, None, slice_get}
use Rattle.es_token.specs.declared.token.TokenKind.TheVariants as k
use Rattle.grammar_theory.specs.Key.{TokenTest, seen, has_kind, is}
use Rattle.grammar_theory.specs.Productions.{Predicate}
use Rattle.es_grammar.specs.types.Words.{is_accessor_word, is_near, begins_key, partner_of, closes_before}

-- ---- patterns

-- a pattern inside a pattern that is assigned to: `[` or `{` whose closer is followed by `=`, `,`, `]` or `}`
unfoldable pub follows_pattern : TokenTest
follows_pattern x = is k.Equal x || (is k.Comma x || (is k.CloseBracket x || is k.CloseBrace x))

unfoldable pub opens_inner_pattern : Predicate
opens_inner_pattern K at =
    (is k.OpenBracket (seen K at) || is k.OpenBrace (seen K at)) && closes_before follows_pattern K at

-- the place behind a key, by the number of the bracket that matches its first token
abbrev pub behind_key : ℕ → Option ℕ → ℕ
behind_key at (Some closer) = closer + 1
behind_key at None = at + 1

-- the test of the token behind a key
abbrev pub key_before : TokenTest → Predicate
key_before t K at = t (seen K (behind_key at (partner_of (slice_get K at))))

unfoldable pub opens_value : Predicate
opens_value K at = key_before (is k.Colon) K at

-- ---- parameters

-- a parameter stands here: neither `)` nor `...`
unfoldable pub is_parameter : TokenTest
is_parameter x = not (is k.CloseParen x) && not (is k.Ellipsis x)

-- ---- properties of objects

-- a token that can begin a key, in classes (true) a private one too
abbrev pub starts_key : Bool → TokenTest
starts_key true x = is k.PrivateName x || begins_key x
starts_key false x = begins_key x

-- `get` and `set` are modifiers before a key
unfoldable pub opens_accessor : Bool → Predicate
opens_accessor p K at = has_kind is_accessor_word (seen K at) && starts_key p (seen K (at + 1))

-- `async` is one before a key or `*` on its line
unfoldable pub opens_async : Bool → Predicate
opens_async p K at =
    is k.AsyncWord (seen K at) && (is_near (seen K (at + 1)) && (starts_key p (seen K (at + 1))
    || is k.Star (seen K (at + 1))))

-- behind a modifier stands a key that is none
unfoldable pub is_plain_key : Predicate
is_plain_key K at = not (opens_accessor false K at) && not (opens_async false K at)

unfoldable pub opens_star : Predicate
opens_star K at = is k.Star (seen K at)

unfoldable pub opens_method : Predicate
opens_method K at = key_before (is k.OpenParen) K at
