-- Predicates of members of classes (ECMA-262, "Class Definitions").
use Rattle.std.specs.Prelude.{◌+◌, true, not, ◌&&◌, ◌||◌}
use Rattle.es_token.specs.declared.token.TokenKind.TheVariants as k
use Rattle.grammar_theory.specs.Key.{seen, is}
use Rattle.grammar_theory.specs.Productions.{Predicate}
use Rattle.es_grammar.specs.types.Words.{is_near}
use Rattle.es_grammar.specs.types.Functions.{starts_key, opens_accessor, opens_async}

-- `static` is a modifier before a key, `*` or `{`
unfoldable pub opens_static : Predicate
opens_static K at =
    is k.StaticWord (seen K at)
    && (starts_key true (seen K (at + 1)) || (is k.Star (seen K (at + 1)) || is k.OpenBrace (seen K (at + 1))))

-- `accessor` is one before a key or `*` on its line
unfoldable pub opens_field_accessor : Predicate
opens_field_accessor K at =
    is k.AccessorWord (seen K at)
    && (is_near (seen K (at + 1)) && (starts_key true (seen K (at + 1)) || is k.Star (seen K (at + 1))))

-- the predicate at this place, or behind the modifier `static`
unfoldable pub behind_static : Predicate → Predicate
behind_static g K at = (opens_static K at && g K (at + 1)) || (not (opens_static K at) && g K at)

-- behind the modifiers stands a key that is none
unfoldable pub is_plain_member : Predicate
is_plain_member K at =
    not (opens_static K at) && (not (opens_accessor true K at) && (not (opens_async true K at)
    && not (opens_field_accessor K at)))

unfoldable pub opens_static_block : Predicate
opens_static_block K at = is k.StaticWord (seen K at) && is k.OpenBrace (seen K (at + 1))
