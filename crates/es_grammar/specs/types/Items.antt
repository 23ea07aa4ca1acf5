-- Predicates of the items of modules (ECMA-262, "Scripts and Modules").
use Rattle.std.specs.Prelude.{◌+◌, not, ◌&&◌, ◌||◌}
use Rattle.es_token.specs.declared.token.TokenKind.TheVariants as k
use Rattle.grammar_theory.specs.Key.{seen, has_kind, is}
use Rattle.grammar_theory.specs.Productions.{Predicate}
use Rattle.es_grammar.specs.types.Expressions.{opens_async_function}
use Rattle.es_grammar.specs.types.Statements.{is_variable_word, opens_using}

-- `import` heads an import but before `(` or `.`
unfoldable pub opens_import : Predicate
opens_import K at =
    is k.ImportWord (seen K at) && not (is k.OpenParen (seen K (at + 1)) || is k.Dot (seen K (at + 1)))

unfoldable pub opens_default : Predicate
opens_default K at = is k.DefaultWord (seen K (at + 1))

-- behind `export default` stands a function, a class
unfoldable pub opens_default_function : Predicate
opens_default_function K at = is k.FunctionWord (seen K (at + 2)) || opens_async_function K (at + 2)

unfoldable pub opens_default_class : Predicate
opens_default_class K at = is k.ClassWord (seen K (at + 2))

-- behind `export` stands a declaration
unfoldable pub opens_declaration : Predicate
opens_declaration K at =
    has_kind is_variable_word (seen K (at + 1)) || (is k.FunctionWord (seen K (at + 1))
    || (is k.ClassWord (seen K (at + 1))
    || (opens_async_function K (at + 1) || opens_using K (at + 1))))
