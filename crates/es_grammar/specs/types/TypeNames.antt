-- Names of types: `a.b<c>`, `import("a").b<c>`, and the lists of arguments and parameters between `<` and `>`.
use Rattle.std.specs.Prelude.{◌+◌, Bool, true, not, ◌&&◌, ◌||◌}
use Rattle.es_token.specs.declared.token.TokenKind.{TokenKind}
use Rattle.es_token.specs.declared.token.TokenKind.TheVariants as k
use Rattle.grammar_theory.specs.Key.{TokenTest, seen, same_kind, has_kind, is}
use Rattle.grammar_theory.specs.Productions.{as_str, as_name, as_kind, by_lookahead, greedy, by_predicate, Predicate, Rhs, done, tok, punct, row, opt, many, when_, where_, Production, make, choose, wrap}
use Rattle.es_grammar.specs.types.Words.{only, is_name, is_near, is_other}
use Rattle.es_grammar.specs.declared.types.rows.TypeRow.{TypeRow as Row}
use Rattle.es_grammar.specs.declared.types.rows.TypeRow.TheVariants.{TypeRow, EntityRow, ArgumentsRow, OpenedFunctionRow, OpenedParametersRow, ParametersRow, ResultRow}
use Rattle.es_grammar.specs.types.TypeRows.{NodeKind, Entity, Reference, FunctionType, ImportType, TypeArguments, TypeParameters}

-- ('.' Name)*, and what stands behind it
unfoldable pub further_names : Rhs Row → Rhs Row
further_names f = many (greedy (is k.Dot)) (punct k.Dot (tok as_name is_name done)) f

-- Entity: (Name | 'this') ('.' Name)*, by the kinds that its first token may have
unfoldable pub entity : (TokenKind → Bool) → Production Row NodeKind
entity may = make Entity (tok as_name may (further_names done))

-- `<`, or `<<`, whose second half opens the parameters of the first argument
unfoldable pub begins_angle : TokenTest
begins_angle x = is k.Less x || is k.LessLess x

-- a token that begins a type parameter
unfoldable pub begins_type_parameter : TokenTest
begins_type_parameter x = is k.ConstWord x || (is k.InWord x || has_kind is_name x)

-- a type parameter begins here: `const`, `in`, or a name before `>`, `,`, `extends`, `=` or a name
unfoldable pub shows_type_parameter : Predicate
shows_type_parameter K at =
    (is k.ConstWord (seen K at) || is k.InWord (seen K at))
    || (has_kind is_name (seen K at) && (is k.Greater (seen K (at + 1)) || (is k.Comma (seen K (at + 1))
    || (is k.ExtendsWord (seen K (at + 1)) || (is k.Equal (seen K (at + 1)) || has_kind is_name (seen K (at + 1)))))))

-- `<`, or `<<` before a type parameter: `b << 1` is a shift
unfoldable pub opens_angle : Predicate
opens_angle K at = is k.Less (seen K at) || (is k.LessLess (seen K at) && shows_type_parameter K (at + 1))

-- the same on the line of the token before it
unfoldable pub opens_arguments : Predicate
opens_arguments K at = is_near (seen K at) && opens_angle K at

unfoldable pub no_arguments : Predicate
no_arguments K at = not (opens_arguments K at)

-- Ref: Entity (~ TArgs)?
unfoldable pub reference : (TokenKind → Bool) → Production Row NodeKind
reference may =
    wrap Reference (entity may) (by_predicate opens_arguments) (when_ is_near (row ArgumentsRow (where_ no_arguments done)))

-- ImportT: 'import' '(' Str ')' ('.' Entity)? TArgs?
unfoldable pub import_type : Production Row NodeKind
import_type =
    make ImportType (punct k.ImportWord (punct k.OpenParen (tok as_str (only k.Str) (punct k.CloseParen
    (opt (greedy (is k.Dot)) (punct k.Dot (row EntityRow done))
    (opt (by_predicate opens_angle) (row ArgumentsRow done) done))))))

-- (',' Type)* '>'
unfoldable pub further_arguments : Rhs Row
further_arguments =
    many (greedy (is k.Comma)) (punct k.Comma (row (TypeRow true) done)) (punct k.Greater done)

-- TArgs: '<' Type (',' Type)* '>', or with `<<` in the place of both `<` where the first type begins with one
unfoldable pub arguments : Production Row NodeKind
arguments =
    choose (is k.LessLess) (make TypeArguments (punct k.LessLess (row OpenedFunctionRow further_arguments)))
    (make TypeArguments (punct k.Less (row (TypeRow true) further_arguments)))

-- a modifier of a type parameter: `const`, `in`, or `out` before a name or `in`
unfoldable pub is_modifier : TokenKind → Bool
is_modifier kind = same_kind kind k.ConstWord || (same_kind kind k.InWord || same_kind kind k.OutWord)

unfoldable pub opens_modifier : Predicate
opens_modifier K at =
    (is k.ConstWord (seen K at) || is k.InWord (seen K at))
    || (is k.OutWord (seen K at) && (has_kind is_name (seen K (at + 1)) || is k.InWord (seen K (at + 1))))

-- ('const' | 'in' | 'out')* Name ('extends' Type)? ('=' Type)?, a `,` unless `>` follows, and what stands behind it
unfoldable pub type_parameter : Rhs Row → Rhs Row
type_parameter f =
    many (by_predicate opens_modifier) (tok as_kind is_modifier done) (tok as_name is_name
    (opt (greedy (is k.ExtendsWord)) (punct k.ExtendsWord (row (TypeRow true) done))
    (opt (greedy (is k.Equal)) (punct k.Equal (row (TypeRow true) done))
    (opt (greedy (is_other k.Greater)) (punct k.Comma done) f))))

-- one or more of them, with an optional last ',' '>'
unfoldable pub listed_parameters : Rhs Row
listed_parameters =
    type_parameter (many (by_lookahead (is_other k.Greater)) (type_parameter done) (punct k.Greater done))

-- TParams: '<' and these
unfoldable pub type_parameters : Production Row NodeKind
type_parameters = make TypeParameters (punct k.Less listed_parameters)

-- the same behind `<<`, whose second half is their `<`
unfoldable pub opened_parameters : Production Row NodeKind
opened_parameters = make TypeParameters listed_parameters

-- a function type whose parameters are opened so
unfoldable pub opened_function : Production Row NodeKind
opened_function =
    make FunctionType (when_ begins_type_parameter
    (opt (greedy begins_type_parameter) (row OpenedParametersRow done)
    (punct k.OpenParen (row ParametersRow (punct k.CloseParen (punct k.Arrow (row (ResultRow true) done)))))))
