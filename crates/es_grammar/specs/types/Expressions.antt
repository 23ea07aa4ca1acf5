-- Predicates of expressions (ECMA-262, "ECMAScript Language: Expressions"), with nothing of types.
use Rattle.std.specs.Prelude.{◌+◌, Bool, false, not, ◌&&◌, ◌||◌, Option, Some, None, slice_get}
use Rattle.es_token.specs.declared.token.TokenKind.{TokenKind}
use Rattle.es_token.specs.declared.token.TokenKind.TheVariants as k
use Rattle.grammar_theory.specs.Key.{Key, TokenTest, seen, same_kind, has_kind, is}
use Rattle.grammar_theory.specs.Productions.{Predicate}
use Rattle.es_grammar.specs.types.Words.{is_between, is_name, is_numeric, is_near, is_other, closes_before}
use Rattle.es_grammar.specs.declared.rows.Context.{Context}

-- ---- kinds of operators

unfoldable pub is_prefix : TokenKind → Bool
is_prefix kind =
    same_kind kind k.DeleteWord || (same_kind kind k.VoidWord || (same_kind kind k.TypeofWord || (same_kind kind k.Plus
    || (same_kind kind k.Minus || (same_kind kind k.Tilde || same_kind kind k.Exclamation)))))

unfoldable pub is_update : TokenKind → Bool
is_update kind = same_kind kind k.PlusPlus || same_kind kind k.MinusMinus

unfoldable pub is_product : TokenKind → Bool
is_product kind = same_kind kind k.Star || (same_kind kind k.Slash || same_kind kind k.Percent)

unfoldable pub is_sum : TokenKind → Bool
is_sum kind = same_kind kind k.Plus || same_kind kind k.Minus

unfoldable pub is_equality : TokenKind → Bool
is_equality kind = is_between k.EqualEqual k.NotEqualEqual kind

unfoldable pub is_relation : TokenKind → Bool
is_relation kind =
    same_kind kind k.Less || (same_kind kind k.LessEqual || (same_kind kind k.InstanceofWord
    || same_kind kind k.InWord))

-- an assignment operator of one token
unfoldable pub is_assignment : TokenKind → Bool
is_assignment kind = same_kind kind k.Equal || is_between k.PlusEqual k.QuestionQuestionEqual kind

-- a name, or a private one
unfoldable pub is_property_name : TokenKind → Bool
is_property_name kind = is_name kind || same_kind kind k.PrivateName

-- ---- runs of `>`

-- a token of this kind that starts where the one before it ends
abbrev pub is_joined : TokenKind → Option Key → Bool
is_joined kind (Some key) = same_kind key.kind kind && key.adjacent
is_joined kind None = false

unfoldable pub joins : TokenKind → Predicate
joins kind K at = is_joined kind (slice_get K at)

-- `>` or `>=`
unfoldable pub opens_greater : Predicate
opens_greater K at = is k.Greater (seen K at) && not (joins k.Greater K (at + 1))

-- `>>` or `>>>` without `=`
unfoldable pub opens_right_shift : Predicate
opens_right_shift K at =
    is k.Greater (seen K at) && (joins k.Greater K (at + 1)
    && not (joins k.Equal K (at + 2) || (joins k.Greater K (at + 2) && joins k.Equal K (at + 3))))

-- `>>=` or `>>>=`
unfoldable pub opens_right_assignment : Predicate
opens_right_assignment K at =
    is k.Greater (seen K at) && (joins k.Greater K (at + 1)
    && (joins k.Equal K (at + 2) || (joins k.Greater K (at + 2) && joins k.Equal K (at + 3))))

-- ---- what begins and what ends an expression

unfoldable pub begins_expression : TokenTest
begins_expression x =
    has_kind is_name x || (has_kind is_numeric x || (is k.Str x || (is k.RegExp x || (is k.TemplateWhole x
    || (is k.TemplateHead x || (is k.OpenParen x || (is k.OpenBracket x || (is k.OpenBrace x || (is k.ThisWord x
    || (is k.NullWord x || (is k.TrueWord x || (is k.FalseWord x || (is k.FunctionWord x || (is k.ClassWord x
    || (is k.SuperWord x || (is k.ImportWord x || (is k.NewWord x || (has_kind is_prefix x || (has_kind is_update x
    || (is k.AwaitWord x || (is k.YieldWord x || is k.PrivateName x)))))))))))))))))))))

-- ---- arrows

unfoldable pub is_arrow : TokenTest
is_arrow x = is_near x && is k.Arrow x

unfoldable pub no_arrow : TokenTest
no_arrow x = not (is_arrow x)

-- a name before `=>` on its line, or `(` whose `)` stands there
unfoldable pub opens_plain_arrow : Predicate
opens_plain_arrow K at =
    (has_kind is_name (seen K at) && is_arrow (seen K (at + 1)))
    || (is k.OpenParen (seen K at) && closes_before is_arrow K at)

-- `async` before such a name or `(` on its line
unfoldable pub opens_async_arrow : Predicate
opens_async_arrow K at =
    is k.AsyncWord (seen K at) && (not (is_arrow (seen K (at + 1)))
    && (is_near (seen K (at + 1)) && opens_plain_arrow K (at + 1)))

unfoldable pub opens_arrow : Predicate
opens_arrow K at = opens_plain_arrow K at || opens_async_arrow K at

-- `async` before `(`
unfoldable pub opens_async_parenthesis : Predicate
opens_async_parenthesis K at = is k.OpenParen (seen K (at + 1))

-- ---- primary expressions

-- `(` that opens no arrow
unfoldable pub is_no_arrow_head : Predicate
is_no_arrow_head K at = not (closes_before is_arrow K at)

-- `async` before `function` on its line
unfoldable pub opens_async_function : Predicate
opens_async_function K at =
    is k.AsyncWord (seen K at) && (is_near (seen K (at + 1)) && is k.FunctionWord (seen K (at + 1)))

unfoldable pub is_literal_word : TokenKind → Bool
is_literal_word kind =
    same_kind kind k.ThisWord || (same_kind kind k.NullWord || (same_kind kind k.TrueWord
    || same_kind kind k.FalseWord))

-- ---- chains

unfoldable pub opens_property : Predicate
opens_property K at = is k.Dot (seen K (at + 1))

-- `source`, or `defer`, stands behind `import` and `.`
unfoldable pub opens_source_call : Predicate
opens_source_call K at = is k.Dot (seen K (at + 1)) && is k.SourceWord (seen K (at + 2))

unfoldable pub opens_defer_call : Predicate
opens_defer_call K at = is k.Dot (seen K (at + 1)) && is k.DeferWord (seen K (at + 2))

-- a further argument of `import()`: a `,` that isn't the last one
unfoldable pub has_argument : Predicate
has_argument K at = is k.Comma (seen K at) && is_other k.CloseParen (seen K (at + 1))

unfoldable pub is_module : Context → Predicate
is_module c K at = not c.script

unfoldable pub follows_super : TokenTest
follows_super x = is k.Dot x || (is k.OpenBracket x || is k.OpenParen x)

-- a token that begins a member, and one that begins a further part of a chain
unfoldable pub begins_member : TokenTest
begins_member x = is k.Dot x || (is k.OpenBracket x || (is k.TemplateWhole x || is k.TemplateHead x))

unfoldable pub begins_post : TokenTest
begins_post x = begins_member x || (is k.OpenParen x || is k.QuestionDot x)

-- ---- operators

unfoldable pub may_await : Context → Predicate
may_await c K at = not c.script || c.in_async

unfoldable pub is_update_here : TokenTest
is_update_here x = is_near x && has_kind is_update x

unfoldable pub no_update_here : TokenTest
no_update_here x = not (is_update_here x)

-- '<<' | '>>' | '>>>'
unfoldable pub opens_shift : Predicate
opens_shift K at = is k.LessLess (seen K at) || opens_right_shift K at

-- '<' | '<=' | '>' | '>=' | 'instanceof' | 'in', this one outside the head of a `for`
unfoldable pub opens_relation : Context → Predicate
opens_relation c K at =
    opens_greater K at || (has_kind is_relation (seen K at) && not (c.no_in && is k.InWord (seen K at)))

unfoldable pub may_test : Context → Predicate
may_test c K at = not c.no_in

-- neither '&&' nor '||'
unfoldable pub no_mix : TokenTest
no_mix x = not (is k.AmpersandAmpersand x) && not (is k.BarBar x)

-- ---- assignments

-- `[` or `{` whose closer is followed by `=`
unfoldable pub opens_pattern : Predicate
opens_pattern K at =
    (is k.OpenBracket (seen K at) || is k.OpenBrace (seen K at)) && closes_before (is k.Equal) K at

unfoldable pub opens_assignment : Predicate
opens_assignment K at = has_kind is_assignment (seen K at) || opens_right_assignment K at

-- an operand of `yield` stands here
unfoldable pub is_operand : TokenTest
is_operand x = is_near x && (is k.Star x || begins_expression x)
