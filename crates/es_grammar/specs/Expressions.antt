-- Expressions in both languages (ECMA-262, "ECMAScript Language: Expressions"; the handbook of TypeScript), templates,
-- functions and classes.
use Rattle.std.specs.Prelude.{◌+◌, ◌-◌, Bool, true, false, not, ◌&&◌, ◌||◌, if◌then◌else◌}
use Rattle.es_token.specs.declared.token.TokenKind.{TokenKind}
use Rattle.es_token.specs.declared.token.TokenKind.TheVariants as k
use Rattle.grammar_theory.specs.declared.error.Lang.{Lang}
use Rattle.grammar_theory.specs.Languages.{typed, asserts}
use Rattle.grammar_theory.specs.Key.{TokenTest, seen, same_kind, has_kind, is, is_after_line}
use Rattle.grammar_theory.specs.Productions.{as_str, as_name, as_raw, as_kind, as_there, by_lookahead, greedy, by_predicate, Predict, Predicate, Rhs, done, tok, punct, row, opt, many, alt, when_, where_, Production, make, choose, pick, wrap}
use Rattle.grammar_theory.specs.Tells.{none}
use Rattle.es_grammar.specs.types.Words.{only, is_name, is_numeric, is_near, is_other, closes_before}
use Rattle.es_grammar.specs.declared.rows.NodeKind.TheVariants.{AbstractClass, Arguments, ArrayLiteral, Assignment, AsyncFunction, AsyncNameArrow, AsyncParenthesizedArrow, AwaitExpression, Binary, CallPost, Chain, Class, Conditional, Function, ImportCall, SourceCall, DeferCall, ImportMeta, IndexPost, MemberPost, Name, NameArrow, New, NewTarget, NonNullPost, Number, ObjectLiteral, OptionalPost, Parenthesized, ParenthesizedArrow, PatternAssignment, PrivateIn, RegExp, Sequence, Spread, Str, Super, Template, TemplateParts, TemplatePost, TypeAssertion, TypedAsyncFunction, TypedAsyncParenthesizedArrow, TypedBinary, TypedCallPost, TypedClass, TypedFunction, TypedNew, TypedOptionalPost, TypedParenthesizedArrow, TypedTemplatePost, UnaryExpression, UpdatePostfix, UpdatePrefix, Word, Yield}
use Rattle.es_grammar.specs.declared.types.rows.TypeRow.TheVariants as types
use Rattle.es_grammar.specs.types.Modules.{ended}
use Rattle.es_grammar.specs.types.TypeNames.{begins_angle}
use Rattle.es_grammar.specs.types.Expressions.{is_prefix, is_update, is_product, is_sum, is_equality, is_relation, is_assignment, is_property_name, joins, opens_greater, begins_expression, is_arrow, no_arrow, opens_plain_arrow, opens_async_arrow, opens_async_parenthesis, is_no_arrow_head, opens_async_function, is_literal_word, opens_property, has_argument, opens_source_call, opens_defer_call, follows_super, begins_member, begins_post, is_update_here, no_update_here, opens_shift, no_mix, opens_pattern, opens_assignment}
use Rattle.es_grammar.specs.declared.rows.Context.{Context}
use Rattle.es_grammar.specs.declared.rows.Row.{Row}
use Rattle.es_grammar.specs.declared.rows.NodeKind.{NodeKind}
use Rattle.es_grammar.specs.declared.rows.Row.TheVariants.{BlockRow, SignatureRow, ParametersRow, PatternRow, PropertyRow, ExpressionRow, AssignmentRow, AndRow, BitOrRow, BitXorRow, BitAndRow, EqualityRow, RelationRow, RightRow, ShiftRow, SumRow, ProductRow, PowerRow, UnaryRow, ChainRow, CalleeRow, PostRow, MemberPostRow, ArgumentsRow, ElementRow, TemplateRow, MemberRow, TypesRow}
use Rattle.es_grammar.specs.Rows.{outside, async_in, async_here, without_colon}
use Rattle.es_grammar.specs.Embedding.{label_by, typed_in, type_then, type_parameters_in, type_arguments_in, reads_before, begins_call, opens_call_arguments, opens_heritage_arguments, typed_before}

-- `as` or `satisfies`, on the line of the token before it
unfoldable pub is_assertion_word : TokenKind → Bool
is_assertion_word kind = same_kind kind k.AsWord || same_kind kind k.SatisfiesWord

unfoldable pub opens_assertion : TokenTest
opens_assertion x = is_near x && has_kind is_assertion_word x

-- in TypeScript an expression may also begin with `<`: an arrow's type parameters
abbrev pub begins_value : Lang → TokenTest
begins_value l x = (typed l && is k.Less x) || begins_expression x

-- ---- type arguments of `new`

-- a token that goes on with what `a<b>` is as comparisons, or with a member
unfoldable pub goes_on : TokenTest
goes_on x =
    is k.Less x || (is k.Greater x || (has_kind is_sum x || (is k.Equal x || (is k.Dot x || (is k.QuestionDot x
    || is k.OpenBracket x)))))

-- `new a<b>` ends before a token that doesn't, and that stands on a new line, is `as` or `satisfies`, or begins no
-- expression
unfoldable pub ends_new : TokenTest
ends_new x = not (goes_on x) && (is_after_line x || (opens_assertion x || not (begins_expression x)))

-- behind the type arguments of `new`: `(` or a template, or such a token; `>==` is no `>` before `==`
unfoldable pub stands_new : Predicate
stands_new K at =
    begins_call (seen K at)
    || (ends_new (seen K at) && not (joins k.EqualEqual K at || joins k.EqualEqualEqual K at))

unfoldable pub opens_new_arguments : Predicate
opens_new_arguments K at = begins_angle (seen K at) && reads_before types.ArgumentsRow stands_new K at

-- ---- arrows

-- in TypeScript `(` opens an arrow also where its `)` is followed by `:`, unless no `:` opens a result here
abbrev pub follows_parameters : Context → TokenTest
follows_parameters c x = is_arrow x || (not c.no_colon && is k.Colon x)

unfoldable pub opens_parameters_of_arrow : Context → Predicate
opens_parameters_of_arrow c K at = is k.OpenParen (seen K at) && closes_before (follows_parameters c) K at

-- `<` behind `async` on its line opens one exactly where type parameters can be read there and such a `(` follows
unfoldable pub opens_generic_async : Context → Predicate
opens_generic_async c K at =
    is k.Less (seen K at) && reads_before types.TypeParametersRow (opens_parameters_of_arrow c) K at

-- any other `<`; where one may assert a type, it opens an arrow as behind `async`
abbrev pub opens_generic : Lang → Context → Predicate
opens_generic l c K at = if asserts l then opens_generic_async c K at else is k.Less (seen K at)

-- a name before `=>` on its line, such a `(`; in TypeScript also `<`
unfoldable pub opens_arrow_here : Lang → Context → Predicate
opens_arrow_here l c K at =
    if typed l then (has_kind is_name (seen K at) && is_arrow (seen K (at + 1)))
    || (opens_parameters_of_arrow c K at || opens_generic l c K at)
    else opens_plain_arrow K at

-- `async` before such a name or `(` on its line
unfoldable pub opens_async_here : Lang → Context → Predicate
opens_async_here l c K at =
    if typed l then is k.AsyncWord (seen K at) && (not (is_arrow (seen K (at + 1))) && (is_near (seen K (at + 1))
    && ((has_kind is_name (seen K (at + 1)) && is_arrow (seen K (at + 2)))
    || (opens_parameters_of_arrow c K (at + 1) || opens_generic_async c K (at + 1)))))
    else opens_async_arrow K at

unfoldable pub opens_any_arrow : Lang → Context → Predicate
opens_any_arrow l c K at = opens_arrow_here l c K at || opens_async_here l c K at

-- ~ '=>' (Block | Assign)
unfoldable pub arrow_in : Context → Context → Rhs Row
arrow_in c d =
    when_ is_near (punct k.Arrow (alt (is k.OpenBrace) (row (BlockRow (outside d)) done)
    (when_ (is_other k.OpenBrace) (row (AssignmentRow d) done)) done))

-- the `:` of an arrow's result, where one may stand
unfoldable pub opens_arrow_result : Context → Predicate
opens_arrow_result c K at = not c.no_colon && is k.Colon (seen K at)

-- (TS ':' Ret)? ~ '=>' .., behind the parameters, in the place of the arrow and in that of its body
unfoldable pub arrow_result_in : Context → Rhs Row → Rhs Row
arrow_result_in c f =
    opt (by_predicate (opens_arrow_result c)) (punct k.Colon (row (TypesRow (types.ResultRow true)) done)) f

-- (TS TParams)? '(' Params ')' (TS ':' Ret)? ~ '=>' (Block | Assign), the parameters in a place of their own
unfoldable pub parameters_arrow_in : Lang → Context → Context → Context → Rhs Row
parameters_arrow_in l parameters c d =
    typed_in l type_parameters_in (punct k.OpenParen (row (ParametersRow parameters) (punct k.CloseParen
    (typed_in l (arrow_result_in c) (arrow_in c d)))))

-- a token that begins an arrow's parameters in brackets
abbrev pub begins_parameters : Lang → TokenTest
begins_parameters l x = if typed l then is k.OpenParen x || is k.Less x else is k.OpenParen x

-- Name ~ '=>' .. | (TS TParams)? '(' Params ')' (TS ':' Ret)? ~ '=>' ..
unfoldable pub plain_arrow : Lang → Context → Production Row NodeKind
plain_arrow l c =
    choose (begins_parameters l)
    (make (label_by l ParenthesizedArrow TypedParenthesizedArrow) (parameters_arrow_in l (outside c) c c))
    (make NameArrow (tok as_name is_name (arrow_in c c)))

unfoldable pub opens_async_list : Lang → Predicate
opens_async_list l K at =
    if typed l then is k.OpenParen (seen K (at + 1)) || is k.Less (seen K (at + 1)) else opens_async_parenthesis K at

-- 'async' ~ Name ~ '=>' .. | 'async' ~ (TS TParams)? '(' Params ')' (TS ':' Ret)? ~ '=>' ..
unfoldable pub async_arrow : Lang → Context → Production Row NodeKind
async_arrow l c =
    pick (opens_async_list l)
    (make (label_by l AsyncParenthesizedArrow TypedAsyncParenthesizedArrow)
    (punct k.AsyncWord (when_ is_near (parameters_arrow_in l (async_in c) c (async_here c)))))
    (make AsyncNameArrow (punct k.AsyncWord (when_ is_near (tok as_name is_name (arrow_in c (async_here c))))))

-- ---- templates

-- Tpl: whole | head Expr (middle Expr)* tail
unfoldable pub template : Context → Production Row NodeKind
template c =
    choose (is k.TemplateWhole) (make Template (tok as_raw (only k.TemplateWhole) done))
    (make TemplateParts (tok as_raw (only k.TemplateHead) (row (ExpressionRow (outside c))
    (many (greedy (is k.TemplateMiddle)) (tok as_raw (only k.TemplateMiddle) (row (ExpressionRow (outside c)) done))
    (tok as_raw (only k.TemplateTail) done)))))

-- ---- functions and classes

-- '*'?, and what stands behind it
unfoldable pub star_in : Rhs Row → Rhs Row
star_in f = opt (greedy (is k.Star)) (tok as_there (only k.Star) done) f

-- a name, which may lack where it isn't asked for, and what stands behind it
unfoldable pub name_in : Bool → Rhs Row → Rhs Row
name_in true f = tok as_name is_name f
name_in false f = opt (greedy (has_kind is_name)) (tok as_name is_name done) f

-- in TypeScript `implements` before a name is no name of a class
unfoldable pub opens_class_name : Predicate
opens_class_name K at =
    has_kind is_name (seen K at) && not (is k.ImplementsWord (seen K at) && has_kind is_name (seen K (at + 1)))

-- a class's name
unfoldable pub class_name_in : Lang → Bool → Rhs Row → Rhs Row
class_name_in l true f = name_in true f
class_name_in l false f =
    if typed l then opt (by_predicate opens_class_name) (tok as_name is_name done) f else name_in false f

-- Block | TS END: a function's block is taken where its `{` is there
unfoldable pub body_in : Lang → Context → Rhs Row
body_in l c =
    if typed l then alt (is k.OpenBrace) (row (BlockRow c) done) (when_ (is_other k.OpenBrace) ended) done
    else row (BlockRow c) done

-- 'function' '*'? Name? Sig (Block | TS END)
unfoldable pub function : Lang → Bool → Context → Production Row NodeKind
function l named c =
    make (label_by l Function TypedFunction) (punct k.FunctionWord (star_in (name_in named
    (row (SignatureRow (outside c)) (body_in l (outside c))))))

-- 'async' ~ 'function' '*'? Name? Sig (Block | TS END)
unfoldable pub async_function : Lang → Bool → Context → Production Row NodeKind
async_function l named c =
    make (label_by l AsyncFunction TypedAsyncFunction)
    (punct k.AsyncWord (when_ is_near (punct k.FunctionWord (star_in (name_in named
    (row (SignatureRow (async_in c)) (body_in l (async_in c))))))))

-- Fn: 'function' .. | 'async' ~ 'function' ..
unfoldable pub any_function : Lang → Bool → Context → Production Row NodeKind
any_function l named c = choose (is k.AsyncWord) (async_function l named c) (function l named c)

-- X (',' X)*, of types, and what stands behind it
unfoldable pub references_in : Rhs Row → Rhs Row
references_in f =
    row (TypesRow types.ReferenceRow) (many (greedy (is k.Comma)) (punct k.Comma (row
    (TypesRow types.ReferenceRow) done)) f)

-- (TS TArgs)?, behind the operand of `extends`
unfoldable pub heritage_in : Rhs Row → Rhs Row
heritage_in f = opt (by_predicate opens_heritage_arguments) (row (TypesRow types.ArgumentsRow) done) f

-- (TS 'implements' Ref%+)?
unfoldable pub implements_in : Rhs Row → Rhs Row
implements_in f = opt (greedy (is k.ImplementsWord)) (punct k.ImplementsWord (references_in done)) f

-- 'class' Name? (TS TParams)? ('extends' Chain (TS TArgs)?)? (TS 'implements' Ref%+)? '{' Member* '}'
unfoldable pub class_form : Lang → Bool → Context → Rhs Row
class_form l named c =
    punct k.ClassWord (class_name_in l named (typed_in l type_parameters_in
    (opt (greedy (is k.ExtendsWord)) (punct k.ExtendsWord (row (ChainRow (outside c)) (typed_in l heritage_in done)))
    (typed_in l implements_in
    (punct k.OpenBrace (many (by_lookahead (is_other k.CloseBrace)) (row (MemberRow (outside c)) done)
    (punct k.CloseBrace done)))))))

unfoldable pub class_ : Lang → Bool → Context → Production Row NodeKind
class_ l named c = make (label_by l Class TypedClass) (class_form l named c)

-- TS 'abstract' 'class' ..
unfoldable pub abstract_class : Lang → Bool → Context → Production Row NodeKind
abstract_class l named c = make AbstractClass (punct k.AbstractWord (class_form l named c))

-- `abstract` before `class`, on a new line too
unfoldable pub opens_abstract_class : Predicate
opens_abstract_class K at = is k.AbstractWord (seen K at) && is k.ClassWord (seen K (at + 1))

-- Class
unfoldable pub any_class : Lang → Bool → Context → Production Row NodeKind
any_class l named c = typed_before l (choose (is k.AbstractWord) (abstract_class l named c)) (class_ l named c)

-- ---- primary expressions

-- AElem: '...'? Assign, without a node of its own where it is an expression alone; the expression is told by its rule
unfoldable pub spread : Context → Production Row NodeKind
spread c = make Spread (punct k.Ellipsis (row (AssignmentRow (outside c)) done))

-- '[' (AElem? ',')* AElem? ']'
unfoldable pub array_literal : Context → Production Row NodeKind
array_literal c =
    make ArrayLiteral (punct k.OpenBracket (many (by_lookahead (is_other k.CloseBracket))
    (alt (is k.Comma) (punct k.Comma done)
    (row (ElementRow c) (opt (greedy (is_other k.CloseBracket)) (punct k.Comma done) done)) done)
    (punct k.CloseBracket done)))

-- '{' Prop% '}'
unfoldable pub object_literal : Context → Production Row NodeKind
object_literal c =
    make ObjectLiteral (punct k.OpenBrace (many (by_lookahead (is_other k.CloseBrace))
    (row (PropertyRow c) (opt (greedy (is_other k.CloseBrace)) (punct k.Comma done) done)) (punct k.CloseBrace done)))

-- `(` that opens no arrow
unfoldable pub opens_no_arrow : Lang → Context → Predicate
opens_no_arrow l c K at =
    if typed l then not (closes_before (follows_parameters c) K at) else is_no_arrow_head K at

-- a name that is no part of an arrow, a function, or in TypeScript an abstract class
unfoldable pub name_expression : Production Row NodeKind
name_expression = make Name (tok as_name is_name (when_ no_arrow done))

unfoldable pub named_primary : Lang → Context → Production Row NodeKind
named_primary l c =
    pick opens_async_function (async_function l false c)
    (typed_before l (pick opens_abstract_class (abstract_class l false c)) name_expression)

-- Prim
unfoldable pub primary : Lang → Context → Production Row NodeKind
primary l c =
    choose (is k.OpenParen)
    (make Parenthesized (where_ (opens_no_arrow l c) (punct k.OpenParen (row (ExpressionRow (outside c))
    (punct k.CloseParen done)))))
    (choose (is k.OpenBracket) (array_literal (outside c))
    (choose (is k.OpenBrace) (object_literal (outside c))
    (choose (is k.FunctionWord) (function l false c)
    (choose (is k.ClassWord) (class_ l false c)
    (choose (has_kind is_name) (named_primary l c)
    (choose (has_kind is_literal_word) (make Word (tok as_kind is_literal_word done))
    (choose (has_kind is_numeric) (make Number (tok as_raw is_numeric done))
    (choose (is k.Str) (make Str (tok as_str (only k.Str) done))
    (choose (is k.RegExp) (make RegExp (tok as_raw (only k.RegExp) done)) (template c))))))))))

-- ---- chains

-- '(' Assign (',' Assign)? ','? ')'
unfoldable pub import_arguments : Context → Rhs Row
import_arguments c =
    punct k.OpenParen (row (AssignmentRow (outside c))
    (opt (by_predicate has_argument) (punct k.Comma (row (AssignmentRow (outside c)) done))
    (opt (greedy (is k.Comma)) (punct k.Comma done) (punct k.CloseParen done))))

-- 'import' '(' Assign (',' Assign)? ','? ')'
unfoldable pub import_call : Context → Production Row NodeKind
import_call c = make ImportCall (punct k.ImportWord (import_arguments c))

-- 'import' '.' 'source' '(' Assign (',' Assign)? ','? ')'
unfoldable pub source_call : Context → Production Row NodeKind
source_call c = make SourceCall (punct k.ImportWord (punct k.Dot (punct k.SourceWord (import_arguments c))))

-- 'import' '.' 'defer' '(' Assign (',' Assign)? ','? ')'
unfoldable pub defer_call : Context → Production Row NodeKind
defer_call c = make DeferCall (punct k.ImportWord (punct k.Dot (punct k.DeferWord (import_arguments c))))

unfoldable pub is_module : Context → Predicate
is_module c K at = c.as_module

-- 'import' '.' 'meta', in modules
unfoldable pub import_meta : Context → Production Row NodeKind
import_meta c =
    make ImportMeta (where_ (is_module c) (punct k.ImportWord (punct k.Dot (punct k.MetaWord done))))

-- (TS TArgs)?, behind Chain1
unfoldable pub new_arguments_in : Rhs Row → Rhs Row
new_arguments_in f = opt (by_predicate opens_new_arguments) (row (TypesRow types.ArgumentsRow) done) f

-- 'import' '(' .. ')' | 'import' '.' ('source' | 'defer') '(' .. ')' | 'import' '.' 'meta'
unfoldable pub import_base : Context → Production Row NodeKind
import_base c =
    pick opens_source_call (source_call c)
    (pick opens_defer_call (defer_call c) (pick opens_property (import_meta c) (import_call c)))

-- behind `new` (false) an import is no call (ECMA-262, "Left-Hand-Side Expressions")
unfoldable pub imported : Bool → Context → Production Row NodeKind
imported true c = import_base c
imported false c = import_meta c

-- Base: Prim | 'super' | 'import' '(' .. ')' | 'import' '.' 'meta' | 'import' '.' ('source' | 'defer') '(' .. ')'
--       | 'new' '.' 'target' | 'new' Chain1 (TS TArgs)? Args?, import calls not behind `new`
unfoldable pub base : Lang → Bool → Context → Production Row NodeKind
base l called c =
    choose (is k.SuperWord) (make Super (tok as_there (only k.SuperWord) (when_ follows_super done)))
    (choose (is k.ImportWord) (imported called c)
    (choose (is k.NewWord)
    (pick opens_property (make NewTarget (punct k.NewWord (punct k.Dot (punct k.TargetWord done))))
    (make (label_by l New TypedNew) (punct k.NewWord (row (CalleeRow c) (typed_in l new_arguments_in
    (opt (greedy (is k.OpenParen)) (row (ArgumentsRow c) done) done))))))
    (primary l c)))

-- Args: '(' ('...'? Assign)% ')'
unfoldable pub arguments : Context → Production Row NodeKind
arguments c =
    make Arguments (punct k.OpenParen (many (by_lookahead (is_other k.CloseParen))
    (opt (greedy (is k.Ellipsis)) (tok as_there (only k.Ellipsis) done)
    (row (AssignmentRow (outside c)) (opt (greedy (is_other k.CloseParen)) (punct k.Comma done) done)))
    (punct k.CloseParen done)))

-- `!` on the line of the token before it
unfoldable pub opens_non_null : TokenTest
opens_non_null x = is_near x && is k.Exclamation x

-- a token that begins a member, or in TypeScript such a `!`
abbrev pub begins_callee_post : Lang → TokenTest
begins_callee_post l x = if typed l then begins_member x || opens_non_null x else begins_member x

-- a token that begins a further part of a chain, or in TypeScript `<` or `<<` that opens type arguments
unfoldable pub opens_post : Predicate
opens_post K at = begins_post (seen K at) || (opens_non_null (seen K at) || opens_call_arguments K at)

-- '.' (Name | PrivateName) | '[' Expr ']' | Tpl
unfoldable pub plain_member_post : Context → Production Row NodeKind
plain_member_post c =
    choose (is k.Dot) (make MemberPost (punct k.Dot (tok as_name is_property_name done)))
    (choose (is k.OpenBracket)
    (make IndexPost (punct k.OpenBracket (row (ExpressionRow (outside c)) (punct k.CloseBracket done))))
    (make TemplatePost (row (TemplateRow c) done)))

-- TS ~ '!'
unfoldable pub non_null_post : Production Row NodeKind
non_null_post = make NonNullPost (when_ is_near (punct k.Exclamation done))

-- '.' (Name | PrivateName) | '[' Expr ']' | Tpl | TS ~ '!'
unfoldable pub member_post : Lang → Context → Production Row NodeKind
member_post l c = typed_before l (choose (is k.Exclamation) non_null_post) (plain_member_post c)

-- the arguments of a call behind `?.`
abbrev pub begins_arguments : Lang → TokenTest
begins_arguments l x = if typed l then is k.OpenParen x || begins_angle x else is k.OpenParen x

-- '?.' (Name | PrivateName | '[' Expr ']' | (TS TArgs)? Args)
unfoldable pub optional_post : Lang → Context → Production Row NodeKind
optional_post l c =
    make (label_by l OptionalPost TypedOptionalPost) (punct k.QuestionDot
    (alt (is k.OpenBracket) (punct k.OpenBracket (row (ExpressionRow (outside c)) (punct k.CloseBracket done)))
    (alt (begins_arguments l) (typed_in l type_arguments_in (row (ArgumentsRow c) done))
    (tok as_name is_property_name done) done) done))

-- behind the type arguments, or here, stands this token
unfoldable pub is_at : TokenTest → Predicate
is_at t K at = t (seen K at)

unfoldable pub opens_call : Predicate
opens_call K at =
    is k.OpenParen (seen K at)
    || (begins_angle (seen K at) && reads_before types.ArgumentsRow (is_at (is k.OpenParen)) K at)

unfoldable pub opens_typed_template : Predicate
opens_typed_template K at = begins_angle (seen K at)

-- '?.' .. | a member
abbrev pub other_post : Lang → Context → Production Row NodeKind
other_post l c = choose (is k.QuestionDot) (optional_post l c) (member_post l c)

-- TArgs? Args | TArgs? Tpl | '?.' .. | a member
abbrev pub typed_post : Lang → Context → Production Row NodeKind
typed_post l c =
    pick opens_call (make TypedCallPost (type_arguments_in (row (ArgumentsRow c) done)))
    (pick opens_typed_template (make TypedTemplatePost (type_arguments_in (row (TemplateRow c) done))) (other_post l c))

-- Args | '?.' .. | a member
abbrev pub plain_post : Lang → Context → Production Row NodeKind
plain_post l c = choose (is k.OpenParen) (make CallPost (row (ArgumentsRow c) done)) (other_post l c)

-- Post: '.' (Name | PrivateName) | '[' Expr ']' | (TS TArgs)? Args | (TS TArgs)? Tpl | '?.' .. | TS ~ '!'
unfoldable pub post : Lang → Context → Production Row NodeKind
post l c = if typed l then typed_post l c else plain_post l c

-- what tells that a chain goes on
abbrev pub before_post : Lang → Predict
before_post l = if typed l then by_predicate opens_post else greedy begins_post

-- Chain: Base Post*
unfoldable pub chain : Lang → Context → Production Row NodeKind
chain l c =
    wrap Chain (base l true c) (before_post l) (row (PostRow c) (many (before_post l) (row (PostRow c) done) done))

-- Chain1: a Chain with no Args, no `?.` and no TArgs, and no import call at its front
unfoldable pub callee : Lang → Context → Production Row NodeKind
callee l c =
    wrap Chain (base l false c) (greedy (begins_callee_post l))
    (row (MemberPostRow c) (many (greedy (begins_callee_post l)) (row (MemberPostRow c) done) done))

-- ---- operators

unfoldable pub may_await : Context → Predicate
may_await c K at = c.as_module || c.in_async

-- ('++' | '--') Unary | Chain (~ ('++' | '--'))?
unfoldable pub update : Lang → Context → Production Row NodeKind
update l c =
    choose (has_kind is_update) (make UpdatePrefix (tok as_kind is_update (row (UnaryRow c) done)))
    (wrap UpdatePostfix (chain l c) (greedy is_update_here) (when_ is_near (tok as_kind is_update
    (when_ no_update_here done))))

-- ('delete' | 'void' | 'typeof' | '+' | '-' | '~' | '!') Unary, and what stands behind it
unfoldable pub prefix : Context → Rhs Row → Production Row NodeKind
prefix c f = make UnaryExpression (tok as_kind is_prefix (row (UnaryRow c) f))

-- 'await' Unary, in modules and in async functions
unfoldable pub await_ : Context → Rhs Row → Production Row NodeKind
await_ c f = make AwaitExpression (where_ (may_await c) (punct k.AwaitWord (row (UnaryRow c) f)))

-- behind an operand no assignment goes on
unfoldable pub no_assignment : Predicate
no_assignment K at = not (opens_assignment K at)

-- '<' (Type | 'const') '>' Unary, and what stands behind it: brackets stand round such a target of an assignment
unfoldable pub type_assertion : Context → Rhs Row → Production Row NodeKind
type_assertion c f =
    make TypeAssertion (punct k.Less (alt (is k.ConstWord) (tok as_there (only k.ConstWord) done) (type_then done)
    (punct k.Greater (row (UnaryRow c) (where_ no_assignment f)))))

-- such an assertion, where the language has it, or another rule
abbrev pub asserted_before : Lang → Context → Rhs Row → Production Row NodeKind → Production Row NodeKind
asserted_before l c f a = if asserts l then choose (is k.Less) (type_assertion c f) a else a

-- Unary
unfoldable pub unary : Lang → Context → Production Row NodeKind
unary l c =
    choose (has_kind is_prefix) (prefix c done)
    (choose (is k.AwaitWord) (await_ c done) (asserted_before l c done (update l c)))

-- in TypeScript `**` may stand at the level of `<` too, behind a type: not behind such an operand
unfoldable pub no_power : Lang → Rhs Row
no_power l = if typed l then when_ (is_other k.StarStar) done else done

-- Unary | (Chain or update) '**' Power
unfoldable pub power : Lang → Context → Production Row NodeKind
power l c =
    choose (has_kind is_prefix) (prefix c (no_power l)) (choose (is k.AwaitWord) (await_ c (no_power l))
    (asserted_before l c (no_power l)
    (wrap Binary (update l c) (greedy (is k.StarStar))
    (tok as_kind (only k.StarStar) (row (PowerRow c) (when_ (is_other k.StarStar) done))))))

-- a level of operators of one token, left-associative
unfoldable pub level : (TokenKind → Bool) → Row → Production Row NodeKind → Production Row NodeKind
level may r operand = wrap Binary operand (greedy (has_kind may)) (tok as_kind may (row r done))

unfoldable pub product : Lang → Context → Production Row NodeKind
product l c = level is_product (PowerRow c) (power l c)

unfoldable pub sum : Lang → Context → Production Row NodeKind
sum l c = level is_sum (ProductRow c) (product l c)

-- '<<' | '>>' | '>>>', in TypeScript `<<` only where it opens no type arguments
unfoldable pub opens_shift_in : Lang → Predicate
opens_shift_in l K at =
    if typed l then opens_shift K at && not (opens_call_arguments K at) else opens_shift K at

-- these behind an operand
unfoldable pub shifted : Lang → Context → Production Row NodeKind → Production Row NodeKind
shifted l c operand =
    wrap Binary operand (by_predicate (opens_shift_in l))
    (alt (is k.Greater)
    (tok as_kind (only k.Greater) (tok as_there (only k.Greater)
    (opt (by_predicate (joins k.Greater)) (tok as_there (only k.Greater) done) done)))
    (tok as_kind (only k.LessLess) done) (row (SumRow c) done))

unfoldable pub shift : Lang → Context → Production Row NodeKind
shift l c = shifted l c (sum l c)

-- an operator of one token at the level of `<` or tighter
unfoldable pub is_tight : TokenKind → Bool
is_tight kind =
    is_relation kind || (same_kind kind k.LessLess || (is_sum kind || (is_product kind || same_kind kind k.StarStar)))

-- '<' | '<=' | '>' | '>=' | 'instanceof' | 'in', this one outside the head of a `for`; in TypeScript also such a
-- word, `<` only where it opens no type arguments, and the tighter operators of one token: behind an operand their own
-- level has taken them, and behind a type they go on from here
unfoldable pub opens_comparison : Lang → Context → Predicate
opens_comparison l c K at =
    if typed l then opens_greater K at || (opens_assertion (seen K at) || (has_kind is_tight (seen K at)
    && (not (c.no_in && is k.InWord (seen K at)) && not (opens_call_arguments K at))))
    else opens_greater K at || (has_kind is_relation (seen K at) && not (c.no_in && is k.InWord (seen K at)))

unfoldable pub may_test : Context → Predicate
may_test c K at = not c.no_in

-- PrivateName 'in' Shift
unfoldable pub private_in : Context → Production Row NodeKind
private_in c =
    make PrivateIn (where_ (may_test c) (tok as_name (only k.PrivateName) (punct k.InWord (row
    (ShiftRow c) done))))

-- an operator of the level of `<`, and its operand
unfoldable pub comparison_in : Context → Rhs Row
comparison_in c =
    alt (is k.Greater) (tok as_kind (only k.Greater) (opt (by_predicate (joins k.Equal)) (tok as_there
    (only k.Equal) done) done))
    (tok as_kind is_relation done) (row (ShiftRow c) done)

-- the token before is of such a kind
unfoldable pub comes_behind : (TokenKind → Bool) → Predicate
comes_behind may K at = has_kind may (seen K (at - 1))

unfoldable pub is_tightest : TokenKind → Bool
is_tightest kind = is_product kind || same_kind kind k.StarStar

-- the right operand of an operator at the level of `<` or tighter, by the operator before it
unfoldable pub right_operand : Lang → Context → Production Row NodeKind
right_operand l c =
    pick (comes_behind is_tightest) (power l c)
    (pick (comes_behind is_sum) (product l c) (pick (comes_behind (only k.LessLess)) (sum l c) (shift l c)))

-- an operator at the level of `<` or tighter, and its operand
unfoldable pub tight_in : Context → Rhs Row
tight_in c =
    alt (is k.Greater) (tok as_kind (only k.Greater) (opt (by_predicate (joins k.Equal)) (tok as_there
    (only k.Equal) done) done))
    (tok as_kind is_tight done) (row (RightRow c) done)

-- `const` stands behind `as` alone
unfoldable pub is_behind_as : Predicate
is_behind_as K at = is k.AsWord (seen K (at - 1))

-- ~ 'as' Type | ~ 'as' 'const' | ~ 'satisfies' Type
unfoldable pub asserted : Rhs Row
asserted =
    when_ is_near (tok as_kind is_assertion_word (alt (is k.ConstWord)
    (where_ is_behind_as (tok as_there (only k.ConstWord) done)) (type_then done) done))

-- one of these, or another form
unfoldable pub asserted_or : Rhs Row → Rhs Row
asserted_or other = alt (has_kind is_assertion_word) asserted other done

-- no form
unfoldable pub no_form : Rhs Row
no_form = when_ none (punct k.Semicolon done)

-- in TypeScript `>>` and `>>>` behind a type go on outside: a run of `>` doesn't tell by its end how long it is
unfoldable pub relation : Lang → Context → Production Row NodeKind
relation l c =
    typed_before l (shifted l c)
    (wrap (label_by l Binary TypedBinary) (choose (is k.PrivateName) (private_in c) (shift l c))
    (by_predicate (opens_comparison l c)) (if typed l then asserted_or (tight_in c) else comparison_in c))

unfoldable pub equality : Lang → Context → Production Row NodeKind
equality l c = level is_equality (RelationRow c) (relation l c)

unfoldable pub bit_and : Lang → Context → Production Row NodeKind
bit_and l c = level (only k.Ampersand) (EqualityRow c) (equality l c)

unfoldable pub bit_xor : Lang → Context → Production Row NodeKind
bit_xor l c = level (only k.Caret) (BitAndRow c) (bit_and l c)

unfoldable pub bit_or : Lang → Context → Production Row NodeKind
bit_or l c = level (only k.Bar) (BitXorRow c) (bit_xor l c)

-- '&&' behind an operand
unfoldable pub and_ : Context → Production Row NodeKind → Production Row NodeKind
and_ c operand = level (only k.AmpersandAmpersand) (BitOrRow c) operand

-- '??' mixes with '||' or '&&' only in brackets
unfoldable pub coalesce : Lang → Context → Production Row NodeKind
coalesce l c =
    wrap Binary (bit_or l c) (greedy (is k.QuestionQuestion))
    (tok as_kind (only k.QuestionQuestion) (row (BitOrRow c) (when_ no_mix done)))

-- Binary, from its loosest level
unfoldable pub binary : Lang → Context → Production Row NodeKind
binary l c = level (only k.BarBar) (AndRow c) (and_ c (coalesce l c))

-- Cond: Binary ('?' Assign ':' Assign)?
unfoldable pub conditional : Lang → Context → Production Row NodeKind
conditional l c =
    wrap Conditional (binary l c) (greedy (is k.Question))
    (punct k.Question (row (AssignmentRow (without_colon l c)) (punct k.Colon (row (AssignmentRow c) (when_
    (is_other k.Question) done)))))

-- ---- assignments

-- an operand of `yield` stands here
unfoldable pub opens_operand : Lang → TokenTest
opens_operand l x = is_near x && (is k.Star x || begins_value l x)

-- 'yield' (~ '*'? Assign)?
unfoldable pub yield_ : Lang → Context → Production Row NodeKind
yield_ l c =
    make Yield (punct k.YieldWord (opt (greedy (opens_operand l))
    (when_ is_near (opt (greedy (is k.Star)) (tok as_there (only k.Star) done) (row (AssignmentRow c) done))) done))

-- Assign: Arrow | 'yield' (~ '*'? Assign)? | Target AssignOp Assign | Cond
unfoldable pub assignment : Lang → Context → Production Row NodeKind
assignment l c =
    pick (opens_any_arrow l c) (pick (opens_async_here l c) (async_arrow l c) (plain_arrow l c))
    (choose (is k.YieldWord) (yield_ l c)
    (pick opens_pattern
    (make PatternAssignment (row (PatternRow true (outside c)) (punct k.Equal (row (AssignmentRow c) done))))
    (wrap Assignment (conditional l c) (by_predicate opens_assignment)
    (alt (is k.Greater)
    (tok as_kind (only k.Greater) (tok as_there (only k.Greater)
    (opt (by_predicate (joins k.Greater)) (tok as_there (only k.Greater) done) (tok as_there (only k.Equal) done))))
    (tok as_kind is_assignment done) (row (AssignmentRow c) done)))))

-- Expr: Assign (',' Assign)*
unfoldable pub expression : Lang → Context → Production Row NodeKind
expression l c =
    wrap Sequence (assignment l c) (greedy (is k.Comma))
    (punct k.Comma (row (AssignmentRow c) (many (greedy (is k.Comma)) (punct k.Comma (row
    (AssignmentRow c) done)) done)))

-- AElem
unfoldable pub element : Lang → Context → Production Row NodeKind
element l c = choose (is k.Ellipsis) (spread c) (assignment l (outside c))
