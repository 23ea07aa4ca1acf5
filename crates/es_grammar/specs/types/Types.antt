-- Types, their operators, primary types, tuples and results.
use Rattle.std.specs.Prelude.{◌+◌, Bool, true, false, not, ◌&&◌, ◌||◌}
use Rattle.es_token.specs.declared.token.TokenKind.{TokenKind}
use Rattle.es_token.specs.declared.token.TokenKind.TheVariants as k
use Rattle.grammar_theory.specs.Key.{TokenTest, seen, same_kind, has_kind, is, is_end, is_after_line}
use Rattle.grammar_theory.specs.Productions.{as_str, as_name, as_raw, as_kind, as_there, by_lookahead, greedy, by_predicate, Predicate, Rhs, done, tok, punct, row, opt, many, alt, when_, Production, make, choose, pick, wrap}
use Rattle.es_grammar.specs.types.Words.{only, is_name, is_word, is_name_or_this, is_numeric, is_sign, is_near, is_other, closes_before}
use Rattle.es_grammar.specs.declared.types.rows.TypeRow.{TypeRow as Row}
use Rattle.es_grammar.specs.declared.types.rows.TypeRow.TheVariants.{TypeRow, IntersectionRow, OperandRow, ReferenceRow, ImportRow, ElementRow, MemberRow, ResultRow}
use Rattle.es_grammar.specs.types.TypeRows.{NodeKind, FunctionType, ConstructorType, ConditionalType, UnionType, LeadingUnionType, IntersectionType, LeadingIntersectionType, TypeOperator, InferType, ArrayTypes, KeywordType, ThisType, WordType, StrType, NumberType, TemplateType, TemplateTypes, TypeQuery, ParenthesizedType, MembersType, TupleType, MappedType, RestElement, LabelledElement, OptionalElement, AssertsResult, PredicateResult}
use Rattle.es_grammar.specs.types.TypeNames.{reference, import_type}
use Rattle.es_grammar.specs.types.Parameters.{parameters_in, mark_in, type_in, list_before}

-- a literal word: `null`, `void`, `true`, `false`
unfoldable pub is_literal_word : TokenKind → Bool
is_literal_word kind =
    same_kind kind k.NullWord || (same_kind kind k.VoidWord || (same_kind kind k.TrueWord
    || same_kind kind k.FalseWord))

-- a token that can begin a type
unfoldable pub begins_type : TokenTest
begins_type x =
    has_kind is_name_or_this x
    || (is k.OpenParen x || (is k.OpenBrace x || (is k.OpenBracket x || (is k.Less x || (is k.NewWord x
    || (is k.Bar x || (is k.Ampersand x || (has_kind is_literal_word x || (is k.Str x || (is k.Minus x
    || (has_kind is_numeric x || (is k.TemplateWhole x || (is k.TemplateHead x || (is k.TypeofWord x
    || is k.ImportWord x))))))))))))))

-- ---- primary types

-- '(' Type ')'
unfoldable pub parenthesized_type : Production Row NodeKind
parenthesized_type = make ParenthesizedType (punct k.OpenParen (row (TypeRow true) (punct k.CloseParen done)))

-- '{' TMember* '}'
unfoldable pub members_type : Production Row NodeKind
members_type =
    make MembersType (punct k.OpenBrace (many (by_lookahead (is_other k.CloseBrace)) (row MemberRow done)
    (punct k.CloseBrace done)))

-- '[' Name 'in'
unfoldable pub shows_mapped : Predicate
shows_mapped K at =
    is k.OpenBracket (seen K at) && (has_kind is_name (seen K (at + 1)) && is k.InWord (seen K (at + 2)))

-- `{` is Mapped where the tokens show `[ Name in`, behind `readonly`, `+ readonly` or `- readonly` too
unfoldable pub opens_mapped : Predicate
opens_mapped K at =
    shows_mapped K (at + 1)
    || ((is k.ReadonlyWord (seen K (at + 1)) && shows_mapped K (at + 2))
    || (has_kind is_sign (seen K (at + 1)) && (is k.ReadonlyWord (seen K (at + 2)) && shows_mapped K (at + 3))))

-- ('+' | '-')?, and what stands behind it
unfoldable pub sign_in : Rhs Row → Rhs Row
sign_in f = opt (greedy (has_kind is_sign)) (tok as_kind is_sign done) f

-- a sign or this token
unfoldable pub begins_signed : TokenKind → TokenTest
begins_signed kind x = has_kind is_sign x || is kind x

-- Mapped: '{' (('+' | '-')? 'readonly')? '[' Name 'in' Type ('as' Type)? ']' (('+' | '-')? '?')? (':' Type)? ';'? '}'
unfoldable pub mapped_type : Production Row NodeKind
mapped_type =
    make MappedType (punct k.OpenBrace
    (opt (greedy (begins_signed k.ReadonlyWord)) (sign_in (tok as_there (only k.ReadonlyWord) done))
    (punct k.OpenBracket (tok as_name is_name (punct k.InWord (row (TypeRow true)
    (opt (greedy (is k.AsWord)) (punct k.AsWord (row (TypeRow true) done))
    (punct k.CloseBracket
    (opt (greedy (begins_signed k.Question)) (sign_in (tok as_there (only k.Question) done))
    (type_in (opt (greedy (is k.Semicolon)) (punct k.Semicolon done) (punct k.CloseBrace done))))))))))))

-- '[' TElem% ']'
unfoldable pub tuple_type : Production Row NodeKind
tuple_type = make TupleType (punct k.OpenBracket (list_before k.CloseBracket ElementRow (punct k.CloseBracket done)))

-- 'typeof' (Ref | ImportT)
unfoldable pub type_query : Production Row NodeKind
type_query =
    make TypeQuery (punct k.TypeofWord (alt (is k.ImportWord) (row ImportRow done) (row ReferenceRow done) done))

-- `this` is a Ref only before `.`, or before `<` on its line
unfoldable pub opens_this_reference : Predicate
opens_this_reference K at =
    is k.Dot (seen K (at + 1)) || (is k.Less (seen K (at + 1)) && is_near (seen K (at + 1)))

-- the words of keyword types
unfoldable pub is_type_word : TokenKind → Bool
is_type_word kind =
    same_kind kind k.AnyWord || (same_kind kind k.UnknownWord || (same_kind kind k.NeverWord
    || (same_kind kind k.UndefinedWord || (same_kind kind k.StringWord || (same_kind kind k.NumberWord
    || (same_kind kind k.BooleanWord || (same_kind kind k.BigintWord || (same_kind kind k.SymbolWord
    || same_kind kind k.ObjectWord))))))))

-- a keyword type is one of these words not before `.`
unfoldable pub is_keyword_type : Predicate
is_keyword_type K at = has_kind is_type_word (seen K at) && is_other k.Dot (seen K (at + 1))

-- TTpl: whole | head Type (middle Type)* tail
unfoldable pub template_types : Production Row NodeKind
template_types =
    make TemplateTypes (tok as_raw (only k.TemplateHead) (row (TypeRow true)
    (many (greedy (is k.TemplateMiddle)) (tok as_raw (only k.TemplateMiddle) (row (TypeRow true) done))
    (tok as_raw (only k.TemplateTail) done))))

-- '-'? (Number | BigInt)
unfoldable pub number_type : Production Row NodeKind
number_type =
    make NumberType (opt (greedy (is k.Minus)) (tok as_there (only k.Minus) done) (tok as_raw is_numeric done))

-- TPrim: keyword type | 'this' | 'null' | 'void' | 'true' | 'false' | Str | '-'? (Number | BigInt) | TTpl | Ref
--        | 'typeof' (Ref | ImportT) | ImportT | '(' Type ')' | '{' TMember* '}' | '[' TElem% ']' | Mapped
unfoldable pub primary_type : Production Row NodeKind
primary_type =
    choose (is k.OpenParen) parenthesized_type
    (choose (is k.OpenBrace) (pick opens_mapped mapped_type members_type)
    (choose (is k.OpenBracket) tuple_type
    (choose (is k.TypeofWord) type_query
    (choose (is k.ImportWord) import_type
    (choose (is k.ThisWord)
    (pick opens_this_reference (reference (only k.ThisWord)) (make ThisType (tok as_there (only k.ThisWord) done)))
    (choose (has_kind is_name) (pick is_keyword_type (make KeywordType (tok as_kind is_type_word done))
    (reference is_name))
    (choose (is k.Str) (make StrType (tok as_str (only k.Str) done))
    (choose (is k.TemplateWhole) (make TemplateType (tok as_raw (only k.TemplateWhole) done))
    (choose (is k.TemplateHead) template_types
    (choose (has_kind is_literal_word) (make WordType (tok as_kind is_literal_word done)) number_type))))))))))

-- ---- operators

-- `[` on the line of the token before it
unfoldable pub opens_brackets : TokenTest
opens_brackets x = is_near x && is k.OpenBracket x

-- ~ '[' Type? ']', and what stands behind it
unfoldable pub brackets_in : Rhs Row → Rhs Row
brackets_in f =
    when_ is_near (punct k.OpenBracket (opt (greedy begins_type) (row (TypeRow true) done) (punct k.CloseBracket f)))

-- TPrim (~ '[' Type? ']')*
unfoldable pub array_types : Production Row NodeKind
array_types =
    wrap ArrayTypes primary_type (greedy opens_brackets) (brackets_in (many (greedy opens_brackets)
    (brackets_in done) done))

-- `keyof`, `unique`, `readonly`
unfoldable pub is_type_operator : TokenKind → Bool
is_type_operator kind = same_kind kind k.KeyofWord || (same_kind kind k.UniqueWord || same_kind kind k.ReadonlyWord)

-- they are operators before a token that can begin a type
unfoldable pub opens_operator : Predicate
opens_operator K at = has_kind is_type_operator (seen K at) && begins_type (seen K (at + 1))

-- `infer` is one before a name
unfoldable pub opens_infer : Predicate
opens_infer K at = is k.InferWord (seen K at) && has_kind is_name (seen K (at + 1))

-- TOp: ('keyof' | 'unique' | 'readonly') TOp | 'infer' Name | TPrim (~ '[' Type? ']')*
unfoldable pub operand_type : Production Row NodeKind
operand_type =
    pick opens_operator (make TypeOperator (tok as_kind is_type_operator (row OperandRow done)))
    (pick opens_infer (make InferType (punct k.InferWord (tok as_name is_name done))) array_types)

-- (operator X)+
unfoldable pub operands_in : TokenKind → Row → Rhs Row
operands_in operator r = punct operator (row r (many (greedy (is operator)) (punct operator (row r done)) done))

-- Inter: '&'? TOp ('&' TOp)*
unfoldable pub intersection_type : Production Row NodeKind
intersection_type =
    choose (is k.Ampersand) (make LeadingIntersectionType (operands_in k.Ampersand OperandRow))
    (wrap IntersectionType operand_type (greedy (is k.Ampersand)) (operands_in k.Ampersand OperandRow))

-- Union: '|'? Inter ('|' Inter)*
unfoldable pub union_type : Production Row NodeKind
union_type =
    choose (is k.Bar) (make LeadingUnionType (operands_in k.Bar IntersectionRow))
    (wrap UnionType intersection_type (greedy (is k.Bar)) (operands_in k.Bar IntersectionRow))

-- `extends` on the line of the token before it
unfoldable pub opens_condition : TokenTest
opens_condition x = is_near x && is k.ExtendsWord x

unfoldable pub no_condition : TokenTest
no_condition x = not (opens_condition x)

-- Union (~ 'extends' Type '?' Type ':' Type)?, whose `extends` operand holds no conditional type outside deeper
-- brackets
unfoldable pub conditional_type : Bool → Production Row NodeKind
conditional_type true =
    wrap ConditionalType union_type (greedy opens_condition)
    (when_ is_near (punct k.ExtendsWord (row (TypeRow false) (punct k.Question (row (TypeRow true)
    (punct k.Colon (row (TypeRow true) (when_ no_condition done))))))))
conditional_type false = union_type

-- what may stand behind the name or the pattern of a parameter
unfoldable pub follows_parameter : TokenTest
follows_parameter x =
    is k.Colon x || (is k.Comma x || (is k.Question x || (is k.Equal x || is k.CloseParen x)))

-- parameters begin here: `)`, `...`, or a name or a pattern before such a token
unfoldable pub begins_parameters : Predicate
begins_parameters K at =
    is k.CloseParen (seen K at)
    || (is k.Ellipsis (seen K at)
    || ((has_kind is_name_or_this (seen K at) && follows_parameter (seen K (at + 1)))
    || ((is k.OpenBracket (seen K at) || is k.OpenBrace (seen K at)) && closes_before follows_parameter K at)))

-- `(` opens a function type where parameters begin behind it and its `)` is followed by `=>`, and `<` always: so
-- `(): (a | b) => c` is an arrow whose result stands in brackets
unfoldable pub opens_function : Predicate
opens_function K at =
    is k.Less (seen K at)
    || (is k.OpenParen (seen K at) && (closes_before (is k.Arrow) K at && begins_parameters K (at + 1)))

-- TParams? '(' Params ')' '=>' Ret
unfoldable pub function_type : Bool → Production Row NodeKind
function_type c = make FunctionType (parameters_in (punct k.Arrow (row (ResultRow c) done)))

-- `new` opens a constructor type, and so does `abstract` before a `new` that stands before such a function type
unfoldable pub opens_constructor : Predicate
opens_constructor K at =
    is k.NewWord (seen K at)
    || (is k.AbstractWord (seen K at) && (is k.NewWord (seen K (at + 1)) && opens_function K (at + 2)))

-- 'abstract'? 'new' TParams? '(' Params ')' '=>' Type
unfoldable pub constructor_type : Bool → Production Row NodeKind
constructor_type c =
    make ConstructorType (opt (greedy (is k.AbstractWord)) (tok as_there (only k.AbstractWord) done)
    (punct k.NewWord (parameters_in (punct k.Arrow (row (TypeRow c) done)))))

-- Type
unfoldable pub any_type : Bool → Production Row NodeKind
any_type c = pick opens_function (function_type c) (pick opens_constructor (constructor_type c) (conditional_type c))

-- ---- elements of tuples

-- a label stands before `:` or `? :`
unfoldable pub is_label : Predicate
is_label K at =
    has_kind is_word (seen K at)
    && (is k.Colon (seen K (at + 1)) || (is k.Question (seen K (at + 1)) && is k.Colon (seen K (at + 2))))

-- Word '?'? ':'
unfoldable pub label_in : Rhs Row → Rhs Row
label_in f = tok as_name is_word (mark_in (punct k.Colon f))

-- TElem: '...'? (Word '?'? ':')? Type '?'?, without a node of its own where it is a type alone
unfoldable pub element : Production Row NodeKind
element =
    choose (is k.Ellipsis)
    (make RestElement (punct k.Ellipsis (opt (by_predicate is_label) (label_in done) (row (TypeRow true) (mark_in done)))))
    (pick is_label (make LabelledElement (label_in (row (TypeRow true) (mark_in done))))
    (wrap OptionalElement (any_type true) (greedy (is k.Question))
    (tok as_there (only k.Question) (when_ (is_other k.Question) done))))

-- ---- results

-- `is` behind `asserts` is the name that is asserted where a token on a new line, `{`, `is`, or one that can't begin a
-- type
-- follows it
unfoldable pub is_asserted_name : TokenTest
is_asserted_name x = is_end x || (is_after_line x || (is k.OpenBrace x || (is k.IsWord x || not (begins_type x))))

unfoldable pub opens_asserts : Predicate
opens_asserts K at =
    is k.AssertsWord (seen K at) && (is_near (seen K (at + 1)) && (has_kind is_name_or_this (seen K (at + 1))
    && (is_other k.IsWord (seen K (at + 1)) || is_asserted_name (seen K (at + 2)))))

-- a name before `is` on its line, where a token that can begin a type follows: so `keyof is []` is a predicate of
-- `keyof`
unfoldable pub opens_predicate : Predicate
opens_predicate K at =
    has_kind is_name_or_this (seen K at) && (is_near (seen K (at + 1)) && (is k.IsWord (seen K (at + 1))
    && begins_type (seen K (at + 2))))

-- Ret: 'asserts' ~ (Name | 'this') ('is' Type)? | (Name | 'this') ~ 'is' Type | Type
unfoldable pub result : Bool → Production Row NodeKind
result c =
    pick opens_asserts
    (make AssertsResult (punct k.AssertsWord (when_ is_near (tok as_name is_name_or_this
    (opt (greedy (is k.IsWord)) (punct k.IsWord (row (TypeRow c) done)) done)))))
    (pick opens_predicate
    (make PredicateResult (tok as_name is_name_or_this (when_ is_near (punct k.IsWord (row (TypeRow c) done)))))
    (any_type c))
