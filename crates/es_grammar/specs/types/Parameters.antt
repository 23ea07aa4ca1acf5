-- Parameters of functions in types, and their patterns, which hold no default and no computed key.
use Rattle.std.specs.Prelude.{◌+◌, true, not, ◌&&◌, ◌||◌}
use Rattle.es_token.specs.declared.token.TokenKind.{TokenKind}
use Rattle.es_token.specs.declared.token.TokenKind.TheVariants as k
use Rattle.grammar_theory.specs.Key.{TokenTest, seen, has_kind, is}
use Rattle.grammar_theory.specs.Productions.{as_str, as_name, as_raw, as_there, by_lookahead, greedy, Predicate, Rhs, done, tok, punct, row, opt, many, alt, when_, Production, make, choose, pick, wrap}
use Rattle.es_grammar.specs.types.Words.{only, is_name, is_word, is_numeric, is_other}
use Rattle.es_grammar.specs.declared.types.rows.TypeRow.{TypeRow as Row}
use Rattle.es_grammar.specs.declared.types.rows.TypeRow.TheVariants.{TypeRow, TypeParametersRow, ParametersRow, ParameterRow, PatternRow, PatternElementRow, PatternPropertyRow, PatternKeyRow}
use Rattle.es_grammar.specs.types.TypeRows.{NodeKind, Parameters, ThisParameter, MarkedParameter, NamePattern, ArrayPattern, ObjectPattern, RestPattern, RestProperty, KeyProperty, NameProperty, WordPatternKey, StrPatternKey, NumberPatternKey}

-- TParams? '(' Params ')', and what stands behind it
unfoldable pub parameters_in : Rhs Row → Rhs Row
parameters_in f =
    opt (greedy (is k.Less)) (row TypeParametersRow done)
    (punct k.OpenParen (row ParametersRow (punct k.CloseParen f)))

-- '?'?, and what stands behind it
unfoldable pub mark_in : Rhs Row → Rhs Row
mark_in f = opt (greedy (is k.Question)) (tok as_there (only k.Question) done) f

-- (':' Type)?, and what stands behind it
unfoldable pub type_in : Rhs Row → Rhs Row
type_in f = opt (greedy (is k.Colon)) (punct k.Colon (row (TypeRow true) done)) f

-- X%: a comma list, possibly empty, with an optional last comma, before its closer
unfoldable pub list_before : TokenKind → Row → Rhs Row → Rhs Row
list_before closer r f =
    many (by_lookahead (is_other closer)) (row r (opt (greedy (is_other closer)) (punct k.Comma done) done)) f

-- a parameter stands here: neither `)` nor `...`
unfoldable pub is_parameter : TokenTest
is_parameter x = not (is k.CloseParen x) && not (is k.Ellipsis x)

-- Params: Param% | (Param ',')* '...' Pat (':' Type)?
unfoldable pub parameters : Production Row NodeKind
parameters =
    make Parameters (many (by_lookahead is_parameter)
    (row ParameterRow (opt (greedy (is_other k.CloseParen)) (punct k.Comma done) done))
    (opt (greedy (is k.Ellipsis)) (punct k.Ellipsis (row PatternRow (type_in done))) done))

-- neither `?` nor `:`
unfoldable pub has_mark : TokenTest
has_mark x = is k.Question x || is k.Colon x

unfoldable pub no_mark : TokenTest
no_mark x = not (has_mark x)

-- Pat: Name | '[' (PElem? ',')* PElem? ']' | '{' PProp% '}'
unfoldable pub name_pattern : Production Row NodeKind
name_pattern = make NamePattern (tok as_name is_name done)

-- a turn is a hole with its ',', or an element with a ',' unless the closer follows
unfoldable pub array_pattern : Production Row NodeKind
array_pattern =
    make ArrayPattern (punct k.OpenBracket (many (by_lookahead (is_other k.CloseBracket))
    (alt (is k.Comma) (punct k.Comma done)
    (row PatternElementRow (opt (greedy (is_other k.CloseBracket)) (punct k.Comma done) done)) done)
    (punct k.CloseBracket done)))

unfoldable pub object_pattern : Production Row NodeKind
object_pattern =
    make ObjectPattern (punct k.OpenBrace (list_before k.CloseBrace PatternPropertyRow (punct k.CloseBrace done)))

unfoldable pub pattern : Production Row NodeKind
pattern = choose (is k.OpenBracket) array_pattern (choose (is k.OpenBrace) object_pattern name_pattern)

-- Param: (Pat | 'this') '?'? (':' Type)?, without a node of its own where it is a pattern alone
unfoldable pub parameter : Production Row NodeKind
parameter =
    choose (is k.ThisWord) (make ThisParameter (tok as_there (only k.ThisWord) (mark_in (type_in done))))
    (wrap MarkedParameter pattern (greedy has_mark)
    (alt (is k.Question) (tok as_there (only k.Question) (type_in done)) (punct k.Colon (row (TypeRow true) done))
    (when_ no_mark done)))

-- PElem: '...' Pat | Pat
unfoldable pub pattern_element : Production Row NodeKind
pattern_element = choose (is k.Ellipsis) (make RestPattern (punct k.Ellipsis (row PatternRow done))) pattern

-- Key: Word | Str | Number | BigInt
unfoldable pub pattern_key : Production Row NodeKind
pattern_key =
    choose (has_kind is_word) (make WordPatternKey (tok as_name is_word done))
    (choose (is k.Str) (make StrPatternKey (tok as_str (only k.Str) done))
    (make NumberPatternKey (tok as_raw is_numeric done)))

-- a key before ':'
unfoldable pub opens_value : Predicate
opens_value K at = is k.Colon (seen K (at + 1))

-- PProp: '...' Pat | Key ':' Pat | Name
unfoldable pub pattern_property : Production Row NodeKind
pattern_property =
    choose (is k.Ellipsis) (make RestProperty (punct k.Ellipsis (row PatternRow done)))
    (pick opens_value (make KeyProperty (row PatternKeyRow (punct k.Colon (row PatternRow done))))
    (make NameProperty (tok as_name is_name done)))
