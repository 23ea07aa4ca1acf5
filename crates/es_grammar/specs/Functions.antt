-- Parameters and patterns in both languages (ECMA-262, "Function Definitions" and "Destructuring Binding Patterns"; the
-- handbook of TypeScript, "More on Functions"), keys, and properties of objects.
use Rattle.std.specs.Prelude.{ℕ, zero, suc, ◌+◌, Bool, true, false, not, ◌&&◌, ◌||◌, List, Option, Some, None, slice_get, length, if◌then◌else◌}
use Rattle.es_token.specs.declared.token.TokenKind.{TokenKind}
use Rattle.es_token.specs.declared.token.TokenKind.TheVariants as k
use Rattle.grammar_theory.specs.declared.error.Lang.{Lang}
use Rattle.grammar_theory.specs.Languages.{typed}
use Rattle.grammar_theory.specs.Key.{Key, Seen, TokenTest, seen, same_kind, has_kind, is}
use Rattle.grammar_theory.specs.Productions.{as_str, as_name, as_raw, as_kind, as_there, by_lookahead, greedy, by_predicate, Predicate, Rhs, done, tok, punct, row, opt, many, alt, when_, where_, Production, make, choose, as_, pick, wrap}
use Rattle.es_grammar.specs.types.Words.{only, is_name, is_word, is_numeric, is_accessor_word, is_other, partner_of}
use Rattle.es_grammar.specs.types.Members.{opens_parameters}
use Rattle.es_grammar.specs.types.Functions.{opens_inner_pattern, behind_key, key_before, opens_value, is_parameter, opens_accessor, opens_async, is_plain_key, opens_method}
use Rattle.es_grammar.specs.declared.rows.NodeKind.TheVariants.{AccessorProperty, ArrayPattern, AsyncProperty, ComputedKey, DefaultParameter, DefaultPattern, GeneratorProperty, KeyPattern, KeyValue, MarkedParameter, MethodProperty, NamePattern, NameProperty, NumberKey, ObjectPattern, Parameters, PrivateKey, PropertyParameter, RestPattern, RestProperty, Shorthand, Signature, SpreadProperty, StrKey, Target, ThisParameter, TypedAccessorProperty, TypedAsyncProperty, TypedBinary, TypedGeneratorProperty, TypedMethodProperty, TypedParameters, TypedSignature, WordKey}
use Rattle.es_grammar.specs.declared.rows.Context.{Context}
use Rattle.es_grammar.specs.declared.rows.Row.{Row}
use Rattle.es_grammar.specs.declared.rows.NodeKind.{NodeKind}
use Rattle.es_grammar.specs.declared.rows.Row.TheVariants.{BlockRow, SignatureRow, ParametersRow, ParameterRow, PatternRow, InnerPatternRow, PatternElementRow, PatternPropertyRow, KeyRow, AssignmentRow}
use Rattle.es_grammar.specs.Rows.{outside, async_in, constructing}
use Rattle.es_grammar.specs.Embedding.{label_by, typed_in, annotation_in, result_in, type_parameters_in, typed_before}
use Rattle.es_grammar.specs.Expressions.{star_in, chain, opens_assertion, asserted_or, no_form}

-- ---- patterns

-- ('=' Assign)?, and what stands behind it
unfoldable pub default_in : Context → Rhs Row → Rhs Row
default_in c f = opt (greedy (is k.Equal)) (punct k.Equal (row (AssignmentRow (outside c)) done)) f

-- '[' (PElem? ',')* PElem? ']'
unfoldable pub array_pattern : Bool → Context → Production Row NodeKind
array_pattern t c =
    make ArrayPattern (punct k.OpenBracket (many (by_lookahead (is_other k.CloseBracket))
    (alt (is k.Comma) (punct k.Comma done)
    (row (PatternElementRow t c) (opt (greedy (is_other k.CloseBracket)) (punct k.Comma done) done)) done)
    (punct k.CloseBracket done)))

-- '{' PProp% '}'
unfoldable pub object_pattern : Bool → Context → Production Row NodeKind
object_pattern t c =
    make ObjectPattern (punct k.OpenBrace (many (by_lookahead (is_other k.CloseBrace))
    (row (PatternPropertyRow t c) (opt (greedy (is_other k.CloseBrace)) (punct k.Comma done) done))
    (punct k.CloseBrace done)))

-- X ('as' Type | 'as' 'const' | 'satisfies' Type)*
abbrev pub asserted_target : Production Row NodeKind → Production Row NodeKind
asserted_target a = wrap TypedBinary a (greedy opens_assertion) (asserted_or no_form)

-- a simple target: a chain, in TypeScript with `as` and `satisfies` behind it
unfoldable pub target : Lang → Context → Production Row NodeKind
target l c = as_ Target (typed_before l asserted_target (chain l c))

unfoldable pub bracket_pattern : Bool → Context → Production Row NodeKind
bracket_pattern t c = choose (is k.OpenBracket) (array_pattern t c) (object_pattern t c)

-- Pat: Name | '[' .. ']' | '{' .. '}', and with a simple target in place of the name
unfoldable pub inner_pattern : Lang → Bool → Context → Production Row NodeKind
inner_pattern l false c =
    choose (has_kind is_name) (make NamePattern (tok as_name is_name done)) (bracket_pattern false c)
inner_pattern l true c = pick opens_inner_pattern (bracket_pattern true c) (target l c)

-- what stands at the outside of a pattern that is assigned to is told before it is read
unfoldable pub pattern : Lang → Bool → Context → Production Row NodeKind
pattern l false c = inner_pattern l false c
pattern l true c = bracket_pattern true c

-- PElem: '...' Pat | Pat ('=' Assign)?, without a node of its own where it is a pattern alone
unfoldable pub pattern_element : Lang → Bool → Context → Production Row NodeKind
pattern_element l t c =
    choose (is k.Ellipsis) (make RestPattern (punct k.Ellipsis (row (InnerPatternRow t c) done)))
    (wrap DefaultPattern (inner_pattern l t c) (greedy (is k.Equal))
    (punct k.Equal (row (AssignmentRow (outside c)) (when_ (is_other k.Equal) done))))

-- PProp: '...' Pat | Key ':' Pat ('=' Assign)? | Name ('=' Assign)?
unfoldable pub pattern_property : Bool → Context → Production Row NodeKind
pattern_property t c =
    choose (is k.Ellipsis) (make RestProperty (punct k.Ellipsis (row (InnerPatternRow t c) done)))
    (pick opens_value
    (make KeyPattern (row (KeyRow false c) (punct k.Colon (row (InnerPatternRow t c) (default_in c done)))))
    (make NameProperty (tok as_name is_name (default_in c done))))

-- ---- parameters

-- '...' Pat (TS ':' Type)?
unfoldable pub rest_in : Lang → Context → Rhs Row
rest_in l c = punct k.Ellipsis (row (PatternRow false c) (typed_in l annotation_in done))

-- Params: Param% | (Param ',')* '...' Pat (TS ':' Type)?
unfoldable pub parameters : Lang → Context → Production Row NodeKind
parameters l c =
    make (label_by l Parameters TypedParameters) (many (by_lookahead is_parameter)
    (row (ParameterRow c) (opt (greedy (is_other k.CloseParen)) (punct k.Comma done) done))
    (opt (greedy (is k.Ellipsis)) (rest_in l c) done))

-- a modifier of TypeScript, or `static`
unfoldable pub is_typed_modifier : TokenKind → Bool
is_typed_modifier kind =
    same_kind kind k.PublicWord || (same_kind kind k.PrivateWord || (same_kind kind k.ProtectedWord
    || (same_kind kind k.ReadonlyWord || (same_kind kind k.AbstractWord || (same_kind kind k.OverrideWord
    || same_kind kind k.DeclareWord)))))

unfoldable pub is_modifier : TokenKind → Bool
is_modifier kind = same_kind kind k.StaticWord || is_typed_modifier kind

-- parameters have modifiers only in constructors, before a name, `{` or `[`
unfoldable pub opens_parameter_modifier : Context → Predicate
opens_parameter_modifier c K at =
    c.in_constructor && (has_kind is_modifier (seen K at) && (has_kind is_name (seen K (at + 1))
    || (is k.OpenBrace (seen K (at + 1)) || is k.OpenBracket (seen K (at + 1)))))

-- a modifier of this kind stands in the run of modifiers from here on, where a predicate tells them
abbrev pub stands_again : Predicate → List Key → Option Seen → ℕ → ℕ → Bool
stands_again g K None n at = false
stands_again g K (Some s) zero at = false
stands_again g K (Some s) (suc n) at = g K at && (is s.kind (seen K at) || stands_again g K (Some s) n (at + 1))

-- each of them stands at most once
abbrev pub stand_once : Predicate → List Key → ℕ → ℕ → Bool
stand_once g K zero at = true
stand_once g K (suc n) at =
    not (g K at) || (not (stands_again g K (seen K at) n (at + 1)) && stand_once g K n (at + 1))

unfoldable pub each_once : Predicate → Predicate
each_once g K at = stand_once g K (length K) at

-- Mod*, each at most once, and what stands behind them
unfoldable pub modifiers_in : Predicate → Rhs Row → Rhs Row
modifiers_in g f = where_ (each_once g) (many (by_predicate g) (tok as_kind is_modifier done) f)

-- '?'?, and what stands behind it
unfoldable pub mark_in : Rhs Row → Rhs Row
mark_in f = opt (greedy (is k.Question)) (tok as_there (only k.Question) done) f

-- '?'? (':' Type)? ('=' Assign)?
unfoldable pub parameter_tail : Context → Rhs Row
parameter_tail c = mark_in (annotation_in (default_in c done))

-- a pattern before `?`, `:` or `=`
unfoldable pub is_parameter_mark : TokenTest
is_parameter_mark x = is k.Question x || (is k.Colon x || is k.Equal x)

unfoldable pub opens_marked : Predicate
opens_marked K at = key_before is_parameter_mark K at

-- Mod* (Pat | 'this') '?'? (':' Type)? ('=' Assign)?
abbrev pub typed_parameter : Lang → Context → Production Row NodeKind
typed_parameter l c =
    choose (is k.ThisWord) (make ThisParameter (tok as_there (only k.ThisWord) (parameter_tail c)))
    (pick (opens_parameter_modifier c)
    (make PropertyParameter (modifiers_in (opens_parameter_modifier c) (row (PatternRow false c) (parameter_tail c))))
    (pick opens_marked (make MarkedParameter (row (PatternRow false c) (parameter_tail c))) (pattern l false c)))

-- Pat ('=' Assign)?
abbrev pub plain_parameter : Lang → Context → Production Row NodeKind
plain_parameter l c =
    wrap DefaultParameter (pattern l false c) (greedy (is k.Equal))
    (punct k.Equal (row (AssignmentRow (outside c)) (when_ (is_other k.Equal) done)))

-- Param: (TS Mod*)? (Pat | TS 'this') (TS '?')? (TS ':' Type)? ('=' Assign)?, without a node of its own where it is a
-- pattern alone
unfoldable pub parameter : Lang → Context → Production Row NodeKind
parameter l c = if typed l then typed_parameter l c else plain_parameter l c

-- Sig: (TS TParams)? '(' Params ')' (TS ':' Ret)?
unfoldable pub signature : Lang → Context → Production Row NodeKind
signature l c =
    make (label_by l Signature TypedSignature) (typed_in l type_parameters_in (punct k.OpenParen (row (ParametersRow c)
    (punct k.CloseParen (typed_in l result_in done)))))

-- ---- keys

-- Key: Word | Str | Number | BigInt | '[' Assign ']'
unfoldable pub plain_key : Context → Production Row NodeKind
plain_key c =
    choose (has_kind is_word) (make WordKey (tok as_name is_word done))
    (choose (is k.Str) (make StrKey (tok as_str (only k.Str) done))
    (choose (has_kind is_numeric) (make NumberKey (tok as_raw is_numeric done))
    (make ComputedKey (punct k.OpenBracket (row (AssignmentRow (outside c)) (punct k.CloseBracket done))))))

-- and in classes PrivateName
unfoldable pub key : Bool → Context → Production Row NodeKind
key false c = plain_key c
key true c =
    choose (is k.PrivateName) (make PrivateKey (tok as_name (only k.PrivateName) done)) (plain_key c)

-- ---- properties of objects

-- a key, in TypeScript with its `?`, before `(`, in TypeScript also before `<`
abbrev pub begins_method : List Key → ℕ → Bool
begins_method K at =
    opens_parameters (seen K at) || (is k.Question (seen K at) && opens_parameters (seen K (at + 1)))

abbrev pub opens_typed_method : Predicate
opens_typed_method K at = begins_method K (behind_key at (partner_of (slice_get K at)))

unfoldable pub opens_any_method : Lang → Predicate
opens_any_method l K at = if typed l then opens_typed_method K at else opens_method K at

-- a key and its signature; behind the key `constructor` the parameters are those of a constructor
unfoldable pub typed_head_in : Bool → Context → Context → (Rhs Row → Rhs Row) → Rhs Row → Rhs Row
typed_head_in p c d sign_in f =
    alt (is k.ConstructorWord)
    (when_ (is k.ConstructorWord) (row (KeyRow p c) (sign_in (row (SignatureRow (constructing d)) done))))
    (when_ (is_other k.ConstructorWord) (row (KeyRow p c) (sign_in (row (SignatureRow d) done)))) f

abbrev pub unmarked : Rhs Row → Rhs Row
unmarked f = f

-- Key Sig Block of a property, the key in one place, signature and body in another
unfoldable pub method_in : Lang → Context → Context → Rhs Row
method_in l c d =
    if typed l then typed_head_in false c d unmarked (row (BlockRow d) done)
    else row (KeyRow false c) (row (SignatureRow d) (row (BlockRow d) done))

-- Prop: '...' Assign | Name | Key ':' Assign | ('get' | 'set' | 'async'? '*'?) Key Sig Block
unfoldable pub property : Lang → Context → Production Row NodeKind
property l c =
    choose (is k.Ellipsis) (make SpreadProperty (punct k.Ellipsis (row (AssignmentRow (outside c)) done)))
    (pick (opens_accessor false)
    (make (label_by l AccessorProperty TypedAccessorProperty) (tok as_kind is_accessor_word (where_ is_plain_key
    (method_in l (outside c) (outside c)))))
    (pick (opens_async false)
    (make (label_by l AsyncProperty TypedAsyncProperty) (punct k.AsyncWord (star_in (where_ is_plain_key
    (method_in l (outside c) (async_in c))))))
    (choose (is k.Star)
    (make (label_by l GeneratorProperty TypedGeneratorProperty)
    (punct k.Star (where_ is_plain_key (method_in l (outside c) (outside c)))))
    (pick (opens_any_method l)
    (make (label_by l MethodProperty TypedMethodProperty) (method_in l (outside c) (outside c)))
    (pick opens_value (make KeyValue (row (KeyRow false (outside c)) (punct k.Colon (row (AssignmentRow
    (outside c)) done))))
    (make Shorthand (tok as_name is_name done)))))))
