-- Types and their trees: each is what the table's reader answers, by computing it. A line end is written ⏎.
use Rattle.std.specs.Prelude.{[], ◌∷◌}
use Rattle.std.proofs.Common.{◌≡◌, refl}
use Rattle.es_token.specs.declared.token.TokenKind.TheVariants as k
use Rattle.grammar_theory.specs.Productions.{as_kind, as_name, as_raw, as_str, as_there}
use Rattle.grammar_theory.specs.Plain.{node, leaf, nil, cons, mark, turn}
use Rattle.grammar_theory.specs.Reader.{gives}
use Rattle.es_grammar.specs.types.TypeRows.{AccessorSignature, ArrayPattern, ArrayTypes, AssertsResult, CallSignature, ComputedKey, ConditionalType, ConstructSignature, ConstructorType, Entity, FunctionType, ImportType, IndexSignature, InferType, IntersectionType, KeyProperty, KeywordType, LabelledElement, LeadingIntersectionType, LeadingUnionType, MappedType, MarkedParameter, MembersType, MethodSignature, NamePattern, NameProperty, NumberKey, NumberType, ObjectPattern, OptionalElement, Parameters, ParenthesizedType, PredicateResult, PropertySignature, ReadonlyProperty, Reference, RestElement, RestPattern, RestProperty, StrType, TemplateType, TemplateTypes, ThisParameter, ThisType, TupleType, TypeArguments, TypeOperator, TypeParameters, TypeQuery, UnionType, WordKey, WordPatternKey, WordType}
use Rattle.es_grammar.specs.types.TypeReader.{one, paired, line, line_paired, read_type}
use Rattle.es_grammar.proofs.types_lemmas.OnKeys.{types_on_keys}

-- names, literals, templates
primary_types :
    -- a
    (read_type (one k.Name ∷ []) ≡ gives (node Entity 0 1 (cons (leaf as_name 0) (cons nil nil))) 1)
    -- this
    × (read_type (one k.ThisWord ∷ []) ≡ gives (node ThisType 0 1 (cons (leaf as_there 0) nil)) 1)
    -- any
    × (read_type (one k.AnyWord ∷ []) ≡ gives (node KeywordType 0 1 (cons (leaf as_kind 0) nil)) 1)
    -- any.b
    × (read_type (one k.AnyWord ∷ one k.Dot ∷ one k.Name ∷ []) ≡ gives (node Entity 0 3 (cons (leaf as_name 0) (cons
    (turn (mark 1 (cons (leaf as_name 2) nil)) nil) nil))) 3)
    -- a.b.c
    × (read_type (one k.Name ∷ one k.Dot ∷ one k.Name ∷ one k.Dot ∷ one k.Name ∷ []) ≡ gives (node Entity 0 5 (cons
    (leaf as_name 0) (cons (turn (mark 1 (cons (leaf as_name 2) nil)) (turn (mark 3 (cons (leaf as_name 4) nil))
    nil)) nil))) 5)
    -- a<b>
    × (read_type (one k.Name ∷ one k.Less ∷ one k.Name ∷ one k.Greater ∷ []) ≡ gives (node Reference 0 4 (cons (node
    Entity 0 1 (cons (leaf as_name 0) (cons nil nil))) (cons (node TypeArguments 1 4 (mark 1 (cons (node Entity
    2 3 (cons (leaf as_name 2) (cons nil nil))) (cons nil (mark 3 nil))))) nil))) 4)
    -- a.b<c, d>
    × (read_type (one k.Name ∷ one k.Dot ∷ one k.Name ∷ one k.Less ∷ one k.Name ∷ one k.Comma ∷ one k.Name ∷ one
    k.Greater ∷ []) ≡ gives (node Reference 0 8 (cons (node Entity 0 3 (cons (leaf as_name 0) (cons (turn (mark
    1 (cons (leaf as_name 2) nil)) nil) nil))) (cons (node TypeArguments 3 8 (mark 3 (cons (node Entity 4 5
    (cons (leaf as_name 4) (cons nil nil))) (cons (turn (mark 5 (cons (node Entity 6 7 (cons (leaf as_name 6)
    (cons nil nil))) nil)) nil) (mark 7 nil))))) nil))) 8)
    -- this.a
    × (read_type (one k.ThisWord ∷ one k.Dot ∷ one k.Name ∷ []) ≡ gives (node Entity 0 3 (cons (leaf as_name 0)
    (cons (turn (mark 1 (cons (leaf as_name 2) nil)) nil) nil))) 3)
    -- null
    × (read_type (one k.NullWord ∷ []) ≡ gives (node WordType 0 1 (cons (leaf as_kind 0) nil)) 1)
    -- "s"
    × (read_type (one k.Str ∷ []) ≡ gives (node StrType 0 1 (cons (leaf as_str 0) nil)) 1)
    -- -1
    × (read_type (one k.Minus ∷ one k.Number ∷ []) ≡ gives (node NumberType 0 2 (cons (cons (leaf as_there 0) nil)
    (cons (leaf as_raw 1) nil))) 2)
    -- 2n
    × (read_type (one k.BigInt ∷ []) ≡ gives (node NumberType 0 1 (cons nil (cons (leaf as_raw 0) nil))) 1)
    -- `t`
    × (read_type (one k.TemplateWhole ∷ []) ≡ gives (node TemplateType 0 1 (cons (leaf as_raw 0) nil)) 1)
    -- `t${a}t${b}t`
    × (read_type (paired k.TemplateHead 2 ∷ one k.Name ∷ paired k.TemplateMiddle 4 ∷ one k.Name ∷ paired
    k.TemplateTail 2 ∷ []) ≡ gives (node TemplateTypes 0 5 (cons (leaf as_raw 0) (cons (node Entity 1 2 (cons
    (leaf as_name 1) (cons nil nil))) (cons (turn (cons (leaf as_raw 2) (cons (node Entity 3 4 (cons (leaf
    as_name 3) (cons nil nil))) nil)) nil) (cons (leaf as_raw 4) nil))))) 5)
    -- (a)
    × (read_type (paired k.OpenParen 2 ∷ one k.Name ∷ paired k.CloseParen 0 ∷ []) ≡ gives (node ParenthesizedType 0
    3 (mark 0 (cons (node Entity 1 2 (cons (leaf as_name 1) (cons nil nil))) (mark 2 nil)))) 3)
unfolding types_on_keys
primary_types =
    (refl, refl, refl, refl, refl, refl, refl, refl, refl, refl, refl, refl, refl, refl, refl)

-- arrays, operators, unions, conditional types
operators :
    -- a[]
    (read_type (one k.Name ∷ paired k.OpenBracket 2 ∷ paired k.CloseBracket 1 ∷ []) ≡ gives (node ArrayTypes 0 3
    (cons (node Entity 0 1 (cons (leaf as_name 0) (cons nil nil))) (mark 1 (cons nil (mark 2 (cons nil nil))))))
    3)
    -- a[b][]
    × (read_type (one k.Name ∷ paired k.OpenBracket 3 ∷ one k.Name ∷ paired k.CloseBracket 1 ∷ paired k.OpenBracket
    5 ∷ paired k.CloseBracket 4 ∷ []) ≡ gives (node ArrayTypes 0 6 (cons (node Entity 0 1 (cons (leaf as_name 0)
    (cons nil nil))) (mark 1 (cons (cons (node Entity 2 3 (cons (leaf as_name 2) (cons nil nil))) nil) (mark 3
    (cons (turn (mark 4 (cons nil (mark 5 nil))) nil) nil)))))) 6)
    -- keyof a[]
    × (read_type (one k.KeyofWord ∷ one k.Name ∷ paired k.OpenBracket 3 ∷ paired k.CloseBracket 2 ∷ []) ≡ gives
    (node TypeOperator 0 4 (cons (leaf as_kind 0) (cons (node ArrayTypes 1 4 (cons (node Entity 1 2 (cons (leaf
    as_name 1) (cons nil nil))) (mark 2 (cons nil (mark 3 (cons nil nil)))))) nil))) 4)
    -- readonly a[]
    × (read_type (one k.ReadonlyWord ∷ one k.Name ∷ paired k.OpenBracket 3 ∷ paired k.CloseBracket 2 ∷ []) ≡ gives
    (node TypeOperator 0 4 (cons (leaf as_kind 0) (cons (node ArrayTypes 1 4 (cons (node Entity 1 2 (cons (leaf
    as_name 1) (cons nil nil))) (mark 2 (cons nil (mark 3 (cons nil nil)))))) nil))) 4)
    -- unique symbol
    × (read_type (one k.UniqueWord ∷ one k.SymbolWord ∷ []) ≡ gives (node TypeOperator 0 2 (cons (leaf as_kind 0)
    (cons (node KeywordType 1 2 (cons (leaf as_kind 1) nil)) nil))) 2)
    -- infer
    × (read_type (one k.InferWord ∷ []) ≡ gives (node Entity 0 1 (cons (leaf as_name 0) (cons nil nil))) 1)
    -- infer a
    × (read_type (one k.InferWord ∷ one k.Name ∷ []) ≡ gives (node InferType 0 2 (mark 0 (cons (leaf as_name 1)
    nil))) 2)
    -- a | b
    × (read_type (one k.Name ∷ one k.Bar ∷ one k.Name ∷ []) ≡ gives (node UnionType 0 3 (cons (node Entity 0 1 (cons
    (leaf as_name 0) (cons nil nil))) (mark 1 (cons (node Entity 2 3 (cons (leaf as_name 2) (cons nil nil)))
    (cons nil nil))))) 3)
    -- | a
    × (read_type (one k.Bar ∷ one k.Name ∷ []) ≡ gives (node LeadingUnionType 0 2 (mark 0 (cons (node Entity 1 2
    (cons (leaf as_name 1) (cons nil nil))) (cons nil nil)))) 2)
    -- a & b | c
    × (read_type (one k.Name ∷ one k.Ampersand ∷ one k.Name ∷ one k.Bar ∷ one k.Name ∷ []) ≡ gives (node UnionType 0
    5 (cons (node IntersectionType 0 3 (cons (node Entity 0 1 (cons (leaf as_name 0) (cons nil nil))) (mark 1
    (cons (node Entity 2 3 (cons (leaf as_name 2) (cons nil nil))) (cons nil nil))))) (mark 3 (cons (node Entity
    4 5 (cons (leaf as_name 4) (cons nil nil))) (cons nil nil))))) 5)
    -- a | b & c
    × (read_type (one k.Name ∷ one k.Bar ∷ one k.Name ∷ one k.Ampersand ∷ one k.Name ∷ []) ≡ gives (node UnionType 0
    5 (cons (node Entity 0 1 (cons (leaf as_name 0) (cons nil nil))) (mark 1 (cons (node IntersectionType 2 5
    (cons (node Entity 2 3 (cons (leaf as_name 2) (cons nil nil))) (mark 3 (cons (node Entity 4 5 (cons (leaf
    as_name 4) (cons nil nil))) (cons nil nil))))) (cons nil nil))))) 5)
    -- & a & b
    × (read_type (one k.Ampersand ∷ one k.Name ∷ one k.Ampersand ∷ one k.Name ∷ []) ≡ gives (node
    LeadingIntersectionType 0 4 (mark 0 (cons (node Entity 1 2 (cons (leaf as_name 1) (cons nil nil))) (cons
    (turn (mark 2 (cons (node Entity 3 4 (cons (leaf as_name 3) (cons nil nil))) nil)) nil) nil)))) 4)
    -- a extends b ? c : d
    × (read_type (one k.Name ∷ one k.ExtendsWord ∷ one k.Name ∷ one k.Question ∷ one k.Name ∷ one k.Colon ∷ one
    k.Name ∷ []) ≡ gives (node ConditionalType 0 7 (cons (node Entity 0 1 (cons (leaf as_name 0) (cons nil
    nil))) (mark 1 (cons (node Entity 2 3 (cons (leaf as_name 2) (cons nil nil))) (mark 3 (cons (node Entity 4 5
    (cons (leaf as_name 4) (cons nil nil))) (mark 5 (cons (node Entity 6 7 (cons (leaf as_name 6) (cons nil
    nil))) nil)))))))) 7)
    -- a extends (b extends c ? d : e) ? f : g
    × (read_type (one k.Name ∷ one k.ExtendsWord ∷ paired k.OpenParen 10 ∷ one k.Name ∷ one k.ExtendsWord ∷ one
    k.Name ∷ one k.Question ∷ one k.Name ∷ one k.Colon ∷ one k.Name ∷ paired k.CloseParen 2 ∷ one k.Question ∷
    one k.Name ∷ one k.Colon ∷ one k.Name ∷ []) ≡ gives (node ConditionalType 0 15 (cons (node Entity 0 1 (cons
    (leaf as_name 0) (cons nil nil))) (mark 1 (cons (node ParenthesizedType 2 11 (mark 2 (cons (node
    ConditionalType 3 10 (cons (node Entity 3 4 (cons (leaf as_name 3) (cons nil nil))) (mark 4 (cons (node
    Entity 5 6 (cons (leaf as_name 5) (cons nil nil))) (mark 6 (cons (node Entity 7 8 (cons (leaf as_name 7)
    (cons nil nil))) (mark 8 (cons (node Entity 9 10 (cons (leaf as_name 9) (cons nil nil))) nil)))))))) (mark
    10 nil)))) (mark 11 (cons (node Entity 12 13 (cons (leaf as_name 12) (cons nil nil))) (mark 13 (cons (node
    Entity 14 15 (cons (leaf as_name 14) (cons nil nil))) nil)))))))) 15)
    -- a extends b ? c : d extends e ? f : g
    × (read_type (one k.Name ∷ one k.ExtendsWord ∷ one k.Name ∷ one k.Question ∷ one k.Name ∷ one k.Colon ∷ one
    k.Name ∷ one k.ExtendsWord ∷ one k.Name ∷ one k.Question ∷ one k.Name ∷ one k.Colon ∷ one k.Name ∷ []) ≡
    gives (node ConditionalType 0 13 (cons (node Entity 0 1 (cons (leaf as_name 0) (cons nil nil))) (mark 1
    (cons (node Entity 2 3 (cons (leaf as_name 2) (cons nil nil))) (mark 3 (cons (node Entity 4 5 (cons (leaf
    as_name 4) (cons nil nil))) (mark 5 (cons (node ConditionalType 6 13 (cons (node Entity 6 7 (cons (leaf
    as_name 6) (cons nil nil))) (mark 7 (cons (node Entity 8 9 (cons (leaf as_name 8) (cons nil nil))) (mark 9
    (cons (node Entity 10 11 (cons (leaf as_name 10) (cons nil nil))) (mark 11 (cons (node Entity 12 13 (cons
    (leaf as_name 12) (cons nil nil))) nil)))))))) nil)))))))) 13)
unfolding types_on_keys
operators =
    (refl, refl, refl, refl, refl, refl, refl, refl, refl, refl, refl, refl, refl, refl, refl)

-- function and constructor types, results
functions :
    -- () => a
    (read_type (paired k.OpenParen 1 ∷ paired k.CloseParen 0 ∷ one k.Arrow ∷ one k.Name ∷ []) ≡ gives (node
    FunctionType 0 4 (cons nil (mark 0 (cons (node Parameters 1 1 (cons nil (cons nil nil))) (mark 1 (mark 2
    (cons (node Entity 3 4 (cons (leaf as_name 3) (cons nil nil))) nil))))))) 4)
    -- (a) => b
    × (read_type (paired k.OpenParen 2 ∷ one k.Name ∷ paired k.CloseParen 0 ∷ one k.Arrow ∷ one k.Name ∷ []) ≡ gives
    (node FunctionType 0 5 (cons nil (mark 0 (cons (node Parameters 1 2 (cons (turn (cons (node NamePattern 1 2
    (cons (leaf as_name 1) nil)) (cons nil nil)) nil) (cons nil nil))) (mark 2 (mark 3 (cons (node Entity 4 5
    (cons (leaf as_name 4) (cons nil nil))) nil))))))) 5)
    -- (a: b, c?: d) => e
    × (read_type (paired k.OpenParen 9 ∷ one k.Name ∷ one k.Colon ∷ one k.Name ∷ one k.Comma ∷ one k.Name ∷ one
    k.Question ∷ one k.Colon ∷ one k.Name ∷ paired k.CloseParen 0 ∷ one k.Arrow ∷ one k.Name ∷ []) ≡ gives (node
    FunctionType 0 12 (cons nil (mark 0 (cons (node Parameters 1 9 (cons (turn (cons (node MarkedParameter 1 4
    (cons (node NamePattern 1 2 (cons (leaf as_name 1) nil)) (cons (mark 2 (cons (node Entity 3 4 (cons (leaf
    as_name 3) (cons nil nil))) nil)) nil))) (cons (mark 4 nil) nil)) (turn (cons (node MarkedParameter 5 9
    (cons (node NamePattern 5 6 (cons (leaf as_name 5) nil)) (cons (cons (leaf as_there 6) (cons (mark 7 (cons
    (node Entity 8 9 (cons (leaf as_name 8) (cons nil nil))) nil)) nil)) nil))) (cons nil nil)) nil)) (cons nil
    nil))) (mark 9 (mark 10 (cons (node Entity 11 12 (cons (leaf as_name 11) (cons nil nil))) nil))))))) 12)
    -- (...a: b) => c
    × (read_type (paired k.OpenParen 5 ∷ one k.Ellipsis ∷ one k.Name ∷ one k.Colon ∷ one k.Name ∷ paired
    k.CloseParen 0 ∷ one k.Arrow ∷ one k.Name ∷ []) ≡ gives (node FunctionType 0 8 (cons nil (mark 0 (cons (node
    Parameters 1 5 (cons nil (cons (mark 1 (cons (node NamePattern 2 3 (cons (leaf as_name 2) nil)) (cons (mark
    3 (cons (node Entity 4 5 (cons (leaf as_name 4) (cons nil nil))) nil)) nil))) nil))) (mark 5 (mark 6 (cons
    (node Entity 7 8 (cons (leaf as_name 7) (cons nil nil))) nil))))))) 8)
    -- (this: a) => b
    × (read_type (paired k.OpenParen 4 ∷ one k.ThisWord ∷ one k.Colon ∷ one k.Name ∷ paired k.CloseParen 0 ∷ one
    k.Arrow ∷ one k.Name ∷ []) ≡ gives (node FunctionType 0 7 (cons nil (mark 0 (cons (node Parameters 1 4 (cons
    (turn (cons (node ThisParameter 1 4 (cons (leaf as_there 1) (cons nil (cons (mark 2 (cons (node Entity 3 4
    (cons (leaf as_name 3) (cons nil nil))) nil)) nil)))) (cons nil nil)) nil) (cons nil nil))) (mark 4 (mark 5
    (cons (node Entity 6 7 (cons (leaf as_name 6) (cons nil nil))) nil))))))) 7)
    -- <a>(b) => c
    × (read_type (one k.Less ∷ one k.Name ∷ one k.Greater ∷ paired k.OpenParen 5 ∷ one k.Name ∷ paired k.CloseParen
    3 ∷ one k.Arrow ∷ one k.Name ∷ []) ≡ gives (node FunctionType 0 8 (cons (cons (node TypeParameters 0 3 (mark
    0 (cons nil (cons (leaf as_name 1) (cons nil (cons nil (cons nil (cons nil (mark 2 nil))))))))) nil) (mark 3
    (cons (node Parameters 4 5 (cons (turn (cons (node NamePattern 4 5 (cons (leaf as_name 4) nil)) (cons nil
    nil)) nil) (cons nil nil))) (mark 5 (mark 6 (cons (node Entity 7 8 (cons (leaf as_name 7) (cons nil nil)))
    nil))))))) 8)
    -- <const a extends b = c, out d,>() => e
    × (read_type (one k.Less ∷ one k.ConstWord ∷ one k.Name ∷ one k.ExtendsWord ∷ one k.Name ∷ one k.Equal ∷ one
    k.Name ∷ one k.Comma ∷ one k.OutWord ∷ one k.Name ∷ one k.Comma ∷ one k.Greater ∷ paired k.OpenParen 13 ∷
    paired k.CloseParen 12 ∷ one k.Arrow ∷ one k.Name ∷ []) ≡ gives (node FunctionType 0 16 (cons (cons (node
    TypeParameters 0 12 (mark 0 (cons (turn (cons (leaf as_kind 1) nil) nil) (cons (leaf as_name 2) (cons (mark
    3 (cons (node Entity 4 5 (cons (leaf as_name 4) (cons nil nil))) nil)) (cons (mark 5 (cons (node Entity 6 7
    (cons (leaf as_name 6) (cons nil nil))) nil)) (cons (mark 7 nil) (cons (turn (cons (turn (cons (leaf as_kind
    8) nil) nil) (cons (leaf as_name 9) (cons nil (cons nil (cons (mark 10 nil) nil))))) nil) (mark 11
    nil))))))))) nil) (mark 12 (cons (node Parameters 13 13 (cons nil (cons nil nil))) (mark 13 (mark 14 (cons
    (node Entity 15 16 (cons (leaf as_name 15) (cons nil nil))) nil))))))) 16)
    -- ([a, , ...b], {c, d: e, ...f}) => g
    × (read_type (paired k.OpenParen 19 ∷ paired k.OpenBracket 7 ∷ one k.Name ∷ one k.Comma ∷ one k.Comma ∷ one
    k.Ellipsis ∷ one k.Name ∷ paired k.CloseBracket 1 ∷ one k.Comma ∷ paired k.OpenBrace 18 ∷ one k.Name ∷ one
    k.Comma ∷ one k.Name ∷ one k.Colon ∷ one k.Name ∷ one k.Comma ∷ one k.Ellipsis ∷ one k.Name ∷ paired
    k.CloseBrace 9 ∷ paired k.CloseParen 0 ∷ one k.Arrow ∷ one k.Name ∷ []) ≡ gives (node FunctionType 0 22
    (cons nil (mark 0 (cons (node Parameters 1 19 (cons (turn (cons (node ArrayPattern 1 8 (mark 1 (cons (turn
    (cons (cons (node NamePattern 2 3 (cons (leaf as_name 2) nil)) (cons (mark 3 nil) nil)) nil) (turn (cons
    (mark 4 nil) nil) (turn (cons (cons (node RestPattern 5 7 (mark 5 (cons (node NamePattern 6 7 (cons (leaf
    as_name 6) nil)) nil))) (cons nil nil)) nil) nil))) (mark 7 nil)))) (cons (mark 8 nil) nil)) (turn (cons
    (node ObjectPattern 9 19 (mark 9 (cons (turn (cons (node NameProperty 10 11 (cons (leaf as_name 10) nil))
    (cons (mark 11 nil) nil)) (turn (cons (node KeyProperty 12 15 (cons (node WordPatternKey 12 13 (cons (leaf
    as_name 12) nil)) (mark 13 (cons (node NamePattern 14 15 (cons (leaf as_name 14) nil)) nil)))) (cons (mark
    15 nil) nil)) (turn (cons (node RestProperty 16 18 (mark 16 (cons (node NamePattern 17 18 (cons (leaf
    as_name 17) nil)) nil))) (cons nil nil)) nil))) (mark 18 nil)))) (cons nil nil)) nil)) (cons nil nil)))
    (mark 19 (mark 20 (cons (node Entity 21 22 (cons (leaf as_name 21) (cons nil nil))) nil))))))) 22)
    -- new () => a
    × (read_type (one k.NewWord ∷ paired k.OpenParen 2 ∷ paired k.CloseParen 1 ∷ one k.Arrow ∷ one k.Name ∷ []) ≡
    gives (node ConstructorType 0 5 (cons nil (mark 0 (cons nil (mark 1 (cons (node Parameters 2 2 (cons nil
    (cons nil nil))) (mark 2 (mark 3 (cons (node Entity 4 5 (cons (leaf as_name 4) (cons nil nil))) nil)))))))))
    5)
    -- abstract new <a>(b) => c
    × (read_type (one k.AbstractWord ∷ one k.NewWord ∷ one k.Less ∷ one k.Name ∷ one k.Greater ∷ paired k.OpenParen
    7 ∷ one k.Name ∷ paired k.CloseParen 5 ∷ one k.Arrow ∷ one k.Name ∷ []) ≡ gives (node ConstructorType 0 10
    (cons (cons (leaf as_there 0) nil) (mark 1 (cons (cons (node TypeParameters 2 5 (mark 2 (cons nil (cons
    (leaf as_name 3) (cons nil (cons nil (cons nil (cons nil (mark 4 nil))))))))) nil) (mark 5 (cons (node
    Parameters 6 7 (cons (turn (cons (node NamePattern 6 7 (cons (leaf as_name 6) nil)) (cons nil nil)) nil)
    (cons nil nil))) (mark 7 (mark 8 (cons (node Entity 9 10 (cons (leaf as_name 9) (cons nil nil)))
    nil))))))))) 10)
    -- (a) => a is b
    × (read_type (paired k.OpenParen 2 ∷ one k.Name ∷ paired k.CloseParen 0 ∷ one k.Arrow ∷ one k.Name ∷ one
    k.IsWord ∷ one k.Name ∷ []) ≡ gives (node FunctionType 0 7 (cons nil (mark 0 (cons (node Parameters 1 2
    (cons (turn (cons (node NamePattern 1 2 (cons (leaf as_name 1) nil)) (cons nil nil)) nil) (cons nil nil)))
    (mark 2 (mark 3 (cons (node PredicateResult 4 7 (cons (leaf as_name 4) (mark 5 (cons (node Entity 6 7 (cons
    (leaf as_name 6) (cons nil nil))) nil)))) nil))))))) 7)
    -- (a) => asserts a
    × (read_type (paired k.OpenParen 2 ∷ one k.Name ∷ paired k.CloseParen 0 ∷ one k.Arrow ∷ one k.AssertsWord ∷ one
    k.Name ∷ []) ≡ gives (node FunctionType 0 6 (cons nil (mark 0 (cons (node Parameters 1 2 (cons (turn (cons
    (node NamePattern 1 2 (cons (leaf as_name 1) nil)) (cons nil nil)) nil) (cons nil nil))) (mark 2 (mark 3
    (cons (node AssertsResult 4 6 (mark 4 (cons (leaf as_name 5) (cons nil nil)))) nil))))))) 6)
    -- (a) => asserts a is b
    × (read_type (paired k.OpenParen 2 ∷ one k.Name ∷ paired k.CloseParen 0 ∷ one k.Arrow ∷ one k.AssertsWord ∷ one
    k.Name ∷ one k.IsWord ∷ one k.Name ∷ []) ≡ gives (node FunctionType 0 8 (cons nil (mark 0 (cons (node
    Parameters 1 2 (cons (turn (cons (node NamePattern 1 2 (cons (leaf as_name 1) nil)) (cons nil nil)) nil)
    (cons nil nil))) (mark 2 (mark 3 (cons (node AssertsResult 4 8 (mark 4 (cons (leaf as_name 5) (cons (mark 6
    (cons (node Entity 7 8 (cons (leaf as_name 7) (cons nil nil))) nil)) nil)))) nil))))))) 8)
    -- () => keyof is []
    × (read_type (paired k.OpenParen 1 ∷ paired k.CloseParen 0 ∷ one k.Arrow ∷ one k.KeyofWord ∷ one k.IsWord ∷
    paired k.OpenBracket 6 ∷ paired k.CloseBracket 5 ∷ []) ≡ gives (node FunctionType 0 7 (cons nil (mark 0
    (cons (node Parameters 1 1 (cons nil (cons nil nil))) (mark 1 (mark 2 (cons (node PredicateResult 3 7 (cons
    (leaf as_name 3) (mark 4 (cons (node TupleType 5 7 (mark 5 (cons nil (mark 6 nil)))) nil)))) nil))))))) 7)
unfolding types_on_keys
functions =
    (refl, refl, refl, refl, refl, refl, refl, refl, refl, refl, refl, refl, refl, refl)

-- queries and imports
queries :
    -- typeof a
    (read_type (one k.TypeofWord ∷ one k.Name ∷ []) ≡ gives (node TypeQuery 0 2 (mark 0 (cons (cons (node Entity 1 2
    (cons (leaf as_name 1) (cons nil nil))) nil) nil))) 2)
    -- typeof a.b<c>
    × (read_type (one k.TypeofWord ∷ one k.Name ∷ one k.Dot ∷ one k.Name ∷ one k.Less ∷ one k.Name ∷ one k.Greater ∷
    []) ≡ gives (node TypeQuery 0 7 (mark 0 (cons (cons (node Reference 1 7 (cons (node Entity 1 4 (cons (leaf
    as_name 1) (cons (turn (mark 2 (cons (leaf as_name 3) nil)) nil) nil))) (cons (node TypeArguments 4 7 (mark
    4 (cons (node Entity 5 6 (cons (leaf as_name 5) (cons nil nil))) (cons nil (mark 6 nil))))) nil))) nil)
    nil))) 7)
    -- typeof import("a")
    × (read_type (one k.TypeofWord ∷ one k.ImportWord ∷ paired k.OpenParen 4 ∷ one k.Str ∷ paired k.CloseParen 2 ∷
    []) ≡ gives (node TypeQuery 0 5 (mark 0 (cons (cons (node ImportType 1 5 (mark 1 (mark 2 (cons (leaf as_str
    3) (mark 4 (cons nil (cons nil nil))))))) nil) nil))) 5)
    -- import("a").b<c>
    × (read_type (one k.ImportWord ∷ paired k.OpenParen 3 ∷ one k.Str ∷ paired k.CloseParen 1 ∷ one k.Dot ∷ one
    k.Name ∷ one k.Less ∷ one k.Name ∷ one k.Greater ∷ []) ≡ gives (node ImportType 0 9 (mark 0 (mark 1 (cons
    (leaf as_str 2) (mark 3 (cons (mark 4 (cons (node Entity 5 6 (cons (leaf as_name 5) (cons nil nil))) nil))
    (cons (cons (node TypeArguments 6 9 (mark 6 (cons (node Entity 7 8 (cons (leaf as_name 7) (cons nil nil)))
    (cons nil (mark 8 nil))))) nil) nil))))))) 9)
unfolding types_on_keys
queries =
    (refl, refl, refl, refl)

-- tuples
tuples :
    -- []
    (read_type (paired k.OpenBracket 1 ∷ paired k.CloseBracket 0 ∷ []) ≡ gives (node TupleType 0 2 (mark 0 (cons nil
    (mark 1 nil)))) 2)
    -- [a, b?]
    × (read_type (paired k.OpenBracket 5 ∷ one k.Name ∷ one k.Comma ∷ one k.Name ∷ one k.Question ∷ paired
    k.CloseBracket 0 ∷ []) ≡ gives (node TupleType 0 6 (mark 0 (cons (turn (cons (node Entity 1 2 (cons (leaf
    as_name 1) (cons nil nil))) (cons (mark 2 nil) nil)) (turn (cons (node OptionalElement 3 5 (cons (node
    Entity 3 4 (cons (leaf as_name 3) (cons nil nil))) (cons (leaf as_there 4) nil))) (cons nil nil)) nil))
    (mark 5 nil)))) 6)
    -- [a, ...b,]
    × (read_type (paired k.OpenBracket 6 ∷ one k.Name ∷ one k.Comma ∷ one k.Ellipsis ∷ one k.Name ∷ one k.Comma ∷
    paired k.CloseBracket 0 ∷ []) ≡ gives (node TupleType 0 7 (mark 0 (cons (turn (cons (node Entity 1 2 (cons
    (leaf as_name 1) (cons nil nil))) (cons (mark 2 nil) nil)) (turn (cons (node RestElement 3 5 (mark 3 (cons
    nil (cons (node Entity 4 5 (cons (leaf as_name 4) (cons nil nil))) (cons nil nil))))) (cons (mark 5 nil)
    nil)) nil)) (mark 6 nil)))) 7)
    -- [a: b, c?: d, ...e: f]
    × (read_type (paired k.OpenBracket 14 ∷ one k.Name ∷ one k.Colon ∷ one k.Name ∷ one k.Comma ∷ one k.Name ∷ one
    k.Question ∷ one k.Colon ∷ one k.Name ∷ one k.Comma ∷ one k.Ellipsis ∷ one k.Name ∷ one k.Colon ∷ one k.Name
    ∷ paired k.CloseBracket 0 ∷ []) ≡ gives (node TupleType 0 15 (mark 0 (cons (turn (cons (node LabelledElement
    1 4 (cons (leaf as_name 1) (cons nil (mark 2 (cons (node Entity 3 4 (cons (leaf as_name 3) (cons nil nil)))
    (cons nil nil)))))) (cons (mark 4 nil) nil)) (turn (cons (node LabelledElement 5 9 (cons (leaf as_name 5)
    (cons (cons (leaf as_there 6) nil) (mark 7 (cons (node Entity 8 9 (cons (leaf as_name 8) (cons nil nil)))
    (cons nil nil)))))) (cons (mark 9 nil) nil)) (turn (cons (node RestElement 10 14 (mark 10 (cons (cons (leaf
    as_name 11) (cons nil (mark 12 nil))) (cons (node Entity 13 14 (cons (leaf as_name 13) (cons nil nil)))
    (cons nil nil))))) (cons nil nil)) nil))) (mark 14 nil)))) 15)
unfolding types_on_keys
tuples =
    (refl, refl, refl, refl)

-- types in braces
members :
    -- {}
    (read_type (paired k.OpenBrace 1 ∷ paired k.CloseBrace 0 ∷ []) ≡ gives (node MembersType 0 2 (mark 0 (cons nil
    (mark 1 nil)))) 2)
    -- { a }
    × (read_type (paired k.OpenBrace 2 ∷ one k.Name ∷ paired k.CloseBrace 0 ∷ []) ≡ gives (node MembersType 0 3
    (mark 0 (cons (turn (cons (node PropertySignature 1 2 (cons (node WordKey 1 2 (cons (leaf as_name 1) nil))
    (cons nil (cons nil (cons nil nil))))) nil) nil) (mark 2 nil)))) 3)
    -- { a: b; c?: d, }
    × (read_type (paired k.OpenBrace 10 ∷ one k.Name ∷ one k.Colon ∷ one k.Name ∷ one k.Semicolon ∷ one k.Name ∷ one
    k.Question ∷ one k.Colon ∷ one k.Name ∷ one k.Comma ∷ paired k.CloseBrace 0 ∷ []) ≡ gives (node MembersType
    0 11 (mark 0 (cons (turn (cons (node PropertySignature 1 5 (cons (node WordKey 1 2 (cons (leaf as_name 1)
    nil)) (cons nil (cons (mark 2 (cons (node Entity 3 4 (cons (leaf as_name 3) (cons nil nil))) nil)) (cons
    (cons (leaf as_there 4) nil) nil))))) nil) (turn (cons (node PropertySignature 5 10 (cons (node WordKey 5 6
    (cons (leaf as_name 5) nil)) (cons (cons (leaf as_there 6) nil) (cons (mark 7 (cons (node Entity 8 9 (cons
    (leaf as_name 8) (cons nil nil))) nil)) (cons (cons (leaf as_there 9) nil) nil))))) nil) nil)) (mark 10
    nil)))) 11)
    -- { a ⏎  b }
    × (read_type (paired k.OpenBrace 3 ∷ one k.Name ∷ line k.Name ∷ paired k.CloseBrace 0 ∷ []) ≡ gives (node
    MembersType 0 4 (mark 0 (cons (turn (cons (node PropertySignature 1 2 (cons (node WordKey 1 2 (cons (leaf
    as_name 1) nil)) (cons nil (cons nil (cons nil nil))))) nil) (turn (cons (node PropertySignature 2 3 (cons
    (node WordKey 2 3 (cons (leaf as_name 2) nil)) (cons nil (cons nil (cons nil nil))))) nil) nil)) (mark 3
    nil)))) 4)
    -- { a(): b; (c): d; new (): e }
    × (read_type (paired k.OpenBrace 18 ∷ one k.Name ∷ paired k.OpenParen 3 ∷ paired k.CloseParen 2 ∷ one k.Colon ∷
    one k.Name ∷ one k.Semicolon ∷ paired k.OpenParen 9 ∷ one k.Name ∷ paired k.CloseParen 7 ∷ one k.Colon ∷ one
    k.Name ∷ one k.Semicolon ∷ one k.NewWord ∷ paired k.OpenParen 15 ∷ paired k.CloseParen 14 ∷ one k.Colon ∷
    one k.Name ∷ paired k.CloseBrace 0 ∷ []) ≡ gives (node MembersType 0 19 (mark 0 (cons (turn (cons (node
    MethodSignature 1 7 (cons (node WordKey 1 2 (cons (leaf as_name 1) nil)) (cons nil (cons nil (mark 2 (cons
    (node Parameters 3 3 (cons nil (cons nil nil))) (mark 3 (cons (mark 4 (cons (node Entity 5 6 (cons (leaf
    as_name 5) (cons nil nil))) nil)) (cons (cons (leaf as_there 6) nil) nil))))))))) nil) (turn (cons (node
    CallSignature 7 13 (cons nil (mark 7 (cons (node Parameters 8 9 (cons (turn (cons (node NamePattern 8 9
    (cons (leaf as_name 8) nil)) (cons nil nil)) nil) (cons nil nil))) (mark 9 (cons (mark 10 (cons (node Entity
    11 12 (cons (leaf as_name 11) (cons nil nil))) nil)) (cons (cons (leaf as_there 12) nil) nil))))))) nil)
    (turn (cons (node ConstructSignature 13 18 (mark 13 (cons nil (mark 14 (cons (node Parameters 15 15 (cons
    nil (cons nil nil))) (mark 15 (cons (mark 16 (cons (node Entity 17 18 (cons (leaf as_name 17) (cons nil
    nil))) nil)) (cons nil nil)))))))) nil) nil))) (mark 18 nil)))) 19)
    -- { [a: b]: c }
    × (read_type (paired k.OpenBrace 8 ∷ paired k.OpenBracket 5 ∷ one k.Name ∷ one k.Colon ∷ one k.Name ∷ paired
    k.CloseBracket 1 ∷ one k.Colon ∷ one k.Name ∷ paired k.CloseBrace 0 ∷ []) ≡ gives (node MembersType 0 9
    (mark 0 (cons (turn (cons (node IndexSignature 1 8 (cons nil (mark 1 (cons (leaf as_name 2) (mark 3 (cons
    (node Entity 4 5 (cons (leaf as_name 4) (cons nil nil))) (mark 5 (cons (mark 6 (cons (node Entity 7 8 (cons
    (leaf as_name 7) (cons nil nil))) nil)) (cons nil nil))))))))) nil) nil) (mark 8 nil)))) 9)
    -- { readonly a: b; readonly: c }
    × (read_type (paired k.OpenBrace 9 ∷ one k.ReadonlyWord ∷ one k.Name ∷ one k.Colon ∷ one k.Name ∷ one
    k.Semicolon ∷ one k.ReadonlyWord ∷ one k.Colon ∷ one k.Name ∷ paired k.CloseBrace 0 ∷ []) ≡ gives (node
    MembersType 0 10 (mark 0 (cons (turn (cons (node ReadonlyProperty 1 6 (mark 1 (cons (node WordKey 2 3 (cons
    (leaf as_name 2) nil)) (cons nil (cons (mark 3 (cons (node Entity 4 5 (cons (leaf as_name 4) (cons nil
    nil))) nil)) (cons (cons (leaf as_there 5) nil) nil)))))) nil) (turn (cons (node PropertySignature 6 9 (cons
    (node WordKey 6 7 (cons (leaf as_name 6) nil)) (cons nil (cons (mark 7 (cons (node Entity 8 9 (cons (leaf
    as_name 8) (cons nil nil))) nil)) (cons nil nil))))) nil) nil)) (mark 9 nil)))) 10)
    -- { get a(): b; set: c }
    × (read_type (paired k.OpenBrace 11 ∷ one k.GetWord ∷ one k.Name ∷ paired k.OpenParen 4 ∷ paired k.CloseParen 3
    ∷ one k.Colon ∷ one k.Name ∷ one k.Semicolon ∷ one k.SetWord ∷ one k.Colon ∷ one k.Name ∷ paired
    k.CloseBrace 0 ∷ []) ≡ gives (node MembersType 0 12 (mark 0 (cons (turn (cons (node AccessorSignature 1 8
    (cons (leaf as_kind 1) (cons (node WordKey 2 3 (cons (leaf as_name 2) nil)) (cons nil (cons nil (mark 3
    (cons (node Parameters 4 4 (cons nil (cons nil nil))) (mark 4 (cons (mark 5 (cons (node Entity 6 7 (cons
    (leaf as_name 6) (cons nil nil))) nil)) (cons (cons (leaf as_there 7) nil) nil)))))))))) nil) (turn (cons
    (node PropertySignature 8 11 (cons (node WordKey 8 9 (cons (leaf as_name 8) nil)) (cons nil (cons (mark 9
    (cons (node Entity 10 11 (cons (leaf as_name 10) (cons nil nil))) nil)) (cons nil nil))))) nil) nil)) (mark
    11 nil)))) 12)
    -- { a ⏎ (b): c }
    × (read_type (paired k.OpenBrace 7 ∷ one k.Name ∷ line_paired k.OpenParen 4 ∷ one k.Name ∷ paired k.CloseParen 2
    ∷ one k.Colon ∷ one k.Name ∷ paired k.CloseBrace 0 ∷ []) ≡ gives (node MembersType 0 8 (mark 0 (cons (turn
    (cons (node MethodSignature 1 7 (cons (node WordKey 1 2 (cons (leaf as_name 1) nil)) (cons nil (cons nil
    (mark 2 (cons (node Parameters 3 4 (cons (turn (cons (node NamePattern 3 4 (cons (leaf as_name 3) nil))
    (cons nil nil)) nil) (cons nil nil))) (mark 4 (cons (mark 5 (cons (node Entity 6 7 (cons (leaf as_name 6)
    (cons nil nil))) nil)) (cons nil nil))))))))) nil) nil) (mark 7 nil)))) 8)
    -- { [a.b]: c; ["d"]: e; 1: f }
    × (read_type (paired k.OpenBrace 18 ∷ paired k.OpenBracket 5 ∷ one k.Name ∷ one k.Dot ∷ one k.Name ∷ paired
    k.CloseBracket 1 ∷ one k.Colon ∷ one k.Name ∷ one k.Semicolon ∷ paired k.OpenBracket 11 ∷ one k.Str ∷ paired
    k.CloseBracket 9 ∷ one k.Colon ∷ one k.Name ∷ one k.Semicolon ∷ one k.Number ∷ one k.Colon ∷ one k.Name ∷
    paired k.CloseBrace 0 ∷ []) ≡ gives (node MembersType 0 19 (mark 0 (cons (turn (cons (node PropertySignature
    1 9 (cons (node ComputedKey 1 6 (mark 1 (cons (cons (cons (node Entity 2 5 (cons (leaf as_name 2) (cons
    (turn (mark 3 (cons (leaf as_name 4) nil)) nil) nil))) nil) nil) (mark 5 nil)))) (cons nil (cons (mark 6
    (cons (node Entity 7 8 (cons (leaf as_name 7) (cons nil nil))) nil)) (cons (cons (leaf as_there 8) nil)
    nil))))) nil) (turn (cons (node PropertySignature 9 15 (cons (node ComputedKey 9 12 (mark 9 (cons (cons
    (leaf as_str 10) nil) (mark 11 nil)))) (cons nil (cons (mark 12 (cons (node Entity 13 14 (cons (leaf as_name
    13) (cons nil nil))) nil)) (cons (cons (leaf as_there 14) nil) nil))))) nil) (turn (cons (node
    PropertySignature 15 18 (cons (node NumberKey 15 16 (cons (leaf as_raw 15) nil)) (cons nil (cons (mark 16
    (cons (node Entity 17 18 (cons (leaf as_name 17) (cons nil nil))) nil)) (cons nil nil))))) nil) nil))) (mark
    18 nil)))) 19)
unfolding types_on_keys
members =
    (refl, refl, refl, refl, refl, refl, refl, refl, refl, refl)

-- mapped types
mapped_types :
    -- { [a in b]: c }
    (read_type (paired k.OpenBrace 8 ∷ paired k.OpenBracket 5 ∷ one k.Name ∷ one k.InWord ∷ one k.Name ∷ paired
    k.CloseBracket 1 ∷ one k.Colon ∷ one k.Name ∷ paired k.CloseBrace 0 ∷ []) ≡ gives (node MappedType 0 9 (mark
    0 (cons nil (mark 1 (cons (leaf as_name 2) (mark 3 (cons (node Entity 4 5 (cons (leaf as_name 4) (cons nil
    nil))) (cons nil (mark 5 (cons nil (cons (mark 6 (cons (node Entity 7 8 (cons (leaf as_name 7) (cons nil
    nil))) nil)) (cons nil (mark 8 nil))))))))))))) 9)
    -- { -readonly [a in b as c]?: d; }
    × (read_type (paired k.OpenBrace 14 ∷ one k.Minus ∷ one k.ReadonlyWord ∷ paired k.OpenBracket 9 ∷ one k.Name ∷
    one k.InWord ∷ one k.Name ∷ one k.AsWord ∷ one k.Name ∷ paired k.CloseBracket 3 ∷ one k.Question ∷ one
    k.Colon ∷ one k.Name ∷ one k.Semicolon ∷ paired k.CloseBrace 0 ∷ []) ≡ gives (node MappedType 0 15 (mark 0
    (cons (cons (cons (leaf as_kind 1) nil) (cons (leaf as_there 2) nil)) (mark 3 (cons (leaf as_name 4) (mark 5
    (cons (node Entity 6 7 (cons (leaf as_name 6) (cons nil nil))) (cons (mark 7 (cons (node Entity 8 9 (cons
    (leaf as_name 8) (cons nil nil))) nil)) (mark 9 (cons (cons nil (cons (leaf as_there 10) nil)) (cons (mark
    11 (cons (node Entity 12 13 (cons (leaf as_name 12) (cons nil nil))) nil)) (cons (mark 13 nil) (mark 14
    nil))))))))))))) 15)
unfolding types_on_keys
mapped_types =
    (refl, refl)
