-- Keys that are no type: nothing is read, or less than all: each is what the table's reader answers, by computing it. A
-- line end is written ⏎.
use Rattle.std.specs.Prelude.{[], ◌∷◌}
use Rattle.std.proofs.Common.{◌≡◌, refl}
use Rattle.es_token.specs.declared.token.TokenKind.TheVariants as k
use Rattle.grammar_theory.specs.Productions.{as_kind, as_name}
use Rattle.grammar_theory.specs.Plain.{node, leaf, nil, cons, mark}
use Rattle.grammar_theory.specs.Reader.{nothing, gives}
use Rattle.es_grammar.specs.types.TypeRows.{Entity, InferType, KeywordType}
use Rattle.es_grammar.specs.types.TypeReader.{one, paired, read_type}
use Rattle.es_grammar.proofs.types_lemmas.OnKeys.{types_on_keys}

-- cut short or with too much
refused :
    -- nothing
    (read_type ([]) ≡ nothing)
    -- a extends b ? c : () => asserts d extends e ? f : g
    × (read_type (one k.Name ∷ one k.ExtendsWord ∷ one k.Name ∷ one k.Question ∷ one k.Name ∷ one k.Colon ∷ paired
    k.OpenParen 7 ∷ paired k.CloseParen 6 ∷ one k.Arrow ∷ one k.AssertsWord ∷ one k.Name ∷ one k.ExtendsWord ∷
    one k.Name ∷ one k.Question ∷ one k.Name ∷ one k.Colon ∷ one k.Name ∷ []) ≡ nothing)
    -- a b
    × (read_type (one k.Name ∷ one k.Name ∷ []) ≡ gives (node Entity 0 1 (cons (leaf as_name 0) (cons nil nil))) 1)
    -- a |
    × (read_type (one k.Name ∷ one k.Bar ∷ []) ≡ nothing)
    -- a extends b
    × (read_type (one k.Name ∷ one k.ExtendsWord ∷ one k.Name ∷ []) ≡ nothing)
    -- a extends b ? c
    × (read_type (one k.Name ∷ one k.ExtendsWord ∷ one k.Name ∷ one k.Question ∷ one k.Name ∷ []) ≡ nothing)
    -- (a, b)
    × (read_type (paired k.OpenParen 4 ∷ one k.Name ∷ one k.Comma ∷ one k.Name ∷ paired k.CloseParen 0 ∷ []) ≡
    nothing)
    -- (a?) =>
    × (read_type (paired k.OpenParen 3 ∷ one k.Name ∷ one k.Question ∷ paired k.CloseParen 0 ∷ one k.Arrow ∷ []) ≡
    nothing)
    -- a.
    × (read_type (one k.Name ∷ one k.Dot ∷ []) ≡ nothing)
    -- a<>
    × (read_type (one k.Name ∷ one k.Less ∷ one k.Greater ∷ []) ≡ nothing)
    -- a<b,>
    × (read_type (one k.Name ∷ one k.Less ∷ one k.Name ∷ one k.Comma ∷ one k.Greater ∷ []) ≡ nothing)
    -- infer a b
    × (read_type (one k.InferWord ∷ one k.Name ∷ one k.Name ∷ []) ≡ gives (node InferType 0 2 (mark 0 (cons (leaf
    as_name 1) nil))) 2)
unfolding types_on_keys
refused =
    (refl, refl, refl, refl, refl, refl, refl, refl, refl, refl, refl, refl)

-- predicates and wrong parts
refused_more :
    -- { a b }
    (read_type (paired k.OpenBrace 3 ∷ one k.Name ∷ one k.Name ∷ paired k.CloseBrace 0 ∷ []) ≡ nothing)
    -- { readonly get a: b }
    × (read_type (paired k.OpenBrace 6 ∷ one k.ReadonlyWord ∷ one k.GetWord ∷ one k.Name ∷ one k.Colon ∷ one k.Name
    ∷ paired k.CloseBrace 0 ∷ []) ≡ nothing)
    -- [a b]
    × (read_type (paired k.OpenBracket 3 ∷ one k.Name ∷ one k.Name ∷ paired k.CloseBracket 0 ∷ []) ≡ nothing)
    -- [...]
    × (read_type (paired k.OpenBracket 2 ∷ one k.Ellipsis ∷ paired k.CloseBracket 0 ∷ []) ≡ nothing)
    -- (...a,) => b
    × (read_type (paired k.OpenParen 4 ∷ one k.Ellipsis ∷ one k.Name ∷ one k.Comma ∷ paired k.CloseParen 0 ∷ one
    k.Arrow ∷ one k.Name ∷ []) ≡ nothing)
    -- typeof (a)
    × (read_type (one k.TypeofWord ∷ paired k.OpenParen 3 ∷ one k.Name ∷ paired k.CloseParen 1 ∷ []) ≡ nothing)
    -- import(a)
    × (read_type (one k.ImportWord ∷ paired k.OpenParen 3 ∷ one k.Name ∷ paired k.CloseParen 1 ∷ []) ≡ nothing)
    -- new a
    × (read_type (one k.NewWord ∷ one k.Name ∷ []) ≡ nothing)
    -- abstract new a
    × (read_type (one k.AbstractWord ∷ one k.NewWord ∷ one k.Name ∷ []) ≡ gives (node Entity 0 1 (cons (leaf as_name
    0) (cons nil nil))) 1)
    -- a extends b extends c ? d : e ? f : g
    × (read_type (one k.Name ∷ one k.ExtendsWord ∷ one k.Name ∷ one k.ExtendsWord ∷ one k.Name ∷ one k.Question ∷
    one k.Name ∷ one k.Colon ∷ one k.Name ∷ one k.Question ∷ one k.Name ∷ one k.Colon ∷ one k.Name ∷ []) ≡
    nothing)
    -- any<a>
    × (read_type (one k.AnyWord ∷ one k.Less ∷ one k.Name ∷ one k.Greater ∷ []) ≡ gives (node KeywordType 0 1 (cons
    (leaf as_kind 0) nil)) 1)
    -- { new () => a }
    × (read_type (paired k.OpenBrace 6 ∷ one k.NewWord ∷ paired k.OpenParen 3 ∷ paired k.CloseParen 2 ∷ one k.Arrow
    ∷ one k.Name ∷ paired k.CloseBrace 0 ∷ []) ≡ nothing)
unfolding types_on_keys
refused_more =
    (refl, refl, refl, refl, refl, refl, refl, refl, refl, refl, refl, refl)
