-- What is kept of tokens among the parts of types: names, literals and words.
use Rattle.std.specs.Prelude.{ℕ, Bool, List, [], ◌∷◌, Option, Some, None, option_map, slice_range, if◌then◌else◌}
use Rattle.base.specs.declared.range.Range.{Range}
use Rattle.es_token.specs.declared.token.Token.{Token}
use Rattle.es_token.specs.declared.token.TokenKind.{TokenKind}
use Rattle.es_token.specs.declared.token.TokenKind.TheVariants as k
use Rattle.grammar_theory.specs.Key.{same_kind}
use Rattle.es_ast.specs.declared.ts.leaf.Ident.{Ident}
use Rattle.es_ast.specs.declared.ts.leaf.Number.{Number}
use Rattle.es_ast.specs.declared.ts.leaf.BigInt.{BigInt}
use Rattle.es_ast.specs.declared.ts.leaf.TsLit.{TsLit}
use Rattle.es_ast.specs.declared.ts.leaf.TsLit.TheVariants as vLit
use Rattle.es_ast.specs.declared.ts.leaf.TsKey.{TsKey}
use Rattle.es_ast.specs.declared.ts.leaf.TsKey.TheVariants as vKey
use Rattle.es_ast.specs.declared.ts.leaf.TsKeywordTypeKind.{TsKeywordTypeKind}
use Rattle.es_ast.specs.declared.ts.leaf.TsKeywordTypeKind.TheVariants as keyword
use Rattle.es_ast.specs.declared.ts.leaf.TsTypeOperatorOp.{TsTypeOperatorOp}
use Rattle.es_ast.specs.declared.ts.leaf.TsTypeOperatorOp.TheVariants as operator
use Rattle.es_ast.specs.declared.ts.leaf.TruePlusMinus.{TruePlusMinus}
use Rattle.es_ast.specs.declared.ts.leaf.TruePlusMinus.TheVariants as sign
use Rattle.es_lowering.specs.Value.{given, Value, more, as_group}
use Rattle.es_lowering.specs.Texts.{kind_at, token_at}
use Rattle.es_lowering.specs.Operators.{listed}

-- ---- names and literals
-- the same name, with `?` behind it or not
abbrev pub marked : Bool → Ident → Ident
marked mark name = record { sym = name.sym; ctxt = name.ctxt; optional = mark; span = name.span }

-- a number and a BigInt, as they are spelled
unfoldable pub number_of : List ℕ → Token → Number
number_of x t = record { raw = slice_range x t.range.start t.range.end; span = t.range }

unfoldable pub big_of : List ℕ → Token → BigInt
big_of x t = record { raw = slice_range x t.range.start t.range.end; span = t.range }

abbrev pub number_at : List ℕ → List Token → Value → ℕ → Option Number
number_at x ts p n = option_map (number_of x) (token_at ts p n)

-- a number or a BigInt as a type, behind `-` or not
unfoldable pub numeric_lit : List ℕ → Bool → Range → Token → Option TsLit
numeric_lit x minus r t =
    if same_kind t.kind k.Number then Some (vLit.Number minus (number_of x t) r)
    else (if same_kind t.kind k.BigInt then Some (vLit.BigInt minus (big_of x t) r)
    else None)

-- in the brackets of a key
unfoldable pub computed_numeric : List ℕ → Range → Token → Option TsKey
computed_numeric x r t =
    if same_kind t.kind k.Number then Some (vKey.ComputedNum (number_of x t) r)
    else (if same_kind t.kind k.BigInt then Some (vKey.ComputedBigInt (big_of x t) r)
    else None)

-- ---- words
unfoldable pub keyword_kinds : List (TokenKind × TsKeywordTypeKind)
keyword_kinds =
    (k.AnyWord, keyword.Any) ∷
    (k.UnknownWord, keyword.Unknown) ∷
    (k.NeverWord, keyword.Never) ∷
    (k.UndefinedWord, keyword.Undefined) ∷
    (k.StringWord, keyword.String) ∷
    (k.NumberWord, keyword.Number) ∷
    (k.BooleanWord, keyword.Boolean) ∷
    (k.BigintWord, keyword.BigInt) ∷
    (k.SymbolWord, keyword.Symbol) ∷
    (k.ObjectWord, keyword.Object) ∷
    (k.NullWord, keyword.Null) ∷
    (k.VoidWord, keyword.Void) ∷
    []

unfoldable pub type_operators : List (TokenKind × TsTypeOperatorOp)
type_operators = (k.KeyofWord, operator.KeyOf) ∷ (k.UniqueWord, operator.Unique) ∷ (k.ReadonlyWord, operator.ReadOnly) ∷ []

unfoldable pub signs : List (TokenKind × TruePlusMinus)
signs = (k.Plus, sign.Plus) ∷ (k.Minus, sign.Minus) ∷ []

-- how `readonly` or `?` stands in a mapped type: a group of a sign, which may be absent, and the word
abbrev pub signed_by : List Token → Value → Option TruePlusMinus
signed_by ts (more v vs) = given (kind_at ts (more v vs) 0) (listed signs)
signed_by ts _ = Some sign.True

abbrev pub signed_in : List Token → Value → Option TruePlusMinus
signed_in ts (more v vs) = signed_by ts (as_group v)
signed_in ts _ = Some sign.Absent
