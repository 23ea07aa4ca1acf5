-- Alternatives by what they become.
use Rattle.std.specs.Prelude.{◌≡◌, ℕ, Bool, false, ◌||◌, List, [], ◌∷◌, Option, Some, None, IfSome, bytes_eq, codes, slice_range}
use Rattle.es_grammar.specs.declared.rows.NodeKind.{NodeKind}
use Rattle.es_grammar.specs.declared.rows.NodeKind.TheVariants as l
use Rattle.base.specs.declared.range.Range.{Range}
use Rattle.es_token.specs.declared.token.Token.{Token}
use Rattle.es_token.specs.declared.token.TokenKind.{TokenKind}
use Rattle.es_token.specs.declared.token.TokenKind.TheVariants as k
use Rattle.grammar_theory.specs.Key.{same_kind}
use Rattle.es_ast.specs.declared.ts.leaf.TsEntityName.{TsEntityName}
use Rattle.es_ast.specs.declared.ts.ts.TsType.{TsType}
use Rattle.es_ast.specs.declared.ast.Expr.{Expr}
use Rattle.es_lowering.specs.Value.{Value, part}
use Rattle.es_lowering.specs.Types.{indexes}
use Rattle.es_lowering.specs.TypedExpressions.{asserted_by, turned_by}
use Rattle.es_syntax.specs.declared.entry.Lean.TheVariants as vLean
use Rattle.es_syntax.specs.Held.{Held, leaned}
use Rattle.es_syntax.specs.Roles.{expr_in}
use Rattle.dts_rules.specs.Sets.{is_array_name, is_array_type, is_array_literal}

-- functions and arrows
abbrev pub function_labels : List NodeKind
function_labels =
    l.Function ∷ l.AsyncFunction ∷ l.TypedFunction ∷ l.TypedAsyncFunction ∷ l.NameArrow ∷ l.ParenthesizedArrow ∷
    l.AsyncNameArrow ∷ l.AsyncParenthesizedArrow ∷ l.TypedParenthesizedArrow ∷ l.TypedAsyncParenthesizedArrow ∷ []

-- what may be an array literal
abbrev pub literal_labels : List NodeKind
literal_labels = l.ArrayLiteral ∷ l.Parenthesized ∷ l.TypedBinary ∷ l.TypeAssertion ∷ []

-- what may be the type of an array
abbrev pub array_labels : List NodeKind
array_labels = l.ArrayTypes ∷ l.TupleType ∷ l.TypeOperator ∷ l.Reference ∷ l.EntityOfType ∷ []

-- an expression, where it is there, is an array literal or not
abbrev pub Literal : Bool → Option Expr → Type 0
Literal b o = IfSome o (λ e. is_array_literal e ≡ b)

-- a type, where it is there, is that of an array or not
abbrev pub ArrayType : Bool → Option TsType → Type 0
ArrayType b o = IfSome o (λ ty. is_array_type ty ≡ b)

abbrev pub entity_labels : List NodeKind
entity_labels = l.Entity ∷ l.EntityOfType ∷ []

-- a name with dots, where it is there, is that of arrays or not
abbrev pub ArrayName : Bool → Option TsEntityName → Type 0
ArrayName b o = IfSome o (λ name. is_array_name name.left name.rest ≡ b)

-- the token is this word
abbrev pub is_word : TokenKind → Option Token → Bool
is_word word (Some t) = same_kind t.kind word
is_word word None = false

-- the token is a name of arrays
abbrev pub array_word : List ℕ → Token → Bool
array_word x t =
    bytes_eq (slice_range x t.range.start t.range.end) (codes "Array")
    || bytes_eq (slice_range x t.range.start t.range.end) (codes "ReadonlyArray")

-- a type with these brackets after it is that of an array or not, by whether it was one before
abbrev pub Indexes : List Token → Bool → Bool → Value → Type 0
Indexes ts before after row =
    (start at : ℕ) (ty : TsType) → is_array_type ty ≡ before → ArrayType after (indexes ts start at ty row)

-- an expression with this turn after it is an array literal or not, by whether it was one before
abbrev pub Turned : List Token → Bool → Bool → Value → Type 0
Turned ts before after g =
    (r : Range) (from : ℕ) (e : Expr) → is_array_literal e ≡ before → Literal after (turned_by ts r e from g (part g 1))

-- the same with this type, or `const`, before it
abbrev pub Asserted : Bool → Bool → Value → Type 0
Asserted before after v =
    (r : Range) (e : Expr) → is_array_literal e ≡ before → Literal after (asserted_by r e k.AsWord v)

-- the same of all turns of a chain
abbrev pub Leaned : List ℕ → List Token → Bool → Bool → List Held → Type 0
Leaned x ts before after ps =
    (from : ℕ) (v : Value) → Literal before (expr_in v) → Literal after (expr_in (leaned x ts vLean.TypedBinary from v ps))
