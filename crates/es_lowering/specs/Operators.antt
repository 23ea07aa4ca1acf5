-- The operators that tokens are.
use Rattle.std.specs.Prelude.{ℕ, ◌-◌, ◌==◌, Bool, false, Option, Some, None, option_map, if◌then◌else◌, slice_get, List, [], ◌∷◌}
use Rattle.es_token.specs.declared.token.Token.{Token}
use Rattle.es_token.specs.declared.token.TokenKind.{TokenKind}
use Rattle.es_token.specs.declared.token.TokenKind.TheVariants as k
use Rattle.grammar_theory.specs.Key.{same_kind}
use Rattle.es_ast.specs.declared.leaf.UnaryOp.{UnaryOp}
use Rattle.es_ast.specs.declared.leaf.UnaryOp.TheVariants as unary
use Rattle.es_ast.specs.declared.leaf.UpdateOp.{UpdateOp}
use Rattle.es_ast.specs.declared.leaf.UpdateOp.TheVariants as update
use Rattle.es_ast.specs.declared.leaf.BinaryOp.{BinaryOp}
use Rattle.es_ast.specs.declared.leaf.BinaryOp.TheVariants as binary
use Rattle.es_ast.specs.declared.leaf.AssignOp.{AssignOp}
use Rattle.es_ast.specs.declared.leaf.AssignOp.TheVariants as assign
use Rattle.es_ast.specs.declared.leaf.VarDeclKind.{VarDeclKind}
use Rattle.es_ast.specs.declared.leaf.VarDeclKind.TheVariants as variable
use Rattle.es_ast.specs.declared.ts.leaf.MethodKind.{MethodKind}
use Rattle.es_ast.specs.declared.ts.leaf.MethodKind.TheVariants as method
use Rattle.es_lowering.specs.Value.{given}

-- what the first row of a table says that has this kind
abbrev pub listed : {A : Type 0} → List (TokenKind × A) → TokenKind → Option A
listed [] kind = None
listed (row ∷ rows) kind = if same_kind kind row.0 then Some row.1 else listed rows kind

unfoldable pub unary_ops : List (TokenKind × UnaryOp)
unary_ops =
    (k.Minus, unary.Minus) ∷
    (k.Plus, unary.Plus) ∷
    (k.Exclamation, unary.Bang) ∷
    (k.Tilde, unary.Tilde) ∷
    (k.TypeofWord, unary.TypeOf) ∷
    (k.VoidWord, unary.Void) ∷
    (k.DeleteWord, unary.Delete) ∷
    []

unfoldable pub update_ops : List (TokenKind × UpdateOp)
update_ops = (k.PlusPlus, update.PlusPlus) ∷ (k.MinusMinus, update.MinusMinus) ∷ []

-- binary operators of one token
unfoldable pub arithmetic_ops : List (TokenKind × BinaryOp)
arithmetic_ops =
    (k.Plus, binary.Add) ∷
    (k.Minus, binary.Sub) ∷
    (k.Star, binary.Mul) ∷
    (k.Slash, binary.Div) ∷
    (k.Percent, binary.Mod) ∷
    (k.StarStar, binary.Exp) ∷
    (k.LessLess, binary.LShift) ∷
    (k.Ampersand, binary.BitAnd) ∷
    (k.Bar, binary.BitOr) ∷
    (k.Caret, binary.BitXor) ∷
    []

unfoldable pub logical_ops : List (TokenKind × BinaryOp)
logical_ops =
    (k.EqualEqual, binary.EqEq) ∷
    (k.NotEqual, binary.NotEq) ∷
    (k.EqualEqualEqual, binary.EqEqEq) ∷
    (k.NotEqualEqual, binary.NotEqEq) ∷
    (k.Less, binary.Lt) ∷
    (k.LessEqual, binary.LtEq) ∷
    (k.InstanceofWord, binary.InstanceOf) ∷
    (k.InWord, binary.In) ∷
    (k.AmpersandAmpersand, binary.LogicalAnd) ∷
    (k.BarBar, binary.LogicalOr) ∷
    (k.QuestionQuestion, binary.NullishCoalescing) ∷
    []

-- assignment operators of one token
unfoldable pub assign_ops : List (TokenKind × AssignOp)
assign_ops =
    (k.Equal, assign.Assign) ∷
    (k.PlusEqual, assign.AddAssign) ∷
    (k.MinusEqual, assign.SubAssign) ∷
    (k.StarEqual, assign.MulAssign) ∷
    (k.SlashEqual, assign.DivAssign) ∷
    (k.PercentEqual, assign.ModAssign) ∷
    (k.LessLessEqual, assign.LShiftAssign) ∷
    (k.BarEqual, assign.BitOrAssign) ∷
    (k.CaretEqual, assign.BitXorAssign) ∷
    (k.AmpersandEqual, assign.BitAndAssign) ∷
    (k.StarStarEqual, assign.ExpAssign) ∷
    (k.AmpersandAmpersandEqual, assign.AndAssign) ∷
    (k.BarBarEqual, assign.OrAssign) ∷
    (k.QuestionQuestionEqual, assign.NullishAssign) ∷
    []

unfoldable pub variable_kinds : List (TokenKind × VarDeclKind)
variable_kinds = (k.VarWord, variable.Var) ∷ (k.LetWord, variable.Let) ∷ (k.ConstWord, variable.Const) ∷ []

unfoldable pub accessor_kinds : List (TokenKind × MethodKind)
accessor_kinds = (k.GetWord, method.Getter) ∷ (k.SetWord, method.Setter) ∷ []

-- ---- operators of several tokens: runs of `>`, which is always a token of its own
abbrev pub is_kind : TokenKind → Option Token → Bool
is_kind kind (Some t) = same_kind t.kind kind
is_kind kind None = false

-- the token at a place is of this kind
abbrev pub is_kind_at : List Token → TokenKind → ℕ → Bool
is_kind_at ts kind n = is_kind kind (slice_get ts n)

-- `>`, `>>`, `>>>` and `>=`, by how many tokens they are, and whether the last one is `=`
unfoldable pub greater_op : ℕ → Bool → Option BinaryOp
greater_op count equal =
    if equal then Some binary.GtEq
    else (if count == 1 then Some binary.Gt
    else (if count == 2 then Some binary.RShift
    else (if count == 3 then Some binary.ZeroFillRShift
    else None)))

-- `>>=` and `>>>=`, by how many tokens they are
unfoldable pub greater_assign : ℕ → Option AssignOp
greater_assign count =
    if count == 3 then Some assign.RShiftAssign else (if count == 4 then Some assign.ZeroFillRShiftAssign else None)

abbrev pub or_else : {A : Type 0} → Option A → Option A → Option A
or_else (Some a) other = Some a
or_else None other = other

unfoldable pub binary_of : List Token → TokenKind → ℕ → ℕ → Option BinaryOp
binary_of ts kind from to =
    if same_kind kind k.Greater then greater_op (to - from) (is_kind_at ts k.Equal (to - 1))
    else or_else (listed arithmetic_ops kind) (listed logical_ops kind)

unfoldable pub assign_of : TokenKind → ℕ → ℕ → Option AssignOp
assign_of kind from to =
    if same_kind kind k.Greater then greater_assign (to - from) else listed assign_ops kind

-- the operator that stands between two places
abbrev pub kind_there : List Token → ℕ → Option TokenKind
kind_there ts n = option_map (λ t. t.kind) (slice_get ts n)

abbrev pub binary_between : List Token → ℕ → ℕ → Option BinaryOp
binary_between ts from to = given (kind_there ts from) (λ kind. binary_of ts kind from to)

abbrev pub assign_between : List Token → ℕ → ℕ → Option AssignOp
assign_between ts from to = given (kind_there ts from) (λ kind. assign_of kind from to)
