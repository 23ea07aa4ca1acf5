-- What expressions of TypeScript become (the handbook of TypeScript, "Everyday Types", "More on Functions").
use Rattle.std.specs.Prelude.{ℕ, Bool, true, false, List, [], Option, Some, None, option_map, if◌then◌else◌}
use Rattle.base.specs.declared.range.Range.{Range}
use Rattle.es_token.specs.declared.token.Token.{Token}
use Rattle.es_token.specs.declared.token.TokenKind.{TokenKind}
use Rattle.es_token.specs.declared.token.TokenKind.TheVariants as k
use Rattle.grammar_theory.specs.Key.{same_kind}
use Rattle.es_ast.specs.declared.ts.ts.TsPart.{TsPart}
use Rattle.es_ast.specs.declared.ts.ts.TsPart.TheVariants as vPart
use Rattle.es_ast.specs.declared.ast.Expr.{Expr}
use Rattle.es_ast.specs.declared.ast.Expr.TheVariants as vExpr
use Rattle.es_lowering.specs.Value.{Value, more, token, node, given, part, as_group, group, first_of, behind, optional, expr_at, args_at}
use Rattle.es_lowering.specs.Texts.{kind_at, token_of, property_of}
use Rattle.es_lowering.specs.Operators.{binary_between}
use Rattle.es_lowering.specs.Expressions.{Post, from_byte, member_of, index_of}
use Rattle.es_lowering.specs.TypedParts.{args_part_at}

-- ---- calls
abbrev pub typed_call_of : Bool → Range → Option TsPart → List Expr → ℕ → Expr → Expr
typed_call_of is_optional r type_args args start obj = vExpr.Call obj is_optional type_args args (from_byte start r)

-- TArgs? Args, which stand from the first part on
abbrev pub typed_call : Bool → Range → Value → Option Post
typed_call is_optional r p =
    given (args_part_at p 0) (λ type_args.
    given (args_at p 1) (λ args. Some (typed_call_of is_optional r type_args args)))

unfoldable pub typed_call_post : Range → Value → Option Post
typed_call_post r p = typed_call false r p

abbrev pub typed_tagged_of : Range → Option TsPart → Expr → ℕ → Expr → Expr
typed_tagged_of r type_args tpl start obj = vExpr.TaggedTpl obj type_args tpl (from_byte start r)

-- TArgs? Tpl
unfoldable pub typed_template_post : Range → Value → Option Post
typed_template_post r p =
    given (args_part_at p 0) (λ type_args. option_map (typed_tagged_of r type_args) (expr_at p 1))

abbrev pub non_null_of : Range → ℕ → Expr → Expr
non_null_of r start obj = vExpr.TsNonNull obj (from_byte start r)

unfoldable pub non_null_post : Range → Option Post
non_null_post r = Some (non_null_of r)

-- behind `?.`: a name, or TArgs? Args
abbrev pub typed_optional_inner : List ℕ → List Token → Range → Value → Option Post
typed_optional_inner x ts r (more (token n) vs) =
    option_map (member_of true r) (given (token_of ts (token n)) (property_of x))
typed_optional_inner x ts r g = typed_call true r g

-- or an index
abbrev pub typed_optional_of : List ℕ → List Token → Range → Value → Option Post
typed_optional_of x ts r (node from to m) = option_map (index_of true r) m.expr
typed_optional_of x ts r v = typed_optional_inner x ts r (as_group v)

unfoldable pub typed_optional_post : List ℕ → List Token → Range → Value → Option Post
typed_optional_post x ts r p = typed_optional_of x ts r (part (group p 0) 0)

-- `new a<b>`, and `new a<b>(c)`
abbrev pub typed_new_of : Range → Expr → Option TsPart → Option (List Expr) → Expr
typed_new_of r callee type_args (Some args) = vExpr.New callee type_args true args r
typed_new_of r callee type_args None = vExpr.New callee type_args false [] r

unfoldable pub typed_new : Range → Value → Option Expr
typed_new r p =
    given (expr_at p 0) (λ callee.
    given (args_part_at p 1) (λ type_args.
    given (optional args_at (group p 2)) (λ args. Some (typed_new_of r callee type_args args))))

-- ---- the level of `<`, with `as` and `satisfies`: a turn is a group
-- what stands behind the word: `const`, or a type
abbrev pub asserted_by : Range → Expr → TokenKind → Value → Option Expr
asserted_by r e kind (token n) = Some (vExpr.TsConstAssertion e r)
asserted_by r e kind (node from to m) =
    option_map (λ ty. if same_kind kind k.AsWord then vExpr.TsAs e (Some (vPart.TypeAnn ty)) r
    else vExpr.TsSatisfies e (Some (vPart.TypeAnn ty)) r) m.ts_type
asserted_by r e kind _ = None

-- `<a>b` and `<const>b`, as `b as a` and `b as const`
unfoldable pub type_assertion : Range → Value → Option Expr
type_assertion r p = given (expr_at p 1) (λ e. asserted_by r e k.AsWord (part (group p 0) 0))

-- what stands behind the operator: an operand, or such a group
abbrev pub turned_by : List Token → Range → Expr → ℕ → Value → Value → Option Expr
turned_by ts r e from g (more v vs) = given (kind_at ts g 0) (λ kind. asserted_by r e kind v)
turned_by ts r e from g v =
    given (binary_between ts from (first_of v)) (λ op.
    given (expr_at g 1) (λ right. Some (vExpr.Bin op e right r)))

unfoldable pub typed_binary : List Token → Range → Value → Option Expr
typed_binary ts r p =
    given (expr_at p 0) (λ left. turned_by ts r left (behind (part p 0)) (group p 1) (part (group p 1) 1))
