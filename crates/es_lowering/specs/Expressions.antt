-- What expressions become (ECMA-262, "Expressions").
use Rattle.std.specs.Prelude.{ℕ, ◌+◌, Bool, true, false, List, [], ◌∷◌, ◌++◌, Option, Some, None, option_map, fold, if◌then◌else◌}
use Rattle.base.specs.declared.range.Range.{Range}
use Rattle.es_token.specs.declared.token.Token.{Token}
use Rattle.es_token.specs.declared.token.TokenKind.{TokenKind}
use Rattle.es_token.specs.declared.token.TokenKind.TheVariants as k
use Rattle.grammar_theory.specs.Key.{same_kind}
use Rattle.es_ast.specs.declared.ts.leaf.Ident.{Ident}
use Rattle.es_ast.specs.declared.leaf.Lit.TheVariants as vLit
use Rattle.es_ast.specs.declared.leaf.ImportPhase.{ImportPhase}
use Rattle.es_ast.specs.declared.leaf.AssignOp.TheVariants as vAssign
use Rattle.es_ast.specs.declared.leaf.BinaryOp.TheVariants as vBinary
use Rattle.es_ast.specs.declared.ast.Expr.{Expr}
use Rattle.es_ast.specs.declared.ast.Expr.TheVariants as vExpr
use Rattle.es_ast.specs.declared.ast.Pat.TheVariants as vPat
use Rattle.es_lowering.specs.Value.{Value, more, token, node, given, part, as_group, group, typed, first_of, behind, optional, option_list, is_there, turns, expr_at, pat_at, prop_at, post_at, args_at}
use Rattle.es_lowering.specs.Texts.{span_of, regex_of, token_of, token_at, kind_at, ident_at, private_at, str_at, numeric_at, piece_there, property_of, property_at}
use Rattle.es_lowering.specs.Operators.{listed, unary_ops, update_ops, binary_between, assign_between}

-- ---- names and literals
unfoldable pub name : List ℕ → List Token → Value → Option Expr
name x ts p = option_map vExpr.Ident (ident_at x ts p 0)

-- `this`, `null`, `true`, `false`
unfoldable pub word_of : Range → TokenKind → Option Expr
word_of r kind =
    if same_kind kind k.ThisWord then Some (vExpr.This r)
    else (if same_kind kind k.NullWord then Some (vExpr.Lit (vLit.Null r))
    else (if same_kind kind k.TrueWord then Some (vExpr.Lit (vLit.Bool true r))
    else (if same_kind kind k.FalseWord then Some (vExpr.Lit (vLit.Bool false r))
    else None)))

unfoldable pub word : List Token → Range → Value → Option Expr
word ts r p = given (kind_at ts p 0) (word_of r)

unfoldable pub number : List ℕ → List Token → Value → Option Expr
number x ts p = option_map vExpr.Lit (numeric_at x ts p 0)

unfoldable pub str : List ℕ → List Token → Value → Option Expr
str x ts p = option_map (λ s. vExpr.Lit (vLit.Str s)) (str_at x ts p 0)

unfoldable pub regexp : List ℕ → List Token → Value → Option Expr
regexp x ts p = option_map (λ t. vExpr.Lit (vLit.Regex (regex_of x t))) (token_at ts p 0)

-- ---- templates
unfoldable pub template : List ℕ → List Token → Range → Value → Option Expr
template x ts r p = option_map (λ piece. vExpr.Tpl (piece ∷ []) [] r) (piece_there x ts p 0)

unfoldable pub template_parts : List ℕ → List Token → Range → Value → Option Expr
template_parts x ts r p =
    given (piece_there x ts p 0) (λ head.
    given (expr_at p 1) (λ first.
    given (turns (λ turn. piece_there x ts turn 0) (group p 2)) (λ middles.
    given (turns (λ turn. expr_at turn 1) (group p 2)) (λ others.
    given (piece_there x ts p 3) (λ tail.
    Some (vExpr.Tpl (head ∷ (middles ++ tail ∷ [])) (first ∷ others) r))))))

-- ---- arrays, objects, parentheses
-- an element of an array that stands at this token: a group without parts is none
abbrev pub element_of : {A : Type 0} → (Range → A) → (Value → ℕ → Option A) → List Token → ℕ → Value → Option A
element_of hole one ts at (more v vs) = one (more v vs) 0
element_of hole one ts at _ = Some (hole (span_of ts at at))

-- where the element behind it stands, behind its comma
abbrev pub behind_element : ℕ → Value → ℕ
behind_element at (more v vs) = behind v + 1
behind_element at v = at + 1

-- the elements of an array, the first of which stands at this token
abbrev pub elements : {A : Type 0} → (Range → A) → (Value → ℕ → Option A) → List Token → ℕ → Value → Option (List A)
elements hole one ts at (more turn vs) =
    given (element_of hole one ts at (group (as_group turn) 0)) (λ a.
    given (elements hole one ts (behind_element at (group (as_group turn) 0)) vs) (λ rest. Some (a ∷ rest)))
elements hole one ts at _ = Some []

unfoldable pub array_literal : List Token → ℕ → Range → Value → Option Expr
array_literal ts from r p =
    option_map (λ elems. vExpr.Array elems r) (elements vExpr.Hole expr_at ts (from + 1) (group p 0))

unfoldable pub object_literal : Range → Value → Option Expr
object_literal r p = option_map (λ props. vExpr.Object props r) (turns (λ turn. prop_at turn 0) (group p 0))

unfoldable pub parenthesized : Range → Value → Option Expr
parenthesized r p = option_map (λ e. vExpr.Paren e r) (expr_at p 0)

unfoldable pub spread : Range → Value → Option Expr
spread r p = option_map (λ e. vExpr.Spread e r) (expr_at p 0)

-- ---- chains
-- an argument: '...'? Assign
abbrev pub argument_of : Bool → Range → Expr → Expr
argument_of true r e = vExpr.Spread e r
argument_of false r e = e

abbrev pub argument : List Token → Value → Option Expr
argument ts turn =
    option_map (argument_of (is_there (group turn 0)) (span_of ts (first_of (part (group turn 0) 0)) (behind (part turn 1))))
    (expr_at turn 1)

unfoldable pub arguments : List Token → Value → Option (List Expr)
arguments ts p = turns (argument ts) (group p 0)

-- from this byte to the end of a range
abbrev pub from_byte : ℕ → Range → Range
from_byte start r = record { start = start; end = r.end }

abbrev pub member_of : Bool → Range → Bool × Ident → ℕ → Expr → Expr
member_of is_optional r m start obj = vExpr.Member obj is_optional m.0 m.1 (from_byte start r)

abbrev pub index_of : Bool → Range → Expr → ℕ → Expr → Expr
index_of is_optional r e start obj = vExpr.Index obj is_optional e (from_byte start r)

abbrev pub call_of : Bool → Range → List Expr → ℕ → Expr → Expr
call_of is_optional r args start obj = vExpr.Call obj is_optional None args (from_byte start r)

abbrev pub tagged_of : Range → Expr → ℕ → Expr → Expr
tagged_of r tpl start obj = vExpr.TaggedTpl obj None tpl (from_byte start r)

abbrev pub Post : Type 0
Post = ℕ → Expr → Expr

unfoldable pub member_post : List ℕ → List Token → Range → Value → Option Post
member_post x ts r p = option_map (member_of false r) (property_at x ts p 0)

unfoldable pub index_post : Range → Value → Option Post
index_post r p = option_map (index_of false r) (expr_at p 0)

unfoldable pub call_post : Range → Value → Option Post
call_post r p = option_map (call_of false r) (args_at p 0)

unfoldable pub template_post : Range → Value → Option Post
template_post r p = option_map (tagged_of r) (expr_at p 0)

-- `?.a` and `?.(a)` are groups of their own
abbrev pub optional_inner : List ℕ → List Token → Range → Value → Option Post
optional_inner x ts r (token n) = option_map (member_of true r) (given (token_of ts (token n)) (property_of x))
optional_inner x ts r v = option_map (call_of true r) (given (typed v) (λ m. m.args))

abbrev pub optional_of : List ℕ → List Token → Range → Value → Option Post
optional_of x ts r (node from to m) = option_map (index_of true r) m.expr
optional_of x ts r v = optional_inner x ts r (part (as_group v) 0)

unfoldable pub optional_post : List ℕ → List Token → Range → Value → Option Post
optional_post x ts r p = optional_of x ts r (part (group p 0) 0)

-- each further part makes an expression of what stands before it
abbrev pub chained : ℕ → Expr → List Post → Expr
chained start obj posts = fold (λ before post. post start before) obj posts

unfoldable pub chain : Range → Value → Option Expr
chain r p =
    given (expr_at p 0) (λ base.
    given (post_at p 1) (λ first.
    given (turns (λ turn. post_at turn 0) (group p 2)) (λ others.
    Some (chained r.start base (first ∷ others)))))

unfoldable pub import_call : ImportPhase → Range → Value → Option Expr
import_call phase r p =
    given (expr_at p 0) (λ first.
    given (optional expr_at (group p 1)) (λ second.
    Some (vExpr.ImportCall phase (first ∷ option_list second) r)))

-- `new a`, and `new a(b)`
abbrev pub new_of : Range → Expr → Option (List Expr) → Expr
new_of r callee (Some args) = vExpr.New callee None true args r
new_of r callee None = vExpr.New callee None false [] r

unfoldable pub new_ : Range → Value → Option Expr
new_ r p =
    given (expr_at p 0) (λ callee. given (optional args_at (group p 1)) (λ args. Some (new_of r callee args)))

-- ---- operators
unfoldable pub prefix : List Token → Range → Value → Option Expr
prefix ts r p =
    given (given (kind_at ts p 0) (listed unary_ops)) (λ op. given (expr_at p 1) (λ arg. Some (vExpr.Unary op arg r)))

unfoldable pub await_ : Range → Value → Option Expr
await_ r p = option_map (λ arg. vExpr.Await arg r) (expr_at p 0)

unfoldable pub update_prefix : List Token → Range → Value → Option Expr
update_prefix ts r p =
    given (given (kind_at ts p 0) (listed update_ops)) (λ op. given (expr_at p 1) (λ arg. Some (vExpr.Update op true arg r)))

unfoldable pub update_postfix : List Token → Range → Value → Option Expr
update_postfix ts r p =
    given (expr_at p 0) (λ arg. given (given (kind_at ts p 1) (listed update_ops)) (λ op. Some (vExpr.Update op false arg r)))

-- the operator is what stands between the operands
unfoldable pub binary : List Token → Range → Value → Option Expr
binary ts r p =
    given (expr_at p 0) (λ left.
    given (binary_between ts (behind (part p 0)) (first_of (part p 2))) (λ op.
    given (expr_at p 2) (λ right. Some (vExpr.Bin op left right r))))

unfoldable pub private_in : List ℕ → List Token → Range → Value → Option Expr
private_in x ts r p =
    given (private_at x ts p 0) (λ name.
    given (expr_at p 1) (λ right. Some (vExpr.Bin vBinary.In (vExpr.PrivateName name) right r)))

unfoldable pub conditional : Range → Value → Option Expr
conditional r p =
    given (expr_at p 0) (λ test.
    given (expr_at p 1) (λ yes.
    given (expr_at p 2) (λ no. Some (vExpr.Cond test yes no r))))

-- ---- assignments
unfoldable pub assignment : List Token → Range → Value → Option Expr
assignment ts r p =
    given (expr_at p 0) (λ left.
    given (assign_between ts (behind (part p 0)) (first_of (part p 2))) (λ op.
    given (expr_at p 2) (λ right. Some (vExpr.Assign op (vPat.Expr left) right r))))

unfoldable pub pattern_assignment : Range → Value → Option Expr
pattern_assignment r p =
    given (pat_at p 0) (λ left. given (expr_at p 1) (λ right. Some (vExpr.Assign vAssign.Assign left right r)))

-- an operand behind `yield`: '*'? Assign
abbrev pub yield_of : Range → Value → Option Expr
yield_of r (more v vs) =
    option_map (λ arg. vExpr.Yield (is_there (group (more v vs) 0)) (Some arg) r) (expr_at (more v vs) 1)
yield_of r _ = Some (vExpr.Yield false None r)

unfoldable pub yield_ : Range → Value → Option Expr
yield_ r p = yield_of r (group p 0)

unfoldable pub sequence : Range → Value → Option Expr
sequence r p =
    given (expr_at p 0) (λ first.
    given (expr_at p 1) (λ second.
    given (turns (λ turn. expr_at turn 0) (group p 2)) (λ others.
    Some (vExpr.Seq (first ∷ second ∷ others) r))))
