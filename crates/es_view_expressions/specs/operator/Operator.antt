-- What a view of an operator tells.
use Rattle.std.specs.Prelude.{ℕ, true, false, List, [], ◌∷◌, Option, Some, None, option_map, slice_get}
use Rattle.base.specs.declared.range.Range.{Range}
use Rattle.es_token.specs.declared.token.Token.{Token}
use Rattle.es_token.specs.declared.token.TokenKind.TheVariants as k
use Rattle.es_grammar.specs.declared.rows.NodeKind.{NodeKind}
use Rattle.es_grammar.specs.declared.rows.NodeKind.TheVariants as l
use Rattle.es_ast.specs.declared.leaf.AssignOp.TheVariants as vAssign
use Rattle.es_ast.specs.declared.leaf.BinaryOp.TheVariants as vBinary
use Rattle.es_ast.specs.declared.ast.Expr.{Expr}
use Rattle.es_ast.specs.declared.ast.Expr.TheVariants as vExpr
use Rattle.es_ast.specs.declared.ast.Pat.{Pat}
use Rattle.es_ast.specs.declared.ast.Pat.TheVariants as vPat
use Rattle.es_lowering.specs.Value.{Value, given, first_of, behind, part, turns, expr_at}
use Rattle.es_lowering.specs.Texts.{private_of}
use Rattle.es_lowering.specs.Operators.{listed, unary_ops, update_ops, binary_between, assign_between}
use Rattle.es_lowering.specs.Expressions.{yield_of}
use Rattle.es_lowering.specs.TypedExpressions.{asserted_by, turned_by}
use Rattle.es_syntax.specs.declared.cursor.Siblings.{Siblings}
use Rattle.es_syntax.specs.Held.{held, valued}
use Rattle.es_syntax.specs.Roles.{expr_in, pat_in}
use Rattle.es_syntax.specs.Views.{Under, Within}
use Rattle.es_view_expressions.specs.declared.operator.operator.Operator.{Operator}
use Rattle.es_view_expressions.specs.declared.operator.operator.Operator.TheVariants as view

-- the alternatives
abbrev pub operators : List NodeKind
operators =
    l.UpdatePrefix ∷ l.UpdatePostfix ∷ l.UnaryExpression ∷ l.AwaitExpression ∷ l.Binary ∷ l.PrivateIn ∷ l.Conditional
    ∷ l.Assignment ∷ l.PatternAssignment ∷ l.Yield ∷ l.TypedBinary ∷ l.TypeAssertion ∷ l.Sequence
    ∷ []

-- ---- each form, of what its parts are
unfoldable pub updated_prefix : Range → Option Token → Option Expr → Option Expr
updated_prefix r sign arg =
    given (given (option_map (λ t. t.kind) sign) (listed update_ops)) (λ op.
    given arg (λ arg. Some (vExpr.Update op true arg r)))

unfoldable pub updated_postfix : Range → Option Expr → Option Token → Option Expr
updated_postfix r arg sign =
    given arg (λ arg.
    given (given (option_map (λ t. t.kind) sign) (listed update_ops)) (λ op. Some (vExpr.Update op false arg r)))

unfoldable pub unary : Range → Option Token → Option Expr → Option Expr
unary r sign arg =
    given (given (option_map (λ t. t.kind) sign) (listed unary_ops)) (λ op.
    given arg (λ arg. Some (vExpr.Unary op arg r)))

unfoldable pub awaited : Range → Option Expr → Option Expr
awaited r arg = option_map (λ arg. vExpr.Await arg r) arg

-- the operator stands between these two tokens
unfoldable pub joined : List Token → Range → ℕ → ℕ → Option Expr → Option Expr → Option Expr
joined ts r from to left right =
    given left (λ left. given (binary_between ts from to) (λ op. given right (λ right.
    Some (vExpr.Bin op left right r))))

unfoldable pub private_in : List ℕ → Range → Option Token → Option Expr → Option Expr
private_in x r name right =
    given (given name (private_of x)) (λ name.
    given right (λ right. Some (vExpr.Bin vBinary.In (vExpr.PrivateName name) right r)))

unfoldable pub conditional : Range → Option Expr → Option Expr → Option Expr → Option Expr
conditional r test cons alt =
    given test (λ test.
    given cons (λ yes.
    given alt (λ no. Some (vExpr.Cond test yes no r))))

-- the operator stands between these two tokens
unfoldable pub assigned : List Token → Range → ℕ → ℕ → Option Expr → Option Expr → Option Expr
assigned ts r from to left right =
    given left (λ left. given (assign_between ts from to) (λ op. given right (λ right.
    Some (vExpr.Assign op (vPat.Expr left) right r))))

unfoldable pub pattern_assigned : Range → Option Pat → Option Expr → Option Expr
pattern_assigned r left right =
    given left (λ left.
    given right (λ right. Some (vExpr.Assign vAssign.Assign left right r)))

unfoldable pub yielded : Range → Value → Option Expr
yielded r arg = yield_of r arg

-- behind the left operand, which ends before this token
unfoldable pub turned : List Token → Range → ℕ → Option Expr → Value → Option Expr
turned ts r from left turn = given left (λ left. turned_by ts r left from turn (part turn 1))

-- behind a type, or `const`
unfoldable pub asserted : Range → Value → Option Expr → Option Expr
asserted r type_ arg = given arg (λ arg. asserted_by r arg k.AsWord (part type_ 0))

unfoldable pub sequence : Range → Option Expr → Option Expr → Value → Option Expr
sequence r first second others =
    given first (λ first.
    given second (λ second.
    given (turns (λ turn. expr_at turn 0) others) (λ others. Some (vExpr.Seq (first ∷ second ∷ others) r))))

-- what a view tells
abbrev pub the_operator : List ℕ → List Token → Range → Operator → Option Expr
the_operator x ts r (view.Prefix sign arg) = updated_prefix r (slice_get ts sign) (expr_in (valued x ts arg))
the_operator x ts r (view.Postfix arg sign) = updated_postfix r (expr_in (valued x ts arg)) (slice_get ts sign)
the_operator x ts r (view.Unary sign arg) = unary r (slice_get ts sign) (expr_in (valued x ts arg))
the_operator x ts r (view.Await arg) = awaited r (expr_in (valued x ts arg))
the_operator x ts r (view.Binary left right) =
    joined ts r (behind (valued x ts left)) (first_of (valued x ts right)) (expr_in (valued x ts left))
    (expr_in (valued x ts right))
the_operator x ts r (view.PrivateIn name right) = private_in x r (slice_get ts name) (expr_in (valued x ts right))
the_operator x ts r (view.Conditional test cons alt) =
    conditional r (expr_in (valued x ts test)) (expr_in (valued x ts cons)) (expr_in (valued x ts alt))
the_operator x ts r (view.Assignment left right) =
    assigned ts r (behind (valued x ts left)) (first_of (valued x ts right)) (expr_in (valued x ts left))
    (expr_in (valued x ts right))
the_operator x ts r (view.PatternAssignment left right) =
    pattern_assigned r (pat_in (valued x ts left)) (expr_in (valued x ts right))
the_operator x ts r (view.Yield arg) = yielded r (held x ts arg.entries.now)
the_operator x ts r (view.TypedBinary left turn) =
    turned ts r (behind (valued x ts left)) (expr_in (valued x ts left)) (held x ts turn.entries.now)
the_operator x ts r (view.TypeAssertion type_ arg) =
    asserted r (held x ts type_.entries.now) (expr_in (valued x ts arg))
the_operator x ts r (view.Sequence first second others) =
    sequence r (expr_in (valued x ts first)) (expr_in (valued x ts second)) (held x ts others.entries.now)
the_operator x ts r view.Broken = None

-- the parts take fewer entries
abbrev pub IsBelow : Siblings → Operator → Type 0
IsBelow n (view.Prefix sign arg) = Under arg n
IsBelow n (view.Postfix arg sign) = Under arg n
IsBelow n (view.Unary sign arg) = Under arg n
IsBelow n (view.Await arg) = Under arg n
IsBelow n (view.Binary left right) = Under left n × Under right n
IsBelow n (view.PrivateIn name right) = Under right n
IsBelow n (view.Conditional test cons alt) = Under test n × Under cons n × Under alt n
IsBelow n (view.Assignment left right) = Under left n × Under right n
IsBelow n (view.PatternAssignment left right) = Under left n × Under right n
IsBelow n (view.Yield arg) = Within arg n
IsBelow n (view.TypedBinary left turn) = Under left n × Within turn n
IsBelow n (view.TypeAssertion type_ arg) = Within type_ n × Under arg n
IsBelow n (view.Sequence first second others) = Under first n × Under second n × Within others n
IsBelow n view.Broken = Unit {0}
