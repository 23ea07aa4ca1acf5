-- What a view of a loop, a `switch` or a `try` tells.
use Rattle.std.specs.Prelude.{◌+◌, ℕ, true, List, [], ◌∷◌, Option, Some, None, option_map, slice_get}
use Rattle.base.specs.declared.range.Range.{Range}
use Rattle.es_token.specs.declared.token.Token.{Token}
use Rattle.es_grammar.specs.declared.rows.NodeKind.{NodeKind}
use Rattle.es_grammar.specs.declared.rows.NodeKind.TheVariants as l
use Rattle.es_ast.specs.declared.ast.Stmt.{Stmt as AStmt}
use Rattle.es_ast.specs.declared.ast.Stmt.TheVariants as vStmt
use Rattle.es_ast.specs.declared.ast.Expr.{Expr}
use Rattle.es_token.specs.declared.token.TokenKind.TheVariants as k
use Rattle.grammar_theory.specs.Key.{same_kind}
use Rattle.es_lowering.specs.Value.{Value, given, optional, behind, expr_at, stmt_at}
use Rattle.es_lowering.specs.Operators.{or_else}
use Rattle.es_lowering.specs.Statements.{Head, expression_at, each_of, clauses, handled}
use Rattle.es_lowering.specs.TypedStatements.{typed_handled}
use Rattle.es_syntax.specs.declared.cursor.Siblings.{Siblings}
use Rattle.es_syntax.specs.Held.{held, valued}
use Rattle.es_syntax.specs.Roles.{expr_in, head_in, stmt_in}
use Rattle.es_syntax.specs.Views.{Under, Within}
use Rattle.es_view_statements.specs.declared.stmt.compound.Compound.{Compound}
use Rattle.es_view_statements.specs.declared.stmt.compound.Compound.TheVariants as view

-- the alternatives
abbrev pub compounds : List NodeKind
compounds =
    l.ForStatement ∷ l.ForEachStatement ∷ l.ForAwaitStatement ∷ l.WhileStatement ∷ l.DoStatement ∷ l.SwitchStatement
    ∷ l.TryStatement ∷ l.TypedTryStatement ∷ []

-- ---- each form, of what its parts are
unfoldable pub for_of : List Token → Range → Value → Value → Value → Value → Value → Option AStmt → Option AStmt
for_of ts r variables using expression test update body =
    given (given (optional stmt_at variables) (λ variables.
    given (optional stmt_at using) (λ using.
    given (optional (expression_at ts) expression) (λ expression.
    Some (or_else variables (or_else using expression)))))) (λ init.
    given (optional expr_at test) (λ test.
    given (optional expr_at update) (λ update.
    given body (λ body. Some (vStmt.For init test update body r)))))

unfoldable pub for_each_of : Range → Option Head → Option Token → Option Expr → Option AStmt → Option AStmt
for_each_of r head word right body =
    given head (λ head.
    given (option_map (λ t. t.kind) word) (λ kind.
    given right (λ right.
    given body (λ body. Some (each_of (same_kind kind k.InWord) r head right body)))))

unfoldable pub for_await_of : Range → Option Head → Option Expr → Option AStmt → Option AStmt
for_await_of r head right body =
    given head (λ head.
    given right (λ right.
    given body (λ body. Some (vStmt.ForOf true head.0 head.1 right body r))))

unfoldable pub while_of : Range → Option Expr → Option AStmt → Option AStmt
while_of r test body = given test (λ test. given body (λ body. Some (vStmt.While test body r)))

unfoldable pub do_of : Range → Option AStmt → Option Expr → Option AStmt
do_of r body test = given body (λ body. given test (λ test. Some (vStmt.DoWhile body test r)))

-- the first clause begins two tokens behind the expression
unfoldable pub switch_of : List Token → Range → ℕ → Option Expr → Value → Option AStmt
switch_of ts r after discriminant cases =
    given discriminant (λ discriminant.
    given (clauses ts (after + 2) cases) (λ cases. Some (vStmt.Switch discriminant cases r)))

unfoldable pub try_of : Range → Option AStmt → Value → Option AStmt
try_of r block handlers = given block (λ block. handled r block handlers)

unfoldable pub typed_try_of : List Token → Range → Option AStmt → Value → Option AStmt
typed_try_of ts r block handlers = given block (λ block. typed_handled ts r block handlers)

-- what a view tells
abbrev pub the_compound : List ℕ → List Token → Range → Compound → Option AStmt
the_compound x ts r (view.For variables using expression test update body) =
    for_of ts r (held x ts variables.entries.now) (held x ts using.entries.now) (held x ts expression.entries.now)
    (held x ts test.entries.now) (held x ts update.entries.now) (stmt_in (valued x ts body))
the_compound x ts r (view.ForEach head word right body) =
    for_each_of r (head_in (valued x ts head)) (slice_get ts word) (expr_in (valued x ts right))
    (stmt_in (valued x ts body))
the_compound x ts r (view.ForAwait head right body) =
    for_await_of r (head_in (valued x ts head)) (expr_in (valued x ts right)) (stmt_in (valued x ts body))
the_compound x ts r (view.While test body) = while_of r (expr_in (valued x ts test)) (stmt_in (valued x ts body))
the_compound x ts r (view.Do body test) = do_of r (stmt_in (valued x ts body)) (expr_in (valued x ts test))
the_compound x ts r (view.Switch discriminant cases) =
    switch_of ts r (behind (valued x ts discriminant)) (expr_in (valued x ts discriminant))
    (held x ts cases.entries.now)
the_compound x ts r (view.Try block handlers) =
    try_of r (stmt_in (valued x ts block)) (held x ts handlers.entries.now)
the_compound x ts r (view.TypedTry block handlers) =
    typed_try_of ts r (stmt_in (valued x ts block)) (held x ts handlers.entries.now)
the_compound x ts r view.Broken = None

-- the parts take fewer entries
abbrev pub IsBelow : Siblings → Compound → Type 0
IsBelow n (view.For variables using expression test update body) =
    Within variables n × Within using n × Within expression n × Within test n × Within update n × Under body n
IsBelow n (view.ForEach head word right body) = Under head n × Under right n × Under body n
IsBelow n (view.ForAwait head right body) = Under head n × Under right n × Under body n
IsBelow n (view.While test body) = Under test n × Under body n
IsBelow n (view.Do body test) = Under body n × Under test n
IsBelow n (view.Switch discriminant cases) = Under discriminant n × Within cases n
IsBelow n (view.Try block handlers) = Under block n × Within handlers n
IsBelow n (view.TypedTry block handlers) = Under block n × Within handlers n
IsBelow n view.Broken = Unit {0}
