-- What a view of a statement tells.
use Rattle.std.specs.Prelude.{ℕ, List, [], ◌∷◌, Option, Some, None, option_map, slice_get}
use Rattle.base.specs.declared.range.Range.{Range}
use Rattle.es_token.specs.declared.token.Token.{Token}
use Rattle.es_grammar.specs.declared.rows.NodeKind.{NodeKind}
use Rattle.es_grammar.specs.declared.rows.NodeKind.TheVariants as l
use Rattle.es_ast.specs.declared.ast.Stmt.{Stmt as AStmt}
use Rattle.es_ast.specs.declared.ast.Stmt.TheVariants as vStmt
use Rattle.es_ast.specs.declared.ast.Expr.{Expr}
use Rattle.es_lowering.specs.Value.{Value, given, optional, stmt_at}
use Rattle.es_lowering.specs.Texts.{ident_of, ident_at}
use Rattle.es_lowering.specs.Statements.{stmts_of, returned}
use Rattle.es_syntax.specs.declared.cursor.Siblings.{Siblings}
use Rattle.es_syntax.specs.Held.{held, valued}
use Rattle.es_syntax.specs.Roles.{expr_in, stmt_in}
use Rattle.es_syntax.specs.Views.{Under, Within}
use Rattle.es_view_statements.specs.declared.stmt.stmt.Stmt.{Stmt}
use Rattle.es_view_statements.specs.declared.stmt.stmt.Stmt.TheVariants as view

-- the alternatives
abbrev pub statements : List NodeKind
statements =
    l.Block ∷ l.EmptyStatement ∷ l.DebuggerStatement ∷ l.ExpressionStatement ∷ l.LabelledStatement ∷ l.IfStatement ∷
    l.ContinueStatement ∷ l.BreakStatement ∷ l.ReturnStatement ∷ l.ThrowStatement ∷ l.WithStatement ∷ []

-- ---- each form, of what its parts are
unfoldable pub block : Range → Value → Option AStmt
block r stmts = option_map (λ stmts. vStmt.Block stmts r) (stmts_of stmts)

unfoldable pub expression : Range → Option Expr → Option AStmt
expression r expr = option_map (λ e. vStmt.Expr e r) expr

unfoldable pub labelled : List ℕ → Range → Option Token → Option AStmt → Option AStmt
labelled x r label body =
    given (option_map (ident_of x) label) (λ label.
    given body (λ body. Some (vStmt.Labeled label body r)))

unfoldable pub if_of : Range → Option Expr → Option AStmt → Value → Option AStmt
if_of r test cons alt =
    given test (λ test.
    given cons (λ yes.
    given (optional stmt_at alt) (λ no. Some (vStmt.If test yes no r))))

unfoldable pub continued : List ℕ → List Token → Range → Value → Option AStmt
continued x ts r label = option_map (λ label. vStmt.Continue label r) (optional (ident_at x ts) label)

unfoldable pub broken : List ℕ → List Token → Range → Value → Option AStmt
broken x ts r label = option_map (λ label. vStmt.Break label r) (optional (ident_at x ts) label)

unfoldable pub returned_of : Range → Value → Option AStmt
returned_of r arg = option_map (λ arg. vStmt.Return arg r) (returned arg)

unfoldable pub thrown : Range → Option Expr → Option AStmt
thrown r arg = option_map (λ arg. vStmt.Throw arg r) arg

unfoldable pub with_of : Range → Option Expr → Option AStmt → Option AStmt
with_of r obj body = given obj (λ obj. given body (λ body. Some (vStmt.With obj body r)))

-- what a view tells
abbrev pub the_stmt : List ℕ → List Token → Range → Stmt → Option AStmt
the_stmt x ts r (view.Block stmts) = block r (held x ts stmts.entries.now)
the_stmt x ts r view.Empty = Some (vStmt.Empty r)
the_stmt x ts r view.Debugger = Some (vStmt.Debugger r)
the_stmt x ts r (view.Expr expr) = expression r (expr_in (valued x ts expr))
the_stmt x ts r (view.Labelled label body) = labelled x r (slice_get ts label) (stmt_in (valued x ts body))
the_stmt x ts r (view.If test cons alt) =
    if_of r (expr_in (valued x ts test)) (stmt_in (valued x ts cons)) (held x ts alt.entries.now)
the_stmt x ts r (view.Continue label) = continued x ts r (held x ts label.entries.now)
the_stmt x ts r (view.Break label) = broken x ts r (held x ts label.entries.now)
the_stmt x ts r (view.Return arg) = returned_of r (held x ts arg.entries.now)
the_stmt x ts r (view.Throw arg) = thrown r (expr_in (valued x ts arg))
the_stmt x ts r (view.With obj body) = with_of r (expr_in (valued x ts obj)) (stmt_in (valued x ts body))
the_stmt x ts r view.Broken = None

-- the parts take fewer entries
abbrev pub IsBelow : Siblings → Stmt → Type 0
IsBelow n (view.Block stmts) = Within stmts n
IsBelow n view.Empty = Unit {0}
IsBelow n view.Debugger = Unit {0}
IsBelow n (view.Expr expr) = Under expr n
IsBelow n (view.Labelled label body) = Under body n
IsBelow n (view.If test cons alt) = Under test n × Under cons n × Within alt n
IsBelow n (view.Continue label) = Within label n
IsBelow n (view.Break label) = Within label n
IsBelow n (view.Return arg) = Within arg n
IsBelow n (view.Throw arg) = Under arg n
IsBelow n (view.With obj body) = Under obj n × Under body n
IsBelow n view.Broken = Unit {0}
