-- What statements and declarations become (ECMA-262, "Statements and Declarations").
use Rattle.std.specs.Prelude.{ℕ, ◌+◌, Bool, true, false, List, [], ◌∷◌, Option, Some, None, option_map}
use Rattle.base.specs.declared.range.Range.{Range}
use Rattle.es_token.specs.declared.token.Token.{Token}
use Rattle.es_token.specs.declared.token.TokenKind.TheVariants as k
use Rattle.grammar_theory.specs.Key.{same_kind}
use Rattle.es_ast.specs.declared.leaf.VarDeclKind.{VarDeclKind}
use Rattle.es_ast.specs.declared.leaf.VarDeclKind.TheVariants as vVariable
use Rattle.es_ast.specs.declared.ast.Expr.{Expr}
use Rattle.es_ast.specs.declared.ast.Stmt.{Stmt}
use Rattle.es_ast.specs.declared.ast.Stmt.TheVariants as vStmt
use Rattle.es_ast.specs.declared.ast.Decl.{Decl}
use Rattle.es_ast.specs.declared.ast.Decl.TheVariants as vDecl
use Rattle.es_ast.specs.declared.ast.Pat.{Pat}
use Rattle.es_ast.specs.declared.ast.SwitchCase.{SwitchCase, roll-SwitchCase}
use Rattle.es_ast.specs.declared.ast.VarDeclarator.{VarDeclarator, roll-VarDeclarator}
use Rattle.es_lowering.specs.Value.{Value, nil, more, given, part, as_group, group, first_of, behind, optional, is_there, turns, expr_at, pat_at, stmt_at, variables_at, declarator_at, head_at}
use Rattle.es_lowering.specs.Texts.{span_of, token_at, kind_at, ident_at}
use Rattle.es_lowering.specs.Operators.{listed, variable_kinds, or_else}
use Rattle.es_lowering.specs.Patterns.{ident_pat}

-- the statements of a block
abbrev pub stmts_of : Value → Option (List Stmt)
stmts_of v = turns (λ turn. stmt_at turn 0) v

unfoldable pub block : Value → Option (List Stmt)
block p = stmts_of (group p 0)

-- ---- declarations
abbrev pub declarator_of : Range → Option Expr → Pat → VarDeclarator
declarator_of r value pat = roll-VarDeclarator (record { name = pat; definite = false; init = value; span = r })

unfoldable pub declarator : Range → Value → Option VarDeclarator
declarator r p =
    given (pat_at p 0) (λ pat. given (expr_at p 1) (λ value. Some (declarator_of r (Some value) pat)))

-- the declarators that stand from this part on: the first, and the turns of the others
abbrev pub declarators_at : Value → ℕ → Option (List VarDeclarator)
declarators_at p n =
    given (declarator_at p n) (λ first.
    given (turns (λ turn. declarator_at turn 0) (group p (n + 1))) (λ others. Some (first ∷ others)))

abbrev pub Variables : Type 0
Variables = VarDeclKind × List VarDeclarator

unfoldable pub variables : List Token → Value → Option Variables
variables ts p =
    given (given (kind_at ts p 0) (listed variable_kinds)) (λ kind.
    given (declarators_at p 1) (λ decls. Some (kind, decls)))

-- `using`, behind `await` or not
abbrev pub using_kind : Bool → VarDeclKind
using_kind true = vVariable.AwaitUsing
using_kind false = vVariable.Using

unfoldable pub using_ : Value → Option Variables
using_ p = given (declarators_at p 1) (λ decls. Some (using_kind (is_there (group p 0)), decls))

abbrev pub decl_of : Range → Variables → Decl
decl_of r v = vDecl.Var false v.0 v.1 r

unfoldable pub variable_declaration : Range → Value → Option Decl
variable_declaration r p = option_map (decl_of r) (variables_at p 0)

-- ---- heads
abbrev pub Head : Type 0
Head = Option VarDeclKind × Pat

unfoldable pub variable_head : List Token → Value → Option Head
variable_head ts p =
    given (given (kind_at ts p 0) (listed variable_kinds)) (λ kind. given (pat_at p 1) (λ pat. Some (Some kind, pat)))

unfoldable pub using_head : List ℕ → List Token → Value → Option Head
using_head x ts p =
    option_map (λ t. (Some (using_kind (is_there (group p 0))), ident_pat x t)) (token_at ts p 1)

-- ---- loops
-- an expression as a statement, with its own span
abbrev pub expression_at : List Token → Value → ℕ → Option Stmt
expression_at ts p n =
    option_map (λ e. vStmt.Expr e (span_of ts (first_of (part p n)) (behind (part p n)))) (expr_at p n)

-- the first part of a `for`: variables, `using`, or an expression
abbrev pub start_of_for : List Token → Value → Option (Option Stmt)
start_of_for ts p =
    given (optional stmt_at (group p 0)) (λ variables.
    given (optional stmt_at (group p 1)) (λ using.
    given (optional (expression_at ts) (group p 2)) (λ expression. Some (or_else variables (or_else using expression)))))

unfoldable pub for_ : List Token → Range → Value → Option Stmt
for_ ts r p =
    given (start_of_for ts p) (λ init.
    given (optional expr_at (group p 3)) (λ test.
    given (optional expr_at (group p 4)) (λ update.
    given (stmt_at p 5) (λ body. Some (vStmt.For init test update body r)))))

-- `in` or `of`
abbrev pub each_of : Bool → Range → Head → Expr → Stmt → Stmt
each_of true r head right body = vStmt.ForIn head.0 head.1 right body r
each_of false r head right body = vStmt.ForOf false head.0 head.1 right body r

unfoldable pub for_each : List Token → Range → Value → Option Stmt
for_each ts r p =
    given (head_at p 0) (λ head.
    given (kind_at ts (group p 1) 0) (λ kind.
    given (expr_at (group p 1) 1) (λ right.
    given (stmt_at p 2) (λ body. Some (each_of (same_kind kind k.InWord) r head right body)))))

unfoldable pub for_await : Range → Value → Option Stmt
for_await r p =
    given (head_at p 0) (λ head.
    given (expr_at p 1) (λ right.
    given (stmt_at p 2) (λ body. Some (vStmt.ForOf true head.0 head.1 right body r))))

unfoldable pub while_ : Range → Value → Option Stmt
while_ r p = given (expr_at p 0) (λ test. given (stmt_at p 1) (λ body. Some (vStmt.While test body r)))

unfoldable pub do_ : Range → Value → Option Stmt
do_ r p = given (stmt_at p 0) (λ body. given (expr_at p 1) (λ test. Some (vStmt.DoWhile body test r)))

-- ---- statements
unfoldable pub expression_statement : Range → Value → Option Stmt
expression_statement r p = option_map (λ e. vStmt.Expr e r) (expr_at p 0)

unfoldable pub labelled : List ℕ → List Token → Range → Value → Option Stmt
labelled x ts r p =
    given (ident_at x ts p 0) (λ label. given (stmt_at p 1) (λ body. Some (vStmt.Labeled label body r)))

unfoldable pub if_ : Range → Value → Option Stmt
if_ r p =
    given (expr_at p 0) (λ test.
    given (stmt_at p 1) (λ yes.
    given (optional stmt_at (group p 2)) (λ no. Some (vStmt.If test yes no r))))

unfoldable pub continue_ : List ℕ → List Token → Range → Value → Option Stmt
continue_ x ts r p = option_map (λ label. vStmt.Continue label r) (optional (ident_at x ts) (group p 0))

unfoldable pub break_ : List ℕ → List Token → Range → Value → Option Stmt
break_ x ts r p = option_map (λ label. vStmt.Break label r) (optional (ident_at x ts) (group p 0))

-- what `return` gives: an expression and END, or END alone
abbrev pub returned : Value → Option (Option Expr)
returned (more v nil) = Some None
returned v = option_map Some (expr_at v 0)

unfoldable pub return_ : Range → Value → Option Stmt
return_ r p = option_map (λ arg. vStmt.Return arg r) (returned (group p 0))

unfoldable pub throw_ : Range → Value → Option Stmt
throw_ r p = option_map (λ arg. vStmt.Throw arg r) (expr_at p 0)

-- ---- `switch`
-- where the statements of a clause begin that begins at this token: behind `case`, its test and `:`, or behind `default` and `:`
abbrev pub behind_colon : ℕ → Value → ℕ
behind_colon at (more test vs) = behind test + 1
behind_colon at v = at + 2

-- behind the last statement of a clause, or behind its colon
abbrev pub behind_stmts : ℕ → Value → ℕ
behind_stmts at (more turn vs) = behind_stmts (behind (part (as_group turn) 0)) vs
behind_stmts at v = at

-- where a clause ends that begins at this token
abbrev pub behind_clause : ℕ → Value → ℕ
behind_clause at turn = behind_stmts (behind_colon at (group turn 0)) (group turn 1)

abbrev pub clause_of : List Token → ℕ → Value → Option SwitchCase
clause_of ts at turn =
    given (optional expr_at (group turn 0)) (λ test.
    given (stmts_of (group turn 1)) (λ cons.
    Some (roll-SwitchCase (record { test = test; cons = cons; span = span_of ts at (behind_clause at turn) }))))

-- the clauses, the first of which begins at this token
abbrev pub clauses : List Token → ℕ → Value → Option (List SwitchCase)
clauses ts at (more turn vs) =
    given (clause_of ts at (as_group turn)) (λ clause.
    given (clauses ts (behind_clause at (as_group turn)) vs) (λ rest. Some (clause ∷ rest)))
clauses ts at _ = Some []

-- behind the expression stand `)` and `{`
unfoldable pub switch_ : List Token → Range → Value → Option Stmt
switch_ ts r p =
    given (expr_at p 0) (λ discriminant.
    given (clauses ts (behind (part p 0) + 2) (group p 1)) (λ cases.
    Some (vStmt.Switch discriminant cases r)))

-- ---- `try`
-- `finally` alone, or `catch` and perhaps `finally`
abbrev pub handled : Range → Stmt → Value → Option Stmt
handled r block (more body nil) =
    option_map (λ finalizer. vStmt.Try block None None (Some finalizer) r) (stmt_at (more body nil) 0)
handled r block v =
    given (optional pat_at (group v 0)) (λ param.
    given (stmt_at v 1) (λ handler.
    given (optional stmt_at (group v 2)) (λ finalizer. Some (vStmt.Try block param (Some handler) finalizer r))))

unfoldable pub try_ : Range → Value → Option Stmt
try_ r p = given (stmt_at p 0) (λ block. handled r block (group p 1))

unfoldable pub with_ : Range → Value → Option Stmt
with_ r p = given (expr_at p 0) (λ obj. given (stmt_at p 1) (λ body. Some (vStmt.With obj body r)))
