-- What statements, declarations and heads become.
use Rattle.std.specs.Prelude.{Bool, true, false, List, Option, Some, None, option_map}
use Rattle.std.proofs.Common.{ℕ, ◌+◌}
use Rattle.base.specs.declared.range.Range.{Range}
use Rattle.es_token.specs.declared.token.Token.{Token}
use Rattle.es_token.specs.declared.token.TokenKind.TheVariants as k
use Rattle.grammar_theory.specs.Key.{same_kind}
use Rattle.es_ast.specs.declared.ast.Expr.{Expr}
use Rattle.es_ast.specs.declared.ast.Stmt.{Stmt}
use Rattle.es_ast.specs.declared.ast.Stmt.TheVariants as vStmt
use Rattle.es_ast.specs.declared.ast.Pat.{Pat}
use Rattle.es_lowering.specs.Value.{Value, absent, nil, more, token, node, given, part, as_group, group, behind, optional, turns, expr_at, pat_at, stmt_at, variables_at, declarator_at, head_at}
use Rattle.es_lowering.specs.Texts.{span_of, ident_of, token_at, kind_at, ident_at}
use Rattle.es_lowering.specs.Operators.{listed, variable_kinds, or_else}
use Rattle.es_lowering.specs.Statements.{stmts_of, block, declarator_of, declarator, declarators_at, Variables, variables, using_, decl_of, variable_declaration, Head, variable_head, using_head, expression_at, start_of_for, for_, each_of, for_each, for_await, while_, do_, expression_statement, labelled, if_, continue_, break_, returned, return_, throw_, behind_clause, clause_of, clauses, switch_, handled, try_, with_}
use Rattle.es_law_sites.proofs.ranges.Cuts.{Each, Opt, ExprCuts, PatCuts, StmtCuts, DeclCuts, CaseCuts, DeclaratorCuts, switch_case_cuts, var_declarator_cuts}
use Rattle.es_law_sites.proofs.ranges.Forms.{pat_Ident_cuts, decl_Var_cuts, stmt_With_cuts, stmt_Return_cuts, stmt_Labeled_cuts, stmt_Break_cuts, stmt_Continue_cuts, stmt_If_cuts, stmt_Switch_cuts, stmt_Throw_cuts, stmt_Try_cuts, stmt_While_cuts, stmt_DoWhile_cuts, stmt_For_cuts, stmt_ForIn_cuts, stmt_ForOf_cuts, stmt_Expr_cuts}
use Rattle.es_law_sites.proofs.ranges.Fine.{HeadCuts, VariablesCut, Fine, given_fine, given_any, map_fine, map_any, as_group_fine, group_fine, optional_fine, turns_fine, expr_fine, pat_fine, stmt_fine, variables_fine, declarator_fine, head_fine}

module _ (x : List ℕ) (ts : List Token) where
  stmts_cuts : (v : Value) → Fine x v → Opt (Each (StmtCuts x)) (stmts_of v)
  stmts_cuts v fine = turns_fine x (StmtCuts x) (λ turn. stmt_at turn 0) (λ turn here. stmt_fine x turn 0 here) v fine

  pub block_cuts : (p : Value) → Fine x p → Opt (Each (StmtCuts x)) (block p)
  unfolding block
  block_cuts p fine = stmts_cuts (group p 0) (group_fine x p 0 fine)

  -- ---- declarations
  declarator_of_cuts : (r : Range) (value : Option Expr) (pat : Pat) → Opt (ExprCuts x) value → PatCuts x pat
      → DeclaratorCuts x (declarator_of r value pat)
  declarator_of_cuts r value pat f g =
      var_declarator_cuts x (record { name = pat; definite = false; init = value; span = r }) g f

  pub declarator_cuts : (r : Range) (p : Value) → Fine x p → Opt (DeclaratorCuts x) (declarator r p)
  unfolding declarator
  declarator_cuts r p fine =
      given_fine (PatCuts x) (DeclaratorCuts x) (pat_at p 0) _ (pat_fine x p 0 fine) (λ pat f.
      given_fine (ExprCuts x) (DeclaratorCuts x) (expr_at p 1) _ (expr_fine x p 1 fine) (λ value g.
      declarator_of_cuts r (Some value) pat g f))

  -- a pattern alone
  pub bare_declarator_cuts : (r : Range) (pat : Pat) → PatCuts x pat → DeclaratorCuts x (declarator_of r None pat)
  bare_declarator_cuts r pat f = declarator_of_cuts r None pat tt f

  declarators_cuts : (p : Value) (n : ℕ) → Fine x p → Opt (Each (DeclaratorCuts x)) (declarators_at p n)
  declarators_cuts p n fine =
      given_fine (DeclaratorCuts x) (Each (DeclaratorCuts x)) (declarator_at p n) _ (declarator_fine x p n fine)
      (λ first f.
      given_fine (Each (DeclaratorCuts x)) (Each (DeclaratorCuts x))
      (turns (λ turn. declarator_at turn 0) (group p (n + 1))) _
      (turns_fine x (DeclaratorCuts x) (λ turn. declarator_at turn 0) (λ turn here. declarator_fine x turn 0 here)
      (group p (n + 1)) (group_fine x p (n + 1) fine)) (λ others g. (f, g)))

  pub variables_cuts : (p : Value) → Fine x p → Opt (VariablesCut x) (variables ts p)
  unfolding variables
  variables_cuts p fine =
      given_any (VariablesCut x) (given (kind_at ts p 0) (listed variable_kinds)) _ (λ kind.
      given_fine (Each (DeclaratorCuts x)) (VariablesCut x) (declarators_at p 1) _ (declarators_cuts p 1 fine)
      (λ decls f. f))

  pub using_cuts : (p : Value) → Fine x p → Opt (VariablesCut x) (using_ p)
  unfolding using_
  using_cuts p fine =
      given_fine (Each (DeclaratorCuts x)) (VariablesCut x) (declarators_at p 1) _ (declarators_cuts p 1 fine)
      (λ decls f. f)

  pub decl_of_cuts : (r : Range) (v : Variables) → VariablesCut x v → DeclCuts x (decl_of r v)
  decl_of_cuts r v f = decl_Var_cuts x false v.0 v.1 r f

  pub variable_declaration_cuts : (r : Range) (p : Value) → Fine x p → Opt (DeclCuts x) (variable_declaration r p)
  unfolding variable_declaration
  variable_declaration_cuts r p fine =
      map_fine (VariablesCut x) (DeclCuts x) (variables_at p 0) (decl_of r) (variables_fine x p 0 fine) (decl_of_cuts r)

  -- ---- heads
  pub variable_head_cuts : (p : Value) → Fine x p → Opt (HeadCuts x) (variable_head ts p)
  unfolding variable_head
  variable_head_cuts p fine =
      given_any (HeadCuts x) (given (kind_at ts p 0) (listed variable_kinds)) _ (λ kind.
      given_fine (PatCuts x) (HeadCuts x) (pat_at p 1) _ (pat_fine x p 1 fine) (λ pat f. f))

  pub using_head_cuts : (p : Value) → Opt (HeadCuts x) (using_head x ts p)
  unfolding using_head
  using_head_cuts p =
      map_any (HeadCuts x) (token_at ts p 1) _ (λ t. pat_Ident_cuts x (ident_of x t) None t.range)

  -- ---- loops
  expression_cuts : (p : Value) → Fine x p → Opt (StmtCuts x) (expression_at ts p 0)
  expression_cuts p fine =
      map_fine (ExprCuts x) (StmtCuts x) (expr_at p 0) _ (expr_fine x p 0 fine) (λ e f. stmt_Expr_cuts x e _ f)

  or_cuts : (a b : Option Stmt) → Opt (StmtCuts x) a → Opt (StmtCuts x) b → Opt (StmtCuts x) (or_else a b)
  or_cuts (Some a) b f g = f
  or_cuts None b f g = g

  start_cuts : (p : Value) → Fine x p → Opt (Opt (StmtCuts x)) (start_of_for ts p)
  start_cuts p fine =
      given_fine (Opt (StmtCuts x)) (Opt (StmtCuts x)) (optional stmt_at (group p 0)) _
      (optional_fine x (StmtCuts x) stmt_at (λ v here. stmt_fine x v 0 here) (group p 0) (group_fine x p 0 fine))
      (λ variables f.
      given_fine (Opt (StmtCuts x)) (Opt (StmtCuts x)) (optional stmt_at (group p 1)) _
      (optional_fine x (StmtCuts x) stmt_at (λ v here. stmt_fine x v 0 here) (group p 1) (group_fine x p 1 fine))
      (λ using g.
      given_fine (Opt (StmtCuts x)) (Opt (StmtCuts x)) (optional (expression_at ts) (group p 2)) _
      (optional_fine x (StmtCuts x) (expression_at ts) expression_cuts (group p 2) (group_fine x p 2 fine))
      (λ expression h. or_cuts variables (or_else using expression) f (or_cuts using expression g h))))

  maybe_expr : (p : Value) (n : ℕ) → Fine x p → Opt (Opt (ExprCuts x)) (optional expr_at (group p n))
  maybe_expr p n fine =
      optional_fine x (ExprCuts x) expr_at (λ v here. expr_fine x v 0 here) (group p n) (group_fine x p n fine)

  maybe_stmt : (p : Value) (n : ℕ) → Fine x p → Opt (Opt (StmtCuts x)) (optional stmt_at (group p n))
  maybe_stmt p n fine =
      optional_fine x (StmtCuts x) stmt_at (λ v here. stmt_fine x v 0 here) (group p n) (group_fine x p n fine)

  pub for_cuts : (r : Range) (p : Value) → Fine x p → Opt (StmtCuts x) (for_ ts r p)
  unfolding for_
  for_cuts r p fine =
      given_fine (Opt (StmtCuts x)) (StmtCuts x) (start_of_for ts p) _ (start_cuts p fine) (λ init f.
      given_fine (Opt (ExprCuts x)) (StmtCuts x) (optional expr_at (group p 3)) _ (maybe_expr p 3 fine) (λ test g.
      given_fine (Opt (ExprCuts x)) (StmtCuts x) (optional expr_at (group p 4)) _ (maybe_expr p 4 fine) (λ update h.
      given_fine (StmtCuts x) (StmtCuts x) (stmt_at p 5) _ (stmt_fine x p 5 fine) (λ body i.
      stmt_For_cuts x init test update body r f g h i))))

  each_of_cuts : (there : Bool) (r : Range) (head : Head) (right : Expr) (body : Stmt) → HeadCuts x head
      → ExprCuts x right → StmtCuts x body → StmtCuts x (each_of there r head right body)
  each_of_cuts true r head right body f g h = stmt_ForIn_cuts x head.0 head.1 right body r f g h
  each_of_cuts false r head right body f g h = stmt_ForOf_cuts x false head.0 head.1 right body r f g h

  pub for_each_cuts : (r : Range) (p : Value) → Fine x p → Opt (StmtCuts x) (for_each ts r p)
  unfolding for_each
  for_each_cuts r p fine =
      given_fine (HeadCuts x) (StmtCuts x) (head_at p 0) _ (head_fine x p 0 fine) (λ head f.
      given_any (StmtCuts x) (kind_at ts (group p 1) 0) _ (λ kind.
      given_fine (ExprCuts x) (StmtCuts x) (expr_at (group p 1) 1) _ (expr_fine x (group p 1) 1 (group_fine x p 1 fine))
      (λ right g.
      given_fine (StmtCuts x) (StmtCuts x) (stmt_at p 2) _ (stmt_fine x p 2 fine) (λ body h.
      each_of_cuts (same_kind kind k.InWord) r head right body f g h))))

  pub for_await_cuts : (r : Range) (p : Value) → Fine x p → Opt (StmtCuts x) (for_await r p)
  unfolding for_await
  for_await_cuts r p fine =
      given_fine (HeadCuts x) (StmtCuts x) (head_at p 0) _ (head_fine x p 0 fine) (λ head f.
      given_fine (ExprCuts x) (StmtCuts x) (expr_at p 1) _ (expr_fine x p 1 fine) (λ right g.
      given_fine (StmtCuts x) (StmtCuts x) (stmt_at p 2) _ (stmt_fine x p 2 fine) (λ body h.
      stmt_ForOf_cuts x true head.0 head.1 right body r f g h)))

  pub while_cuts : (r : Range) (p : Value) → Fine x p → Opt (StmtCuts x) (while_ r p)
  unfolding while_
  while_cuts r p fine =
      given_fine (ExprCuts x) (StmtCuts x) (expr_at p 0) _ (expr_fine x p 0 fine) (λ test f.
      given_fine (StmtCuts x) (StmtCuts x) (stmt_at p 1) _ (stmt_fine x p 1 fine) (λ body g.
      stmt_While_cuts x test body r f g))

  pub do_cuts : (r : Range) (p : Value) → Fine x p → Opt (StmtCuts x) (do_ r p)
  unfolding do_
  do_cuts r p fine =
      given_fine (StmtCuts x) (StmtCuts x) (stmt_at p 0) _ (stmt_fine x p 0 fine) (λ body f.
      given_fine (ExprCuts x) (StmtCuts x) (expr_at p 1) _ (expr_fine x p 1 fine) (λ test g.
      stmt_DoWhile_cuts x body test r f g))

  -- ---- statements
  pub expression_statement_cuts : (r : Range) (p : Value) → Fine x p → Opt (StmtCuts x) (expression_statement r p)
  unfolding expression_statement
  expression_statement_cuts r p fine =
      map_fine (ExprCuts x) (StmtCuts x) (expr_at p 0) _ (expr_fine x p 0 fine) (λ e f. stmt_Expr_cuts x e r f)

  pub labelled_cuts : (r : Range) (p : Value) → Fine x p → Opt (StmtCuts x) (labelled x ts r p)
  unfolding labelled
  labelled_cuts r p fine =
      given_any (StmtCuts x) (ident_at x ts p 0) _ (λ label.
      given_fine (StmtCuts x) (StmtCuts x) (stmt_at p 1) _ (stmt_fine x p 1 fine) (λ body f.
      stmt_Labeled_cuts x label body r f))

  pub if_cuts : (r : Range) (p : Value) → Fine x p → Opt (StmtCuts x) (if_ r p)
  unfolding if_
  if_cuts r p fine =
      given_fine (ExprCuts x) (StmtCuts x) (expr_at p 0) _ (expr_fine x p 0 fine) (λ test f.
      given_fine (StmtCuts x) (StmtCuts x) (stmt_at p 1) _ (stmt_fine x p 1 fine) (λ yes g.
      given_fine (Opt (StmtCuts x)) (StmtCuts x) (optional stmt_at (group p 2)) _ (maybe_stmt p 2 fine) (λ other h.
      stmt_If_cuts x test yes other r f g h)))

  pub continue_cuts : (r : Range) (p : Value) → Opt (StmtCuts x) (continue_ x ts r p)
  unfolding continue_
  continue_cuts r p = map_any (StmtCuts x) (optional (ident_at x ts) (group p 0)) _
      (λ label. stmt_Continue_cuts x label r)

  pub break_cuts : (r : Range) (p : Value) → Opt (StmtCuts x) (break_ x ts r p)
  unfolding break_
  break_cuts r p = map_any (StmtCuts x) (optional (ident_at x ts) (group p 0)) _ (λ label. stmt_Break_cuts x label r)

  some_cuts : (v : Value) → Fine x v → Opt (Opt (ExprCuts x)) (option_map Some (expr_at v 0))
  some_cuts v fine = map_fine (ExprCuts x) (Opt (ExprCuts x)) (expr_at v 0) Some (expr_fine x v 0 fine) (λ e f. f)

  returned_cuts : (v : Value) → Fine x v → Opt (Opt (ExprCuts x)) (returned v)
  returned_cuts (more v nil) fine = tt
  returned_cuts (more v absent) fine = some_cuts (more v absent) fine
  returned_cuts (more v (more w vs)) fine = some_cuts (more v (more w vs)) fine
  returned_cuts (more v (token n)) fine = some_cuts (more v (token n)) fine
  returned_cuts (more v (node from to m)) fine = some_cuts (more v (node from to m)) fine
  returned_cuts absent fine = tt
  returned_cuts nil fine = tt
  returned_cuts (token n) fine = tt
  returned_cuts (node from to m) fine = tt

  pub return_cuts : (r : Range) (p : Value) → Fine x p → Opt (StmtCuts x) (return_ r p)
  unfolding return_
  return_cuts r p fine =
      map_fine (Opt (ExprCuts x)) (StmtCuts x) (returned (group p 0)) _
      (returned_cuts (group p 0) (group_fine x p 0 fine))
      (λ arg f. stmt_Return_cuts x arg r f)

  pub throw_cuts : (r : Range) (p : Value) → Fine x p → Opt (StmtCuts x) (throw_ r p)
  unfolding throw_
  throw_cuts r p fine =
      map_fine (ExprCuts x) (StmtCuts x) (expr_at p 0) _ (expr_fine x p 0 fine) (λ arg f. stmt_Throw_cuts x arg r f)

  -- ---- `switch`
  clause_cuts : (at : ℕ) (turn : Value) → Fine x turn → Opt (CaseCuts x) (clause_of ts at turn)
  clause_cuts at turn fine =
      given_fine (Opt (ExprCuts x)) (CaseCuts x) (optional expr_at (group turn 0)) _ (maybe_expr turn 0 fine) (λ test f.
      given_fine (Each (StmtCuts x)) (CaseCuts x) (stmts_of (group turn 1)) _
      (stmts_cuts (group turn 1) (group_fine x turn 1 fine)) (λ cons g.
      switch_case_cuts x (record { test = test; cons = cons; span = span_of ts at (behind_clause at turn) }) f g))

  clauses_cuts : (at : ℕ) (v : Value) → Fine x v → Opt (Each (CaseCuts x)) (clauses ts at v)
  clauses_cuts at (more turn vs) fine =
      given_fine (CaseCuts x) (Each (CaseCuts x)) (clause_of ts at (as_group turn)) _
      (clause_cuts at (as_group turn) (as_group_fine x turn fine.0)) (λ clause f.
      given_fine (Each (CaseCuts x)) (Each (CaseCuts x)) (clauses ts (behind_clause at (as_group turn)) vs) _
      (clauses_cuts (behind_clause at (as_group turn)) vs fine.1) (λ rest g. (f, g)))
  clauses_cuts at absent fine = tt
  clauses_cuts at nil fine = tt
  clauses_cuts at (token n) fine = tt
  clauses_cuts at (node from to m) fine = tt

  pub switch_cuts : (r : Range) (p : Value) → Fine x p → Opt (StmtCuts x) (switch_ ts r p)
  unfolding switch_
  switch_cuts r p fine =
      given_fine (ExprCuts x) (StmtCuts x) (expr_at p 0) _ (expr_fine x p 0 fine) (λ discriminant f.
      given_fine (Each (CaseCuts x)) (StmtCuts x) (clauses ts (behind (part p 0) + 2) (group p 1)) _
      (clauses_cuts (behind (part p 0) + 2) (group p 1) (group_fine x p 1 fine)) (λ cases g.
      stmt_Switch_cuts x discriminant cases r f g))

  -- ---- `try`
  caught_cuts : (r : Range) (block : Stmt) (v : Value) → StmtCuts x block → Fine x v
      → Opt (StmtCuts x) (given (optional pat_at (group v 0)) (λ param.
      given (stmt_at v 1) (λ handler.
      given (optional stmt_at (group v 2)) (λ finalizer. Some (vStmt.Try block param (Some handler) finalizer r)))))
  caught_cuts r block v b fine =
      given_fine (Opt (PatCuts x)) (StmtCuts x) (optional pat_at (group v 0)) _
      (optional_fine x (PatCuts x) pat_at (λ v here. pat_fine x v 0 here) (group v 0) (group_fine x v 0 fine))
      (λ param f.
      given_fine (StmtCuts x) (StmtCuts x) (stmt_at v 1) _ (stmt_fine x v 1 fine) (λ handler g.
      given_fine (Opt (StmtCuts x)) (StmtCuts x) (optional stmt_at (group v 2)) _ (maybe_stmt v 2 fine) (λ finalizer h.
      stmt_Try_cuts x block param (Some handler) finalizer r b f g h)))

  handled_cuts : (r : Range) (block : Stmt) (v : Value) → StmtCuts x block → Fine x v
      → Opt (StmtCuts x) (handled r block v)
  handled_cuts r block (more body nil) b fine =
      map_fine (StmtCuts x) (StmtCuts x) (stmt_at (more body nil) 0) _ (stmt_fine x (more body nil) 0 fine)
      (λ finalizer f.
      stmt_Try_cuts x block None None (Some finalizer) r b tt tt f)
  handled_cuts r block (more body absent) b fine = caught_cuts r block (more body absent) b fine
  handled_cuts r block (more body (more w vs)) b fine = caught_cuts r block (more body (more w vs)) b fine
  handled_cuts r block (more body (token n)) b fine = caught_cuts r block (more body (token n)) b fine
  handled_cuts r block (more body (node from to m)) b fine = caught_cuts r block (more body (node from to m)) b fine
  handled_cuts r block absent b fine = caught_cuts r block absent b fine
  handled_cuts r block nil b fine = caught_cuts r block nil b fine
  handled_cuts r block (token n) b fine = caught_cuts r block (token n) b fine
  handled_cuts r block (node from to m) b fine = caught_cuts r block (node from to m) b fine

  pub try_cuts : (r : Range) (p : Value) → Fine x p → Opt (StmtCuts x) (try_ r p)
  unfolding try_
  try_cuts r p fine =
      given_fine (StmtCuts x) (StmtCuts x) (stmt_at p 0) _ (stmt_fine x p 0 fine) (λ block f.
      handled_cuts r block (group p 1) f (group_fine x p 1 fine))

  pub with_cuts : (r : Range) (p : Value) → Fine x p → Opt (StmtCuts x) (with_ r p)
  unfolding with_
  with_cuts r p fine =
      given_fine (ExprCuts x) (StmtCuts x) (expr_at p 0) _ (expr_fine x p 0 fine) (λ obj f.
      given_fine (StmtCuts x) (StmtCuts x) (stmt_at p 1) _ (stmt_fine x p 1 fine) (λ body g.
      stmt_With_cuts x obj body r f g))
