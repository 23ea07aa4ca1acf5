-- What statements return, as bodies of functions and as the only ones of blocks.
use Rattle.std.specs.Prelude.{ℕ, ◌+◌, Bool, true, false, List, [], ◌∷◌, Option, Some, None, option_map, IfSome, if◌then◌else◌}
use Rattle.std.proofs.Common.{◌≡◌, refl, sym, ap, subst, ◌∙◌}
use Rattle.base.specs.declared.range.Range.{Range}
use Rattle.es_token.specs.declared.token.Token.{Token}
use Rattle.es_token.specs.declared.token.TokenKind.TheVariants as k
use Rattle.grammar_theory.specs.Key.{same_kind}
use Rattle.es_ast.specs.declared.ast.Decl.{Decl}
use Rattle.es_ast.specs.declared.ast.Expr.{Expr}
use Rattle.es_ast.specs.declared.ast.Pat.{Pat}
use Rattle.es_ast.specs.declared.ast.Stmt.{Stmt, roll-Stmt, out-Stmt, out-roll-Stmt}
use Rattle.es_ast.specs.declared.ast.Stmt.TheVariants as vStmt
use Rattle.es_ast.specs.declared.ast.ClassMember.TheOpen.{Stmt-F}
use Rattle.es_site.specs.Parts.{Whole}
use Rattle.es_grammar.specs.declared.rows.NodeKind.{NodeKind}
use Rattle.es_grammar.specs.declared.rows.NodeKind.TheVariants as l
use Rattle.es_lowering.specs.Value.{Value, absent, nil, more, token, node, given, part, as_group, group, optional}
use Rattle.es_lowering.specs.Value.{behind, expr_at, stmt_at, pat_at, head_at}
use Rattle.es_lowering.specs.Texts.{ident_of, ident_at, kind_at, span_of}
use Rattle.es_lowering.specs.Statements as stmts
use Rattle.es_lowering.specs.TypedStatements as typed_stmts
use Rattle.es_lowering.specs.Lowering.{same_label, build, stmt_of, decl_of, declarable_of}
use Rattle.es_syntax.specs.declared.entry.Lean.{Lean}
use Rattle.es_syntax.specs.declared.entry.Lean.TheVariants as vLean
use Rattle.es_syntax.specs.declared.entry.What.{What}
use Rattle.es_syntax.specs.declared.entry.What.TheVariants as vWhat
use Rattle.es_syntax.specs.declared.entry.Entry.{Entry}
use Rattle.es_syntax.specs.declared.cursor.Item.{Item}
use Rattle.es_syntax.specs.Held.{held, valued, made, parts_of, label_of}
use Rattle.es_syntax.specs.Roles.{expr_in, stmt_in}
use Rattle.es_syntax.specs.Views.{is_one_of, IsNone}
use Rattle.es_syntax.proofs.Others.{in_held, in_role, in_leant}
use Rattle.es_view_statements.specs.stmt.Stmt as view
use Rattle.cjs_facts.specs.Looks.{returned_in, returned_last}
use Rattle.cjs_looks.specs.objects.Returns.{Meets, Gives, body_returns, last_returns}

-- ---- statements that return nothing, wherever they stand
record IsQuiet (s : Stmt) : Type 0 where
  pub body : body_returns s ≡ None
  pub last : last_returns s ≡ None

quiet : (w : Whole Stmt-F) (s : Stmt) → roll-Stmt w ≡ s → returned_in w ≡ None → returned_last [] w ≡ None
    → IsQuiet s
quiet w s rolls a b =
    let is : out-Stmt s ≡ w = sym (ap out-Stmt rolls) ∙ out-roll-Stmt w in
    record { body = ap returned_in is ∙ a; last = ap (returned_last []) is ∙ b }

record AreQuiet (part : Option Stmt) : Type 0 where
  pub quiet : IfSome part IsQuiet

all_given : {A : Type 0} (o : Option A) {make : A → Option Stmt} → ((a : A) → AreQuiet (make a))
    → AreQuiet (given o make)
all_given None each = record { quiet = tt }
all_given (Some a) each = each a

all_map : {A : Type 0} (o : Option A) (make : A → Stmt) → ((a : A) → IsQuiet (make a)) → AreQuiet (option_map make o)
all_map None make each = record { quiet = tt }
all_map (Some a) make each = record { quiet = each a }

one : (s : Stmt) → IsQuiet s → AreQuiet (Some s)
one s is = record { quiet = is }

none : AreQuiet None
none = record { quiet = tt }

module _ (r : Range) where
  q_empty : IsQuiet (vStmt.Empty r)
  q_empty = quiet (Stmt-F.Stmt::Empty r) _ (vStmt.rolls-Empty r) refl refl

  q_debugger : IsQuiet (vStmt.Debugger r)
  q_debugger = quiet (Stmt-F.Debugger r) _ (vStmt.rolls-Debugger r) refl refl

  q_throw : (e : Expr) → IsQuiet (vStmt.Throw e r)
  q_throw e = quiet (Stmt-F.Throw e r) _ (vStmt.rolls-Throw e r) refl refl

  q_with : (e : Expr) (s : Stmt) → IsQuiet (vStmt.With e s r)
  q_with e s = quiet (Stmt-F.With e s r) _ (vStmt.rolls-With e s r) refl refl

  q_if : (e : Expr) (s : Stmt) (t : Option Stmt) → IsQuiet (vStmt.If e s t r)
  q_if e s t = quiet (Stmt-F.If e s t r) _ (vStmt.rolls-If e s t r) refl refl

  q_while : (e : Expr) (s : Stmt) → IsQuiet (vStmt.While e s r)
  q_while e s = quiet (Stmt-F.While e s r) _ (vStmt.rolls-While e s r) refl refl

  q_do : (s : Stmt) (e : Expr) → IsQuiet (vStmt.DoWhile s e r)
  q_do s e = quiet (Stmt-F.DoWhile s e r) _ (vStmt.rolls-DoWhile s e r) refl refl

  q_try : (a : Stmt) (p : Option Pat) (b c : Option Stmt) → IsQuiet (vStmt.Try a p b c r)
  q_try a p b c = quiet (Stmt-F.Try a p b c r) _ (vStmt.rolls-Try a p b c r) refl refl

q_decl : (d : Decl) → IsQuiet (vStmt.Decl d)
q_decl d = quiet (Stmt-F.Decl d) _ (vStmt.rolls-Decl d) refl refl

-- ---- each form of them, from its parts
module _ (x : List ℕ) (ts : List Token) (r : Range) (p : Value) where
  labelled_quiet : AreQuiet (stmts.labelled x ts r p)
  unfolding stmts.labelled
  labelled_quiet =
      all_given (ident_at x ts p 0) (λ label. all_given (stmt_at p 1) (λ body.
      one _ (quiet (Stmt-F.Labeled label body r) _ (vStmt.rolls-Labeled label body r) refl refl)))

  if_quiet : AreQuiet (stmts.if_ r p)
  unfolding stmts.if_
  if_quiet =
      all_given (expr_at p 0) (λ e. all_given (stmt_at p 1) (λ s. all_given (optional stmt_at (group p 2)) (λ t.
      one _ (q_if r e s t))))

  for_quiet : AreQuiet (stmts.for_ ts r p)
  unfolding stmts.for_
  for_quiet =
      all_given (stmts.start_of_for ts p) (λ init. all_given (optional expr_at (group p 3)) (λ test.
      all_given (optional expr_at (group p 4)) (λ update. all_given (stmt_at p 5) (λ body.
      one _ (quiet (Stmt-F.For init test update body r) _ (vStmt.rolls-For init test update body r) refl refl)))))

  each_quiet : (b : Bool) (head : stmts.Head) (right : Expr) (body : Stmt)
      → IsQuiet (stmts.each_of b r head right body)
  each_quiet true head right body =
      quiet (Stmt-F.ForIn head.0 head.1 right body r) _ (vStmt.rolls-ForIn head.0 head.1 right body r) refl refl
  each_quiet false head right body =
      quiet (Stmt-F.ForOf false head.0 head.1 right body r) _ (vStmt.rolls-ForOf false head.0 head.1 right body r) refl
      refl

  for_each_quiet : AreQuiet (stmts.for_each ts r p)
  unfolding stmts.for_each
  for_each_quiet =
      all_given (head_at p 0) (λ head. all_given (kind_at ts (group p 1) 0) (λ kind.
      all_given (expr_at (group p 1) 1) (λ right. all_given (stmt_at p 2) (λ body.
      one _ (each_quiet (same_kind kind k.InWord) head right body)))))

  for_await_quiet : AreQuiet (stmts.for_await r p)
  unfolding stmts.for_await
  for_await_quiet =
      all_given (head_at p 0) (λ head. all_given (expr_at p 1) (λ right. all_given (stmt_at p 2) (λ body.
      one _ (quiet (Stmt-F.ForOf true head.0 head.1 right body r) _
      (vStmt.rolls-ForOf true head.0 head.1 right body r) refl refl))))

  while_quiet : AreQuiet (stmts.while_ r p)
  unfolding stmts.while_
  while_quiet = all_given (expr_at p 0) (λ e. all_given (stmt_at p 1) (λ s. one _ (q_while r e s)))

  do_quiet : AreQuiet (stmts.do_ r p)
  unfolding stmts.do_
  do_quiet = all_given (stmt_at p 0) (λ s. all_given (expr_at p 1) (λ e. one _ (q_do r s e)))

  continue_quiet : AreQuiet (stmts.continue_ x ts r p)
  unfolding stmts.continue_
  continue_quiet =
      all_map (optional (ident_at x ts) (group p 0)) _ (λ label.
      quiet (Stmt-F.Continue label r) _ (vStmt.rolls-Continue label r) refl refl)

  break_quiet : AreQuiet (stmts.break_ x ts r p)
  unfolding stmts.break_
  break_quiet =
      all_map (optional (ident_at x ts) (group p 0)) _ (λ label.
      quiet (Stmt-F.Break label r) _ (vStmt.rolls-Break label r) refl refl)

  throw_quiet : AreQuiet (stmts.throw_ r p)
  unfolding stmts.throw_
  throw_quiet = all_map (expr_at p 0) _ (λ e. q_throw r e)

  switch_quiet : AreQuiet (stmts.switch_ ts r p)
  unfolding stmts.switch_
  switch_quiet =
      all_given (expr_at p 0) (λ d. all_given (stmts.clauses ts (behind (part p 0) + 2) (group p 1)) (λ cases.
      one _ (quiet (Stmt-F.Switch d cases r) _ (vStmt.rolls-Switch d cases r) refl refl)))

  with_quiet : AreQuiet (stmts.with_ r p)
  unfolding stmts.with_
  with_quiet = all_given (expr_at p 0) (λ e. all_given (stmt_at p 1) (λ s. one _ (q_with r e s)))

  caught : (block : Stmt) (v : Value)
      → AreQuiet (given (optional pat_at (group v 0)) (λ param. given (stmt_at v 1) (λ handler.
      given (optional stmt_at (group v 2)) (λ finalizer. Some (vStmt.Try block param (Some handler) finalizer r)))))
  caught block v =
      all_given (optional pat_at (group v 0)) (λ param. all_given (stmt_at v 1) (λ handler.
      all_given (optional stmt_at (group v 2)) (λ finalizer. one _ (q_try r block param (Some handler) finalizer))))

  handled_quiet : (block : Stmt) (v : Value) → AreQuiet (stmts.handled r block v)
  handled_quiet block (more body nil) =
      all_map (stmt_at (more body nil) 0) _ (λ finalizer. q_try r block None None (Some finalizer))
  handled_quiet block (more body absent) = caught block (more body absent)
  handled_quiet block (more body (token n)) = caught block (more body (token n))
  handled_quiet block (more body (more v vs)) = caught block (more body (more v vs))
  handled_quiet block (more body (node from to m)) = caught block (more body (node from to m))
  handled_quiet block absent = caught block absent
  handled_quiet block nil = caught block nil
  handled_quiet block (token n) = caught block (token n)
  handled_quiet block (node from to m) = caught block (node from to m)

  try_quiet : AreQuiet (stmts.try_ r p)
  unfolding stmts.try_
  try_quiet = all_given (stmt_at p 0) (λ block. handled_quiet block (group p 1))

  typed_caught : (block : Stmt) (v : Value)
      → AreQuiet (given (typed_stmts.caught_in ts (group v 0)) (λ param. given (stmt_at v 1) (λ handler.
      given (optional stmt_at (group v 2)) (λ finalizer. Some (vStmt.Try block param (Some handler) finalizer r)))))
  typed_caught block v =
      all_given (typed_stmts.caught_in ts (group v 0)) (λ param. all_given (stmt_at v 1) (λ handler.
      all_given (optional stmt_at (group v 2)) (λ finalizer. one _ (q_try r block param (Some handler) finalizer))))

  typed_handled_quiet : (block : Stmt) (v : Value) → AreQuiet (typed_stmts.typed_handled ts r block v)
  typed_handled_quiet block (more body nil) =
      all_map (stmt_at (more body nil) 0) _ (λ finalizer. q_try r block None None (Some finalizer))
  typed_handled_quiet block (more body absent) = typed_caught block (more body absent)
  typed_handled_quiet block (more body (token n)) = typed_caught block (more body (token n))
  typed_handled_quiet block (more body (more v vs)) = typed_caught block (more body (more v vs))
  typed_handled_quiet block (more body (node from to m)) = typed_caught block (more body (node from to m))
  typed_handled_quiet block absent = typed_caught block absent
  typed_handled_quiet block nil = typed_caught block nil
  typed_handled_quiet block (token n) = typed_caught block (token n)
  typed_handled_quiet block (node from to m) = typed_caught block (node from to m)

  typed_try_quiet : AreQuiet (typed_stmts.typed_try ts r p)
  unfolding typed_stmts.typed_try
  typed_try_quiet = all_given (stmt_at p 0) (λ block. typed_handled_quiet block (group p 1))

-- ---- the whole table
not_first : (b others : Bool) → (if b then true else others) ≡ false → b ≡ false
not_first true others e = e
not_first false others e = refl

not_rest : (b others : Bool) → (if b then true else others) ≡ false → others ≡ false
not_rest true others e = let bad : ⊥ = cc in absurd bad
not_rest false others e = e

either : (b : Bool) (o e : Option Stmt) → AreQuiet o → AreQuiet e → AreQuiet (if b then o else e)
either true o e is other = is
either false o e is other = other

skip : (b : Bool) (o e : Option Stmt) → b ≡ false → AreQuiet e → AreQuiet (if b then o else e)
skip true o e no_one other = let bad : ⊥ = cc in absurd bad
skip false o e no_one other = other

module _ (x : List ℕ) (ts : List Token) where
  label_quiet : (r : Range) (p : Value) (label : NodeKind) → is_one_of view.statements label ≡ false
      → AreQuiet (stmt_of x ts label r p)
  unfolding stmt_of
  label_quiet r p label e =
      let e1 = not_rest (same_label label l.Block) _ e in
      let e2 = not_rest (same_label label l.EmptyStatement) _ e1 in
      let e3 = not_rest (same_label label l.DebuggerStatement) _ e2 in
      let e4 = not_rest (same_label label l.ExpressionStatement) _ e3 in
      let e5 = not_rest (same_label label l.LabelledStatement) _ e4 in
      let e6 = not_rest (same_label label l.IfStatement) _ e5 in
      let e7 = not_rest (same_label label l.ContinueStatement) _ e6 in
      let e8 = not_rest (same_label label l.BreakStatement) _ e7 in
      skip (same_label label l.Block) _ _ (not_first (same_label label l.Block) _ e)
      (either (same_label label l.EmptyStatement) _ _ (one _ (q_empty r))
      (skip (same_label label l.ExpressionStatement) _ _ (not_first (same_label label l.ExpressionStatement) _ e3)
      (either (same_label label l.LabelledStatement) _ _ (labelled_quiet x ts r p)
      (either (same_label label l.IfStatement) _ _ (if_quiet x ts r p)
      (either (same_label label l.ForStatement) _ _ (for_quiet x ts r p)
      (either (same_label label l.ForEachStatement) _ _ (for_each_quiet x ts r p)
      (either (same_label label l.ForAwaitStatement) _ _ (for_await_quiet x ts r p)
      (either (same_label label l.WhileStatement) _ _ (while_quiet x ts r p)
      (either (same_label label l.DoStatement) _ _ (do_quiet x ts r p)
      (either (same_label label l.ContinueStatement) _ _ (continue_quiet x ts r p)
      (either (same_label label l.BreakStatement) _ _ (break_quiet x ts r p)
      (skip (same_label label l.ReturnStatement) _ _ (not_first (same_label label l.ReturnStatement) _ e8)
      (either (same_label label l.ThrowStatement) _ _ (throw_quiet x ts r p)
      (either (same_label label l.SwitchStatement) _ _ (switch_quiet x ts r p)
      (either (same_label label l.TryStatement) _ _ (try_quiet x ts r p)
      (either (same_label label l.DebuggerStatement) _ _ (one _ (q_debugger r))
      (either (same_label label l.WithStatement) _ _ (with_quiet x ts r p)
      (either (same_label label l.TypedTryStatement) _ _ (typed_try_quiet x ts r p)
      (all_map (decl_of x ts label r p) vStmt.Decl q_decl)))))))))))))))))))

  none_there : (o : Option Stmt) → o ≡ None → AreQuiet o
  none_there o e = subst AreQuiet (sym e) none

  lean_none : (lean : Lean) (from : ℕ) (r : Range) (p : Value) → (build x ts (label_of lean) from r p).stmt ≡ None
  unfolding build stmt_of decl_of declarable_of
  lean_none vLean.Binary from r p = refl
  lean_none vLean.TypedBinary from r p = refl

  other_here : (w : What) (from to : ℕ) (es : List Entry) → IsNone view.statements w
      → AreQuiet (stmt_in (made x ts w from to (held x ts es) (parts_of x ts es)))
  unfolding build
  other_here vWhat.Leaf from to es e = none
  other_here (vWhat.Node label) from to es e = label_quiet (span_of ts from to) (held x ts es) label e
  other_here (vWhat.Role label) from to es e =
      none_there _ (in_role x ts (λ m. m.stmt) (λ e. refl) (part (held x ts es) 0))
  other_here vWhat.Parts from to es e = none_there _ (in_held x ts (λ m. m.stmt) es)
  other_here (vWhat.Lean lean) from to es e =
      none_there _ (in_leant x ts (λ m. m.stmt) lean_none lean from (parts_of x ts es))

-- ---- as answers
to_last : (o : Option Stmt) → AreQuiet o → Gives last_returns o None
to_last None a = record { gives = tt }
to_last (Some s) a = record { gives = a.quiet.last }

to_body : (o : Option Stmt) → AreQuiet o → Gives body_returns o None
to_body None a = record { gives = tt }
to_body (Some s) a = record { gives = a.quiet.body }

pub last_other : (x : List ℕ) (ts : List Token) (i : Item) → IsNone view.statements i.what
    → Gives last_returns (stmt_in (valued x ts i)) None
last_other x ts i e = to_last _ (other_here x ts i.what i.from i.to i.parts.entries.now e)

pub body_other : (x : List ℕ) (ts : List Token) (i : Item) → IsNone view.statements i.what
    → Gives body_returns (stmt_in (valued x ts i)) None
body_other x ts i e = to_body _ (other_here x ts i.what i.from i.to i.parts.entries.now e)

-- ---- the forms of views
module _ (x : List ℕ) (ts : List Token) (r : Range) where
  v_labelled : (t : Option Token) (body : Option Stmt) → AreQuiet (view.labelled x r t body)
  unfolding view.labelled
  v_labelled t body =
      all_given (option_map (ident_of x) t) (λ label. all_given body (λ body.
      one _ (quiet (Stmt-F.Labeled label body r) _ (vStmt.rolls-Labeled label body r) refl refl)))

  v_if : (test : Option Expr) (s : Option Stmt) (v : Value) → AreQuiet (view.if_of r test s v)
  unfolding view.if_of
  v_if test s v =
      all_given test (λ e. all_given s (λ s. all_given (optional stmt_at v) (λ t. one _ (q_if r e s t))))

  v_continue : (v : Value) → AreQuiet (view.continued x ts r v)
  unfolding view.continued
  v_continue v =
      all_map (optional (ident_at x ts) v) _ (λ label.
      quiet (Stmt-F.Continue label r) _ (vStmt.rolls-Continue label r) refl refl)

  v_break : (v : Value) → AreQuiet (view.broken x ts r v)
  unfolding view.broken
  v_break v =
      all_map (optional (ident_at x ts) v) _ (λ label.
      quiet (Stmt-F.Break label r) _ (vStmt.rolls-Break label r) refl refl)

  v_throw : (e : Option Expr) → AreQuiet (view.thrown r e)
  unfolding view.thrown
  v_throw e = all_map e _ (λ e. q_throw r e)

  v_with : (e : Option Expr) (s : Option Stmt) → AreQuiet (view.with_of r e s)
  unfolding view.with_of
  v_with e s = all_given e (λ e. all_given s (λ s. one _ (q_with r e s)))

  pub last_labelled : (t : Option Token) (body : Option Stmt) → Gives last_returns (view.labelled x r t body) None
  last_labelled t body = to_last _ (v_labelled t body)

  pub body_labelled : (t : Option Token) (body : Option Stmt) → Gives body_returns (view.labelled x r t body) None
  body_labelled t body = to_body _ (v_labelled t body)

  pub last_if : (test : Option Expr) (s : Option Stmt) (v : Value) → Gives last_returns (view.if_of r test s v) None
  last_if test s v = to_last _ (v_if test s v)

  pub body_if : (test : Option Expr) (s : Option Stmt) (v : Value) → Gives body_returns (view.if_of r test s v) None
  body_if test s v = to_body _ (v_if test s v)

  pub last_continue : (v : Value) → Gives last_returns (view.continued x ts r v) None
  last_continue v = to_last _ (v_continue v)

  pub body_continue : (v : Value) → Gives body_returns (view.continued x ts r v) None
  body_continue v = to_body _ (v_continue v)

  pub last_break : (v : Value) → Gives last_returns (view.broken x ts r v) None
  last_break v = to_last _ (v_break v)

  pub body_break : (v : Value) → Gives body_returns (view.broken x ts r v) None
  body_break v = to_body _ (v_break v)

  pub last_throw : (e : Option Expr) → Gives last_returns (view.thrown r e) None
  last_throw e = to_last _ (v_throw e)

  pub body_throw : (e : Option Expr) → Gives body_returns (view.thrown r e) None
  body_throw e = to_body _ (v_throw e)

  pub last_with : (e : Option Expr) (s : Option Stmt) → Gives last_returns (view.with_of r e s) None
  last_with e s = to_last _ (v_with e s)

  pub body_with : (e : Option Expr) (s : Option Stmt) → Gives body_returns (view.with_of r e s) None
  body_with e s = to_body _ (v_with e s)

module _ (r : Range) where
  pub last_empty : Gives last_returns (Some (vStmt.Empty r)) None
  last_empty = to_last _ (one _ (q_empty r))

  pub body_empty : Gives body_returns (Some (vStmt.Empty r)) None
  body_empty = to_body _ (one _ (q_empty r))

  pub last_debugger : Gives last_returns (Some (vStmt.Debugger r)) None
  last_debugger = to_last _ (one _ (q_debugger r))

  pub body_debugger : Gives body_returns (Some (vStmt.Debugger r)) None
  body_debugger = to_body _ (one _ (q_debugger r))

  -- ---- a block, a `return`, an expression
  stmt_is : (w : Whole Stmt-F) (s : Stmt) → roll-Stmt w ≡ s → out-Stmt s ≡ w
  stmt_is w s rolls = sym (ap out-Stmt rolls) ∙ out-roll-Stmt w

  pub last_block : (v : Value) → Gives last_returns (view.block r v) None
  unfolding view.block
  last_block v = go (stmts.stmts_of v)
    where
      go : (o : Option (List Stmt)) → Gives last_returns (option_map (λ stmts. vStmt.Block stmts r) o) None
      go None = record { gives = tt }
      go (Some all) =
          record { gives = ap (returned_last []) (stmt_is (Stmt-F.Block all r) _ (vStmt.rolls-Block all r)) }

  pub last_expression : (e : Option Expr) → Gives last_returns (view.expression r e) None
  unfolding view.expression
  last_expression None = record { gives = tt }
  last_expression (Some e) =
      record { gives = ap (returned_last []) (stmt_is (Stmt-F.Stmt::Expr e r) _ (vStmt.rolls-Expr e r)) }

  pub body_expression : (e : Option Expr) → Gives body_returns (view.expression r e) (Some e)
  unfolding view.expression
  body_expression None = record { gives = tt }
  body_expression (Some e) =
      record { gives = (ap returned_in (stmt_is (Stmt-F.Stmt::Expr e r) _ (vStmt.rolls-Expr e r)), refl) }

  pub body_return : (v : Value) → Gives body_returns (view.returned_of r v) None
  unfolding view.returned_of
  body_return v = go (stmts.returned v)
    where
      go : (o : Option (Option Expr)) → Gives body_returns (option_map (λ arg. vStmt.Return arg r) o) None
      go None = record { gives = tt }
      go (Some arg) =
          record { gives = ap returned_in (stmt_is (Stmt-F.Return arg r) _ (vStmt.rolls-Return arg r)) }

  -- what a `return` gives
  pub returns_end : (v u us : Value) → v ≡ more u us → us ≡ nil → Gives last_returns (view.returned_of r v) None
  unfolding view.returned_of
  returns_end v u us e f =
      subst (λ (w : Value). Gives last_returns (option_map (λ arg. vStmt.Return arg r) (stmts.returned w)) None) (sym e)
      (subst (λ (w : Value). Gives last_returns (option_map (λ arg. vStmt.Return arg r) (stmts.returned (more u w)))
      None) (sym f) (record {
        gives = ap (returned_last []) (stmt_is (Stmt-F.Return None r) _ (vStmt.rolls-Return None r));
      }))

  pub returns_nothing : (v : Value) → v ≡ nil → Gives last_returns (view.returned_of r v) None
  unfolding view.returned_of
  returns_nothing v e =
      subst (λ (w : Value). Gives last_returns (option_map (λ arg. vStmt.Return arg r) (stmts.returned w)) None) (sym e)
      (record { gives = tt })

  pub returns_value : (v u us w ws : Value) → v ≡ more u us → us ≡ more w ws
      → Gives last_returns (view.returned_of r v) (Some (expr_in u))
  unfolding view.returned_of
  returns_value v u us w ws e f =
      subst (λ (y : Value). Gives last_returns (option_map (λ arg. vStmt.Return arg r) (stmts.returned y))
      (Some (expr_in u))) (sym e)
      (subst (λ (y : Value). Gives last_returns (option_map (λ arg. vStmt.Return arg r) (stmts.returned (more u y)))
      (Some (expr_in u))) (sym f) (go (expr_in u)))
    where
      go : (o : Option Expr)
          → Gives last_returns (option_map (λ arg. vStmt.Return arg r) (option_map Some o)) (Some o)
      go None = record { gives = tt }
      go (Some a) = record {
        gives = (
          ap (returned_last []) (stmt_is (Stmt-F.Return (Some a) r) _ (vStmt.rolls-Return (Some a) r)),
          refl,
        );
      }

  pub block_none : (v : Value) → v ≡ nil → Gives body_returns (view.block r v) None
  unfolding view.block
  block_none v e =
      subst (λ (w : Value). Gives body_returns (option_map (λ all. vStmt.Block all r) (stmts.stmts_of w)) None) (sym e)
      (record { gives = ap returned_in (stmt_is (Stmt-F.Block [] r) _ (vStmt.rolls-Block [] r)) })

  pub block_one : (v u us : Value) (answer : Option (Option Expr)) → v ≡ more u us → us ≡ nil
      → Gives last_returns (stmt_at (as_group u) 0) answer → Gives body_returns (view.block r v) answer
  unfolding view.block
  block_one v u us answer e f told =
      subst (λ (w : Value). Gives body_returns (option_map (λ all. vStmt.Block all r) (stmts.stmts_of w)) answer)
      (sym e)
      (subst (λ (w : Value). Gives body_returns (option_map (λ all. vStmt.Block all r) (stmts.stmts_of (more u w)))
      answer) (sym f) (go (stmt_at (as_group u) 0) told))
    where
      go : (o : Option Stmt) → Gives last_returns o answer
          → Gives body_returns
          (option_map (λ all. vStmt.Block all r) (given o (λ s. given (Some []) (λ rest. Some (s ∷ rest))))) answer
      go None told = record { gives = tt }
      go (Some s) told = record {
        gives = subst (Meets answer)
            (sym (ap returned_in (stmt_is (Stmt-F.Block (s ∷ []) r) _ (vStmt.rolls-Block (s ∷ []) r)))) told.gives;
      }

  pub block_more : (v u us w ws : Value) → v ≡ more u us → us ≡ more w ws
      → Gives body_returns (view.block r v) None
  unfolding view.block
  block_more v u us w ws e f =
      subst (λ (y : Value). Gives body_returns (option_map (λ all. vStmt.Block all r) (stmts.stmts_of y)) None) (sym e)
      (subst (λ (y : Value). Gives body_returns (option_map (λ all. vStmt.Block all r) (stmts.stmts_of (more u y)))
      None) (sym f) (go (stmt_at (as_group u) 0) (stmt_at (as_group w) 0) (stmts.stmts_of ws)))
    where
      go : (o p : Option Stmt) (os : Option (List Stmt))
          → Gives body_returns
          (option_map (λ all. vStmt.Block all r)
          (given o (λ s. given (given p (λ t. given os (λ rest. Some (t ∷ rest)))) (λ rest. Some (s ∷ rest)))))
          None
      go None p os = record { gives = tt }
      go (Some s) None os = record { gives = tt }
      go (Some s) (Some t) None = record { gives = tt }
      go (Some s) (Some t) (Some rest) = record {
        gives = ap returned_in (stmt_is (Stmt-F.Block (s ∷ t ∷ rest) r) _ (vStmt.rolls-Block (s ∷ t ∷ rest) r));
      }
