-- Where declarations and statements stand: over the range that they are made with.
use Rattle.std.specs.Prelude.{Bool, true, false, Option, Some, None, option_map}
use Rattle.std.proofs.Common.{◌≡◌, ℕ, ◌+◌, min, take, length, List, [], ◌∷◌, refl, sym, ap, subst, ◌∙◌}
use Rattle.base.specs.declared.range.Range.{Range}
use Rattle.es_token.specs.declared.token.Token.{Token}
use Rattle.es_token.specs.declared.token.TokenKind.TheVariants as k
use Rattle.grammar_theory.specs.Key.{same_kind}
use Rattle.es_ast.specs.declared.ts.ts.TsPart.TheVariants as vPart
use Rattle.es_ast.specs.declared.ast.Expr.{Expr}
use Rattle.es_ast.specs.declared.ast.Decl.{Decl, roll-Decl, out-Decl, out-roll-Decl}
use Rattle.es_ast.specs.declared.ast.Decl.TheVariants as vDecl
use Rattle.es_ast.specs.declared.ast.Stmt.{Stmt, roll-Stmt, out-Stmt, out-roll-Stmt}
use Rattle.es_ast.specs.declared.ast.Stmt.TheVariants as vStmt
use Rattle.es_ast.specs.declared.ast.ClassMember.TheOpen.{Decl-F, Stmt-F}
use Rattle.es_site.specs.Parts.{Whole}
use Rattle.es_grammar.specs.declared.rows.NodeKind.{NodeKind}
use Rattle.es_grammar.specs.declared.rows.NodeKind.TheVariants as l
use Rattle.es_lowering.specs.Value.{Typed, Value, absent, nil, more, token, node, given, typed, part, group, optional}
use Rattle.es_lowering.specs.Value as v
use Rattle.es_lowering.specs.Texts as texts
use Rattle.es_lowering.specs.Operators as ops
use Rattle.es_lowering.specs.TypedParts as parts
use Rattle.es_lowering.specs.Statements as d
use Rattle.es_lowering.specs.TypedStatements as t
use Rattle.es_lowering.specs.Lowering.{build, declarable_of, decl_of, stmt_of, target_of, same_label}
use Rattle.es_syntax.specs.declared.entry.What.{What}
use Rattle.es_syntax.specs.declared.entry.What.TheVariants as vWhat
use Rattle.es_syntax.specs.declared.entry.Lean.{Lean}
use Rattle.es_syntax.specs.declared.entry.Lean.TheVariants as vLean
use Rattle.es_syntax.specs.declared.entry.Entry.{Entry}
use Rattle.es_syntax.specs.Held.{label_of, made, row_of, parts_of, held}
use Rattle.es_syntax.proofs.Rows.{held_nothing, held_some}
use Rattle.es_program.specs.items.Spans.{span_of_decl, span_of_stmt}
use Rattle.es_program.proofs.items_lemmas.Given.{Opt, given_any, map_fine, map_any, if_any}
use Rattle.es_program.proofs.items_lemmas.Nodes.{by_node, made_role}

-- it stands over this range
abbrev pub DeclAt : Range → Decl → Type 0
DeclAt r it = span_of_decl (out-Decl it) ≡ r

abbrev pub StmtAt : Range → Stmt → Type 0
StmtAt r it = span_of_stmt (out-Stmt it) ≡ r

abbrev Declares : (Bool → Range → Decl) → Type 0
Declares f = (declare : Bool) (r : Range) → DeclAt r (f declare r)

decl_is : (r : Range) (it : Decl) (w : Whole Decl-F) → roll-Decl w ≡ it → span_of_decl w ≡ r → DeclAt r it
decl_is r it w rolls e = ap span_of_decl (sym (ap out-Decl rolls) ∙ out-roll-Decl w) ∙ e

stmt_is : (r : Range) (it : Stmt) (w : Whole Stmt-F) → roll-Stmt w ≡ it → span_of_stmt w ≡ r → StmtAt r it
stmt_is r it w rolls e = ap span_of_stmt (sym (ap out-Stmt rolls) ∙ out-roll-Stmt w) ∙ e

fn_at : (declare : Bool) (it : _) (r : Range) → DeclAt r (vDecl.Fn declare it r)
fn_at declare it r = decl_is r _ (Decl-F.Decl::Fn declare it r) (vDecl.rolls-Fn declare it r) refl

class_at : (declare : Bool) (it : _) (r : Range) → DeclAt r (vDecl.Class declare it r)
class_at declare it r = decl_is r _ (Decl-F.Decl::Class declare it r) (vDecl.rolls-Class declare it r) refl

var_at : (declare : Bool) (r : Range) (it : d.Variables) → DeclAt r (vDecl.Var declare it.0 it.1 r)
var_at declare r it = decl_is r _ (Decl-F.Var declare it.0 it.1 r) (vDecl.rolls-Var declare it.0 it.1 r) refl

module _ (x : List ℕ) (ts : List Token) where
  -- ---- behind `declare` or not
  interface_at : (p : Value) → Opt Declares (t.interface x ts p)
  unfolding t.interface
  interface_at p =
      given_any Declares (texts.ident_at x ts p 0) _
      (λ id. given_any Declares (parts.params_part_at p 1) _
      (λ type_params. given_any Declares (parts.heritage_in ts (group p 2)) _ (λ extends.
      given_any Declares (option_map vPart.Members (v.turns (λ turn. v.type_member_at turn 0) (group p 3))) _
      (λ body declare r.
      decl_is r _ (Decl-F.TsInterface declare id type_params extends (Some body) r)
      (vDecl.rolls-TsInterface declare id type_params extends (Some body) r) refl))))

  alias_at : (p : Value) → Opt Declares (t.alias x ts p)
  unfolding t.alias
  alias_at p =
      given_any Declares (texts.ident_at x ts p 0) _
      (λ id. given_any Declares (parts.params_part_at p 1) _
      (λ type_params. given_any Declares (option_map vPart.TypeAnn (v.type_at p 2)) _ (λ ty declare r.
      decl_is r _ (Decl-F.TsTypeAlias declare id type_params (Some ty) r)
      (vDecl.rolls-TsTypeAlias declare id type_params (Some ty) r) refl)))

  enum_at : (p : Value) → Opt Declares (t.enum_ x ts p)
  unfolding t.enum_
  enum_at p =
      given_any Declares (texts.ident_at x ts p 1) _
      (λ id. given_any Declares (v.turns (t.enum_member ts) (group p 2)) _ (λ members declare r.
      decl_is r _ (Decl-F.TsEnum declare (v.is_there (group p 0)) id members r)
      (vDecl.rolls-TsEnum declare (v.is_there (group p 0)) id members r) refl))

  namespace_at : (p : Value) → Opt Declares (t.namespace ts p)
  unfolding t.namespace
  namespace_at p =
      given_any Declares (texts.kind_at ts p 0) _
      (λ kind. given_any Declares (v.entity_at p 1) _
      (λ id. given_any Declares (t.items_of (group p 2)) _ (λ body declare r.
      decl_is r _ (Decl-F.TsNamespace declare (same_kind kind k.ModuleWord) id body r)
      (vDecl.rolls-TsNamespace declare (same_kind kind k.ModuleWord) id body r) refl)))

  module_at : (p : Value) → Opt Declares (t.module_namespace x ts p)
  unfolding t.module_namespace
  module_at p =
      given_any Declares (texts.str_at x ts p 0) _
      (λ id. given_any Declares (t.items_of (group (group p 1) 0)) _ (λ body declare r.
      decl_is r _ (Decl-F.TsModule declare id (ops.is_kind_at ts k.OpenBrace (v.behind (part p 0))) body r)
      (vDecl.rolls-TsModule declare id (ops.is_kind_at ts k.OpenBrace (v.behind (part p 0))) body r) refl))

  global_at : (p : Value) → Opt Declares (t.global p)
  unfolding t.global
  global_at p =
      map_any Declares _ _ (λ body declare r.
      decl_is r _ (Decl-F.TsGlobal declare body r) (vDecl.rolls-TsGlobal declare body r) refl)

  declarable_at : (label : NodeKind) (r : Range) (p : Value) → Opt Declares (declarable_of x ts label r p)
  unfolding declarable_of
  declarable_at label r p =
      if_any Declares (same_label label l.TypedFunction) _ _
      (map_any Declares _ _ (λ it declare r. fn_at declare it r))
      (if_any Declares (same_label label l.TypedAsyncFunction) _ _
      (map_any Declares _ _ (λ it declare r. fn_at declare it r))
      (if_any Declares (same_label label l.TypedClass) _ _
      (map_any Declares _ _ (λ it declare r. class_at declare it r))
      (if_any Declares (same_label label l.AbstractClass) _ _
      (map_any Declares _ _ (λ it declare r. class_at declare it r))
      (if_any Declares (same_label label l.InterfaceDeclaration) _ _ (interface_at p)
      (if_any Declares (same_label label l.AliasDeclaration) _ _ (alias_at p)
      (if_any Declares (same_label label l.EnumDeclaration) _ _ (enum_at p)
      (if_any Declares (same_label label l.NamespaceDeclaration) _ _ (namespace_at p)
      (if_any Declares (same_label label l.ModuleDeclaration) _ _ (module_at p)
      (if_any Declares (same_label label l.GlobalDeclaration) _ _ (global_at p) tt)))))))))

  no_target : (e : Option Expr) → (target_of x ts e).declarable ≡ None
  no_target e = refl

  no_lean : (lean : Lean) (from to : ℕ) (p : Value)
      → (build x ts (label_of lean) from (texts.span_of ts from to) p).declarable ≡ None
  unfolding build declarable_of
  no_lean vLean.Binary from to p = refl
  no_lean vLean.TypedBinary from to p = refl

  by_node_at : (w : What) (from to : ℕ) (p : Value)
      → Opt Declares (by_node x ts (λ (m : Typed). m.declarable) no_target no_lean w from to p)
  unfolding build
  by_node_at vWhat.Leaf from to p = tt
  by_node_at (vWhat.Node label) from to p = declarable_at label (texts.span_of ts from to) p
  by_node_at (vWhat.Role label) from to p = tt
  by_node_at vWhat.Parts from to p = tt
  by_node_at (vWhat.Lean lean) from to p = tt

  part_at : (es : List Entry) → Opt Declares (v.declarable_at (held x ts es) 0)
  part_at [] = subst (λ (w : Value). Opt Declares (v.declarable_at w 0)) (sym (held_nothing x ts)) tt
  part_at (e ∷ es) =
      let inner = take (min e.size (length es)) es in
      subst (λ (w : Value). Opt Declares (v.declarable_at w 0)) (sym (held_some x ts e es))
      (subst (Opt Declares)
      (sym (made_role x ts (λ (m : Typed). m.declarable) no_target no_lean e.what e.from e.to inner))
      (by_node_at e.what e.from e.to (held x ts inner)))

  -- ---- declarations
  decl_at : (label : NodeKind) (r : Range) (es : List Entry) → Opt (DeclAt r) (decl_of x ts label r (held x ts es))
  unfolding decl_of t.declared t.declared_variables d.variable_declaration
  decl_at label r es =
      let p = held x ts es in
      if_any (DeclAt r) (same_label label l.Function) _ _ (map_any (DeclAt r) _ _ (λ it. fn_at false it r))
      (if_any (DeclAt r) (same_label label l.AsyncFunction) _ _ (map_any (DeclAt r) _ _ (λ it. fn_at false it r))
      (if_any (DeclAt r) (same_label label l.Class) _ _ (map_any (DeclAt r) _ _ (λ it. class_at false it r))
      (if_any (DeclAt r) (same_label label l.VariableDeclaration) _ _ (map_any (DeclAt r) _ _ (var_at false r))
      (if_any (DeclAt r) (same_label label l.UsingDeclaration) _ _ (map_any (DeclAt r) _ _ (var_at false r))
      (if_any (DeclAt r) (same_label label l.Variables) _ _ (map_any (DeclAt r) _ _ (var_at false r))
      (if_any (DeclAt r) (same_label label l.Using) _ _ (map_any (DeclAt r) _ _ (var_at false r))
      (if_any (DeclAt r) (same_label label l.Declared) _ _
      (map_fine Declares (DeclAt r) _ _ (part_at es) (λ f is. is true r))
      (if_any (DeclAt r) (same_label label l.DeclaredVariables) _ _ (map_any (DeclAt r) _ _ (var_at true r))
      (map_fine Declares (DeclAt r) _ _ (declarable_at label r p) (λ f is. is false r))))))))))

  -- ---- statements
  -- a parameter, a block and what may follow
  caught : (r : Range) (block : Stmt) (g : Value)
      → Opt (StmtAt r) (given (optional v.pat_at (group g 0)) (λ param.
      given (v.stmt_at g 1) (λ handler.
      given (optional v.stmt_at (group g 2)) (λ last. Some (vStmt.Try block param (Some handler) last r)))))
  caught r block g =
      given_any (StmtAt r) (optional v.pat_at (group g 0)) _
      (λ param. given_any (StmtAt r) (v.stmt_at g 1) _
      (λ handler. given_any (StmtAt r) (optional v.stmt_at (group g 2)) _ (λ last.
      stmt_is r _ (Stmt-F.Try block param (Some handler) last r) (vStmt.rolls-Try block param (Some handler) last r)
      refl)))

  typed_caught : (r : Range) (block : Stmt) (g : Value)
      → Opt (StmtAt r) (given (t.caught_in ts (group g 0)) (λ param.
      given (v.stmt_at g 1) (λ handler.
      given (optional v.stmt_at (group g 2)) (λ last. Some (vStmt.Try block param (Some handler) last r)))))
  typed_caught r block g =
      given_any (StmtAt r) (t.caught_in ts (group g 0)) _
      (λ param. given_any (StmtAt r) (v.stmt_at g 1) _
      (λ handler. given_any (StmtAt r) (optional v.stmt_at (group g 2)) _ (λ last.
      stmt_is r _ (Stmt-F.Try block param (Some handler) last r) (vStmt.rolls-Try block param (Some handler) last r)
      refl)))

  handled_at : (r : Range) (block : Stmt) (g : Value) → Opt (StmtAt r) (d.handled r block g)
  handled_at r block absent = caught r block absent
  handled_at r block nil = caught r block nil
  handled_at r block (token n) = caught r block (token n)
  handled_at r block (node from to m) = caught r block (node from to m)
  handled_at r block (more body nil) = map_any (StmtAt r) _ _ (λ last.
      stmt_is r _ (Stmt-F.Try block None None (Some last) r) (vStmt.rolls-Try block None None (Some last) r) refl)
  handled_at r block (more body absent) = caught r block (more body absent)
  handled_at r block (more body (token n)) = caught r block (more body (token n))
  handled_at r block (more body (node from to m)) = caught r block (more body (node from to m))
  handled_at r block (more body (more a b)) = caught r block (more body (more a b))

  typed_handled_at : (r : Range) (block : Stmt) (g : Value) → Opt (StmtAt r) (t.typed_handled ts r block g)
  typed_handled_at r block absent = typed_caught r block absent
  typed_handled_at r block nil = typed_caught r block nil
  typed_handled_at r block (token n) = typed_caught r block (token n)
  typed_handled_at r block (node from to m) = typed_caught r block (node from to m)
  typed_handled_at r block (more body nil) = map_any (StmtAt r) _ _ (λ last.
      stmt_is r _ (Stmt-F.Try block None None (Some last) r) (vStmt.rolls-Try block None None (Some last) r) refl)
  typed_handled_at r block (more body absent) = typed_caught r block (more body absent)
  typed_handled_at r block (more body (token n)) = typed_caught r block (more body (token n))
  typed_handled_at r block (more body (node from to m)) = typed_caught r block (more body (node from to m))
  typed_handled_at r block (more body (more a b)) = typed_caught r block (more body (more a b))

  each_at : (b : Bool) (r : Range) (head : d.Head) (right : Expr) (body : Stmt)
      → StmtAt r (d.each_of b r head right body)
  each_at true r head right body =
      stmt_is r _ (Stmt-F.ForIn head.0 head.1 right body r) (vStmt.rolls-ForIn head.0 head.1 right body r) refl
  each_at false r head right body =
      stmt_is r _ (Stmt-F.ForOf false head.0 head.1 right body r) (vStmt.rolls-ForOf false head.0 head.1 right body r)
      refl

  expression_at : (r : Range) (p : Value) → Opt (StmtAt r) (d.expression_statement r p)
  unfolding d.expression_statement
  expression_at r p =
      map_any (StmtAt r) _ _ (λ e. stmt_is r _ (Stmt-F.Stmt::Expr e r) (vStmt.rolls-Expr e r) refl)

  labelled_at : (r : Range) (p : Value) → Opt (StmtAt r) (d.labelled x ts r p)
  unfolding d.labelled
  labelled_at r p =
      given_any (StmtAt r) (texts.ident_at x ts p 0) _ (λ label. given_any (StmtAt r) (v.stmt_at p 1) _ (λ body.
      stmt_is r _ (Stmt-F.Labeled label body r) (vStmt.rolls-Labeled label body r) refl))

  if_at : (r : Range) (p : Value) → Opt (StmtAt r) (d.if_ r p)
  unfolding d.if_
  if_at r p =
      given_any (StmtAt r) (v.expr_at p 0) _
      (λ test. given_any (StmtAt r) (v.stmt_at p 1) _
      (λ yes. given_any (StmtAt r) (optional v.stmt_at (group p 2)) _ (λ no.
      stmt_is r _ (Stmt-F.If test yes no r) (vStmt.rolls-If test yes no r) refl)))

  for_at : (r : Range) (p : Value) → Opt (StmtAt r) (d.for_ ts r p)
  unfolding d.for_
  for_at r p =
      given_any (StmtAt r) (d.start_of_for ts p) _
      (λ init. given_any (StmtAt r) (optional v.expr_at (group p 3)) _
      (λ test. given_any (StmtAt r) (optional v.expr_at (group p 4)) _ (λ update.
      given_any (StmtAt r) (v.stmt_at p 5) _ (λ body.
      stmt_is r _ (Stmt-F.For init test update body r) (vStmt.rolls-For init test update body r) refl))))

  for_each_at : (r : Range) (p : Value) → Opt (StmtAt r) (d.for_each ts r p)
  unfolding d.for_each
  for_each_at r p =
      given_any (StmtAt r) (v.head_at p 0) _
      (λ head. given_any (StmtAt r) (texts.kind_at ts (group p 1) 0) _
      (λ kind. given_any (StmtAt r) (v.expr_at (group p 1) 1) _ (λ right.
      given_any (StmtAt r) (v.stmt_at p 2) _ (λ body. each_at (same_kind kind k.InWord) r head right body))))

  for_await_at : (r : Range) (p : Value) → Opt (StmtAt r) (d.for_await r p)
  unfolding d.for_await
  for_await_at r p =
      given_any (StmtAt r) (v.head_at p 0) _
      (λ head. given_any (StmtAt r) (v.expr_at p 1) _ (λ right. given_any (StmtAt r) (v.stmt_at p 2) _ (λ body.
      stmt_is r _ (Stmt-F.ForOf true head.0 head.1 right body r)
      (vStmt.rolls-ForOf true head.0 head.1 right body r) refl)))

  while_at : (r : Range) (p : Value) → Opt (StmtAt r) (d.while_ r p)
  unfolding d.while_
  while_at r p =
      given_any (StmtAt r) (v.expr_at p 0) _ (λ test. given_any (StmtAt r) (v.stmt_at p 1) _ (λ body.
      stmt_is r _ (Stmt-F.While test body r) (vStmt.rolls-While test body r) refl))

  do_at : (r : Range) (p : Value) → Opt (StmtAt r) (d.do_ r p)
  unfolding d.do_
  do_at r p =
      given_any (StmtAt r) (v.stmt_at p 0) _ (λ body. given_any (StmtAt r) (v.expr_at p 1) _ (λ test.
      stmt_is r _ (Stmt-F.DoWhile body test r) (vStmt.rolls-DoWhile body test r) refl))

  continue_at : (r : Range) (p : Value) → Opt (StmtAt r) (d.continue_ x ts r p)
  unfolding d.continue_
  continue_at r p =
      map_any (StmtAt r) _ _ (λ label. stmt_is r _ (Stmt-F.Continue label r) (vStmt.rolls-Continue label r) refl)

  break_at : (r : Range) (p : Value) → Opt (StmtAt r) (d.break_ x ts r p)
  unfolding d.break_
  break_at r p =
      map_any (StmtAt r) _ _ (λ label. stmt_is r _ (Stmt-F.Break label r) (vStmt.rolls-Break label r) refl)

  return_at : (r : Range) (p : Value) → Opt (StmtAt r) (d.return_ r p)
  unfolding d.return_
  return_at r p =
      map_any (StmtAt r) _ _ (λ arg. stmt_is r _ (Stmt-F.Return arg r) (vStmt.rolls-Return arg r) refl)

  throw_at : (r : Range) (p : Value) → Opt (StmtAt r) (d.throw_ r p)
  unfolding d.throw_
  throw_at r p =
      map_any (StmtAt r) _ _ (λ arg. stmt_is r _ (Stmt-F.Throw arg r) (vStmt.rolls-Throw arg r) refl)

  switch_at : (r : Range) (p : Value) → Opt (StmtAt r) (d.switch_ ts r p)
  unfolding d.switch_
  switch_at r p =
      given_any (StmtAt r) (v.expr_at p 0) _
      (λ tested. given_any (StmtAt r) (d.clauses ts (v.behind (part p 0) + 2) (group p 1)) _ (λ cases.
      stmt_is r _ (Stmt-F.Switch tested cases r) (vStmt.rolls-Switch tested cases r) refl))

  try_at : (r : Range) (p : Value) → Opt (StmtAt r) (d.try_ r p)
  unfolding d.try_
  try_at r p =
      given_any (StmtAt r) (v.stmt_at p 0) _ (λ block. handled_at r block (group p 1))

  typed_try_at : (r : Range) (p : Value) → Opt (StmtAt r) (t.typed_try ts r p)
  unfolding t.typed_try
  typed_try_at r p =
      given_any (StmtAt r) (v.stmt_at p 0) _ (λ block. typed_handled_at r block (group p 1))

  with_at : (r : Range) (p : Value) → Opt (StmtAt r) (d.with_ r p)
  unfolding d.with_
  with_at r p =
      given_any (StmtAt r) (v.expr_at p 0) _ (λ obj. given_any (StmtAt r) (v.stmt_at p 1) _ (λ body.
      stmt_is r _ (Stmt-F.With obj body r) (vStmt.rolls-With obj body r) refl))

  pub stmt_at : (label : NodeKind) (r : Range) (es : List Entry) → Opt (StmtAt r) (stmt_of x ts label r (held x ts es))
  unfolding stmt_of
  stmt_at label r es =
      let p = held x ts es in
      if_any (StmtAt r) (same_label label l.Block) _ _
      (map_any (StmtAt r) _ _ (λ stmts. stmt_is r _ (Stmt-F.Block stmts r) (vStmt.rolls-Block stmts r) refl))
      (if_any (StmtAt r) (same_label label l.EmptyStatement) _ _
      (stmt_is r _ (Stmt-F.Stmt::Empty r) (vStmt.rolls-Empty r) refl)
      (if_any (StmtAt r) (same_label label l.ExpressionStatement) _ _ (expression_at r p)
      (if_any (StmtAt r) (same_label label l.LabelledStatement) _ _ (labelled_at r p)
      (if_any (StmtAt r) (same_label label l.IfStatement) _ _ (if_at r p)
      (if_any (StmtAt r) (same_label label l.ForStatement) _ _ (for_at r p)
      (if_any (StmtAt r) (same_label label l.ForEachStatement) _ _ (for_each_at r p)
      (if_any (StmtAt r) (same_label label l.ForAwaitStatement) _ _ (for_await_at r p)
      (if_any (StmtAt r) (same_label label l.WhileStatement) _ _ (while_at r p)
      (if_any (StmtAt r) (same_label label l.DoStatement) _ _ (do_at r p)
      (if_any (StmtAt r) (same_label label l.ContinueStatement) _ _ (continue_at r p)
      (if_any (StmtAt r) (same_label label l.BreakStatement) _ _ (break_at r p)
      (if_any (StmtAt r) (same_label label l.ReturnStatement) _ _ (return_at r p)
      (if_any (StmtAt r) (same_label label l.ThrowStatement) _ _ (throw_at r p)
      (if_any (StmtAt r) (same_label label l.SwitchStatement) _ _ (switch_at r p)
      (if_any (StmtAt r) (same_label label l.TryStatement) _ _ (try_at r p)
      (if_any (StmtAt r) (same_label label l.DebuggerStatement) _ _
      (stmt_is r _ (Stmt-F.Debugger r) (vStmt.rolls-Debugger r) refl)
      (if_any (StmtAt r) (same_label label l.WithStatement) _ _ (with_at r p)
      (if_any (StmtAt r) (same_label label l.TypedTryStatement) _ _ (typed_try_at r p)
      (map_fine (DeclAt r) (StmtAt r) _ _ (decl_at label r es) (λ it is.
      stmt_is r _ (Stmt-F.Decl it) (vStmt.rolls-Decl it) is))))))))))))))))))))
