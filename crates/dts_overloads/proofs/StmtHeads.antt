-- Statements and items in lists.
use Rattle.std.specs.Prelude.{ℕ, ◌+◌, Bool, true, false, List, [], ◌∷◌, Option, Some, None, option_map}
use Rattle.std.proofs.Common.{◌≡◌, refl, sym, ap, subst, ◌∙◌}
use Rattle.std.proofs.lemmas.Bool.{true≢false}
use Rattle.std.specs.Prelude.{◌≢◌}
use Rattle.base.specs.declared.range.Range.{Range}
use Rattle.es_token.specs.declared.token.Token.{Token}
use Rattle.es_token.specs.declared.token.TokenKind.TheVariants as k
use Rattle.grammar_theory.specs.Key.{same_kind}
use Rattle.es_expr_spans.proofs.Given.{Of, one, none, of_given, of_mapped}
use Rattle.es_grammar.specs.declared.rows.NodeKind.{NodeKind}
use Rattle.es_grammar.specs.declared.rows.NodeKind.TheVariants as l
use Rattle.es_ast.specs.declared.leaf.ImportPhase.{ImportPhase}
use Rattle.es_ast.specs.declared.leaf.ImportPhase.TheVariants as vPhase
use Rattle.es_ast.specs.declared.ts.leaf.Ident.{Ident}
use Rattle.es_ast.specs.declared.leaf.ImportDecl.{ImportDecl}
use Rattle.es_ast.specs.declared.leaf.ExportAll.{ExportAll}
use Rattle.es_ast.specs.declared.leaf.NamedExport.{NamedExport}
use Rattle.es_ast.specs.declared.leaf.TsImportEqualsDecl.{TsImportEqualsDecl}
use Rattle.es_ast.specs.declared.leaf.TsNamespaceExportDecl.{TsNamespaceExportDecl}
use Rattle.es_ast.specs.declared.leaf.VarDeclKind.{VarDeclKind}
use Rattle.es_ast.specs.declared.ast.SwitchCase.{SwitchCase}
use Rattle.es_ast.specs.declared.ast.Decl.{Decl}
use Rattle.es_ast.specs.declared.ast.Expr.{Expr}
use Rattle.es_ast.specs.declared.ast.Pat.{Pat}
use Rattle.es_ast.specs.declared.ast.ModuleDecl.{ModuleDecl, roll-ModuleDecl}
use Rattle.es_ast.specs.declared.ast.ModuleDecl.TheVariants as vModuleDecl
use Rattle.es_ast.specs.declared.ast.ModuleItem.{ModuleItem}
use Rattle.es_ast.specs.declared.ast.ModuleItem.TheVariants as vItem
use Rattle.es_ast.specs.declared.ast.Stmt.{Stmt, roll-Stmt}
use Rattle.es_ast.specs.declared.ast.Stmt.TheVariants as vStmt
use Rattle.es_ast.specs.declared.ast.ClassMember.TheOpen.{ModuleDecl-F, ModuleItem-F, Stmt-F}
use Rattle.es_site.specs.Parts.{Whole}
use Rattle.es_lowering.specs.Value.{Value, absent, nil, more, token, node, given, part, group, optional, behind, expr_at, pat_at, stmt_at, decl_at, head_at, turns, attributes_at, clause_at, entity_at, export_specifier_at}
use Rattle.es_lowering.specs.Texts.{span_of, kind_at, ident_at, str_at, name_at}
use Rattle.es_lowering.specs.Statements as stmts
use Rattle.es_lowering.specs.TypedStatements as typed_stmts
use Rattle.es_lowering.specs.Modules as modules
use Rattle.es_lowering.specs.Lowering.{same_label, build, stmt_of, decl_of, declarable_of, module_decl_of, item_by}
use Rattle.es_syntax.specs.declared.entry.Entry.{Entry}
use Rattle.es_syntax.specs.declared.entry.What.{What}
use Rattle.es_syntax.specs.declared.entry.What.TheVariants as what
use Rattle.es_syntax.specs.declared.cursor.Item.{Item}
use Rattle.es_syntax.specs.Held.{held, made, parts_of, valued}
use Rattle.es_syntax.specs.Roles.{decl_in, stmt_in, item_in}
use Rattle.es_syntax.specs.Views.{is_one_of}
use Rattle.es_view_statements.specs.decl.Decl.{declarations}
use Rattle.dts_rules.specs.Ranges.{Head, Listed, SeenDecl, in_stmt, in_module_decl, decl_head, seen_decl, listed_stmt, listed_item, listed_module_decl}
use Rattle.dts_rules.proofs.Listed.{of_listed_stmt, of_listed_module_decl, at_listed_stmt, at_listed_item, at_listed_module_decl}
use Rattle.dts_overloads.specs.declared.heads.Head.{Head as AHead}
use Rattle.dts_overloads.specs.Among.{stmt_head, item_head}
use Rattle.dts_overloads.specs.Heads.{heads_of, HeadsDecl, HeadsStmt, HeadsItem, exported}

-- ---- a declaration as a statement and as an item
decl_stmt : (d : Decl) → stmt_head (vStmt.Decl d) ≡ decl_head (seen_decl d).function (seen_decl d).span
decl_stmt d =
    ap (λ (s : Listed). s.head) (ap listed_stmt (sym (vStmt.rolls-Decl d)) ∙ at_listed_stmt (Stmt-F.Decl d))

stmt_item : (s : Stmt) → item_head (vItem.Stmt s) ≡ stmt_head s
stmt_item s =
    ap (λ (s : Listed). s.head) (ap listed_item (sym (vItem.rolls-Stmt s)) ∙ at_listed_item (ModuleItem-F.Stmt s))

decl_item : (d : ModuleDecl) → item_head (vItem.ModuleDecl d) ≡ (listed_module_decl d).head
decl_item d =
    ap (λ (s : Listed). s.head)
    (ap listed_item (sym (vItem.rolls-ModuleDecl d)) ∙ at_listed_item (ModuleItem-F.ModuleDecl d))

export_decl : (d : Decl) (r : Range)
    → (listed_module_decl (vModuleDecl.ExportDecl d r)).head ≡ decl_head (seen_decl d).function r
export_decl d r =
    ap (λ (s : Listed). s.head)
    (ap listed_module_decl (sym (vModuleDecl.rolls-ExportDecl d r))
    ∙ at_listed_module_decl (ModuleDecl-F.ExportDecl d r))

export_default : (d : Decl) (r : Range)
    → (listed_module_decl (vModuleDecl.ExportDefaultDecl d r)).head ≡ decl_head (seen_decl d).function r
export_default d r =
    ap (λ (s : Listed). s.head)
    (ap listed_module_decl (sym (vModuleDecl.rolls-ExportDefaultDecl d r))
    ∙ at_listed_module_decl (ModuleDecl-F.ExportDefaultDecl d r))

-- with its own range
own_head : (head : Option AHead) (r : Range) (d : Decl) → decl_head (seen_decl d).function r ≡ heads_of head
    → (seen_decl d).span ≡ r → stmt_head (vStmt.Decl d) ≡ heads_of head
own_head head r d e f = decl_stmt d ∙ ap (decl_head (seen_decl d).function) f ∙ e

declared_stmt : (head : Option AHead) (r : Range) (o : Option Decl) → HeadsDecl head r r o
    → HeadsStmt head (option_map vStmt.Decl o)
declared_stmt head r None h = record { heads = tt }
declared_stmt head r (Some d) h = record { heads = own_head head r d h.heads.0 h.heads.1 }

declared_item : (head : Option AHead) (r : Range) (o : Option Decl) → HeadsDecl head r r o
    → HeadsItem head (option_map vItem.Stmt (option_map vStmt.Decl o))
declared_item head r None h = record { heads = tt }
declared_item head r (Some d) h = record {
  heads = stmt_item (vStmt.Decl d) ∙ own_head head r d h.heads.0 h.heads.1;
}

-- ---- statements that are no declarations
abbrev NoHead : Stmt → Type 0
NoHead it = stmt_head it ≡ None

no_is : (w : Whole Stmt-F) (it : Stmt) → roll-Stmt w ≡ it → (in_stmt (of_listed_stmt w)).head ≡ None → NoHead it
no_is w it rolls e =
    ap (λ (s : Stmt). stmt_head s) (sym rolls) ∙ ap (λ (s : Listed). s.head) (at_listed_stmt w) ∙ e

is_Block : (stmts : List Stmt) (r : Range) → NoHead (vStmt.Block stmts r)
is_Block stmts r = no_is (Stmt-F.Block stmts r) _ (vStmt.rolls-Block stmts r) refl

is_Empty : (r : Range) → NoHead (vStmt.Empty r)
is_Empty r = no_is (Stmt-F.Stmt::Empty r) _ (vStmt.rolls-Empty r) refl

is_Debugger : (r : Range) → NoHead (vStmt.Debugger r)
is_Debugger r = no_is (Stmt-F.Debugger r) _ (vStmt.rolls-Debugger r) refl

is_With : (obj : Expr) (body : Stmt) (r : Range) → NoHead (vStmt.With obj body r)
is_With obj body r = no_is (Stmt-F.With obj body r) _ (vStmt.rolls-With obj body r) refl

is_Return : (arg : Option Expr) (r : Range) → NoHead (vStmt.Return arg r)
is_Return arg r = no_is (Stmt-F.Return arg r) _ (vStmt.rolls-Return arg r) refl

is_Labeled : (label : Ident) (body : Stmt) (r : Range) → NoHead (vStmt.Labeled label body r)
is_Labeled label body r = no_is (Stmt-F.Labeled label body r) _ (vStmt.rolls-Labeled label body r) refl

is_Break : (label : Option Ident) (r : Range) → NoHead (vStmt.Break label r)
is_Break label r = no_is (Stmt-F.Break label r) _ (vStmt.rolls-Break label r) refl

is_Continue : (label : Option Ident) (r : Range) → NoHead (vStmt.Continue label r)
is_Continue label r = no_is (Stmt-F.Continue label r) _ (vStmt.rolls-Continue label r) refl

is_If : (test : Expr) (cons : Stmt) (alt : Option Stmt) (r : Range) → NoHead (vStmt.If test cons alt r)
is_If test cons alt r = no_is (Stmt-F.If test cons alt r) _ (vStmt.rolls-If test cons alt r) refl

is_Switch : (on : Expr) (cases : List SwitchCase) (r : Range) → NoHead (vStmt.Switch on cases r)
is_Switch on cases r = no_is (Stmt-F.Switch on cases r) _ (vStmt.rolls-Switch on cases r) refl

is_Throw : (arg : Expr) (r : Range) → NoHead (vStmt.Throw arg r)
is_Throw arg r = no_is (Stmt-F.Throw arg r) _ (vStmt.rolls-Throw arg r) refl

is_Try : (body : Stmt) (param : Option Pat) (handler : Option Stmt) (finalizer : Option Stmt) (r : Range)
    → NoHead (vStmt.Try body param handler finalizer r)
is_Try body param handler finalizer r =
    no_is (Stmt-F.Try body param handler finalizer r) _ (vStmt.rolls-Try body param handler finalizer r)
    refl

is_While : (test : Expr) (body : Stmt) (r : Range) → NoHead (vStmt.While test body r)
is_While test body r = no_is (Stmt-F.While test body r) _ (vStmt.rolls-While test body r) refl

is_DoWhile : (body : Stmt) (test : Expr) (r : Range) → NoHead (vStmt.DoWhile body test r)
is_DoWhile body test r = no_is (Stmt-F.DoWhile body test r) _ (vStmt.rolls-DoWhile body test r) refl

is_For : (init : Option Stmt) (test : Option Expr) (update : Option Expr) (body : Stmt) (r : Range)
    → NoHead (vStmt.For init test update body r)
is_For init test update body r =
    no_is (Stmt-F.For init test update body r) _ (vStmt.rolls-For init test update body r) refl

is_ForIn : (kind : Option VarDeclKind) (left : Pat) (right : Expr) (body : Stmt) (r : Range)
    → NoHead (vStmt.ForIn kind left right body r)
is_ForIn kind left right body r =
    no_is (Stmt-F.ForIn kind left right body r) _ (vStmt.rolls-ForIn kind left right body r) refl

is_ForOf : (is_await : Bool) (kind : Option VarDeclKind) (left : Pat) (right : Expr) (body : Stmt) (r : Range)
    → NoHead (vStmt.ForOf is_await kind left right body r)
is_ForOf is_await kind left right body r =
    no_is (Stmt-F.ForOf is_await kind left right body r) _
    (vStmt.rolls-ForOf is_await kind left right body r) refl

is_Expr : (e : Expr) (r : Range) → NoHead (vStmt.Expr e r)
is_Expr e r = no_is (Stmt-F.Stmt::Expr e r) _ (vStmt.rolls-Expr e r) refl

module _ (x : List ℕ) (ts : List Token) (r : Range) where
  block : (p : Value) → Of NoHead (option_map (λ stmts. vStmt.Block stmts r) (stmts.block p))
  block p = of_mapped NoHead (stmts.block p) (λ all. is_Block all r)

  expression : (p : Value) → Of NoHead (stmts.expression_statement r p)
  unfolding stmts.expression_statement
  expression p = of_mapped NoHead (expr_at p 0) (λ e. is_Expr e r)

  labelled : (p : Value) → Of NoHead (stmts.labelled x ts r p)
  unfolding stmts.labelled
  labelled p =
      of_given NoHead (ident_at x ts p 0)
      (λ label. of_given NoHead (stmt_at p 1) (λ body. one NoHead (is_Labeled label body r)))

  if_ : (p : Value) → Of NoHead (stmts.if_ r p)
  unfolding stmts.if_
  if_ p =
      of_given NoHead (expr_at p 0) (λ test.
      of_given NoHead (stmt_at p 1) (λ cons.
      of_given NoHead (optional stmt_at (group p 2)) (λ alt. one NoHead (is_If test cons alt r))))

  for_ : (p : Value) → Of NoHead (stmts.for_ ts r p)
  unfolding stmts.for_
  for_ p =
      of_given NoHead (stmts.start_of_for ts p) (λ init.
      of_given NoHead (optional expr_at (group p 3)) (λ test.
      of_given NoHead (optional expr_at (group p 4)) (λ update.
      of_given NoHead (stmt_at p 5) (λ body. one NoHead (is_For init test update body r)))))

  each : (b : Bool) (head : stmts.Head) (right : Expr) (body : Stmt) → NoHead (stmts.each_of b r head right body)
  each true head right body = is_ForIn head.0 head.1 right body r
  each false head right body = is_ForOf false head.0 head.1 right body r

  for_each : (p : Value) → Of NoHead (stmts.for_each ts r p)
  unfolding stmts.for_each
  for_each p =
      of_given NoHead (head_at p 0) (λ head.
      of_given NoHead (kind_at ts (group p 1) 0) (λ kind.
      of_given NoHead (expr_at (group p 1) 1) (λ right.
      of_given NoHead (stmt_at p 2) (λ body. one NoHead (each (same_kind kind k.InWord) head right body)))))

  for_await : (p : Value) → Of NoHead (stmts.for_await r p)
  unfolding stmts.for_await
  for_await p =
      of_given NoHead (head_at p 0) (λ head.
      of_given NoHead (expr_at p 1) (λ right.
      of_given NoHead (stmt_at p 2) (λ body. one NoHead (is_ForOf true head.0 head.1 right body r))))

  while_ : (p : Value) → Of NoHead (stmts.while_ r p)
  unfolding stmts.while_
  while_ p = of_given NoHead (expr_at p 0)
      (λ test. of_given NoHead (stmt_at p 1) (λ body. one NoHead (is_While test body r)))

  do_ : (p : Value) → Of NoHead (stmts.do_ r p)
  unfolding stmts.do_
  do_ p = of_given NoHead (stmt_at p 0)
      (λ body. of_given NoHead (expr_at p 1) (λ test. one NoHead (is_DoWhile body test r)))

  continue_ : (p : Value) → Of NoHead (stmts.continue_ x ts r p)
  unfolding stmts.continue_
  continue_ p = of_mapped NoHead (optional (ident_at x ts) (group p 0)) (λ label. is_Continue label r)

  break_ : (p : Value) → Of NoHead (stmts.break_ x ts r p)
  unfolding stmts.break_
  break_ p = of_mapped NoHead (optional (ident_at x ts) (group p 0)) (λ label. is_Break label r)

  return_ : (p : Value) → Of NoHead (stmts.return_ r p)
  unfolding stmts.return_
  return_ p = of_mapped NoHead (stmts.returned (group p 0)) (λ arg. is_Return arg r)

  throw_ : (p : Value) → Of NoHead (stmts.throw_ r p)
  unfolding stmts.throw_
  throw_ p = of_mapped NoHead (expr_at p 0) (λ arg. is_Throw arg r)

  switch_ : (p : Value) → Of NoHead (stmts.switch_ ts r p)
  unfolding stmts.switch_
  switch_ p =
      of_given NoHead (expr_at p 0) (λ on.
      of_given NoHead (stmts.clauses ts (behind (part p 0) + 2) (group p 1))
      (λ cases. one NoHead (is_Switch on cases r)))

  with_ : (p : Value) → Of NoHead (stmts.with_ r p)
  unfolding stmts.with_
  with_ p = of_given NoHead (expr_at p 0)
      (λ obj. of_given NoHead (stmt_at p 1) (λ body. one NoHead (is_With obj body r)))

  handled_rest : (block : Stmt) (v : Value) → Of NoHead (given (optional pat_at (group v 0)) (λ param.
      given (stmt_at v 1) (λ handler.
      given (optional stmt_at (group v 2)) (λ finalizer. Some (vStmt.Try block param (Some handler) finalizer r)))))
  handled_rest block v =
      of_given NoHead (optional pat_at (group v 0)) (λ param.
      of_given NoHead (stmt_at v 1) (λ handler.
      of_given NoHead (optional stmt_at (group v 2))
      (λ finalizer. one NoHead (is_Try block param (Some handler) finalizer r))))

  handled : (block : Stmt) (v : Value) → Of NoHead (stmts.handled r block v)
  handled block (more body nil) =
      of_mapped NoHead (stmt_at (more body nil) 0) (λ finalizer. is_Try block None None (Some finalizer) r)
  handled block (more body absent) = handled_rest block (more body absent)
  handled block (more body (more w ws)) = handled_rest block (more body (more w ws))
  handled block (more body (token n)) = handled_rest block (more body (token n))
  handled block (more body (node from to m)) = handled_rest block (more body (node from to m))
  handled block absent = handled_rest block absent
  handled block nil = handled_rest block nil
  handled block (token n) = handled_rest block (token n)
  handled block (node from to m) = handled_rest block (node from to m)

  typed_handled_rest : (block : Stmt) (v : Value) → Of NoHead (given (typed_stmts.caught_in ts (group v 0)) (λ param.
      given (stmt_at v 1) (λ handler.
      given (optional stmt_at (group v 2)) (λ finalizer. Some (vStmt.Try block param (Some handler) finalizer r)))))
  typed_handled_rest block v =
      of_given NoHead (typed_stmts.caught_in ts (group v 0)) (λ param.
      of_given NoHead (stmt_at v 1) (λ handler.
      of_given NoHead (optional stmt_at (group v 2))
      (λ finalizer. one NoHead (is_Try block param (Some handler) finalizer r))))

  typed_handled : (block : Stmt) (v : Value) → Of NoHead (typed_stmts.typed_handled ts r block v)
  typed_handled block (more body nil) =
      of_mapped NoHead (stmt_at (more body nil) 0) (λ finalizer. is_Try block None None (Some finalizer) r)
  typed_handled block (more body absent) = typed_handled_rest block (more body absent)
  typed_handled block (more body (more w ws)) = typed_handled_rest block (more body (more w ws))
  typed_handled block (more body (token n)) = typed_handled_rest block (more body (token n))
  typed_handled block (more body (node from to m)) = typed_handled_rest block (more body (node from to m))
  typed_handled block absent = typed_handled_rest block absent
  typed_handled block nil = typed_handled_rest block nil
  typed_handled block (token n) = typed_handled_rest block (token n)
  typed_handled block (node from to m) = typed_handled_rest block (node from to m)

  try_ : (p : Value) → Of NoHead (stmts.try_ r p)
  unfolding stmts.try_
  try_ p = of_given NoHead (stmt_at p 0) (λ body. handled body (group p 1))

  typed_try : (p : Value) → Of NoHead (typed_stmts.typed_try ts r p)
  unfolding typed_stmts.typed_try
  typed_try p = of_given NoHead (stmt_at p 0) (λ body. typed_handled body (group p 1))

-- ---- exports and imports that hold no declaration
abbrev NoModule : ModuleDecl → Type 0
NoModule it = (listed_module_decl it).head ≡ None

no_module : (w : Whole ModuleDecl-F) (it : ModuleDecl) → roll-ModuleDecl w ≡ it
    → (in_module_decl (of_listed_module_decl w)).head ≡ None → NoModule it
no_module w it rolls e =
    ap (λ (s : ModuleDecl). (listed_module_decl s).head) (sym rolls)
    ∙ ap (λ (s : Listed). s.head) (at_listed_module_decl w) ∙ e

module _ (x : List ℕ) (ts : List Token) (r : Range) (p : Value) where
  import_is : (it : ImportDecl) → NoModule (vModuleDecl.Import it)
  import_is it = no_module (ModuleDecl-F.Import it) _ (vModuleDecl.rolls-Import it) refl

  equals_is : (it : TsImportEqualsDecl) → NoModule (vModuleDecl.TsImportEquals it)
  equals_is it = no_module (ModuleDecl-F.TsImportEquals it) _ (vModuleDecl.rolls-TsImportEquals it) refl

  all_is : (it : ExportAll) → NoModule (vModuleDecl.ExportAll it)
  all_is it = no_module (ModuleDecl-F.ExportAll it) _ (vModuleDecl.rolls-ExportAll it) refl

  names_is : (it : NamedExport) → NoModule (vModuleDecl.ExportNamed it)
  names_is it = no_module (ModuleDecl-F.ExportNamed it) _ (vModuleDecl.rolls-ExportNamed it) refl

  namespace_is : (it : TsNamespaceExportDecl) → NoModule (vModuleDecl.TsNamespaceExport it)
  namespace_is it = no_module (ModuleDecl-F.TsNamespaceExport it) _ (vModuleDecl.rolls-TsNamespaceExport it) refl

  expr_is : (e : Expr) → NoModule (vModuleDecl.ExportDefaultExpr e r)
  expr_is e = no_module (ModuleDecl-F.ExportDefaultExpr e r) _ (vModuleDecl.rolls-ExportDefaultExpr e r) refl

  assignment_is : (e : Expr) → NoModule (vModuleDecl.TsExportAssignment e r)
  assignment_is e = no_module (ModuleDecl-F.TsExportAssignment e r) _ (vModuleDecl.rolls-TsExportAssignment e r) refl

  bare : Of NoModule (modules.bare_import x ts r p)
  unfolding modules.bare_import
  bare =
      of_given NoModule (str_at x ts p 0) (λ src.
      of_given NoModule (optional attributes_at (group p 1)) (λ with. one NoModule (import_is _)))

  from_ : Of NoModule (modules.from_import x ts r p)
  unfolding modules.from_import
  from_ =
      of_given NoModule (clause_at p 1) (λ clause.
      of_given NoModule (str_at x ts p 2) (λ src.
      of_given NoModule (optional attributes_at (group p 3)) (λ with. one NoModule (import_is _))))

  phased : (phase : ImportPhase) → Of NoModule (modules.phase_import x ts phase r p)
  unfolding modules.phase_import
  phased phase =
      of_given NoModule (ident_at x ts p 0) (λ local.
      of_given NoModule (str_at x ts p 1) (λ src.
      of_given NoModule (optional attributes_at (group p 2)) (λ with. one NoModule (import_is _))))

  required : (is_export : Bool) → Of NoModule (modules.require_import x ts is_export r p)
  unfolding modules.require_import
  required is_export =
      of_given NoModule (ident_at x ts p 1) (λ id. of_given NoModule (str_at x ts p 2) (λ src. one NoModule (equals_is _)))

  entity : (is_export : Bool) → Of NoModule (modules.entity_import x ts is_export r p)
  unfolding modules.entity_import
  entity is_export =
      of_given NoModule (ident_at x ts p 1) (λ id. of_given NoModule (entity_at p 2) (λ name. one NoModule (equals_is _)))

  export_all : Of NoModule (modules.export_all x ts r p)
  unfolding modules.export_all
  export_all =
      of_given NoModule (optional (λ g n. name_at x ts (group g n) 0) (group p 1)) (λ exported.
      of_given NoModule (str_at x ts p 2) (λ src.
      of_given NoModule (optional attributes_at (group p 3)) (λ with. one NoModule (all_is _))))

  export_names : Of NoModule (modules.export_names x ts r p)
  unfolding modules.export_names
  export_names =
      of_given NoModule (turns (λ turn. export_specifier_at turn 0) (group p 1)) (λ specifiers.
      of_given NoModule (optional (modules.source_with x ts) (group p 2)) (λ source. one NoModule (names_is _)))

  export_namespace : Of NoModule (modules.export_namespace x ts r p)
  unfolding modules.export_namespace
  export_namespace = of_mapped NoModule (ident_at x ts p 0) (λ id. namespace_is _)

  export_expression : Of NoModule (modules.export_default_expression r p)
  unfolding modules.export_default_expression
  export_expression = of_mapped NoModule (expr_at p 0) (λ e. expr_is e)

  export_assignment : Of NoModule (typed_stmts.export_assignment r p)
  unfolding typed_stmts.export_assignment
  export_assignment = of_mapped NoModule (expr_at p 0) (λ e. assignment_is e)

  -- ---- by the alternative
  module_law : (label : NodeKind) → is_one_of exported label ≡ false → Of NoModule (module_decl_of x ts label r p)
  unfolding module_decl_of
  module_law l.BareImport h = bare
  module_law l.FromImport h = from_
  module_law l.SourceImport h = phased vPhase.Source
  module_law l.DeferImport h = phased vPhase.Defer
  module_law l.RequireImport h = required false
  module_law l.EntityImport h = entity false
  module_law l.ExportedRequireImport h = required true
  module_law l.ExportedEntityImport h = entity true
  module_law l.ExportAll h = export_all
  module_law l.ExportNames h = export_names
  module_law l.ExportNamespace h = export_namespace
  module_law l.ExportDefaultFunction h = absurd (true≢false h)
  module_law l.ExportDefaultClass h = absurd (true≢false h)
  module_law l.ExportDefaultExpression h = export_expression
  module_law l.ExportDeclaration h = absurd (true≢false h)
  module_law l.ExportDefaultInterface h = absurd (true≢false h)
  module_law l.ExportAssignment h = export_assignment
  module_law _ h = none NoModule

  stmt_law : (label : NodeKind) → is_one_of declarations label ≡ false → Of NoHead (stmt_of x ts label r p)
  unfolding stmt_of decl_of declarable_of
  stmt_law l.Block h = block x ts r p
  stmt_law l.EmptyStatement h = one NoHead (is_Empty r)
  stmt_law l.ExpressionStatement h = expression x ts r p
  stmt_law l.LabelledStatement h = labelled x ts r p
  stmt_law l.IfStatement h = if_ x ts r p
  stmt_law l.ForStatement h = for_ x ts r p
  stmt_law l.ForEachStatement h = for_each x ts r p
  stmt_law l.ForAwaitStatement h = for_await x ts r p
  stmt_law l.WhileStatement h = while_ x ts r p
  stmt_law l.DoStatement h = do_ x ts r p
  stmt_law l.ContinueStatement h = continue_ x ts r p
  stmt_law l.BreakStatement h = break_ x ts r p
  stmt_law l.ReturnStatement h = return_ x ts r p
  stmt_law l.ThrowStatement h = throw_ x ts r p
  stmt_law l.SwitchStatement h = switch_ x ts r p
  stmt_law l.TryStatement h = try_ x ts r p
  stmt_law l.DebuggerStatement h = one NoHead (is_Debugger r)
  stmt_law l.WithStatement h = with_ x ts r p
  stmt_law l.TypedTryStatement h = typed_try x ts r p
  stmt_law l.Function h = absurd (true≢false h)
  stmt_law l.AsyncFunction h = absurd (true≢false h)
  stmt_law l.Class h = absurd (true≢false h)
  stmt_law l.VariableDeclaration h = absurd (true≢false h)
  stmt_law l.UsingDeclaration h = absurd (true≢false h)
  stmt_law l.Variables h = absurd (true≢false h)
  stmt_law l.Using h = absurd (true≢false h)
  stmt_law l.Declared h = absurd (true≢false h)
  stmt_law l.DeclaredVariables h = absurd (true≢false h)
  stmt_law l.TypedFunction h = absurd (true≢false h)
  stmt_law l.TypedAsyncFunction h = absurd (true≢false h)
  stmt_law l.TypedClass h = absurd (true≢false h)
  stmt_law l.AbstractClass h = absurd (true≢false h)
  stmt_law l.InterfaceDeclaration h = absurd (true≢false h)
  stmt_law l.AliasDeclaration h = absurd (true≢false h)
  stmt_law l.EnumDeclaration h = absurd (true≢false h)
  stmt_law l.NamespaceDeclaration h = absurd (true≢false h)
  stmt_law l.ModuleDeclaration h = absurd (true≢false h)
  stmt_law l.GlobalDeclaration h = absurd (true≢false h)
  stmt_law _ h = none NoHead

  -- a declaration is one as a statement, and no import or export
  stmt_decl : (label : NodeKind) → is_one_of declarations label ≡ true
      → stmt_of x ts label r p ≡ option_map vStmt.Decl (decl_of x ts label r p)
  unfolding stmt_of
  stmt_decl l.Function h = refl
  stmt_decl l.AsyncFunction h = refl
  stmt_decl l.Class h = refl
  stmt_decl l.VariableDeclaration h = refl
  stmt_decl l.UsingDeclaration h = refl
  stmt_decl l.Variables h = refl
  stmt_decl l.Using h = refl
  stmt_decl l.Declared h = refl
  stmt_decl l.DeclaredVariables h = refl
  stmt_decl l.TypedFunction h = refl
  stmt_decl l.TypedAsyncFunction h = refl
  stmt_decl l.TypedClass h = refl
  stmt_decl l.AbstractClass h = refl
  stmt_decl l.InterfaceDeclaration h = refl
  stmt_decl l.AliasDeclaration h = refl
  stmt_decl l.EnumDeclaration h = refl
  stmt_decl l.NamespaceDeclaration h = refl
  stmt_decl l.ModuleDeclaration h = refl
  stmt_decl l.GlobalDeclaration h = refl
  stmt_decl _ h = absurd (true≢false (sym h))

  module_none : (label : NodeKind) → is_one_of declarations label ≡ true → module_decl_of x ts label r p ≡ None
  unfolding module_decl_of
  module_none l.Function h = refl
  module_none l.AsyncFunction h = refl
  module_none l.Class h = refl
  module_none l.VariableDeclaration h = refl
  module_none l.UsingDeclaration h = refl
  module_none l.Variables h = refl
  module_none l.Using h = refl
  module_none l.Declared h = refl
  module_none l.DeclaredVariables h = refl
  module_none l.TypedFunction h = refl
  module_none l.TypedAsyncFunction h = refl
  module_none l.TypedClass h = refl
  module_none l.AbstractClass h = refl
  module_none l.InterfaceDeclaration h = refl
  module_none l.AliasDeclaration h = refl
  module_none l.EnumDeclaration h = refl
  module_none l.NamespaceDeclaration h = refl
  module_none l.ModuleDeclaration h = refl
  module_none l.GlobalDeclaration h = refl
  module_none _ h = absurd (true≢false (sym h))

  -- an export of a declaration
  exported_by : (head : Option AHead) (own : Range) (make : Decl → ModuleDecl)
      → ((d : Decl) → (listed_module_decl (make d)).head ≡ decl_head (seen_decl d).function r) → (d : Option Decl)
      → HeadsDecl head r own d → HeadsItem head (item_by x ts (option_map make d) None)
  exported_by head own make same None h = record { heads = tt }
  exported_by head own make same (Some d) h = record { heads = decl_item (make d) ∙ same d ∙ h.heads.0 }

  exported_law : (head : Option AHead) (own : Range) (label : NodeKind) → is_one_of exported label ≡ true
      → HeadsDecl head r own (decl_at p 0)
      → HeadsItem head (item_by x ts (module_decl_of x ts label r p) (stmt_of x ts label r p))
  unfolding module_decl_of stmt_of decl_of declarable_of modules.export_declaration modules.export_default_decl
  exported_law head own l.ExportDeclaration h d =
      exported_by head own (λ decl. vModuleDecl.ExportDecl decl r) (λ d. export_decl d r) (decl_at p 0) d
  exported_law head own l.ExportDefaultFunction h d =
      exported_by head own (λ decl. vModuleDecl.ExportDefaultDecl decl r) (λ d. export_default d r) (decl_at p 0) d
  exported_law head own l.ExportDefaultClass h d =
      exported_by head own (λ decl. vModuleDecl.ExportDefaultDecl decl r) (λ d. export_default d r) (decl_at p 0) d
  exported_law head own l.ExportDefaultInterface h d =
      exported_by head own (λ decl. vModuleDecl.ExportDefaultDecl decl r) (λ d. export_default d r) (decl_at p 0) d
  exported_law head own _ h d = absurd (true≢false (sym h))

  no_item : (m : Option ModuleDecl) (s : Option Stmt) → Of NoModule m → Of NoHead s → HeadsItem None (item_by x ts m s)
  no_item (Some d) s a b = record { heads = decl_item d ∙ a.is }
  no_item None None a b = record { heads = tt }
  no_item None (Some s) a b = record { heads = stmt_item s ∙ b.is }

-- ---- of an item
module _ (x : List ℕ) (ts : List Token) (i : Item) (label : NodeKind) (what_is : i.what ≡ what.Node label) where
  abbrev held_in : Value
  held_in = held x ts i.parts.entries.now

  abbrev span : Range
  span = span_of ts i.from i.to

  by_stmt : (P : Option Stmt → Type 0) → P (stmt_of x ts label span held_in) → P (stmt_in (valued x ts i))
  unfolding build
  by_stmt P h =
      subst (λ (w : What). P (stmt_in (made x ts w i.from i.to held_in (parts_of x ts i.parts.entries.now))))
      (sym what_is) h

  by_item : (P : Option ModuleItem → Type 0)
      → P (item_by x ts (module_decl_of x ts label span held_in) (stmt_of x ts label span held_in))
      → P (item_in (valued x ts i))
  unfolding build
  by_item P h =
      subst (λ (w : What). P (item_in (made x ts w i.from i.to held_in (parts_of x ts i.parts.entries.now))))
      (sym what_is) h

  decl_is : (P : Option Decl → Type 0) → P (decl_in (valued x ts i)) → P (decl_of x ts label span held_in)
  unfolding build
  decl_is P h =
      subst (λ (w : What). P (decl_in (made x ts w i.from i.to held_in (parts_of x ts i.parts.entries.now))))
      what_is h

  pub stmt_declared : (head : Option AHead) (r : Range) → is_one_of declarations label ≡ true → r ≡ span
      → HeadsDecl head r span (decl_in (valued x ts i)) → HeadsStmt head (stmt_in (valued x ts i))
  stmt_declared head r d e h =
      by_stmt (HeadsStmt head)
      (subst (HeadsStmt head) (sym (stmt_decl x ts span held_in label d))
      (declared_stmt head span _
      (decl_is (HeadsDecl head span span)
      (subst (λ (r : Range). HeadsDecl head r span (decl_in (valued x ts i))) e h))))

  no_stmt : (o : Option Stmt) → Of NoHead o → HeadsStmt None o
  no_stmt None a = record { heads = tt }
  no_stmt (Some s) a = record { heads = a.is }

  pub stmt_other : is_one_of declarations label ≡ false → HeadsStmt None (stmt_in (valued x ts i))
  stmt_other d = by_stmt (HeadsStmt None) (no_stmt _ (stmt_law x ts span held_in label d))

  pub item_declared : (head : Option AHead) (r : Range) → is_one_of declarations label ≡ true → r ≡ span
      → HeadsDecl head r span (decl_in (valued x ts i)) → HeadsItem head (item_in (valued x ts i))
  item_declared head r d e h =
      by_item (HeadsItem head)
      (subst (λ (m : Option ModuleDecl). HeadsItem head (item_by x ts m (stmt_of x ts label span held_in)))
      (sym (module_none x ts span held_in label d))
      (subst (λ (s : Option Stmt). HeadsItem head (option_map vItem.Stmt s))
      (sym (stmt_decl x ts span held_in label d))
      (declared_item head span _
      (decl_is (HeadsDecl head span span)
      (subst (λ (r : Range). HeadsDecl head r span (decl_in (valued x ts i))) e h)))))

  pub item_other : is_one_of exported label ≡ false → is_one_of declarations label ≡ false
      → HeadsItem None (item_in (valued x ts i))
  item_other e d =
      by_item (HeadsItem None) (no_item x ts span held_in _ _ (module_law x ts span held_in label e) (stmt_law x ts span held_in label d))

  pub item_exported : (head : Option AHead) (r own : Range) (u : Value) → is_one_of exported label ≡ true → r ≡ span
      → part held_in 0 ≡ u → HeadsDecl head r own (decl_in u) → HeadsItem head (item_in (valued x ts i))
  item_exported head r own u d e f h =
      by_item (HeadsItem head)
      (exported_law x ts span held_in head own label d
      (subst (λ (r : Range). HeadsDecl head r own (decl_at held_in 0)) e
      (subst (λ (w : Value). HeadsDecl head r own (decl_in w)) (sym f) h)))
