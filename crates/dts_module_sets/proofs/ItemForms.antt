-- What no export is adds what its declaration does, or nothing.
use Rattle.std.specs.Prelude.{ℕ, ◌+◌, Bool, true, false, is_some, List, Option, Some, None, option_map, if◌then◌else◌}
use Rattle.std.proofs.Common.{◌≡◌, refl, sym, ap, subst, ◌∙◌}
use denote.Enum.Bare.{same_true}
use Rattle.base.specs.declared.range.Range.{Range}
use Rattle.es_token.specs.declared.token.Token.{Token}
use Rattle.es_token.specs.declared.token.TokenKind.TheVariants as k
use Rattle.grammar_theory.specs.Key.{same_kind}
use Rattle.es_grammar.specs.contracts.rows.NodeKind.{the_type}
use Rattle.es_grammar.specs.declared.rows.NodeKind.{NodeKind}
use Rattle.es_grammar.specs.declared.rows.NodeKind.TheVariants as l
use Rattle.es_ast.specs.declared.ts.leaf.Ident.{Ident}
use Rattle.es_ast.specs.declared.leaf.ImportDecl.{ImportDecl}
use Rattle.es_ast.specs.declared.leaf.ImportPhase.{ImportPhase}
use Rattle.es_ast.specs.declared.leaf.ImportPhase.TheVariants as vPhase
use Rattle.es_ast.specs.declared.leaf.TsImportEqualsDecl.{TsImportEqualsDecl}
use Rattle.es_ast.specs.declared.ast.Decl.{Decl}
use Rattle.es_ast.specs.declared.ast.Expr.{Expr}
use Rattle.es_ast.specs.declared.ast.ModuleDecl.{ModuleDecl, roll-ModuleDecl, out-ModuleDecl, out-roll-ModuleDecl}
use Rattle.es_ast.specs.declared.ast.ModuleDecl.TheVariants as vModule
use Rattle.es_ast.specs.declared.ast.ModuleItem.{ModuleItem, out-ModuleItem, out-roll-ModuleItem}
use Rattle.es_ast.specs.declared.ast.ModuleItem.TheVariants as vItem
use Rattle.es_ast.specs.declared.leaf.VarDeclKind.{VarDeclKind}
use Rattle.es_ast.specs.declared.ast.Pat.{Pat}
use Rattle.es_ast.specs.declared.ast.SwitchCase.{SwitchCase}
use Rattle.es_ast.specs.declared.ast.Stmt.{Stmt, roll-Stmt, out-Stmt, out-roll-Stmt}
use Rattle.es_ast.specs.declared.ast.Stmt.TheVariants as vStmt
use Rattle.es_ast.specs.declared.ast.ClassMember.TheOpen.{ModuleDecl-F, ModuleItem-F, Stmt-F}
use Rattle.es_site.specs.Parts.{Whole}
use Rattle.es_lowering.specs.Value.{Value, absent, nil, more, token, node, given, part, group, optional, behind, expr_at, pat_at, stmt_at, head_at, attributes_at, clause_at, entity_at}
use Rattle.es_lowering.specs.Texts.{span_of, kind_at, ident_at, str_at}
use Rattle.es_lowering.specs.Statements as stmts
use Rattle.es_lowering.specs.TypedStatements as typed_stmts
use Rattle.es_lowering.specs.Modules as modules
use Rattle.es_lowering.specs.Lowering.{same_label, build, stmt_of, decl_of, declarable_of, module_decl_of, item_by}
use Rattle.es_syntax.specs.declared.entry.Lean.{Lean}
use Rattle.es_syntax.specs.declared.entry.Lean.TheVariants as vLean
use Rattle.es_syntax.specs.declared.entry.What.{What}
use Rattle.es_syntax.specs.declared.entry.What.TheVariants as vWhat
use Rattle.es_syntax.specs.declared.entry.Entry.{Entry}
use Rattle.es_syntax.specs.declared.cursor.Item.{Item}
use Rattle.es_syntax.specs.Held.{held, valued, made, parts_of, label_of}
use Rattle.es_syntax.specs.Roles.{decl_in, item_in}
use Rattle.es_syntax.specs.Views.{is_one_of, IsNone}
use Rattle.es_syntax.proofs.Others.{in_held, in_role, in_leant}
use Rattle.es_view_modules.specs.items.Export.{exports}
use Rattle.es_view_statements.specs.decl.Declarable.{declarables}
use Rattle.es_view_statements.specs.decl.Decl.{declarations}
use Rattle.es_expr_spans.proofs.Given.{Of, one, none, absent as absent_of, of_given, of_mapped}
use Rattle.dts_rules.specs.Sets.{Numbers, Sets, no_sets, decl_sets, stmt_by, export_by, item_by as item_sets_by}
use Rattle.dts_sets.specs.declared.known.Known.{Known}
use Rattle.dts_sets.specs.Known.{Adds, item_sets}
use Rattle.dts_sets.proofs.Grown.{grown_none, grown_by}
use Rattle.dts_module_sets.specs.Items.{is_declared}

module _ (number : Numbers) where
  -- of the declaration that may be there
  abbrev maybe : Option Decl → Sets
  maybe (Some d) = decl_sets number d
  maybe None = no_sets

  abbrev StmtIs : Sets → Stmt → Type 0
  StmtIs s it = stmt_by number (out-Stmt it) ≡ s

  abbrev DeclIs : ModuleDecl → Type 0
  DeclIs it = export_by number (out-ModuleDecl it) ≡ no_sets

  stmt_is : (w : Whole Stmt-F) (it : Stmt) (s : Sets) → roll-Stmt w ≡ it → stmt_by number w ≡ s → StmtIs s it
  stmt_is w it s rolls e =
      ap (λ it. stmt_by number (out-Stmt it)) (sym rolls) ∙ ap (stmt_by number) (out-roll-Stmt w) ∙ e

  decl_is : (w : Whole ModuleDecl-F) (it : ModuleDecl) → roll-ModuleDecl w ≡ it → export_by number w ≡ no_sets
      → DeclIs it
  decl_is w it rolls e =
      ap (λ it. export_by number (out-ModuleDecl it)) (sym rolls) ∙ ap (export_by number) (out-roll-ModuleDecl w) ∙ e

  is_Block : (stmts : List Stmt) (r : Range) → StmtIs no_sets (vStmt.Block stmts r)
  is_Block stmts r = stmt_is (Stmt-F.Block stmts r) _ no_sets (vStmt.rolls-Block stmts r) refl

  is_Empty : (r : Range) → StmtIs no_sets (vStmt.Empty r)
  is_Empty r = stmt_is (Stmt-F.Stmt::Empty r) _ no_sets (vStmt.rolls-Empty r) refl

  is_Debugger : (r : Range) → StmtIs no_sets (vStmt.Debugger r)
  is_Debugger r = stmt_is (Stmt-F.Debugger r) _ no_sets (vStmt.rolls-Debugger r) refl

  is_With : (obj : Expr) (body : Stmt) (r : Range) → StmtIs no_sets (vStmt.With obj body r)
  is_With obj body r = stmt_is (Stmt-F.With obj body r) _ no_sets (vStmt.rolls-With obj body r) refl

  is_Return : (arg : Option Expr) (r : Range) → StmtIs no_sets (vStmt.Return arg r)
  is_Return arg r = stmt_is (Stmt-F.Return arg r) _ no_sets (vStmt.rolls-Return arg r) refl

  is_Labeled : (label : Ident) (body : Stmt) (r : Range) → StmtIs no_sets (vStmt.Labeled label body r)
  is_Labeled label body r = stmt_is (Stmt-F.Labeled label body r) _ no_sets (vStmt.rolls-Labeled label body r) refl

  is_Break : (label : Option Ident) (r : Range) → StmtIs no_sets (vStmt.Break label r)
  is_Break label r = stmt_is (Stmt-F.Break label r) _ no_sets (vStmt.rolls-Break label r) refl

  is_Continue : (label : Option Ident) (r : Range) → StmtIs no_sets (vStmt.Continue label r)
  is_Continue label r = stmt_is (Stmt-F.Continue label r) _ no_sets (vStmt.rolls-Continue label r) refl

  is_If : (test : Expr) (cons : Stmt) (alt : Option Stmt) (r : Range) → StmtIs no_sets (vStmt.If test cons alt r)
  is_If test cons alt r = stmt_is (Stmt-F.If test cons alt r) _ no_sets (vStmt.rolls-If test cons alt r) refl

  is_Switch : (on : Expr) (cases : List SwitchCase) (r : Range) → StmtIs no_sets (vStmt.Switch on cases r)
  is_Switch on cases r = stmt_is (Stmt-F.Switch on cases r) _ no_sets (vStmt.rolls-Switch on cases r) refl

  is_Throw : (arg : Expr) (r : Range) → StmtIs no_sets (vStmt.Throw arg r)
  is_Throw arg r = stmt_is (Stmt-F.Throw arg r) _ no_sets (vStmt.rolls-Throw arg r) refl

  is_Try : (body : Stmt) (param : Option Pat) (handler : Option Stmt) (finalizer : Option Stmt) (r : Range)
      → StmtIs no_sets (vStmt.Try body param handler finalizer r)
  is_Try body param handler finalizer r =
      stmt_is (Stmt-F.Try body param handler finalizer r) _ no_sets (vStmt.rolls-Try body param handler finalizer r)
      refl

  is_While : (test : Expr) (body : Stmt) (r : Range) → StmtIs no_sets (vStmt.While test body r)
  is_While test body r = stmt_is (Stmt-F.While test body r) _ no_sets (vStmt.rolls-While test body r) refl

  is_DoWhile : (body : Stmt) (test : Expr) (r : Range) → StmtIs no_sets (vStmt.DoWhile body test r)
  is_DoWhile body test r = stmt_is (Stmt-F.DoWhile body test r) _ no_sets (vStmt.rolls-DoWhile body test r) refl

  is_For : (init : Option Stmt) (test : Option Expr) (update : Option Expr) (body : Stmt) (r : Range)
      → StmtIs no_sets (vStmt.For init test update body r)
  is_For init test update body r =
      stmt_is (Stmt-F.For init test update body r) _ no_sets (vStmt.rolls-For init test update body r) refl

  is_ForIn : (kind : Option VarDeclKind) (left : Pat) (right : Expr) (body : Stmt) (r : Range)
      → StmtIs no_sets (vStmt.ForIn kind left right body r)
  is_ForIn kind left right body r =
      stmt_is (Stmt-F.ForIn kind left right body r) _ no_sets (vStmt.rolls-ForIn kind left right body r) refl

  is_ForOf : (is_await : Bool) (kind : Option VarDeclKind) (left : Pat) (right : Expr) (body : Stmt) (r : Range)
      → StmtIs no_sets (vStmt.ForOf is_await kind left right body r)
  is_ForOf is_await kind left right body r =
      stmt_is (Stmt-F.ForOf is_await kind left right body r) _ no_sets
      (vStmt.rolls-ForOf is_await kind left right body r) refl

  is_Expr : (e : Expr) (r : Range) → StmtIs no_sets (vStmt.Expr e r)
  is_Expr e r = stmt_is (Stmt-F.Stmt::Expr e r) _ no_sets (vStmt.rolls-Expr e r) refl

  abbrev None_ : Stmt → Type 0
  None_ it = StmtIs no_sets it

  module _ (x : List ℕ) (ts : List Token) (r : Range) where
    block : (p : Value) → Of None_ (option_map (λ stmts. vStmt.Block stmts r) (stmts.block p))
    block p = of_mapped None_ (stmts.block p) (λ all. is_Block all r)

    expression : (p : Value) → Of None_ (stmts.expression_statement r p)
    unfolding stmts.expression_statement
    expression p = of_mapped None_ (expr_at p 0) (λ e. is_Expr e r)

    labelled : (p : Value) → Of None_ (stmts.labelled x ts r p)
    unfolding stmts.labelled
    labelled p =
        of_given None_ (ident_at x ts p 0)
        (λ label. of_given None_ (stmt_at p 1) (λ body. one None_ (is_Labeled label body r)))

    if_ : (p : Value) → Of None_ (stmts.if_ r p)
    unfolding stmts.if_
    if_ p =
        of_given None_ (expr_at p 0) (λ test.
        of_given None_ (stmt_at p 1) (λ cons.
        of_given None_ (optional stmt_at (group p 2)) (λ alt. one None_ (is_If test cons alt r))))

    for_ : (p : Value) → Of None_ (stmts.for_ ts r p)
    unfolding stmts.for_
    for_ p =
        of_given None_ (stmts.start_of_for ts p) (λ init.
        of_given None_ (optional expr_at (group p 3)) (λ test.
        of_given None_ (optional expr_at (group p 4)) (λ update.
        of_given None_ (stmt_at p 5) (λ body. one None_ (is_For init test update body r)))))

    each : (b : Bool) (head : stmts.Head) (right : Expr) (body : Stmt) → None_ (stmts.each_of b r head right body)
    each true head right body = is_ForIn head.0 head.1 right body r
    each false head right body = is_ForOf false head.0 head.1 right body r

    for_each : (p : Value) → Of None_ (stmts.for_each ts r p)
    unfolding stmts.for_each
    for_each p =
        of_given None_ (head_at p 0) (λ head.
        of_given None_ (kind_at ts (group p 1) 0) (λ kind.
        of_given None_ (expr_at (group p 1) 1) (λ right.
        of_given None_ (stmt_at p 2) (λ body. one None_ (each (same_kind kind k.InWord) head right body)))))

    for_await : (p : Value) → Of None_ (stmts.for_await r p)
    unfolding stmts.for_await
    for_await p =
        of_given None_ (head_at p 0) (λ head.
        of_given None_ (expr_at p 1) (λ right.
        of_given None_ (stmt_at p 2) (λ body. one None_ (is_ForOf true head.0 head.1 right body r))))

    while_ : (p : Value) → Of None_ (stmts.while_ r p)
    unfolding stmts.while_
    while_ p = of_given None_ (expr_at p 0)
        (λ test. of_given None_ (stmt_at p 1) (λ body. one None_ (is_While test body r)))

    do_ : (p : Value) → Of None_ (stmts.do_ r p)
    unfolding stmts.do_
    do_ p = of_given None_ (stmt_at p 0)
        (λ body. of_given None_ (expr_at p 1) (λ test. one None_ (is_DoWhile body test r)))

    continue_ : (p : Value) → Of None_ (stmts.continue_ x ts r p)
    unfolding stmts.continue_
    continue_ p = of_mapped None_ (optional (ident_at x ts) (group p 0)) (λ label. is_Continue label r)

    break_ : (p : Value) → Of None_ (stmts.break_ x ts r p)
    unfolding stmts.break_
    break_ p = of_mapped None_ (optional (ident_at x ts) (group p 0)) (λ label. is_Break label r)

    return_ : (p : Value) → Of None_ (stmts.return_ r p)
    unfolding stmts.return_
    return_ p = of_mapped None_ (stmts.returned (group p 0)) (λ arg. is_Return arg r)

    throw_ : (p : Value) → Of None_ (stmts.throw_ r p)
    unfolding stmts.throw_
    throw_ p = of_mapped None_ (expr_at p 0) (λ arg. is_Throw arg r)

    switch_ : (p : Value) → Of None_ (stmts.switch_ ts r p)
    unfolding stmts.switch_
    switch_ p =
        of_given None_ (expr_at p 0) (λ on.
        of_given None_ (stmts.clauses ts (behind (part p 0) + 2) (group p 1))
        (λ cases. one None_ (is_Switch on cases r)))

    with_ : (p : Value) → Of None_ (stmts.with_ r p)
    unfolding stmts.with_
    with_ p = of_given None_ (expr_at p 0)
        (λ obj. of_given None_ (stmt_at p 1) (λ body. one None_ (is_With obj body r)))

    handled_rest : (block : Stmt) (v : Value) → Of None_ (given (optional pat_at (group v 0)) (λ param.
        given (stmt_at v 1) (λ handler.
        given (optional stmt_at (group v 2)) (λ finalizer. Some (vStmt.Try block param (Some handler) finalizer r)))))
    handled_rest block v =
        of_given None_ (optional pat_at (group v 0)) (λ param.
        of_given None_ (stmt_at v 1) (λ handler.
        of_given None_ (optional stmt_at (group v 2))
        (λ finalizer. one None_ (is_Try block param (Some handler) finalizer r))))

    handled : (block : Stmt) (v : Value) → Of None_ (stmts.handled r block v)
    handled block (more body nil) =
        of_mapped None_ (stmt_at (more body nil) 0) (λ finalizer. is_Try block None None (Some finalizer) r)
    handled block (more body absent) = handled_rest block (more body absent)
    handled block (more body (more w ws)) = handled_rest block (more body (more w ws))
    handled block (more body (token n)) = handled_rest block (more body (token n))
    handled block (more body (node from to m)) = handled_rest block (more body (node from to m))
    handled block absent = handled_rest block absent
    handled block nil = handled_rest block nil
    handled block (token n) = handled_rest block (token n)
    handled block (node from to m) = handled_rest block (node from to m)

    typed_handled_rest : (block : Stmt) (v : Value) → Of None_ (given (typed_stmts.caught_in ts (group v 0)) (λ param.
        given (stmt_at v 1) (λ handler.
        given (optional stmt_at (group v 2)) (λ finalizer. Some (vStmt.Try block param (Some handler) finalizer r)))))
    typed_handled_rest block v =
        of_given None_ (typed_stmts.caught_in ts (group v 0)) (λ param.
        of_given None_ (stmt_at v 1) (λ handler.
        of_given None_ (optional stmt_at (group v 2))
        (λ finalizer. one None_ (is_Try block param (Some handler) finalizer r))))

    typed_handled : (block : Stmt) (v : Value) → Of None_ (typed_stmts.typed_handled ts r block v)
    typed_handled block (more body nil) =
        of_mapped None_ (stmt_at (more body nil) 0) (λ finalizer. is_Try block None None (Some finalizer) r)
    typed_handled block (more body absent) = typed_handled_rest block (more body absent)
    typed_handled block (more body (more w ws)) = typed_handled_rest block (more body (more w ws))
    typed_handled block (more body (token n)) = typed_handled_rest block (more body (token n))
    typed_handled block (more body (node from to m)) = typed_handled_rest block (more body (node from to m))
    typed_handled block absent = typed_handled_rest block absent
    typed_handled block nil = typed_handled_rest block nil
    typed_handled block (token n) = typed_handled_rest block (token n)
    typed_handled block (node from to m) = typed_handled_rest block (node from to m)

    try_ : (p : Value) → Of None_ (stmts.try_ r p)
    unfolding stmts.try_
    try_ p = of_given None_ (stmt_at p 0) (λ body. handled body (group p 1))

    typed_try : (p : Value) → Of None_ (typed_stmts.typed_try ts r p)
    unfolding typed_stmts.typed_try
    typed_try p = of_given None_ (stmt_at p 0) (λ body. typed_handled body (group p 1))

  -- ---- imports
  module _ (x : List ℕ) (ts : List Token) (r : Range) where
    import_is : (it : ImportDecl) → DeclIs (vModule.Import it)
    import_is it = decl_is (ModuleDecl-F.Import it) _ (vModule.rolls-Import it) refl

    equals_is : (it : TsImportEqualsDecl) → DeclIs (vModule.TsImportEquals it)
    equals_is it = decl_is (ModuleDecl-F.TsImportEquals it) _ (vModule.rolls-TsImportEquals it) refl

    bare : (p : Value) → Of DeclIs (modules.bare_import x ts r p)
    unfolding modules.bare_import
    bare p =
        of_given DeclIs (str_at x ts p 0) (λ src.
        of_given DeclIs (optional attributes_at (group p 1)) (λ with. one DeclIs (import_is _)))

    from_ : (p : Value) → Of DeclIs (modules.from_import x ts r p)
    unfolding modules.from_import
    from_ p =
        of_given DeclIs (clause_at p 1) (λ clause.
        of_given DeclIs (str_at x ts p 2) (λ src.
        of_given DeclIs (optional attributes_at (group p 3)) (λ with. one DeclIs (import_is _))))

    phased : (phase : ImportPhase) (p : Value) → Of DeclIs (modules.phase_import x ts phase r p)
    unfolding modules.phase_import
    phased phase p =
        of_given DeclIs (ident_at x ts p 0) (λ local.
        of_given DeclIs (str_at x ts p 1) (λ src.
        of_given DeclIs (optional attributes_at (group p 2)) (λ with. one DeclIs (import_is _))))

    required : (is_export : Bool) (p : Value) → Of DeclIs (modules.require_import x ts is_export r p)
    unfolding modules.require_import
    required is_export p =
        of_given DeclIs (ident_at x ts p 1) (λ id. of_given DeclIs (str_at x ts p 2) (λ src. one DeclIs (equals_is _)))

    entity : (is_export : Bool) (p : Value) → Of DeclIs (modules.entity_import x ts is_export r p)
    unfolding modules.entity_import
    entity is_export p =
        of_given DeclIs (ident_at x ts p 1) (λ id. of_given DeclIs (entity_at p 2) (λ name. one DeclIs (equals_is _)))

  -- ---- items
  abbrev ItemIs : Sets → ModuleItem → Type 0
  ItemIs s it = item_sets number it ≡ s

  decl_item : (s : Sets) (it : ModuleDecl) → export_by number (out-ModuleDecl it) ≡ s → ItemIs s (vItem.ModuleDecl it)
  decl_item s it e =
      ap (λ it. item_sets_by number (out-ModuleItem it)) (sym (vItem.rolls-ModuleDecl it))
      ∙ ap (item_sets_by number) (out-roll-ModuleItem (ModuleItem-F.ModuleDecl it)) ∙ e

  stmt_item : (s : Sets) (it : Stmt) → StmtIs s it → ItemIs s (vItem.Stmt it)
  stmt_item s it e =
      ap (λ it. item_sets_by number (out-ModuleItem it)) (sym (vItem.rolls-Stmt it))
      ∙ ap (item_sets_by number) (out-roll-ModuleItem (ModuleItem-F.Stmt it)) ∙ e

  declared : (d : Option Decl) → Of (λ it. StmtIs (maybe d) it) (option_map vStmt.Decl d)
  declared None = none (λ it. StmtIs (maybe None) it)
  declared (Some d) =
      one (λ it. StmtIs (maybe (Some d)) it)
      (stmt_is (Stmt-F.Decl d) (vStmt.Decl d) (maybe (Some d)) (vStmt.rolls-Decl d) refl)

  -- of one alternative, and of those after it
  of_branch : {A : Type 0} (P : NodeKind → A → Type 0) (label other : NodeKind) {first second : Option A}
      → Of (P other) first
      → Of (P label) second → Of (P label) (if same_label label other then first else second)
  of_branch {A} P label other {first} {second} f s = go (same_label label other) refl
    where
      go : (b : Bool) → same_label label other ≡ b → Of (P label) (if b then first else second)
      go true e =
          let R : NodeKind → Type 0 = λ label. Of (P label) first in
          subst R (sym (same_true the_type tt label other e)) f
      go false e = s

  of_any : {A : Type 0} (P : A → Type 0) → ((a : A) → P a) → (o : Option A) → Of P o
  of_any P each None = none P
  of_any P each (Some a) = one P (each a)

  of_all : {A : Type 0} (P Q : A → Type 0) → ((a : A) → P a → Q a) → (o : Option A) → Of P o → Of Q o
  of_all P Q each None known = none Q
  of_all P Q each (Some a) known = one Q (each a known.is)

  module _ (x : List ℕ) (ts : List Token) (r : Range) (p : Value) where
    abbrev Import : NodeKind → ModuleDecl → Type 0
    Import label it = is_one_of exports label ≡ false → DeclIs it × (decl_of x ts label r p ≡ None)

    import_known : (label : NodeKind) → Of (Import label) (module_decl_of x ts label r p)
    unfolding module_decl_of decl_of declarable_of
    import_known label =
        of_branch Import label l.BareImport
        (of_all DeclIs (Import l.BareImport) (λ it known e. (known, refl)) (modules.bare_import x ts r p)
        (bare x ts r p))
        (of_branch Import label l.FromImport
        (of_all DeclIs (Import l.FromImport) (λ it known e. (known, refl)) (modules.from_import x ts r p)
        (from_ x ts r p))
        (of_branch Import label l.SourceImport
        (of_all DeclIs (Import l.SourceImport) (λ it known e. (known, refl))
        (modules.phase_import x ts vPhase.Source r p) (phased x ts r vPhase.Source p))
        (of_branch Import label l.DeferImport
        (of_all DeclIs (Import l.DeferImport) (λ it known e. (known, refl))
        (modules.phase_import x ts vPhase.Defer r p) (phased x ts r vPhase.Defer p))
        (of_branch Import label l.RequireImport
        (of_all DeclIs (Import l.RequireImport) (λ it known e. (known, refl)) (modules.require_import x ts false r p)
        (required x ts r false p))
        (of_branch Import label l.EntityImport
        (of_all DeclIs (Import l.EntityImport) (λ it known e. (known, refl)) (modules.entity_import x ts false r p)
        (entity x ts r false p))
        (of_branch Import label l.ExportedRequireImport
        (of_all DeclIs (Import l.ExportedRequireImport) (λ it known e. (known, refl))
        (modules.require_import x ts true r p) (required x ts r true p))
        (of_branch Import label l.ExportedEntityImport
        (of_all DeclIs (Import l.ExportedEntityImport) (λ it known e. (known, refl))
        (modules.entity_import x ts true r p) (entity x ts r true p))
        (of_branch Import label l.ExportAll
        (of_any (Import l.ExportAll) (λ it e. let bad : ⊥ = cc in absurd bad) (modules.export_all x ts r p))
        (of_branch Import label l.ExportNames
        (of_any (Import l.ExportNames) (λ it e. let bad : ⊥ = cc in absurd bad) (modules.export_names x ts r p))
        (of_branch Import label l.ExportNamespace
        (of_any (Import l.ExportNamespace) (λ it e. let bad : ⊥ = cc in absurd bad)
        (modules.export_namespace x ts r p))
        (of_branch Import label l.ExportDefaultFunction
        (of_any (Import l.ExportDefaultFunction) (λ it e. let bad : ⊥ = cc in absurd bad)
        (modules.export_default_decl r p))
        (of_branch Import label l.ExportDefaultClass
        (of_any (Import l.ExportDefaultClass) (λ it e. let bad : ⊥ = cc in absurd bad)
        (modules.export_default_decl r p))
        (of_branch Import label l.ExportDefaultExpression
        (of_any (Import l.ExportDefaultExpression) (λ it e. let bad : ⊥ = cc in absurd bad)
        (modules.export_default_expression r p))
        (of_branch Import label l.ExportDeclaration
        (of_any (Import l.ExportDeclaration) (λ it e. let bad : ⊥ = cc in absurd bad)
        (modules.export_declaration r p))
        (of_branch Import label l.ExportDefaultInterface
        (of_any (Import l.ExportDefaultInterface) (λ it e. let bad : ⊥ = cc in absurd bad)
        (modules.export_default_decl r p))
        (of_branch Import label l.ExportAssignment
        (of_any (Import l.ExportAssignment) (λ it e. let bad : ⊥ = cc in absurd bad)
        (typed_stmts.export_assignment r p))
        (none (Import label))))))))))))))))))

    abbrev Statement : NodeKind → Stmt → Type 0
    Statement label it = StmtIs (maybe (decl_of x ts label r p)) it

    stmt_known : (label : NodeKind) → Of (Statement label) (stmt_of x ts label r p)
    unfolding stmt_of decl_of declarable_of
    stmt_known label =
        of_branch Statement label l.Block (block x ts r p)
        (of_branch Statement label l.EmptyStatement (one None_ (is_Empty r))
        (of_branch Statement label l.ExpressionStatement (expression x ts r p)
        (of_branch Statement label l.LabelledStatement (labelled x ts r p)
        (of_branch Statement label l.IfStatement (if_ x ts r p)
        (of_branch Statement label l.ForStatement (for_ x ts r p)
        (of_branch Statement label l.ForEachStatement (for_each x ts r p)
        (of_branch Statement label l.ForAwaitStatement (for_await x ts r p)
        (of_branch Statement label l.WhileStatement (while_ x ts r p)
        (of_branch Statement label l.DoStatement (do_ x ts r p)
        (of_branch Statement label l.ContinueStatement (continue_ x ts r p)
        (of_branch Statement label l.BreakStatement (break_ x ts r p)
        (of_branch Statement label l.ReturnStatement (return_ x ts r p)
        (of_branch Statement label l.ThrowStatement (throw_ x ts r p)
        (of_branch Statement label l.SwitchStatement (switch_ x ts r p)
        (of_branch Statement label l.TryStatement (try_ x ts r p)
        (of_branch Statement label l.DebuggerStatement (one None_ (is_Debugger r))
        (of_branch Statement label l.WithStatement (with_ x ts r p)
        (of_branch Statement label l.TypedTryStatement (typed_try x ts r p)
        (declared (decl_of x ts label r p))))))))))))))))))))

    combined : (d : Option ModuleDecl) (s : Option Stmt) (o : Option Decl) → Of (λ it. DeclIs it × (o ≡ None)) d
        → Of (λ it. StmtIs (maybe o) it) s → Of (ItemIs (maybe o)) (item_by x ts d s)
    combined None None o import stmt = none (ItemIs (maybe o))
    combined None (Some s) o import stmt = one (ItemIs (maybe o)) (stmt_item (maybe o) s stmt.is)
    combined (Some d) s o import stmt =
        let R : Option Decl → Type 0 = λ o. ItemIs (maybe o) (vItem.ModuleDecl d) in
        one (ItemIs (maybe o)) (subst R (sym import.is.1) (decl_item no_sets d import.is.0))

    pub item_known : (label : NodeKind) → is_one_of exports label ≡ false
        → Of (ItemIs (maybe (decl_of x ts label r p)))
        (item_by x ts (module_decl_of x ts label r p) (stmt_of x ts label r p))
    item_known label e =
        combined (module_decl_of x ts label r p) (stmt_of x ts label r p) (decl_of x ts label r p)
        (of_all (Import label) (λ it. DeclIs it × (decl_of x ts label r p ≡ None)) (λ it known. known e)
        (module_decl_of x ts label r p) (import_known label))
        (stmt_known label)

  -- ---- at a place of a row
  module _ (x : List ℕ) (ts : List Token) where
    no_item : (s : Sets) (o : Option ModuleItem) → o ≡ None → Of (ItemIs s) o
    no_item s o e = absent_of (ItemIs s) o e

    lean_item : (lean : Lean) (from : ℕ) (r : Range) (p : Value) → (build x ts (label_of lean) from r p).item ≡ None
    unfolding build stmt_of decl_of declarable_of module_decl_of
    lean_item vLean.Binary from r p = refl
    lean_item vLean.TypedBinary from r p = refl

    place : (w : What) (from to : ℕ) (es : List Entry) → IsNone exports w
        → Of (ItemIs (maybe (decl_in (made x ts w from to (held x ts es) (parts_of x ts es)))))
        (item_in (made x ts w from to (held x ts es) (parts_of x ts es)))
    unfolding build
    place vWhat.Leaf from to es e = none (ItemIs no_sets)
    place (vWhat.Node label) from to es e = item_known x ts (span_of ts from to) (held x ts es) label e
    place (vWhat.Role label) from to es e =
        no_item _ _ (in_role x ts (λ m. m.item) (λ e. refl) (part (held x ts es) 0))
    place vWhat.Parts from to es e = no_item _ _ (in_held x ts (λ m. m.item) es)
    place (vWhat.Lean lean) from to es e =
        no_item _ _ (in_leant x ts (λ m. m.item) lean_item lean from (parts_of x ts es))

    -- ---- an item that is a declaration, and one that is none
    module _ (r : Range) (p : Value) where
      abbrev Declares : NodeKind → Type 0
      Declares label = is_one_of declarations label ≡ true

      abbrev Needs : NodeKind → Stmt → Type 0
      Needs label it = Declares label → is_some (decl_of x ts label r p) ≡ true

      never : (label : NodeKind) → is_one_of declarations label ≡ false → (it : Stmt) → Needs label it
      never label e it declares = let bad : ⊥ = cc in absurd bad

      needed : (d : Option Decl) → Of (λ (it : Stmt). is_some d ≡ true) (option_map vStmt.Decl d)
      needed None = none (λ (it : Stmt). is_some {T = Decl} None ≡ true)
      needed (Some d) = one (λ (it : Stmt). is_some (Some d) ≡ true) refl

      stmt_needs : (label : NodeKind) → Of (Needs label) (stmt_of x ts label r p)
      unfolding stmt_of
      stmt_needs label =
          of_branch Needs label l.Block (of_any (Needs l.Block) (never l.Block refl) _)
          (of_branch Needs label l.EmptyStatement (of_any (Needs l.EmptyStatement) (never l.EmptyStatement refl) _)
          (of_branch Needs label l.ExpressionStatement
          (of_any (Needs l.ExpressionStatement) (never l.ExpressionStatement refl) _)
          (of_branch Needs label l.LabelledStatement
          (of_any (Needs l.LabelledStatement) (never l.LabelledStatement refl) _)
          (of_branch Needs label l.IfStatement (of_any (Needs l.IfStatement) (never l.IfStatement refl) _)
          (of_branch Needs label l.ForStatement (of_any (Needs l.ForStatement) (never l.ForStatement refl) _)
          (of_branch Needs label l.ForEachStatement
          (of_any (Needs l.ForEachStatement) (never l.ForEachStatement refl) _)
          (of_branch Needs label l.ForAwaitStatement
          (of_any (Needs l.ForAwaitStatement) (never l.ForAwaitStatement refl) _)
          (of_branch Needs label l.WhileStatement (of_any (Needs l.WhileStatement) (never l.WhileStatement refl) _)
          (of_branch Needs label l.DoStatement (of_any (Needs l.DoStatement) (never l.DoStatement refl) _)
          (of_branch Needs label l.ContinueStatement
          (of_any (Needs l.ContinueStatement) (never l.ContinueStatement refl) _)
          (of_branch Needs label l.BreakStatement (of_any (Needs l.BreakStatement) (never l.BreakStatement refl) _)
          (of_branch Needs label l.ReturnStatement (of_any (Needs l.ReturnStatement) (never l.ReturnStatement refl) _)
          (of_branch Needs label l.ThrowStatement (of_any (Needs l.ThrowStatement) (never l.ThrowStatement refl) _)
          (of_branch Needs label l.SwitchStatement (of_any (Needs l.SwitchStatement) (never l.SwitchStatement refl) _)
          (of_branch Needs label l.TryStatement (of_any (Needs l.TryStatement) (never l.TryStatement refl) _)
          (of_branch Needs label l.DebuggerStatement
          (of_any (Needs l.DebuggerStatement) (never l.DebuggerStatement refl) _)
          (of_branch Needs label l.WithStatement (of_any (Needs l.WithStatement) (never l.WithStatement refl) _)
          (of_branch Needs label l.TypedTryStatement
          (of_any (Needs l.TypedTryStatement) (never l.TypedTryStatement refl) _)
          (of_all (λ (it : Stmt). is_some (decl_of x ts label r p) ≡ true) (Needs label) (λ it known declares. known) _
          (needed (decl_of x ts label r p)))))))))))))))))))))

      -- no import and no export is one
      abbrev Lone : NodeKind → ModuleDecl → Type 0
      Lone label it = is_one_of declarations label ≡ false

      lone : (label : NodeKind) → Of (Lone label) (module_decl_of x ts label r p)
      unfolding module_decl_of
      lone label =
          of_branch Lone label l.BareImport (of_any (Lone l.BareImport) (λ it. refl) _)
          (of_branch Lone label l.FromImport (of_any (Lone l.FromImport) (λ it. refl) _)
          (of_branch Lone label l.SourceImport (of_any (Lone l.SourceImport) (λ it. refl) _)
          (of_branch Lone label l.DeferImport (of_any (Lone l.DeferImport) (λ it. refl) _)
          (of_branch Lone label l.RequireImport (of_any (Lone l.RequireImport) (λ it. refl) _)
          (of_branch Lone label l.EntityImport (of_any (Lone l.EntityImport) (λ it. refl) _)
          (of_branch Lone label l.ExportedRequireImport (of_any (Lone l.ExportedRequireImport) (λ it. refl) _)
          (of_branch Lone label l.ExportedEntityImport (of_any (Lone l.ExportedEntityImport) (λ it. refl) _)
          (of_branch Lone label l.ExportAll (of_any (Lone l.ExportAll) (λ it. refl) _)
          (of_branch Lone label l.ExportNames (of_any (Lone l.ExportNames) (λ it. refl) _)
          (of_branch Lone label l.ExportNamespace (of_any (Lone l.ExportNamespace) (λ it. refl) _)
          (of_branch Lone label l.ExportDefaultFunction (of_any (Lone l.ExportDefaultFunction) (λ it. refl) _)
          (of_branch Lone label l.ExportDefaultClass (of_any (Lone l.ExportDefaultClass) (λ it. refl) _)
          (of_branch Lone label l.ExportDefaultExpression (of_any (Lone l.ExportDefaultExpression) (λ it. refl) _)
          (of_branch Lone label l.ExportDeclaration (of_any (Lone l.ExportDeclaration) (λ it. refl) _)
          (of_branch Lone label l.ExportDefaultInterface (of_any (Lone l.ExportDefaultInterface) (λ it. refl) _)
          (of_branch Lone label l.ExportAssignment (of_any (Lone l.ExportAssignment) (λ it. refl) _)
          (none (Lone label))))))))))))))))))

      alone : (label : NodeKind) (o : Option ModuleDecl) → Declares label → Of (Lone label) o → o ≡ None
      alone label None e known = refl
      alone label (Some it) e known = let bad : ⊥ = cc (known.is) in absurd bad

      item_needs : (label : NodeKind) → Declares label
          → Of (λ (it : ModuleItem). is_some (decl_of x ts label r p) ≡ true)
          (item_by x ts (module_decl_of x ts label r p) (stmt_of x ts label r p))
      item_needs label e =
          go (module_decl_of x ts label r p) (alone label (module_decl_of x ts label r p) e (lone label))
          (stmt_of x ts label r p) (stmt_needs label)
        where
          go : (d : Option ModuleDecl) → d ≡ None → (s : Option Stmt) → Of (Needs label) s
              → Of (λ (it : ModuleItem). is_some (decl_of x ts label r p) ≡ true) (item_by x ts d s)
          go (Some it) none s known = let bad : ⊥ = cc in absurd bad
          go None none None known = record { is = tt }
          go None none (Some s) known = record { is = known.is e }

    needs : (w : What) (from to : ℕ) (es : List Entry) → is_declared w ≡ true
        → Of (λ (it : ModuleItem). is_some (decl_in (made x ts w from to (held x ts es) (parts_of x ts es))) ≡ true)
        (item_in (made x ts w from to (held x ts es) (parts_of x ts es)))
    unfolding build
    needs vWhat.Leaf from to es e = let bad : ⊥ = cc in absurd bad
    needs (vWhat.Node label) from to es e = item_needs (span_of ts from to) (held x ts es) label e
    needs (vWhat.Role label) from to es e = let bad : ⊥ = cc in absurd bad
    needs vWhat.Parts from to es e = let bad : ⊥ = cc in absurd bad
    needs (vWhat.Lean lean) from to es e = let bad : ⊥ = cc in absurd bad

    pub adds_decl_item : (i : Item) (old new : Known) → IsNone exports i.what → is_declared i.what ≡ true
        → Adds (decl_sets number) old new (decl_in (valued x ts i))
        → Adds (item_sets number) old new (item_in (valued x ts i))
    adds_decl_item i old new e declares a =
        go (item_in (valued x ts i)) (decl_in (valued x ts i)) (place i.what i.from i.to i.parts.entries.now e)
        (needs i.what i.from i.to i.parts.entries.now declares) a
      where
        go : (o : Option ModuleItem) (d : Option Decl) → Of (ItemIs (maybe d)) o
            → Of (λ (it : ModuleItem). is_some d ≡ true) o
            → Adds (decl_sets number) old new d → Adds (item_sets number) old new o
        go None d known there a = record { added = tt }
        go (Some it) None known there a = let same : false ≡ true = there.is in let bad : ⊥ = cc in absurd bad
        go (Some it) (Some d) known there a = record {
          added = grown_by old new (decl_sets number d) (item_sets number it) (sym known.is) a.added;
        }

    -- ---- no declaration
    past : {A : Type 0} (b others : Bool) (o e : Option A) → (if b then true else others) ≡ false
        → (others ≡ false → e ≡ None) → (if b then o else e) ≡ None
    past true others o e h rest = let bad : ⊥ = cc in absurd bad
    past false others o e h rest = rest h

    no_declarable : (label : NodeKind) (r : Range) (p : Value) → is_one_of declarables label ≡ false
        → declarable_of x ts label r p ≡ None
    unfolding declarable_of
    no_declarable label r p e =
        past (same_label label l.TypedFunction) _ _ _ e (λ e.
        past (same_label label l.TypedAsyncFunction) _ _ _ e (λ e.
        past (same_label label l.TypedClass) _ _ _ e (λ e.
        past (same_label label l.AbstractClass) _ _ _ e (λ e.
        past (same_label label l.InterfaceDeclaration) _ _ _ e (λ e.
        past (same_label label l.AliasDeclaration) _ _ _ e (λ e.
        past (same_label label l.EnumDeclaration) _ _ _ e (λ e.
        past (same_label label l.NamespaceDeclaration) _ _ _ e (λ e.
        past (same_label label l.ModuleDeclaration) _ _ _ e (λ e.
        past (same_label label l.GlobalDeclaration) _ _ _ e (λ e. refl))))))))))

    no_decl : (label : NodeKind) (r : Range) (p : Value) → is_one_of declarations label ≡ false
        → decl_of x ts label r p ≡ None
    unfolding decl_of
    no_decl label r p e =
        past (same_label label l.Function) _ _ _ e (λ e.
        past (same_label label l.AsyncFunction) _ _ _ e (λ e.
        past (same_label label l.Class) _ _ _ e (λ e.
        past (same_label label l.VariableDeclaration) _ _ _ e (λ e.
        past (same_label label l.UsingDeclaration) _ _ _ e (λ e.
        past (same_label label l.Variables) _ _ _ e (λ e.
        past (same_label label l.Using) _ _ _ e (λ e.
        past (same_label label l.Declared) _ _ _ e (λ e.
        past (same_label label l.DeclaredVariables) _ _ _ e (λ e.
        ap (option_map (λ (decl : typed_stmts.Declarable). decl false r)) (no_declarable label r p e))))))))))

    lean_decl : (lean : Lean) (from : ℕ) (r : Range) (p : Value) → (build x ts (label_of lean) from r p).decl ≡ None
    unfolding build
    lean_decl vLean.Binary from r p = no_decl l.Binary r p refl
    lean_decl vLean.TypedBinary from r p = no_decl l.TypedBinary r p refl

    undeclared : (w : What) (from to : ℕ) (es : List Entry) → is_declared w ≡ false
        → decl_in (made x ts w from to (held x ts es) (parts_of x ts es)) ≡ None
    unfolding build
    undeclared vWhat.Leaf from to es e = refl
    undeclared (vWhat.Node label) from to es e = no_decl label (span_of ts from to) (held x ts es) e
    undeclared (vWhat.Role label) from to es e = in_role x ts (λ m. m.decl) (λ e. refl) (part (held x ts es) 0)
    undeclared vWhat.Parts from to es e = in_held x ts (λ m. m.decl) es
    undeclared (vWhat.Lean lean) from to es e = in_leant x ts (λ m. m.decl) lean_decl lean from (parts_of x ts es)

    pub adds_no_decl : (i : Item) (it : Known) → IsNone exports i.what → is_declared i.what ≡ false
        → Adds (item_sets number) it it (item_in (valued x ts i))
    adds_no_decl i it e other =
        go (item_in (valued x ts i)) (decl_in (valued x ts i)) (place i.what i.from i.to i.parts.entries.now e)
        (undeclared i.what i.from i.to i.parts.entries.now other)
      where
        go : (o : Option ModuleItem) (d : Option Decl) → Of (ItemIs (maybe d)) o → d ≡ None
            → Adds (item_sets number) it it o
        go None d known none = record { added = tt }
        go (Some item) (Some d) known none = let bad : ⊥ = cc in absurd bad
        go (Some item) None known none = record {
          added = grown_by it it no_sets (item_sets number item) (sym known.is) (grown_none it);
        }
