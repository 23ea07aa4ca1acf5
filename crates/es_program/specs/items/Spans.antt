-- Where the items of a program stand: what each keeps.
use Rattle.base.specs.declared.range.Range.{Range}
use Rattle.es_ast.specs.declared.ast.Decl.{out-Decl}
use Rattle.es_ast.specs.declared.ast.ModuleDecl.{out-ModuleDecl}
use Rattle.es_ast.specs.declared.ast.ModuleItem.{ModuleItem, out-ModuleItem}
use Rattle.es_ast.specs.declared.ast.Stmt.{out-Stmt}
use Rattle.es_ast.specs.declared.ast.ClassMember.TheOpen.{Decl-F, ModuleDecl-F, ModuleItem-F, Stmt-F}
use Rattle.es_site.specs.Parts.{Whole}

abbrev pub span_of_decl : Whole Decl-F → Range
span_of_decl (Decl-F.Decl::Class declare class span) = span
span_of_decl (Decl-F.Decl::Fn declare function span) = span
span_of_decl (Decl-F.Var declare kind decls span) = span
span_of_decl (Decl-F.TsInterface declare id type_params extends body span) = span
span_of_decl (Decl-F.TsTypeAlias declare id type_params type_ann span) = span
span_of_decl (Decl-F.TsEnum declare is_const id members span) = span
span_of_decl (Decl-F.TsNamespace declare is_module id body span) = span
span_of_decl (Decl-F.TsModule declare id has_body body span) = span
span_of_decl (Decl-F.TsGlobal declare body span) = span

abbrev pub span_of_stmt : Whole Stmt-F → Range
span_of_stmt (Stmt-F.Block stmts span) = span
span_of_stmt (Stmt-F.Stmt::Empty span) = span
span_of_stmt (Stmt-F.Debugger span) = span
span_of_stmt (Stmt-F.With obj body span) = span
span_of_stmt (Stmt-F.Return arg span) = span
span_of_stmt (Stmt-F.Labeled label body span) = span
span_of_stmt (Stmt-F.Break label span) = span
span_of_stmt (Stmt-F.Continue label span) = span
span_of_stmt (Stmt-F.If test cons alt span) = span
span_of_stmt (Stmt-F.Switch discriminant cases span) = span
span_of_stmt (Stmt-F.Throw arg span) = span
span_of_stmt (Stmt-F.Try block param handler finalizer span) = span
span_of_stmt (Stmt-F.While test body span) = span
span_of_stmt (Stmt-F.DoWhile body test span) = span
span_of_stmt (Stmt-F.For init test update body span) = span
span_of_stmt (Stmt-F.ForIn kind left right body span) = span
span_of_stmt (Stmt-F.ForOf is_await kind left right body span) = span
span_of_stmt (Stmt-F.Decl it) = span_of_decl (out-Decl it)
span_of_stmt (Stmt-F.Stmt::Expr expr span) = span

abbrev pub span_of_module_decl : Whole ModuleDecl-F → Range
span_of_module_decl (ModuleDecl-F.Import it) = it.span
span_of_module_decl (ModuleDecl-F.ExportDecl decl span) = span
span_of_module_decl (ModuleDecl-F.ExportNamed it) = it.span
span_of_module_decl (ModuleDecl-F.ExportDefaultDecl decl span) = span
span_of_module_decl (ModuleDecl-F.ExportDefaultExpr expr span) = span
span_of_module_decl (ModuleDecl-F.ExportAll it) = it.span
span_of_module_decl (ModuleDecl-F.TsImportEquals it) = it.span
span_of_module_decl (ModuleDecl-F.TsExportAssignment expr span) = span
span_of_module_decl (ModuleDecl-F.TsNamespaceExport it) = it.span

-- an item of a program
abbrev pub span_by : Whole ModuleItem-F → Range
span_by (ModuleItem-F.ModuleDecl it) = span_of_module_decl (out-ModuleDecl it)
span_by (ModuleItem-F.Stmt it) = span_of_stmt (out-Stmt it)

abbrev pub span_of_lent : ModuleItem → Range
span_of_lent item = span_by (out-ModuleItem item)
