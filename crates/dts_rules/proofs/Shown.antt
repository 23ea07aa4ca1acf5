-- What each node shows, from what its parts show.
use Rattle.std.specs.Prelude.{Option}
use Rattle.std.proofs.Common.{◌≡◌}
use Rattle.es_ast.specs.declared.ts.ts.TsPatProp.{TsPatProp}
use Rattle.es_ast.specs.declared.ast.ClassMember.{ClassMember, roll-ClassMember, map-ClassMember}
use Rattle.es_ast.specs.declared.ast.Decl.{Decl, roll-Decl, map-Decl}
use Rattle.es_ast.specs.declared.ast.Expr.{Expr, roll-Expr, map-Expr}
use Rattle.es_ast.specs.declared.ast.ModuleDecl.{ModuleDecl, roll-ModuleDecl, map-ModuleDecl}
use Rattle.es_ast.specs.declared.ast.ModuleItem.{ModuleItem, roll-ModuleItem, map-ModuleItem}
use Rattle.es_ast.specs.declared.ast.ObjectPatProp.{ObjectPatProp, roll-ObjectPatProp, map-ObjectPatProp}
use Rattle.es_ast.specs.declared.ast.Pat.{Pat, roll-Pat, map-Pat}
use Rattle.es_ast.specs.declared.ast.Prop.{Prop, roll-Prop, map-Prop}
use Rattle.es_ast.specs.declared.ast.Stmt.{Stmt, roll-Stmt, map-Stmt}
use Rattle.es_ast.specs.declared.ast.Class.{Class, roll-Class, map-Class}
use Rattle.es_ast.specs.declared.ast.Function.{Function, roll-Function, map-Function}
use Rattle.es_ast.specs.declared.ast.Param.{Param, roll-Param, map-Param}
use Rattle.es_ast.specs.declared.ast.SwitchCase.{SwitchCase, roll-SwitchCase, map-SwitchCase}
use Rattle.es_ast.specs.declared.ast.TsEnumMember.{TsEnumMember, roll-TsEnumMember, map-TsEnumMember}
use Rattle.es_ast.specs.declared.ast.VarDeclarator.{VarDeclarator, roll-VarDeclarator, map-VarDeclarator}
use Rattle.es_ast.specs.declared.ast.ClassMember.TheOpen.{ClassMember-F, Decl-F, Expr-F, ModuleDecl-F, ModuleItem-F, ObjectPatProp-F, Pat-F, Prop-F, Stmt-F, Class-F, Function-F, Param-F, SwitchCase-F, TsEnumMember-F, VarDeclarator-F}
use Rattle.es_ast.specs.declared.ast.ClassMember.TheFolds.{para-roll-ClassMember, para-roll-Decl, para-roll-Expr, para-roll-ModuleDecl, para-roll-ModuleItem, para-roll-ObjectPatProp, para-roll-Pat, para-roll-Prop, para-roll-Stmt, para-roll-Class, para-roll-Function, para-roll-Param, para-roll-SwitchCase, para-roll-TsEnumMember, para-roll-VarDeclarator}
use Rattle.es_site.specs.Parts.{Whole}
use Rattle.dts_rules.specs.Rules.{Env, Of, Shown, ShownPat, ShownFunction, ShownParam, ShownClass, ShownDecl, ShownItem, ShownStmt, ShownMember, ShownProp, ShownDeclarator, in_expr, in_prop, in_pat, in_pat_prop, in_param, in_function}
use Rattle.dts_rules.specs.Programs.{in_class_member, in_class, in_var_declarator, in_enum_member, in_decl, in_stmt, in_module_decl, in_module_item, in_switch_case, shown_member, shown_decl, shown_expr, shown_module_decl, shown_item, shown_pat_prop, shown_pat, shown_prop, shown_stmt, shown_class, shown_function, shown_param, shown_switch_case, shown_enum_member, shown_declarator}

module _ (env : Env) where
  abbrev pub with_member : ClassMember → ClassMember × ShownMember
  with_member it = (it, shown_member env it)

  abbrev pub with_decl : Decl → Decl × ShownDecl
  with_decl it = (it, shown_decl env it)

  abbrev pub with_expr : Expr → Expr × Shown
  with_expr it = (it, shown_expr env it)

  abbrev pub with_module_decl : ModuleDecl → ModuleDecl × ShownItem
  with_module_decl it = (it, shown_module_decl env it)

  abbrev pub with_item : ModuleItem → ModuleItem × ShownItem
  with_item it = (it, shown_item env it)

  abbrev pub with_pat_prop : ObjectPatProp → ObjectPatProp × (Option TsPatProp)
  with_pat_prop it = (it, shown_pat_prop env it)

  abbrev pub with_pat : Pat → Pat × ShownPat
  with_pat it = (it, shown_pat env it)

  abbrev pub with_prop : Prop → Prop × ShownProp
  with_prop it = (it, shown_prop env it)

  abbrev pub with_stmt : Stmt → Stmt × ShownStmt
  with_stmt it = (it, shown_stmt env it)

  abbrev pub with_class : Class → Class × ShownClass
  with_class it = (it, shown_class env it)

  abbrev pub with_function : Function → Function × ShownFunction
  with_function it = (it, shown_function env it)

  abbrev pub with_param : Param → Param × ShownParam
  with_param it = (it, shown_param env it)

  abbrev pub with_switch_case : SwitchCase → SwitchCase × (Unit {0})
  with_switch_case it = (it, shown_switch_case env it)

  abbrev pub with_enum_member : TsEnumMember → TsEnumMember × TsEnumMember
  with_enum_member it = (it, shown_enum_member env it)

  abbrev pub with_declarator : VarDeclarator → VarDeclarator × ShownDeclarator
  with_declarator it = (it, shown_declarator env it)

  -- a `ClassMember` with what each of its parts shows
  abbrev pub beside_member : Whole ClassMember-F → Of ClassMember-F
  beside_member it =
      map-ClassMember
      ClassMember Decl Expr ModuleDecl ModuleItem ObjectPatProp Pat Prop Stmt Class Function Param SwitchCase
      TsEnumMember VarDeclarator (ClassMember × ShownMember) (Decl × ShownDecl) (Expr × Shown) (ModuleDecl
      × ShownItem) (ModuleItem × ShownItem) (ObjectPatProp × (Option TsPatProp)) (Pat × ShownPat) (Prop ×
      ShownProp) (Stmt × ShownStmt) (Class × ShownClass) (Function × ShownFunction) (Param × ShownParam)
      (SwitchCase × (Unit {0})) (TsEnumMember × TsEnumMember) (VarDeclarator × ShownDeclarator) with_member
      with_decl with_expr with_module_decl with_item with_pat_prop with_pat with_prop with_stmt with_class
      with_function with_param with_switch_case with_enum_member with_declarator it

  -- a `Decl` with what each of its parts shows
  abbrev pub beside_decl : Whole Decl-F → Of Decl-F
  beside_decl it =
      map-Decl
      ClassMember Decl Expr ModuleDecl ModuleItem ObjectPatProp Pat Prop Stmt Class Function Param SwitchCase
      TsEnumMember VarDeclarator (ClassMember × ShownMember) (Decl × ShownDecl) (Expr × Shown) (ModuleDecl
      × ShownItem) (ModuleItem × ShownItem) (ObjectPatProp × (Option TsPatProp)) (Pat × ShownPat) (Prop ×
      ShownProp) (Stmt × ShownStmt) (Class × ShownClass) (Function × ShownFunction) (Param × ShownParam)
      (SwitchCase × (Unit {0})) (TsEnumMember × TsEnumMember) (VarDeclarator × ShownDeclarator) with_member
      with_decl with_expr with_module_decl with_item with_pat_prop with_pat with_prop with_stmt with_class
      with_function with_param with_switch_case with_enum_member with_declarator it

  -- a `Expr` with what each of its parts shows
  abbrev pub beside_expr : Whole Expr-F → Of Expr-F
  beside_expr it =
      map-Expr
      ClassMember Decl Expr ModuleDecl ModuleItem ObjectPatProp Pat Prop Stmt Class Function Param SwitchCase
      TsEnumMember VarDeclarator (ClassMember × ShownMember) (Decl × ShownDecl) (Expr × Shown) (ModuleDecl
      × ShownItem) (ModuleItem × ShownItem) (ObjectPatProp × (Option TsPatProp)) (Pat × ShownPat) (Prop ×
      ShownProp) (Stmt × ShownStmt) (Class × ShownClass) (Function × ShownFunction) (Param × ShownParam)
      (SwitchCase × (Unit {0})) (TsEnumMember × TsEnumMember) (VarDeclarator × ShownDeclarator) with_member
      with_decl with_expr with_module_decl with_item with_pat_prop with_pat with_prop with_stmt with_class
      with_function with_param with_switch_case with_enum_member with_declarator it

  -- a `ModuleDecl` with what each of its parts shows
  abbrev pub beside_module_decl : Whole ModuleDecl-F → Of ModuleDecl-F
  beside_module_decl it =
      map-ModuleDecl
      ClassMember Decl Expr ModuleDecl ModuleItem ObjectPatProp Pat Prop Stmt Class Function Param SwitchCase
      TsEnumMember VarDeclarator (ClassMember × ShownMember) (Decl × ShownDecl) (Expr × Shown) (ModuleDecl
      × ShownItem) (ModuleItem × ShownItem) (ObjectPatProp × (Option TsPatProp)) (Pat × ShownPat) (Prop ×
      ShownProp) (Stmt × ShownStmt) (Class × ShownClass) (Function × ShownFunction) (Param × ShownParam)
      (SwitchCase × (Unit {0})) (TsEnumMember × TsEnumMember) (VarDeclarator × ShownDeclarator) with_member
      with_decl with_expr with_module_decl with_item with_pat_prop with_pat with_prop with_stmt with_class
      with_function with_param with_switch_case with_enum_member with_declarator it

  -- a `ModuleItem` with what each of its parts shows
  abbrev pub beside_item : Whole ModuleItem-F → Of ModuleItem-F
  beside_item it =
      map-ModuleItem
      ClassMember Decl Expr ModuleDecl ModuleItem ObjectPatProp Pat Prop Stmt Class Function Param SwitchCase
      TsEnumMember VarDeclarator (ClassMember × ShownMember) (Decl × ShownDecl) (Expr × Shown) (ModuleDecl
      × ShownItem) (ModuleItem × ShownItem) (ObjectPatProp × (Option TsPatProp)) (Pat × ShownPat) (Prop ×
      ShownProp) (Stmt × ShownStmt) (Class × ShownClass) (Function × ShownFunction) (Param × ShownParam)
      (SwitchCase × (Unit {0})) (TsEnumMember × TsEnumMember) (VarDeclarator × ShownDeclarator) with_member
      with_decl with_expr with_module_decl with_item with_pat_prop with_pat with_prop with_stmt with_class
      with_function with_param with_switch_case with_enum_member with_declarator it

  -- a `ObjectPatProp` with what each of its parts shows
  abbrev pub beside_pat_prop : Whole ObjectPatProp-F → Of ObjectPatProp-F
  beside_pat_prop it =
      map-ObjectPatProp
      ClassMember Decl Expr ModuleDecl ModuleItem ObjectPatProp Pat Prop Stmt Class Function Param SwitchCase
      TsEnumMember VarDeclarator (ClassMember × ShownMember) (Decl × ShownDecl) (Expr × Shown) (ModuleDecl
      × ShownItem) (ModuleItem × ShownItem) (ObjectPatProp × (Option TsPatProp)) (Pat × ShownPat) (Prop ×
      ShownProp) (Stmt × ShownStmt) (Class × ShownClass) (Function × ShownFunction) (Param × ShownParam)
      (SwitchCase × (Unit {0})) (TsEnumMember × TsEnumMember) (VarDeclarator × ShownDeclarator) with_member
      with_decl with_expr with_module_decl with_item with_pat_prop with_pat with_prop with_stmt with_class
      with_function with_param with_switch_case with_enum_member with_declarator it

  -- a `Pat` with what each of its parts shows
  abbrev pub beside_pat : Whole Pat-F → Of Pat-F
  beside_pat it =
      map-Pat
      ClassMember Decl Expr ModuleDecl ModuleItem ObjectPatProp Pat Prop Stmt Class Function Param SwitchCase
      TsEnumMember VarDeclarator (ClassMember × ShownMember) (Decl × ShownDecl) (Expr × Shown) (ModuleDecl
      × ShownItem) (ModuleItem × ShownItem) (ObjectPatProp × (Option TsPatProp)) (Pat × ShownPat) (Prop ×
      ShownProp) (Stmt × ShownStmt) (Class × ShownClass) (Function × ShownFunction) (Param × ShownParam)
      (SwitchCase × (Unit {0})) (TsEnumMember × TsEnumMember) (VarDeclarator × ShownDeclarator) with_member
      with_decl with_expr with_module_decl with_item with_pat_prop with_pat with_prop with_stmt with_class
      with_function with_param with_switch_case with_enum_member with_declarator it

  -- a `Prop` with what each of its parts shows
  abbrev pub beside_prop : Whole Prop-F → Of Prop-F
  beside_prop it =
      map-Prop
      ClassMember Decl Expr ModuleDecl ModuleItem ObjectPatProp Pat Prop Stmt Class Function Param SwitchCase
      TsEnumMember VarDeclarator (ClassMember × ShownMember) (Decl × ShownDecl) (Expr × Shown) (ModuleDecl
      × ShownItem) (ModuleItem × ShownItem) (ObjectPatProp × (Option TsPatProp)) (Pat × ShownPat) (Prop ×
      ShownProp) (Stmt × ShownStmt) (Class × ShownClass) (Function × ShownFunction) (Param × ShownParam)
      (SwitchCase × (Unit {0})) (TsEnumMember × TsEnumMember) (VarDeclarator × ShownDeclarator) with_member
      with_decl with_expr with_module_decl with_item with_pat_prop with_pat with_prop with_stmt with_class
      with_function with_param with_switch_case with_enum_member with_declarator it

  -- a `Stmt` with what each of its parts shows
  abbrev pub beside_stmt : Whole Stmt-F → Of Stmt-F
  beside_stmt it =
      map-Stmt
      ClassMember Decl Expr ModuleDecl ModuleItem ObjectPatProp Pat Prop Stmt Class Function Param SwitchCase
      TsEnumMember VarDeclarator (ClassMember × ShownMember) (Decl × ShownDecl) (Expr × Shown) (ModuleDecl
      × ShownItem) (ModuleItem × ShownItem) (ObjectPatProp × (Option TsPatProp)) (Pat × ShownPat) (Prop ×
      ShownProp) (Stmt × ShownStmt) (Class × ShownClass) (Function × ShownFunction) (Param × ShownParam)
      (SwitchCase × (Unit {0})) (TsEnumMember × TsEnumMember) (VarDeclarator × ShownDeclarator) with_member
      with_decl with_expr with_module_decl with_item with_pat_prop with_pat with_prop with_stmt with_class
      with_function with_param with_switch_case with_enum_member with_declarator it

  -- a `Class` with what each of its parts shows
  abbrev pub beside_class : Whole Class-F → Of Class-F
  beside_class it =
      map-Class
      ClassMember Decl Expr ModuleDecl ModuleItem ObjectPatProp Pat Prop Stmt Class Function Param SwitchCase
      TsEnumMember VarDeclarator (ClassMember × ShownMember) (Decl × ShownDecl) (Expr × Shown) (ModuleDecl
      × ShownItem) (ModuleItem × ShownItem) (ObjectPatProp × (Option TsPatProp)) (Pat × ShownPat) (Prop ×
      ShownProp) (Stmt × ShownStmt) (Class × ShownClass) (Function × ShownFunction) (Param × ShownParam)
      (SwitchCase × (Unit {0})) (TsEnumMember × TsEnumMember) (VarDeclarator × ShownDeclarator) with_member
      with_decl with_expr with_module_decl with_item with_pat_prop with_pat with_prop with_stmt with_class
      with_function with_param with_switch_case with_enum_member with_declarator it

  -- a `Function` with what each of its parts shows
  abbrev pub beside_function : Whole Function-F → Of Function-F
  beside_function it =
      map-Function
      ClassMember Decl Expr ModuleDecl ModuleItem ObjectPatProp Pat Prop Stmt Class Function Param SwitchCase
      TsEnumMember VarDeclarator (ClassMember × ShownMember) (Decl × ShownDecl) (Expr × Shown) (ModuleDecl
      × ShownItem) (ModuleItem × ShownItem) (ObjectPatProp × (Option TsPatProp)) (Pat × ShownPat) (Prop ×
      ShownProp) (Stmt × ShownStmt) (Class × ShownClass) (Function × ShownFunction) (Param × ShownParam)
      (SwitchCase × (Unit {0})) (TsEnumMember × TsEnumMember) (VarDeclarator × ShownDeclarator) with_member
      with_decl with_expr with_module_decl with_item with_pat_prop with_pat with_prop with_stmt with_class
      with_function with_param with_switch_case with_enum_member with_declarator it

  -- a `Param` with what each of its parts shows
  abbrev pub beside_param : Whole Param-F → Of Param-F
  beside_param it =
      map-Param
      ClassMember Decl Expr ModuleDecl ModuleItem ObjectPatProp Pat Prop Stmt Class Function Param SwitchCase
      TsEnumMember VarDeclarator (ClassMember × ShownMember) (Decl × ShownDecl) (Expr × Shown) (ModuleDecl
      × ShownItem) (ModuleItem × ShownItem) (ObjectPatProp × (Option TsPatProp)) (Pat × ShownPat) (Prop ×
      ShownProp) (Stmt × ShownStmt) (Class × ShownClass) (Function × ShownFunction) (Param × ShownParam)
      (SwitchCase × (Unit {0})) (TsEnumMember × TsEnumMember) (VarDeclarator × ShownDeclarator) with_member
      with_decl with_expr with_module_decl with_item with_pat_prop with_pat with_prop with_stmt with_class
      with_function with_param with_switch_case with_enum_member with_declarator it

  -- a `SwitchCase` with what each of its parts shows
  abbrev pub beside_switch_case : Whole SwitchCase-F → Of SwitchCase-F
  beside_switch_case it =
      map-SwitchCase
      ClassMember Decl Expr ModuleDecl ModuleItem ObjectPatProp Pat Prop Stmt Class Function Param SwitchCase
      TsEnumMember VarDeclarator (ClassMember × ShownMember) (Decl × ShownDecl) (Expr × Shown) (ModuleDecl
      × ShownItem) (ModuleItem × ShownItem) (ObjectPatProp × (Option TsPatProp)) (Pat × ShownPat) (Prop ×
      ShownProp) (Stmt × ShownStmt) (Class × ShownClass) (Function × ShownFunction) (Param × ShownParam)
      (SwitchCase × (Unit {0})) (TsEnumMember × TsEnumMember) (VarDeclarator × ShownDeclarator) with_member
      with_decl with_expr with_module_decl with_item with_pat_prop with_pat with_prop with_stmt with_class
      with_function with_param with_switch_case with_enum_member with_declarator it

  -- a `TsEnumMember` with what each of its parts shows
  abbrev pub beside_enum_member : Whole TsEnumMember-F → Of TsEnumMember-F
  beside_enum_member it =
      map-TsEnumMember
      ClassMember Decl Expr ModuleDecl ModuleItem ObjectPatProp Pat Prop Stmt Class Function Param SwitchCase
      TsEnumMember VarDeclarator (ClassMember × ShownMember) (Decl × ShownDecl) (Expr × Shown) (ModuleDecl
      × ShownItem) (ModuleItem × ShownItem) (ObjectPatProp × (Option TsPatProp)) (Pat × ShownPat) (Prop ×
      ShownProp) (Stmt × ShownStmt) (Class × ShownClass) (Function × ShownFunction) (Param × ShownParam)
      (SwitchCase × (Unit {0})) (TsEnumMember × TsEnumMember) (VarDeclarator × ShownDeclarator) with_member
      with_decl with_expr with_module_decl with_item with_pat_prop with_pat with_prop with_stmt with_class
      with_function with_param with_switch_case with_enum_member with_declarator it

  -- a `VarDeclarator` with what each of its parts shows
  abbrev pub beside_declarator : Whole VarDeclarator-F → Of VarDeclarator-F
  beside_declarator it =
      map-VarDeclarator
      ClassMember Decl Expr ModuleDecl ModuleItem ObjectPatProp Pat Prop Stmt Class Function Param SwitchCase
      TsEnumMember VarDeclarator (ClassMember × ShownMember) (Decl × ShownDecl) (Expr × Shown) (ModuleDecl
      × ShownItem) (ModuleItem × ShownItem) (ObjectPatProp × (Option TsPatProp)) (Pat × ShownPat) (Prop ×
      ShownProp) (Stmt × ShownStmt) (Class × ShownClass) (Function × ShownFunction) (Param × ShownParam)
      (SwitchCase × (Unit {0})) (TsEnumMember × TsEnumMember) (VarDeclarator × ShownDeclarator) with_member
      with_decl with_expr with_module_decl with_item with_pat_prop with_pat with_prop with_stmt with_class
      with_function with_param with_switch_case with_enum_member with_declarator it

  pub at_member : (it : Whole ClassMember-F)
      → shown_member env (roll-ClassMember it) ≡ in_class_member env (beside_member it)
  unfolding shown_member shown_decl shown_expr shown_module_decl shown_item shown_pat_prop shown_pat shown_prop
      shown_stmt shown_class shown_function shown_param shown_switch_case shown_enum_member shown_declarator
  at_member it =
      para-roll-ClassMember
      ShownMember ShownDecl Shown ShownItem ShownItem (Option TsPatProp) ShownPat ShownProp ShownStmt ShownClass
      ShownFunction ShownParam (Unit {0}) TsEnumMember ShownDeclarator (in_class_member env) (in_decl env)
      (in_expr env) (in_module_decl env) (in_module_item env) (in_pat_prop env) (in_pat env) (in_prop env)
      (in_stmt env) (in_class env) (in_function env) (in_param env) (in_switch_case env) (in_enum_member env)
      (in_var_declarator env) it

  pub at_decl : (it : Whole Decl-F) → shown_decl env (roll-Decl it) ≡ in_decl env (beside_decl it)
  unfolding shown_member shown_decl shown_expr shown_module_decl shown_item shown_pat_prop shown_pat shown_prop
      shown_stmt shown_class shown_function shown_param shown_switch_case shown_enum_member shown_declarator
  at_decl it =
      para-roll-Decl
      ShownMember ShownDecl Shown ShownItem ShownItem (Option TsPatProp) ShownPat ShownProp ShownStmt ShownClass
      ShownFunction ShownParam (Unit {0}) TsEnumMember ShownDeclarator (in_class_member env) (in_decl env)
      (in_expr env) (in_module_decl env) (in_module_item env) (in_pat_prop env) (in_pat env) (in_prop env)
      (in_stmt env) (in_class env) (in_function env) (in_param env) (in_switch_case env) (in_enum_member env)
      (in_var_declarator env) it

  pub at_expr : (it : Whole Expr-F) → shown_expr env (roll-Expr it) ≡ in_expr env (beside_expr it)
  unfolding shown_member shown_decl shown_expr shown_module_decl shown_item shown_pat_prop shown_pat shown_prop
      shown_stmt shown_class shown_function shown_param shown_switch_case shown_enum_member shown_declarator
  at_expr it =
      para-roll-Expr
      ShownMember ShownDecl Shown ShownItem ShownItem (Option TsPatProp) ShownPat ShownProp ShownStmt ShownClass
      ShownFunction ShownParam (Unit {0}) TsEnumMember ShownDeclarator (in_class_member env) (in_decl env)
      (in_expr env) (in_module_decl env) (in_module_item env) (in_pat_prop env) (in_pat env) (in_prop env)
      (in_stmt env) (in_class env) (in_function env) (in_param env) (in_switch_case env) (in_enum_member env)
      (in_var_declarator env) it

  pub at_module_decl : (it : Whole ModuleDecl-F)
      → shown_module_decl env (roll-ModuleDecl it) ≡ in_module_decl env (beside_module_decl it)
  unfolding shown_member shown_decl shown_expr shown_module_decl shown_item shown_pat_prop shown_pat shown_prop
      shown_stmt shown_class shown_function shown_param shown_switch_case shown_enum_member shown_declarator
  at_module_decl it =
      para-roll-ModuleDecl
      ShownMember ShownDecl Shown ShownItem ShownItem (Option TsPatProp) ShownPat ShownProp ShownStmt ShownClass
      ShownFunction ShownParam (Unit {0}) TsEnumMember ShownDeclarator (in_class_member env) (in_decl env)
      (in_expr env) (in_module_decl env) (in_module_item env) (in_pat_prop env) (in_pat env) (in_prop env)
      (in_stmt env) (in_class env) (in_function env) (in_param env) (in_switch_case env) (in_enum_member env)
      (in_var_declarator env) it

  pub at_item : (it : Whole ModuleItem-F) → shown_item env (roll-ModuleItem it) ≡ in_module_item env (beside_item it)
  unfolding shown_member shown_decl shown_expr shown_module_decl shown_item shown_pat_prop shown_pat shown_prop
      shown_stmt shown_class shown_function shown_param shown_switch_case shown_enum_member shown_declarator
  at_item it =
      para-roll-ModuleItem
      ShownMember ShownDecl Shown ShownItem ShownItem (Option TsPatProp) ShownPat ShownProp ShownStmt ShownClass
      ShownFunction ShownParam (Unit {0}) TsEnumMember ShownDeclarator (in_class_member env) (in_decl env)
      (in_expr env) (in_module_decl env) (in_module_item env) (in_pat_prop env) (in_pat env) (in_prop env)
      (in_stmt env) (in_class env) (in_function env) (in_param env) (in_switch_case env) (in_enum_member env)
      (in_var_declarator env) it

  pub at_pat_prop : (it : Whole ObjectPatProp-F)
      → shown_pat_prop env (roll-ObjectPatProp it) ≡ in_pat_prop env (beside_pat_prop it)
  unfolding shown_member shown_decl shown_expr shown_module_decl shown_item shown_pat_prop shown_pat shown_prop
      shown_stmt shown_class shown_function shown_param shown_switch_case shown_enum_member shown_declarator
  at_pat_prop it =
      para-roll-ObjectPatProp
      ShownMember ShownDecl Shown ShownItem ShownItem (Option TsPatProp) ShownPat ShownProp ShownStmt ShownClass
      ShownFunction ShownParam (Unit {0}) TsEnumMember ShownDeclarator (in_class_member env) (in_decl env)
      (in_expr env) (in_module_decl env) (in_module_item env) (in_pat_prop env) (in_pat env) (in_prop env)
      (in_stmt env) (in_class env) (in_function env) (in_param env) (in_switch_case env) (in_enum_member env)
      (in_var_declarator env) it

  pub at_pat : (it : Whole Pat-F) → shown_pat env (roll-Pat it) ≡ in_pat env (beside_pat it)
  unfolding shown_member shown_decl shown_expr shown_module_decl shown_item shown_pat_prop shown_pat shown_prop
      shown_stmt shown_class shown_function shown_param shown_switch_case shown_enum_member shown_declarator
  at_pat it =
      para-roll-Pat
      ShownMember ShownDecl Shown ShownItem ShownItem (Option TsPatProp) ShownPat ShownProp ShownStmt ShownClass
      ShownFunction ShownParam (Unit {0}) TsEnumMember ShownDeclarator (in_class_member env) (in_decl env)
      (in_expr env) (in_module_decl env) (in_module_item env) (in_pat_prop env) (in_pat env) (in_prop env)
      (in_stmt env) (in_class env) (in_function env) (in_param env) (in_switch_case env) (in_enum_member env)
      (in_var_declarator env) it

  pub at_prop : (it : Whole Prop-F) → shown_prop env (roll-Prop it) ≡ in_prop env (beside_prop it)
  unfolding shown_member shown_decl shown_expr shown_module_decl shown_item shown_pat_prop shown_pat shown_prop
      shown_stmt shown_class shown_function shown_param shown_switch_case shown_enum_member shown_declarator
  at_prop it =
      para-roll-Prop
      ShownMember ShownDecl Shown ShownItem ShownItem (Option TsPatProp) ShownPat ShownProp ShownStmt ShownClass
      ShownFunction ShownParam (Unit {0}) TsEnumMember ShownDeclarator (in_class_member env) (in_decl env)
      (in_expr env) (in_module_decl env) (in_module_item env) (in_pat_prop env) (in_pat env) (in_prop env)
      (in_stmt env) (in_class env) (in_function env) (in_param env) (in_switch_case env) (in_enum_member env)
      (in_var_declarator env) it

  pub at_stmt : (it : Whole Stmt-F) → shown_stmt env (roll-Stmt it) ≡ in_stmt env (beside_stmt it)
  unfolding shown_member shown_decl shown_expr shown_module_decl shown_item shown_pat_prop shown_pat shown_prop
      shown_stmt shown_class shown_function shown_param shown_switch_case shown_enum_member shown_declarator
  at_stmt it =
      para-roll-Stmt
      ShownMember ShownDecl Shown ShownItem ShownItem (Option TsPatProp) ShownPat ShownProp ShownStmt ShownClass
      ShownFunction ShownParam (Unit {0}) TsEnumMember ShownDeclarator (in_class_member env) (in_decl env)
      (in_expr env) (in_module_decl env) (in_module_item env) (in_pat_prop env) (in_pat env) (in_prop env)
      (in_stmt env) (in_class env) (in_function env) (in_param env) (in_switch_case env) (in_enum_member env)
      (in_var_declarator env) it

  pub at_class : (it : Whole Class-F) → shown_class env (roll-Class it) ≡ in_class env (beside_class it)
  unfolding shown_member shown_decl shown_expr shown_module_decl shown_item shown_pat_prop shown_pat shown_prop
      shown_stmt shown_class shown_function shown_param shown_switch_case shown_enum_member shown_declarator
  at_class it =
      para-roll-Class
      ShownMember ShownDecl Shown ShownItem ShownItem (Option TsPatProp) ShownPat ShownProp ShownStmt ShownClass
      ShownFunction ShownParam (Unit {0}) TsEnumMember ShownDeclarator (in_class_member env) (in_decl env)
      (in_expr env) (in_module_decl env) (in_module_item env) (in_pat_prop env) (in_pat env) (in_prop env)
      (in_stmt env) (in_class env) (in_function env) (in_param env) (in_switch_case env) (in_enum_member env)
      (in_var_declarator env) it

  pub at_function : (it : Whole Function-F)
      → shown_function env (roll-Function it) ≡ in_function env (beside_function it)
  unfolding shown_member shown_decl shown_expr shown_module_decl shown_item shown_pat_prop shown_pat shown_prop
      shown_stmt shown_class shown_function shown_param shown_switch_case shown_enum_member shown_declarator
  at_function it =
      para-roll-Function
      ShownMember ShownDecl Shown ShownItem ShownItem (Option TsPatProp) ShownPat ShownProp ShownStmt ShownClass
      ShownFunction ShownParam (Unit {0}) TsEnumMember ShownDeclarator (in_class_member env) (in_decl env)
      (in_expr env) (in_module_decl env) (in_module_item env) (in_pat_prop env) (in_pat env) (in_prop env)
      (in_stmt env) (in_class env) (in_function env) (in_param env) (in_switch_case env) (in_enum_member env)
      (in_var_declarator env) it

  pub at_param : (it : Whole Param-F) → shown_param env (roll-Param it) ≡ in_param env (beside_param it)
  unfolding shown_member shown_decl shown_expr shown_module_decl shown_item shown_pat_prop shown_pat shown_prop
      shown_stmt shown_class shown_function shown_param shown_switch_case shown_enum_member shown_declarator
  at_param it =
      para-roll-Param
      ShownMember ShownDecl Shown ShownItem ShownItem (Option TsPatProp) ShownPat ShownProp ShownStmt ShownClass
      ShownFunction ShownParam (Unit {0}) TsEnumMember ShownDeclarator (in_class_member env) (in_decl env)
      (in_expr env) (in_module_decl env) (in_module_item env) (in_pat_prop env) (in_pat env) (in_prop env)
      (in_stmt env) (in_class env) (in_function env) (in_param env) (in_switch_case env) (in_enum_member env)
      (in_var_declarator env) it

  pub at_switch_case : (it : Whole SwitchCase-F)
      → shown_switch_case env (roll-SwitchCase it) ≡ in_switch_case env (beside_switch_case it)
  unfolding shown_member shown_decl shown_expr shown_module_decl shown_item shown_pat_prop shown_pat shown_prop
      shown_stmt shown_class shown_function shown_param shown_switch_case shown_enum_member shown_declarator
  at_switch_case it =
      para-roll-SwitchCase
      ShownMember ShownDecl Shown ShownItem ShownItem (Option TsPatProp) ShownPat ShownProp ShownStmt ShownClass
      ShownFunction ShownParam (Unit {0}) TsEnumMember ShownDeclarator (in_class_member env) (in_decl env)
      (in_expr env) (in_module_decl env) (in_module_item env) (in_pat_prop env) (in_pat env) (in_prop env)
      (in_stmt env) (in_class env) (in_function env) (in_param env) (in_switch_case env) (in_enum_member env)
      (in_var_declarator env) it

  pub at_enum_member : (it : Whole TsEnumMember-F)
      → shown_enum_member env (roll-TsEnumMember it) ≡ in_enum_member env (beside_enum_member it)
  unfolding shown_member shown_decl shown_expr shown_module_decl shown_item shown_pat_prop shown_pat shown_prop
      shown_stmt shown_class shown_function shown_param shown_switch_case shown_enum_member shown_declarator
  at_enum_member it =
      para-roll-TsEnumMember
      ShownMember ShownDecl Shown ShownItem ShownItem (Option TsPatProp) ShownPat ShownProp ShownStmt ShownClass
      ShownFunction ShownParam (Unit {0}) TsEnumMember ShownDeclarator (in_class_member env) (in_decl env)
      (in_expr env) (in_module_decl env) (in_module_item env) (in_pat_prop env) (in_pat env) (in_prop env)
      (in_stmt env) (in_class env) (in_function env) (in_param env) (in_switch_case env) (in_enum_member env)
      (in_var_declarator env) it

  pub at_declarator : (it : Whole VarDeclarator-F)
      → shown_declarator env (roll-VarDeclarator it) ≡ in_var_declarator env (beside_declarator it)
  unfolding shown_member shown_decl shown_expr shown_module_decl shown_item shown_pat_prop shown_pat shown_prop
      shown_stmt shown_class shown_function shown_param shown_switch_case shown_enum_member shown_declarator
  at_declarator it =
      para-roll-VarDeclarator
      ShownMember ShownDecl Shown ShownItem ShownItem (Option TsPatProp) ShownPat ShownProp ShownStmt ShownClass
      ShownFunction ShownParam (Unit {0}) TsEnumMember ShownDeclarator (in_class_member env) (in_decl env)
      (in_expr env) (in_module_decl env) (in_module_item env) (in_pat_prop env) (in_pat env) (in_prop env)
      (in_stmt env) (in_class env) (in_function env) (in_param env) (in_switch_case env) (in_enum_member env)
      (in_var_declarator env) it
