-- What each node of a program shows only appends to what was found.
use Rattle.std.proofs.Common.{◌≡◌, refl, sym, ◌∙◌, ap, subst, Bool, true, false, ◌&&◌, List, [], ◌∷◌, ◌+◌, map, Option, Some, None, option_map, fold}
use Rattle.base.specs.declared.range.Range.{Range}
use Rattle.es_ast.specs.declared.ts.leaf.Ident.{Ident}
use Rattle.es_ast.specs.declared.ts.ts.TsPart.{TsPart}
use Rattle.es_ast.specs.declared.ts.ts.TsType.{TsType}
use Rattle.es_ast.specs.declared.leaf.VarDeclKind.{VarDeclKind}
use Rattle.es_ast.specs.declared.ast.ClassMember.{ClassMember, roll-ClassMember, map-ClassMember}
use Rattle.es_ast.specs.declared.ast.Decl.{Decl, roll-Decl, map-Decl}
use Rattle.es_ast.specs.declared.ast.Expr.{Expr, roll-Expr, out-Expr, map-Expr}
use Rattle.es_ast.specs.declared.ast.ModuleDecl.{ModuleDecl, roll-ModuleDecl, map-ModuleDecl}
use Rattle.es_ast.specs.declared.ast.ModuleItem.{ModuleItem, roll-ModuleItem, map-ModuleItem}
use Rattle.es_ast.specs.declared.ast.ObjectPatProp.{ObjectPatProp, map-ObjectPatProp}
use Rattle.es_ast.specs.declared.ast.Pat.{Pat, roll-Pat, out-Pat, map-Pat}
use Rattle.es_ast.specs.declared.ast.Prop.{Prop, roll-Prop, map-Prop}
use Rattle.es_ast.specs.declared.ast.Stmt.{Stmt, roll-Stmt, map-Stmt}
use Rattle.es_ast.specs.declared.ast.Class.{Class, roll-Class, map-Class}
use Rattle.es_ast.specs.declared.ast.Function.{Function, roll-Function, map-Function}
use Rattle.es_ast.specs.declared.ast.Param.{Param, roll-Param, map-Param}
use Rattle.es_ast.specs.declared.ast.SwitchCase.{SwitchCase, map-SwitchCase}
use Rattle.es_ast.specs.declared.ast.TsEnumMember.{TsEnumMember, map-TsEnumMember}
use Rattle.es_ast.specs.declared.ast.VarDeclarator.{VarDeclarator, roll-VarDeclarator, map-VarDeclarator}
use Rattle.es_ast.specs.declared.ast.ClassMember.TheOpen.{ClassMember-F, Decl-F, Expr-F, ModuleDecl-F, ModuleItem-F, ObjectPatProp-F, Pat-F, Prop-F, Stmt-F, Class-F, Function-F, Param-F, SwitchCase-F, TsEnumMember-F, VarDeclarator-F}
use Rattle.es_ast.specs.declared.ast.ClassMember.TheFolds.{ind-ClassMember, ind-Decl, ind-Expr, ind-ModuleDecl, ind-ModuleItem, ind-Pat, ind-Prop, ind-Stmt, ind-Class, ind-Function, ind-Param, ind-VarDeclarator}
use Rattle.es_ast.specs.declared.ts.leaf.TsKey.{TsKey}
use Rattle.es_ast.specs.declared.ts.leaf.MethodKind.{MethodKind}
use Rattle.es_ast.specs.declared.leaf.Modifiers.{Modifiers}
use Rattle.es_ast.specs.declared.ts.ts.TsTupleElement.{TsTupleElement}
use Rattle.es_ast.specs.declared.ts.ts.TsType.TheVariants as vType
use Rattle.es_ast.specs.declared.ts.ts.TsTypeElement.TheVariants as vMember
use Rattle.es_ast.specs.declared.ts.ts.TsParamPat.TheVariants as vTsPat
use Rattle.es_ast.specs.declared.ast.ClassMember.TheVariants as vClassMember
use Rattle.es_ast.specs.declared.ast.Decl.TheVariants as vDecl
use Rattle.es_ast.specs.declared.ast.ModuleDecl.TheVariants as vModule
use Rattle.es_ast.specs.declared.ast.Pat.TheVariants as vPat
use Rattle.es_ast.specs.declared.ast.Stmt.TheVariants as vStmt
use Rattle.dts_rules.specs.Made.{nowhere, any_type, annotation, made_name, if_readonly}
use Rattle.dts_rules.specs.Sets.{type_in}
use Rattle.es_site.specs.Parts.{Kind, Whole}
use Rattle.dts_rules.specs.declared.found.FoundKind.TheVariants as kind
use Rattle.dts_rules.specs.declared.found.Found.{Found}
use Rattle.dts_rules.specs.Rules as rules
use Rattle.dts_rules.specs.Rules.{Env, Of, Run, State, Shown, Sort, ShownPat, ShownFunction, ShownParam, ShownDecl, Elements, Typing, give, nothing, element_step, array_type, object_type, call_type, in_expr, in_prop, in_pat, in_pat_prop, in_param, in_function}
use Rattle.dts_rules.specs.Programs as programs
use Rattle.dts_rules.specs.Programs.{in_class_member, in_class, in_var_declarator, in_enum_member, in_decl, in_stmt, in_module_decl, in_module_item, in_switch_case, shown_member, shown_decl, shown_expr, shown_module_decl, shown_item, shown_pat_prop, shown_pat, shown_prop, shown_stmt, shown_class, shown_function, shown_param, shown_switch_case, shown_enum_member, shown_declarator}
use Rattle.dts_rules.proofs.Shown.{with_member, with_decl, with_expr, with_item, with_pat, with_prop, with_function, with_param, with_declarator, beside_member, beside_decl, beside_expr, beside_module_decl, beside_item, beside_pat, beside_prop, beside_stmt, beside_class, beside_function, beside_param, beside_declarator, at_member, at_decl, at_expr, at_module_decl, at_item, at_pat, at_prop, at_stmt, at_class, at_function, at_param, at_declarator}
use Rattle.dts_laws.specs.Appends.{ahead, moved, Appends}
use Rattle.dts_laws.proofs.StepLemmas.{note_ahead, after_appends, noted, or_any_appends, AllAppend, turn_appends}

-- ---- what each node shows
pub record ExprAppends (it : Shown) : Type 0 where
  pub rule : (c r : Bool) → Appends (it.rule c r)
  pub rest : (c : Bool) → Appends (it.rest c)

pub record PatAppends (it : ShownPat) : Type 0 where
  pub as_type : (place : Range) → Appends (it.as_type place)
  pub declared : Appends it.declared

pub record FunctionAppends (it : ShownFunction) : Type 0 where
  pub ty : Appends it.ty
  pub bare : (ruled setter : Bool) → Appends (it.bare ruled setter)

pub record ParamAppends (it : ShownParam) : Type 0 where
  pub as_type : Appends it.as_type
  pub declared : Appends it.declared

pub record DeclAppends (it : ShownDecl) : Type 0 where
  pub declared : (top : Bool) → Appends (it.declared top)
  pub defaulted : Appends it.defaulted

-- of all of a list
given_all : {T S B : Type 0} (Q : T → Type 0) (with_ : T → S) (g : S → Run B)
    (h : (u : (t : T) × Q t) → Appends (g (with_ u.0))) (us : List ((t : T) × Q t))
    → AllAppend g (map with_ (map (λ (u : (t : T) × Q t). u.0) us))
given_all Q with_ g h [] = tt
given_all Q with_ g h (u ∷ us) = (h u, given_all Q with_ g h us)

-- no step
none : (span : Range) → ExprAppends (nothing span)
none span = record { rule = λ c r f s. refl; rest = λ c f s. refl }

module _ (env : Env) where
  abbrev OfMember : ClassMember → Type 0
  OfMember it = Appends (shown_member env it)

  abbrev OfDecl : Decl → Type 0
  OfDecl it = DeclAppends (shown_decl env it)

  abbrev OfExpr : Expr → Type 0
  OfExpr it = ExprAppends (shown_expr env it)

  abbrev OfModuleDecl : ModuleDecl → Type 0
  OfModuleDecl it = (top : Bool) → Appends (shown_module_decl env it top)

  abbrev OfItem : ModuleItem → Type 0
  OfItem it = (top : Bool) → Appends (shown_item env it top)

  abbrev OfPatProp : ObjectPatProp → Type 0
  OfPatProp it = Unit {0}

  abbrev OfPat : Pat → Type 0
  OfPat it = PatAppends (shown_pat env it)

  abbrev OfProp : Prop → Type 0
  OfProp it = (c r : Bool) → Appends (shown_prop env it c r)

  abbrev OfStmt : Stmt → Type 0
  OfStmt it = (top : Bool) → Appends (shown_stmt env it top)

  abbrev OfClass : Class → Type 0
  OfClass it = Appends (shown_class env it).declared

  abbrev OfFunction : Function → Type 0
  OfFunction it = FunctionAppends (shown_function env it)

  abbrev OfParam : Param → Type 0
  OfParam it = ParamAppends (shown_param env it)

  abbrev OfCase : SwitchCase → Type 0
  OfCase it = Unit {0}

  abbrev OfEnumMember : TsEnumMember → Type 0
  OfEnumMember it = Unit {0}

  abbrev OfDeclarator : VarDeclarator → Type 0
  OfDeclarator it = Appends (shown_declarator env it)

  -- a node whose parts are fine
  abbrev Fine : Kind → Type 0
  Fine K = K ((it : ClassMember) × OfMember it) ((it : Decl) × OfDecl it) ((it : Expr) × OfExpr it)
      ((it : ModuleDecl) × OfModuleDecl it) ((it : ModuleItem) × OfItem it) ((it : ObjectPatProp) × OfPatProp it)
      ((it : Pat) × OfPat it) ((it : Prop) × OfProp it) ((it : Stmt) × OfStmt it) ((it : Class) × OfClass it)
      ((it : Function) × OfFunction it) ((it : Param) × OfParam it) ((it : SwitchCase) × OfCase it)
      ((it : TsEnumMember) × OfEnumMember it) ((it : VarDeclarator) × OfDeclarator it)

  abbrev whole_member : Fine ClassMember-F → Whole ClassMember-F
  whole_member y =
      map-ClassMember ((it : ClassMember) × OfMember it) ((it : Decl) × OfDecl it) ((it : Expr) × OfExpr it)
      ((it : ModuleDecl) × OfModuleDecl it) ((it : ModuleItem) × OfItem it) ((it : ObjectPatProp) × OfPatProp it)
      ((it : Pat) × OfPat it) ((it : Prop) × OfProp it) ((it : Stmt) × OfStmt it) ((it : Class) × OfClass it)
      ((it : Function) × OfFunction it) ((it : Param) × OfParam it) ((it : SwitchCase) × OfCase it)
      ((it : TsEnumMember) × OfEnumMember it) ((it : VarDeclarator) × OfDeclarator it) ClassMember Decl
      Expr ModuleDecl ModuleItem ObjectPatProp Pat Prop Stmt Class Function Param SwitchCase
      TsEnumMember VarDeclarator (λ u. u.0) (λ u. u.0) (λ u. u.0) (λ u. u.0) (λ u. u.0)
      (λ u. u.0) (λ u. u.0) (λ u. u.0) (λ u. u.0) (λ u. u.0) (λ u. u.0) (λ u. u.0)
      (λ u. u.0) (λ u. u.0) (λ u. u.0) y

  abbrev whole_decl : Fine Decl-F → Whole Decl-F
  whole_decl y =
      map-Decl ((it : ClassMember) × OfMember it) ((it : Decl) × OfDecl it) ((it : Expr) × OfExpr it)
      ((it : ModuleDecl) × OfModuleDecl it) ((it : ModuleItem) × OfItem it) ((it : ObjectPatProp) × OfPatProp it)
      ((it : Pat) × OfPat it) ((it : Prop) × OfProp it) ((it : Stmt) × OfStmt it) ((it : Class) × OfClass it)
      ((it : Function) × OfFunction it) ((it : Param) × OfParam it) ((it : SwitchCase) × OfCase it)
      ((it : TsEnumMember) × OfEnumMember it) ((it : VarDeclarator) × OfDeclarator it) ClassMember Decl
      Expr ModuleDecl ModuleItem ObjectPatProp Pat Prop Stmt Class Function Param SwitchCase
      TsEnumMember VarDeclarator (λ u. u.0) (λ u. u.0) (λ u. u.0) (λ u. u.0) (λ u. u.0)
      (λ u. u.0) (λ u. u.0) (λ u. u.0) (λ u. u.0) (λ u. u.0) (λ u. u.0) (λ u. u.0)
      (λ u. u.0) (λ u. u.0) (λ u. u.0) y

  abbrev whole_expr : Fine Expr-F → Whole Expr-F
  whole_expr y =
      map-Expr ((it : ClassMember) × OfMember it) ((it : Decl) × OfDecl it) ((it : Expr) × OfExpr it)
      ((it : ModuleDecl) × OfModuleDecl it) ((it : ModuleItem) × OfItem it) ((it : ObjectPatProp) × OfPatProp it)
      ((it : Pat) × OfPat it) ((it : Prop) × OfProp it) ((it : Stmt) × OfStmt it) ((it : Class) × OfClass it)
      ((it : Function) × OfFunction it) ((it : Param) × OfParam it) ((it : SwitchCase) × OfCase it)
      ((it : TsEnumMember) × OfEnumMember it) ((it : VarDeclarator) × OfDeclarator it) ClassMember Decl
      Expr ModuleDecl ModuleItem ObjectPatProp Pat Prop Stmt Class Function Param SwitchCase
      TsEnumMember VarDeclarator (λ u. u.0) (λ u. u.0) (λ u. u.0) (λ u. u.0) (λ u. u.0)
      (λ u. u.0) (λ u. u.0) (λ u. u.0) (λ u. u.0) (λ u. u.0) (λ u. u.0) (λ u. u.0)
      (λ u. u.0) (λ u. u.0) (λ u. u.0) y

  abbrev whole_module_decl : Fine ModuleDecl-F → Whole ModuleDecl-F
  whole_module_decl y =
      map-ModuleDecl ((it : ClassMember) × OfMember it) ((it : Decl) × OfDecl it) ((it : Expr) × OfExpr it)
      ((it : ModuleDecl) × OfModuleDecl it) ((it : ModuleItem) × OfItem it) ((it : ObjectPatProp) × OfPatProp it)
      ((it : Pat) × OfPat it) ((it : Prop) × OfProp it) ((it : Stmt) × OfStmt it) ((it : Class) × OfClass it)
      ((it : Function) × OfFunction it) ((it : Param) × OfParam it) ((it : SwitchCase) × OfCase it)
      ((it : TsEnumMember) × OfEnumMember it) ((it : VarDeclarator) × OfDeclarator it) ClassMember Decl
      Expr ModuleDecl ModuleItem ObjectPatProp Pat Prop Stmt Class Function Param SwitchCase
      TsEnumMember VarDeclarator (λ u. u.0) (λ u. u.0) (λ u. u.0) (λ u. u.0) (λ u. u.0)
      (λ u. u.0) (λ u. u.0) (λ u. u.0) (λ u. u.0) (λ u. u.0) (λ u. u.0) (λ u. u.0)
      (λ u. u.0) (λ u. u.0) (λ u. u.0) y

  abbrev whole_item : Fine ModuleItem-F → Whole ModuleItem-F
  whole_item y =
      map-ModuleItem ((it : ClassMember) × OfMember it) ((it : Decl) × OfDecl it) ((it : Expr) × OfExpr it)
      ((it : ModuleDecl) × OfModuleDecl it) ((it : ModuleItem) × OfItem it) ((it : ObjectPatProp) × OfPatProp it)
      ((it : Pat) × OfPat it) ((it : Prop) × OfProp it) ((it : Stmt) × OfStmt it) ((it : Class) × OfClass it)
      ((it : Function) × OfFunction it) ((it : Param) × OfParam it) ((it : SwitchCase) × OfCase it)
      ((it : TsEnumMember) × OfEnumMember it) ((it : VarDeclarator) × OfDeclarator it) ClassMember Decl
      Expr ModuleDecl ModuleItem ObjectPatProp Pat Prop Stmt Class Function Param SwitchCase
      TsEnumMember VarDeclarator (λ u. u.0) (λ u. u.0) (λ u. u.0) (λ u. u.0) (λ u. u.0)
      (λ u. u.0) (λ u. u.0) (λ u. u.0) (λ u. u.0) (λ u. u.0) (λ u. u.0) (λ u. u.0)
      (λ u. u.0) (λ u. u.0) (λ u. u.0) y

  abbrev whole_pat_prop : Fine ObjectPatProp-F → Whole ObjectPatProp-F
  whole_pat_prop y =
      map-ObjectPatProp ((it : ClassMember) × OfMember it) ((it : Decl) × OfDecl it) ((it : Expr) × OfExpr it)
      ((it : ModuleDecl) × OfModuleDecl it) ((it : ModuleItem) × OfItem it) ((it : ObjectPatProp) × OfPatProp it)
      ((it : Pat) × OfPat it) ((it : Prop) × OfProp it) ((it : Stmt) × OfStmt it) ((it : Class) × OfClass it)
      ((it : Function) × OfFunction it) ((it : Param) × OfParam it) ((it : SwitchCase) × OfCase it)
      ((it : TsEnumMember) × OfEnumMember it) ((it : VarDeclarator) × OfDeclarator it) ClassMember Decl
      Expr ModuleDecl ModuleItem ObjectPatProp Pat Prop Stmt Class Function Param SwitchCase
      TsEnumMember VarDeclarator (λ u. u.0) (λ u. u.0) (λ u. u.0) (λ u. u.0) (λ u. u.0)
      (λ u. u.0) (λ u. u.0) (λ u. u.0) (λ u. u.0) (λ u. u.0) (λ u. u.0) (λ u. u.0)
      (λ u. u.0) (λ u. u.0) (λ u. u.0) y

  abbrev whole_pat : Fine Pat-F → Whole Pat-F
  whole_pat y =
      map-Pat ((it : ClassMember) × OfMember it) ((it : Decl) × OfDecl it) ((it : Expr) × OfExpr it)
      ((it : ModuleDecl) × OfModuleDecl it) ((it : ModuleItem) × OfItem it) ((it : ObjectPatProp) × OfPatProp it)
      ((it : Pat) × OfPat it) ((it : Prop) × OfProp it) ((it : Stmt) × OfStmt it) ((it : Class) × OfClass it)
      ((it : Function) × OfFunction it) ((it : Param) × OfParam it) ((it : SwitchCase) × OfCase it)
      ((it : TsEnumMember) × OfEnumMember it) ((it : VarDeclarator) × OfDeclarator it) ClassMember Decl
      Expr ModuleDecl ModuleItem ObjectPatProp Pat Prop Stmt Class Function Param SwitchCase
      TsEnumMember VarDeclarator (λ u. u.0) (λ u. u.0) (λ u. u.0) (λ u. u.0) (λ u. u.0)
      (λ u. u.0) (λ u. u.0) (λ u. u.0) (λ u. u.0) (λ u. u.0) (λ u. u.0) (λ u. u.0)
      (λ u. u.0) (λ u. u.0) (λ u. u.0) y

  abbrev whole_prop : Fine Prop-F → Whole Prop-F
  whole_prop y =
      map-Prop ((it : ClassMember) × OfMember it) ((it : Decl) × OfDecl it) ((it : Expr) × OfExpr it)
      ((it : ModuleDecl) × OfModuleDecl it) ((it : ModuleItem) × OfItem it) ((it : ObjectPatProp) × OfPatProp it)
      ((it : Pat) × OfPat it) ((it : Prop) × OfProp it) ((it : Stmt) × OfStmt it) ((it : Class) × OfClass it)
      ((it : Function) × OfFunction it) ((it : Param) × OfParam it) ((it : SwitchCase) × OfCase it)
      ((it : TsEnumMember) × OfEnumMember it) ((it : VarDeclarator) × OfDeclarator it) ClassMember Decl
      Expr ModuleDecl ModuleItem ObjectPatProp Pat Prop Stmt Class Function Param SwitchCase
      TsEnumMember VarDeclarator (λ u. u.0) (λ u. u.0) (λ u. u.0) (λ u. u.0) (λ u. u.0)
      (λ u. u.0) (λ u. u.0) (λ u. u.0) (λ u. u.0) (λ u. u.0) (λ u. u.0) (λ u. u.0)
      (λ u. u.0) (λ u. u.0) (λ u. u.0) y

  abbrev whole_stmt : Fine Stmt-F → Whole Stmt-F
  whole_stmt y =
      map-Stmt ((it : ClassMember) × OfMember it) ((it : Decl) × OfDecl it) ((it : Expr) × OfExpr it)
      ((it : ModuleDecl) × OfModuleDecl it) ((it : ModuleItem) × OfItem it) ((it : ObjectPatProp) × OfPatProp it)
      ((it : Pat) × OfPat it) ((it : Prop) × OfProp it) ((it : Stmt) × OfStmt it) ((it : Class) × OfClass it)
      ((it : Function) × OfFunction it) ((it : Param) × OfParam it) ((it : SwitchCase) × OfCase it)
      ((it : TsEnumMember) × OfEnumMember it) ((it : VarDeclarator) × OfDeclarator it) ClassMember Decl
      Expr ModuleDecl ModuleItem ObjectPatProp Pat Prop Stmt Class Function Param SwitchCase
      TsEnumMember VarDeclarator (λ u. u.0) (λ u. u.0) (λ u. u.0) (λ u. u.0) (λ u. u.0)
      (λ u. u.0) (λ u. u.0) (λ u. u.0) (λ u. u.0) (λ u. u.0) (λ u. u.0) (λ u. u.0)
      (λ u. u.0) (λ u. u.0) (λ u. u.0) y

  abbrev whole_class : Fine Class-F → Whole Class-F
  whole_class y =
      map-Class ((it : ClassMember) × OfMember it) ((it : Decl) × OfDecl it) ((it : Expr) × OfExpr it)
      ((it : ModuleDecl) × OfModuleDecl it) ((it : ModuleItem) × OfItem it) ((it : ObjectPatProp) × OfPatProp it)
      ((it : Pat) × OfPat it) ((it : Prop) × OfProp it) ((it : Stmt) × OfStmt it) ((it : Class) × OfClass it)
      ((it : Function) × OfFunction it) ((it : Param) × OfParam it) ((it : SwitchCase) × OfCase it)
      ((it : TsEnumMember) × OfEnumMember it) ((it : VarDeclarator) × OfDeclarator it) ClassMember Decl
      Expr ModuleDecl ModuleItem ObjectPatProp Pat Prop Stmt Class Function Param SwitchCase
      TsEnumMember VarDeclarator (λ u. u.0) (λ u. u.0) (λ u. u.0) (λ u. u.0) (λ u. u.0)
      (λ u. u.0) (λ u. u.0) (λ u. u.0) (λ u. u.0) (λ u. u.0) (λ u. u.0) (λ u. u.0)
      (λ u. u.0) (λ u. u.0) (λ u. u.0) y

  abbrev whole_function : Fine Function-F → Whole Function-F
  whole_function y =
      map-Function ((it : ClassMember) × OfMember it) ((it : Decl) × OfDecl it) ((it : Expr) × OfExpr it)
      ((it : ModuleDecl) × OfModuleDecl it) ((it : ModuleItem) × OfItem it) ((it : ObjectPatProp) × OfPatProp it)
      ((it : Pat) × OfPat it) ((it : Prop) × OfProp it) ((it : Stmt) × OfStmt it) ((it : Class) × OfClass it)
      ((it : Function) × OfFunction it) ((it : Param) × OfParam it) ((it : SwitchCase) × OfCase it)
      ((it : TsEnumMember) × OfEnumMember it) ((it : VarDeclarator) × OfDeclarator it) ClassMember Decl
      Expr ModuleDecl ModuleItem ObjectPatProp Pat Prop Stmt Class Function Param SwitchCase
      TsEnumMember VarDeclarator (λ u. u.0) (λ u. u.0) (λ u. u.0) (λ u. u.0) (λ u. u.0)
      (λ u. u.0) (λ u. u.0) (λ u. u.0) (λ u. u.0) (λ u. u.0) (λ u. u.0) (λ u. u.0)
      (λ u. u.0) (λ u. u.0) (λ u. u.0) y

  abbrev whole_param : Fine Param-F → Whole Param-F
  whole_param y =
      map-Param ((it : ClassMember) × OfMember it) ((it : Decl) × OfDecl it) ((it : Expr) × OfExpr it)
      ((it : ModuleDecl) × OfModuleDecl it) ((it : ModuleItem) × OfItem it) ((it : ObjectPatProp) × OfPatProp it)
      ((it : Pat) × OfPat it) ((it : Prop) × OfProp it) ((it : Stmt) × OfStmt it) ((it : Class) × OfClass it)
      ((it : Function) × OfFunction it) ((it : Param) × OfParam it) ((it : SwitchCase) × OfCase it)
      ((it : TsEnumMember) × OfEnumMember it) ((it : VarDeclarator) × OfDeclarator it) ClassMember Decl
      Expr ModuleDecl ModuleItem ObjectPatProp Pat Prop Stmt Class Function Param SwitchCase
      TsEnumMember VarDeclarator (λ u. u.0) (λ u. u.0) (λ u. u.0) (λ u. u.0) (λ u. u.0)
      (λ u. u.0) (λ u. u.0) (λ u. u.0) (λ u. u.0) (λ u. u.0) (λ u. u.0) (λ u. u.0)
      (λ u. u.0) (λ u. u.0) (λ u. u.0) y

  abbrev whole_switch_case : Fine SwitchCase-F → Whole SwitchCase-F
  whole_switch_case y =
      map-SwitchCase ((it : ClassMember) × OfMember it) ((it : Decl) × OfDecl it) ((it : Expr) × OfExpr it)
      ((it : ModuleDecl) × OfModuleDecl it) ((it : ModuleItem) × OfItem it) ((it : ObjectPatProp) × OfPatProp it)
      ((it : Pat) × OfPat it) ((it : Prop) × OfProp it) ((it : Stmt) × OfStmt it) ((it : Class) × OfClass it)
      ((it : Function) × OfFunction it) ((it : Param) × OfParam it) ((it : SwitchCase) × OfCase it)
      ((it : TsEnumMember) × OfEnumMember it) ((it : VarDeclarator) × OfDeclarator it) ClassMember Decl
      Expr ModuleDecl ModuleItem ObjectPatProp Pat Prop Stmt Class Function Param SwitchCase
      TsEnumMember VarDeclarator (λ u. u.0) (λ u. u.0) (λ u. u.0) (λ u. u.0) (λ u. u.0)
      (λ u. u.0) (λ u. u.0) (λ u. u.0) (λ u. u.0) (λ u. u.0) (λ u. u.0) (λ u. u.0)
      (λ u. u.0) (λ u. u.0) (λ u. u.0) y

  abbrev whole_enum_member : Fine TsEnumMember-F → Whole TsEnumMember-F
  whole_enum_member y =
      map-TsEnumMember ((it : ClassMember) × OfMember it) ((it : Decl) × OfDecl it) ((it : Expr) × OfExpr it)
      ((it : ModuleDecl) × OfModuleDecl it) ((it : ModuleItem) × OfItem it) ((it : ObjectPatProp) × OfPatProp it)
      ((it : Pat) × OfPat it) ((it : Prop) × OfProp it) ((it : Stmt) × OfStmt it) ((it : Class) × OfClass it)
      ((it : Function) × OfFunction it) ((it : Param) × OfParam it) ((it : SwitchCase) × OfCase it)
      ((it : TsEnumMember) × OfEnumMember it) ((it : VarDeclarator) × OfDeclarator it) ClassMember Decl
      Expr ModuleDecl ModuleItem ObjectPatProp Pat Prop Stmt Class Function Param SwitchCase
      TsEnumMember VarDeclarator (λ u. u.0) (λ u. u.0) (λ u. u.0) (λ u. u.0) (λ u. u.0)
      (λ u. u.0) (λ u. u.0) (λ u. u.0) (λ u. u.0) (λ u. u.0) (λ u. u.0) (λ u. u.0)
      (λ u. u.0) (λ u. u.0) (λ u. u.0) y

  abbrev whole_declarator : Fine VarDeclarator-F → Whole VarDeclarator-F
  whole_declarator y =
      map-VarDeclarator ((it : ClassMember) × OfMember it) ((it : Decl) × OfDecl it) ((it : Expr) × OfExpr it)
      ((it : ModuleDecl) × OfModuleDecl it) ((it : ModuleItem) × OfItem it) ((it : ObjectPatProp) × OfPatProp it)
      ((it : Pat) × OfPat it) ((it : Prop) × OfProp it) ((it : Stmt) × OfStmt it) ((it : Class) × OfClass it)
      ((it : Function) × OfFunction it) ((it : Param) × OfParam it) ((it : SwitchCase) × OfCase it)
      ((it : TsEnumMember) × OfEnumMember it) ((it : VarDeclarator) × OfDeclarator it) ClassMember Decl
      Expr ModuleDecl ModuleItem ObjectPatProp Pat Prop Stmt Class Function Param SwitchCase
      TsEnumMember VarDeclarator (λ u. u.0) (λ u. u.0) (λ u. u.0) (λ u. u.0) (λ u. u.0)
      (λ u. u.0) (λ u. u.0) (λ u. u.0) (λ u. u.0) (λ u. u.0) (λ u. u.0) (λ u. u.0)
      (λ u. u.0) (λ u. u.0) (λ u. u.0) y

  -- ---- arrays
  abbrev none_at : State → Elements
  none_at s = (None, s)

  more_said : (c r : Bool) (f : List Found) (els : List TsTupleElement) (s : State) (sort : Sort) (e : Shown)
      → ExprAppends e
      → rules.element_more c r els (ahead f s) sort e ≡ moved f (rules.element_more c r els s sort e)
  more_said c r f els s Sort.hole e h = refl
  more_said c r f els s Sort.spread e h =
      ap (rules.rest_more els e.span) (h.rest c f s) ∙ rest_said (e.rest c s).0 (e.rest c s).1
    where
      rest_said : (o : Option TsType) (t : State)
          → rules.rest_more els e.span (o, ahead f t) ≡ moved f (rules.rest_more els e.span (o, t))
      rest_said (Some ty) t = refl
      rest_said None t = ap (λ (u : State). none_at u) (note_ahead kind.UnableToInferTypeFromSpread e.span f t)
  more_said c r f els s Sort.plain e h =
      ap (rules.plain_more els) (or_any_appends kind.UnableToInferType e.span (e.rule c r) (h.rule c r) f s)

  step_said : (c r : Bool) (f : List Found) (o : Option (List TsTupleElement)) (s : State) (u : (it : Expr) × OfExpr it)
      → element_step c r (o, ahead f s) (with_expr env u.0) ≡ moved f (element_step c r (o, s) (with_expr env u.0))
  step_said c r f None s u = refl
  step_said c r f (Some els) s u =
      more_said c r f els s (shown_expr env u.0).sort (shown_expr env u.0) u.1

  fold_said : (c r : Bool) (f : List Found) (q : Elements) (us : List ((it : Expr) × OfExpr it))
      → fold (element_step c r) (moved f q) (map (with_expr env) (map (λ (u : (it : Expr) × OfExpr it). u.0) us))
      ≡ moved f (fold (element_step c r) q (map (with_expr env) (map (λ (u : (it : Expr) × OfExpr it). u.0) us)))
  fold_said c r f q [] = refl
  fold_said c r f q (u ∷ us) =
      ap (λ (t : Elements). fold (element_step c r) t
      (map (with_expr env) (map (λ (u : (it : Expr) × OfExpr it). u.0) us)))
      (step_said c r f q.0 q.1 u)
      ∙ fold_said c r f (element_step c r q (with_expr env u.0)) us

  array_said : (c r : Bool) (us : List ((it : Expr) × OfExpr it))
      → Appends (array_type c r (map (with_expr env) (map (λ (u : (it : Expr) × OfExpr it). u.0) us)))
  array_said c r us =
      after_appends (option_map (λ (els : List TsTupleElement). if_readonly r (vType.Tuple els nowhere)))
      (λ s. fold (element_step c r) (Some [], s) (map (with_expr env) (map (λ (u : (it : Expr) × OfExpr it). u.0) us)))
      (λ f s. fold_said c r f (Some [], s) us)

  -- ---- objects and calls
  object_said : (c r : Bool) (us : List ((it : Prop) × OfProp it))
      → Appends (object_type c r (map (with_prop env) (map (λ (u : (it : Prop) × OfProp it). u.0) us)))
  object_said c r us = λ f s.
      ap (rules.after (λ members. Some (vType.TypeLit (rules.some members) nowhere)))
      (turn_appends (λ (p : Prop × rules.ShownProp). p.1 c r)
      (map (with_prop env) (map (λ (u : (it : Prop) × OfProp it). u.0) us))
      (given_all OfProp (with_prop env) (λ (p : Prop × rules.ShownProp). p.1 c r) (λ u. u.1 c r) us) f s)

  one_said : (freeze mark : Bool) (sort : Sort) (e : Shown) (c r : Bool) → ExprAppends e
      → Appends (rules.one_argument env freeze mark sort e c r)
  one_said true false Sort.plain e c r h = λ f s. ap (rules.after rules.if_frozen) (h.rule c r f s)
  one_said true false Sort.hole e c r h = λ f s. refl
  one_said true false Sort.spread e c r h = λ f s. refl
  one_said true true sort e c r h = λ f s. refl
  one_said false mark sort e c r h = λ f s. refl

  call_said : (callee : Shown) (mark : Bool) (us : List ((it : Expr) × OfExpr it)) (c r : Bool)
      → Appends (call_type env callee mark (map (with_expr env) (map (λ (u : (it : Expr) × OfExpr it). u.0) us)) c r)
  call_said callee mark [] c r = λ f s. refl
  call_said callee mark (u ∷ []) c r = λ f s.
      one_said callee.is_freeze mark (shown_expr env u.0).sort (shown_expr env u.0) c r u.1 f s
  call_said callee mark (u ∷ v ∷ us) c r = λ f s. refl

  -- ---- expressions
  expr_said : (y : Fine Expr-F) → ExprAppends (in_expr env (beside_expr env (whole_expr y)))
  expr_said (Expr-F.Expr::This span) = record { rule = λ c r f s. refl; rest = λ c f s. refl }
  expr_said (Expr-F.Super span) = record { rule = λ c r f s. refl; rest = λ c f s. refl }
  expr_said (Expr-F.Expr::Ident id) = record { rule = λ c r f s. refl; rest = λ c f s. refl }
  expr_said (Expr-F.PrivateName id) = record { rule = λ c r f s. refl; rest = λ c f s. refl }
  expr_said (Expr-F.Lit it) = record { rule = λ c r f s. refl; rest = λ c f s. refl }
  expr_said (Expr-F.Expr::Hole span) = record { rule = λ c r f s. refl; rest = λ c f s. refl }
  expr_said (Expr-F.Expr::Array elems span) =
      record { rule = λ c r. array_said c r elems; rest = λ c. array_said c false elems }
  expr_said (Expr-F.Expr::Spread expr span) = record { rule = λ c r f s. refl; rest = expr.1.rest }
  expr_said (Expr-F.Expr::Object props span) = record { rule = λ c r. object_said c r props; rest = λ c f s. refl }
  expr_said (Expr-F.Expr::Fn it) = record { rule = λ c r. it.1.ty; rest = λ c f s. refl }
  expr_said (Expr-F.Expr::Class it) = record { rule = λ c r f s. refl; rest = λ c f s. refl }
  expr_said (Expr-F.Arrow it) = record { rule = λ c r. it.1.ty; rest = λ c f s. refl }
  expr_said (Expr-F.Paren expr span) = record { rule = λ c r f s. refl; rest = λ c f s. refl }
  expr_said (Expr-F.Unary op arg span) = record { rule = λ c r f s. refl; rest = λ c f s. refl }
  expr_said (Expr-F.Update op prefix arg span) = record { rule = λ c r f s. refl; rest = λ c f s. refl }
  expr_said (Expr-F.Await arg span) = record { rule = λ c r f s. refl; rest = λ c f s. refl }
  expr_said (Expr-F.Yield delegate arg span) = record { rule = λ c r f s. refl; rest = λ c f s. refl }
  expr_said (Expr-F.Bin op left right span) = record { rule = λ c r f s. refl; rest = λ c f s. refl }
  expr_said (Expr-F.Expr::Assign op left right span) = record { rule = λ c r f s. refl; rest = λ c f s. refl }
  expr_said (Expr-F.Cond test cons alt span) = record { rule = λ c r f s. refl; rest = λ c f s. refl }
  expr_said (Expr-F.Seq exprs span) = record { rule = λ c r f s. refl; rest = λ c f s. refl }
  expr_said (Expr-F.Member obj mark hidden prop span) = record { rule = λ c r f s. refl; rest = λ c f s. refl }
  expr_said (Expr-F.Index obj mark prop span) = record { rule = λ c r f s. refl; rest = λ c f s. refl }
  expr_said (Expr-F.Call callee mark type_args args span) =
      record { rule = λ c r. call_said (shown_expr env callee.0) mark args c r; rest = λ c f s. refl }
  expr_said (Expr-F.New callee type_args has_args args span) = record { rule = λ c r f s. refl; rest = λ c f s. refl }
  expr_said (Expr-F.ImportCall phase args span) = record { rule = λ c r f s. refl; rest = λ c f s. refl }
  expr_said (Expr-F.ImportMeta span) = record { rule = λ c r f s. refl; rest = λ c f s. refl }
  expr_said (Expr-F.NewTarget span) = record { rule = λ c r f s. refl; rest = λ c f s. refl }
  expr_said (Expr-F.Tpl quasis exprs span) = record { rule = λ c r f s. refl; rest = λ c f s. refl }
  expr_said (Expr-F.TaggedTpl tag type_args tpl span) = record { rule = λ c r f s. refl; rest = λ c f s. refl }
  expr_said (Expr-F.TsNonNull expr span) = record { rule = λ c r f s. refl; rest = λ c f s. refl }
  expr_said (Expr-F.TsAs expr ty span) = record { rule = λ c r f s. refl; rest = λ c f s. refl }
  expr_said (Expr-F.TsConstAssertion expr span) = record { rule = λ c r. expr.1.rule true true; rest = λ c f s. refl }
  expr_said (Expr-F.TsSatisfies expr ty span) = record { rule = expr.1.rule; rest = λ c f s. refl }

  -- ---- properties
  key_value_said : (c r : Bool) (o : Option TsKey) (e : Shown) (span : Range) → ExprAppends e
      → Appends (rules.key_value env c r o e span)
  key_value_said c r (Some key) e span h = λ f s.
      ap (rules.after (λ ty. Some (vMember.PropertySignature r key false (Some ty) nowhere)))
      (or_any_appends kind.UnableToInferTypeFallbackAny e.span (e.rule c r) (h.rule c r) f s)
  key_value_said c r None e span h = λ f s. noted None kind.UnableToInferTypeFromProp span f s

  shorthand_said : (r : Bool) (id : Ident) (o : Option TsType) → Appends (rules.shorthand env r id o)
  shorthand_said r id (Some ty) = λ f s. refl
  shorthand_said r id None = λ f s. noted None kind.UnableToInferTypeFromProp id.span f s

  prop_said : (y : Fine Prop-F) (c r : Bool) → Appends (in_prop env (beside_prop env (whole_prop y)) c r)
  prop_said (Prop-F.Prop::Spread expr span) c r = λ f s. noted None kind.UnableToInferTypeFromSpread span f s
  prop_said (Prop-F.Shorthand id) c r = shorthand_said r id (rules.name_type env id c)
  prop_said (Prop-F.Prop::KeyValue computed key value span) c r =
      key_value_said c r (rules.type_key env computed (out-Expr key.0) (shown_expr env key.0)) (shown_expr env value.0)
      span value.1
  prop_said (Prop-F.Prop::Method k computed key function span) c r =
      λ f s. noted None kind.UnableToInferTypeFromProp span f s

  -- ---- patterns
  name_said : (left : Whole Pat-F) (f : List Found) (s : State)
      → rules.default_name env left (ahead f s) ≡ moved f (rules.default_name env left s)
  name_said (Pat-F.Pat::Ident id ty span) = λ f s. refl
  name_said (Pat-F.Pat::This ty span) = λ f s. refl
  name_said (Pat-F.Pat::Hole span) = λ f s. refl
  name_said (Pat-F.Pat::Array elems mark ty span) = λ f s. refl
  name_said (Pat-F.Pat::Object props mark ty span) = λ f s. refl
  name_said (Pat-F.Pat::Rest arg ty span) = λ f s. refl
  name_said (Pat-F.Pat::Assign left right span) = λ f s. refl
  name_said (Pat-F.Pat::Expr expr) = λ f s. refl

  defaulted_said : (left : Whole Pat-F) (run : Typing) → Appends run → Appends (λ s. rules.defaulted env left (run s))
  defaulted_said left run h = λ f s. ap (rules.defaulted env left) (h f s) ∙ by f (run s).0 (run s).1
    where
      by : (f : List Found) (o : Option TsType) (t : State)
          → rules.defaulted env left (o, ahead f t) ≡ moved f (rules.defaulted env left (o, t))
      by f (Some ty) t =
          ap (rules.after (λ name. Some (rules.fn_param false false nowhere (vTsPat.Ident name) (Some ty))))
          (name_said left f t)
      by f None t = refl

  typed_said : (part : Option TsPart) (e : Shown) → ExprAppends e → Appends (rules.typed_by env part e)
  typed_said (Some part) e h = λ f s. refl
  typed_said None e h = λ f s.
      ap (rules.after (rules.part_of env))
      (or_any_appends kind.UnableToInferTypeFallbackAny e.span (e.rule false false) (h.rule false false) f s)

  optional_said : (whole : Pat) (left : Whole Pat-F) (e : Shown) → ExprAppends e
      → Appends (rules.optional_by env whole left e)
  optional_said whole (Pat-F.Pat::Ident id ty span) e h = λ f s.
      ap (rules.after (λ part. vPat.Ident (rules.marked true id) part span)) (typed_said ty e h f s)
  optional_said whole (Pat-F.Pat::This ty span) e h = λ f s. refl
  optional_said whole (Pat-F.Pat::Hole span) e h = λ f s. refl
  optional_said whole (Pat-F.Pat::Array elems mark ty span) e h = λ f s.
      ap (rules.after (λ part. vPat.Array elems true part span)) (typed_said ty e h f s)
  optional_said whole (Pat-F.Pat::Object props mark ty span) e h = λ f s.
      ap (rules.after (λ part. vPat.Object props true part span)) (typed_said ty e h f s)
  optional_said whole (Pat-F.Pat::Rest arg ty span) e h = λ f s. refl
  optional_said whole (Pat-F.Pat::Assign left right span) e h = λ f s. refl
  optional_said whole (Pat-F.Pat::Expr expr) e h = λ f s. refl

  any_name_said : (id : Ident) (part : Option TsPart) (span : Range) → Appends (rules.name_or_any env id part span)
  any_name_said id (Some part) span = λ f s. refl
  any_name_said id None span = λ f s.
      noted (vPat.Ident id (annotation any_type) span) kind.UnableToInferTypeFallbackAny id.span f s

  pat_said : (y : Fine Pat-F) → PatAppends (in_pat env (beside_pat env (whole_pat y)))
  pat_said (Pat-F.Pat::Ident id ty span) =
      record { as_type = λ place f s. refl; declared = any_name_said id ty span }
  pat_said (Pat-F.Pat::This ty span) = record { as_type = λ place f s. refl; declared = λ f s. refl }
  pat_said (Pat-F.Pat::Hole span) = record { as_type = λ place f s. refl; declared = λ f s. refl }
  pat_said (Pat-F.Pat::Array elems mark ty span) = record { as_type = λ place f s. refl; declared = λ f s. refl }
  pat_said (Pat-F.Pat::Object props mark ty span) = record { as_type = λ place f s. refl; declared = λ f s. refl }
  pat_said (Pat-F.Pat::Rest arg ty span) = record { as_type = λ place f s. refl; declared = λ f s. refl }
  pat_said (Pat-F.Pat::Assign left right span) = record {
    as_type = λ place. defaulted_said (out-Pat left.0) ((shown_expr env right.0).rule false false)
        (right.1.rule false false);
    declared = optional_said (vPat.Assign left.0 right.0 span) (out-Pat left.0) (shown_expr env right.0) right.1;
  }
  pat_said (Pat-F.Pat::Expr expr) = record { as_type = λ place f s. refl; declared = λ f s. refl }

  -- ---- parameters and functions
  param_pat_said : (stays : Bool) (u : (it : Pat) × OfPat it) → Appends (rules.param_pat env stays (with_pat env u.0))
  param_pat_said true u = λ f s. refl
  param_pat_said false u = λ f s. u.1.declared f s

  param_said : (y : Fine Param-F) → ParamAppends (in_param env (beside_param env (whole_param y)))
  param_said y = record {
    as_type = y.pat.1.as_type y.span;
    declared = λ f s. ap
        (rules.after (λ pat. roll-Param (record { modifiers = y.modifiers; pat = pat; span = y.span })))
        (param_pat_said (rules.is_property env y.modifiers && rules.is_defaulted_pattern env (out-Pat y.pat.0)) y.pat f
        s);
  }

  params_said : (ruled : Bool) (us : List ((it : Param) × OfParam it))
      → Appends (rules.params_by env ruled (map (with_param env) (map (λ (u : (it : Param) × OfParam it). u.0) us)))
  params_said true us =
      turn_appends (λ (p : Param × rules.ShownParam). p.1.declared)
      (map (with_param env) (map (λ (u : (it : Param) × OfParam it). u.0) us))
      (given_all OfParam (with_param env) (λ (p : Param × rules.ShownParam). p.1.declared) (λ u. u.1.declared) us)
  params_said false us = λ f s. refl

  function_said : (y : Fine Function-F) → FunctionAppends (in_function env (beside_function env (whole_function y)))
  function_said y = record {
    ty = λ f s.
        ap (rules.after (λ params. Some (vType.Fn (rules.type_params_in y.type_params) (rules.some params)
        (rules.or_any_type (type_in y.return_type)) nowhere)))
        (turn_appends (λ (p : Param × rules.ShownParam). p.1.as_type)
        (map (with_param env) (map (λ (u : (it : Param) × OfParam it). u.0) y.params))
        (given_all OfParam (with_param env) (λ (p : Param × rules.ShownParam). p.1.as_type) (λ u. u.1.as_type)
        y.params) f s);
    bare = λ ruled setter f s.
        ap (rules.after (λ params. roll-Function (record {
          ident = y.ident;
          is_async = y.is_async;
          is_generator = y.is_generator;
          type_params = y.type_params;
          params = params;
          return_type = rules.unless env setter y.return_type;
          body = None;
          span = y.span;
        }))) (params_said ruled y.params f s);
  }

  -- ---- members and classes
  unless_said : {A : Type 0} (b : Bool) (run : Run (Option A)) → Appends run → Appends (programs.unless_ env b run)
  unless_said true run h = λ f s. refl
  unless_said false run h = h

  method_said : (m : Modifiers) (k : MethodKind) (mark : Bool) (span : Range) (u : (it : Function) × OfFunction it)
      (o : Option (Bool × Expr)) → Appends (programs.method env m k mark span (with_function env u.0) o)
  method_said m k mark span u (Some key) = λ f s.
      ap (rules.after (λ g. Some (vClassMember.Method m k key.0 key.1 mark g span)))
      (u.1.bare true (rules.is_setter k) f s)
  method_said m k mark span u None = λ f s. refl

  field_type_said : (part : Option TsPart) (u : Option ((it : Expr) × OfExpr it))
      → Appends (programs.field_type part
      (option_map (with_expr env) (option_map (λ (u : (it : Expr) × OfExpr it). u.0) u)))
  field_type_said (Some part) u = λ f s. refl
  field_type_said None None = λ f s. refl
  field_type_said None (Some u) =
      λ f s. ap programs.any_silently (u.1.rule false false f s)
      ∙ by f ((shown_expr env u.0).rule false false s).0 ((shown_expr env u.0).rule false false s).1
    where
      by : (f : List Found) (o : Option TsType) (t : State)
          → programs.any_silently (o, ahead f t) ≡ moved f (programs.any_silently (o, t))
      by f (Some ty) t = refl
      by f None t = refl

  field_said : (m : Modifiers) (mark : Bool) (span : Range) (part : Option TsPart)
      (u : Option ((it : Expr) × OfExpr it))
      (o : Option (Bool × Expr))
      → Appends (programs.field env m mark span part
      (option_map (with_expr env) (option_map (λ (u : (it : Expr) × OfExpr it). u.0) u)) o)
  field_said m mark span part u (Some key) = λ f s.
      ap (rules.after (λ part. Some (vClassMember.Prop (rules.undeclared m) key.0 key.1 mark false part None span)))
      (field_type_said part u f s)
  field_said m mark span part u None = λ f s. refl

  member_said : (y : Fine ClassMember-F) → Appends (in_class_member env (beside_member env (whole_member y)))
  member_said (ClassMember-F.ClassMember::Empty span) = λ f s. refl
  member_said (ClassMember-F.StaticBlock stmts span) = λ f s. refl
  member_said (ClassMember-F.TsIndexSignature modifiers name of ty span) = λ f s. refl
  member_said (ClassMember-F.ClassMember::Method modifiers k computed key mark function span) =
      unless_said (env.implements span)
      (programs.method env modifiers k mark span (with_function env function.0)
      (programs.member_key computed (with_expr env key.0)))
      (method_said modifiers k mark span function (programs.member_key computed (with_expr env key.0)))
  member_said (ClassMember-F.Prop modifiers computed key mark definite ty None span) =
      unless_said modifiers.accessor
      (programs.field env modifiers mark span ty None (programs.member_key computed (with_expr env key.0)))
      (field_said modifiers mark span ty None (programs.member_key computed (with_expr env key.0)))
  member_said (ClassMember-F.Prop modifiers computed key mark definite ty (Some value) span) =
      unless_said modifiers.accessor
      (programs.field env modifiers mark span ty (Some (with_expr env value.0))
      (programs.member_key computed (with_expr env key.0)))
      (field_said modifiers mark span ty (Some value) (programs.member_key computed (with_expr env key.0)))

  class_by : (y : Fine Class-F) (o : Option ((it : Expr) × OfExpr it))
      → Appends (in_class env (beside_class env (whole_class (record y { super_class = o })))).declared
  class_by y None = λ f s.
      ap (rules.after (λ members. roll-Class (record {
        ident = y.ident;
        is_abstract = y.is_abstract;
        type_params = y.type_params;
        super_class = None;
        super_type_args = y.super_type_args;
        implements = y.implements;
        body = rules.some members;
        span = y.span;
      })))
      (turn_appends (λ (m : ClassMember × rules.ShownMember). m.1)
      (map (with_member env) (map (λ (u : (it : ClassMember) × OfMember it). u.0) y.body))
      (given_all OfMember (with_member env) (λ (m : ClassMember × rules.ShownMember). m.1) (λ u. u.1) y.body) f s)
  class_by y (Some u) = λ f s.
      ap (rules.after (λ members. roll-Class (record {
        ident = y.ident;
        is_abstract = y.is_abstract;
        type_params = y.type_params;
        super_class = Some u.0;
        super_type_args = y.super_type_args;
        implements = y.implements;
        body = rules.some members;
        span = y.span;
      })))
      (turn_appends (λ (m : ClassMember × rules.ShownMember). m.1)
      (map (with_member env) (map (λ (u : (it : ClassMember) × OfMember it). u.0) y.body))
      (given_all OfMember (with_member env) (λ (m : ClassMember × rules.ShownMember). m.1) (λ u. u.1) y.body) f s)

  class_said : (y : Fine Class-F) → Appends (in_class env (beside_class env (whole_class y))).declared
  class_said y = class_by y y.super_class

  -- ---- variables
  init_said : (u : Option ((it : Expr) × OfExpr it))
      → Appends (programs.init_type env
      (option_map (with_expr env) (option_map (λ (u : (it : Expr) × OfExpr it). u.0) u)))
  init_said (Some u) = u.1.rule false true
  init_said None = λ f s. refl

  variable_said : (pat : Whole Pat-F) (name : Pat) (span : Range) (u : Option ((it : Expr) × OfExpr it))
      → Appends (programs.variable env pat name span
      (option_map (with_expr env) (option_map (λ (u : (it : Expr) × OfExpr it). u.0) u)))
  variable_said (Pat-F.Pat::Ident id (Some part) place) name span u = λ f s. refl
  variable_said (Pat-F.Pat::Ident id None place) name span u = λ f s.
      ap (rules.after (λ ty. vPat.Ident id (annotation ty) place))
      (or_any_appends kind.UnableToInferTypeFallbackAny id.span
      (programs.init_type env (option_map (with_expr env) (option_map (λ (u : (it : Expr) × OfExpr it). u.0) u)))
      (init_said u) f s)
  variable_said (Pat-F.Pat::This ty place) name span u = λ f s. noted name kind.UnableToInferType span f s
  variable_said (Pat-F.Pat::Hole place) name span u = λ f s. noted name kind.UnableToInferType span f s
  variable_said (Pat-F.Pat::Array elems mark ty place) name span u = λ f s. noted name kind.UnableToInferType span f s
  variable_said (Pat-F.Pat::Object props mark ty place) name span u = λ f s. noted name kind.UnableToInferType span f s
  variable_said (Pat-F.Pat::Rest arg ty place) name span u = λ f s. noted name kind.UnableToInferType span f s
  variable_said (Pat-F.Pat::Assign left right place) name span u = λ f s. noted name kind.UnableToInferType span f s
  variable_said (Pat-F.Pat::Expr expr) name span u = λ f s. noted name kind.UnableToInferType span f s

  declarator_by : (y : Fine VarDeclarator-F) (o : Option ((it : Expr) × OfExpr it))
      → Appends (in_var_declarator env (beside_declarator env (whole_declarator (record y { init = o }))))
  declarator_by y None = λ f s.
      ap (rules.after (λ name. roll-VarDeclarator
      (record { name = name; definite = y.definite; init = None; span = y.span })))
      (variable_said (out-Pat y.name.0) y.name.0 y.span None f s)
  declarator_by y (Some u) = λ f s.
      ap (rules.after (λ name. roll-VarDeclarator
      (record { name = name; definite = y.definite; init = None; span = y.span })))
      (variable_said (out-Pat y.name.0) y.name.0 y.span (Some u) f s)

  declarator_said : (y : Fine VarDeclarator-F)
      → Appends (in_var_declarator env (beside_declarator env (whole_declarator y)))
  declarator_said y = declarator_by y y.init

  -- ---- declarations
  inside_said : (us : List ((it : ModuleItem) × OfItem it))
      → Appends (programs.inside env (map (with_item env) (map (λ (u : (it : ModuleItem) × OfItem it). u.0) us)))
  inside_said us = λ f s.
      ap (rules.after (λ items. rules.flat items))
      (turn_appends (λ (item : ModuleItem × rules.ShownItem). item.1 false)
      (map (with_item env) (map (λ (u : (it : ModuleItem) × OfItem it). u.0) us))
      (given_all OfItem (with_item env) (λ (item : ModuleItem × rules.ShownItem). item.1 false) (λ u. u.1 false) us) f
      s)

  variables_said : (plain : Bool) (k : VarDeclKind) (us : List ((it : VarDeclarator) × OfDeclarator it))
      (declare : Bool) (span : Range)
      → DeclAppends (programs.variables env plain k
      (map (with_declarator env) (map (λ (u : (it : VarDeclarator) × OfDeclarator it). u.0) us)) declare span)
  variables_said true k us declare span = record {
    declared = λ top f s.
        ap (λ p. rules.after (λ d. Some d) (rules.after (λ ds. vDecl.Var top k ds span) p))
        (turn_appends (λ (d : VarDeclarator × Run VarDeclarator). d.1)
        (map (with_declarator env) (map (λ (u : (it : VarDeclarator) × OfDeclarator it). u.0) us))
        (given_all OfDeclarator (with_declarator env) (λ (d : VarDeclarator × Run VarDeclarator). d.1) (λ u. u.1) us) f
        s);
    defaulted = λ f s. refl;
  }
  variables_said false k us declare span = record {
    declared = λ top. noted None kind.UnsupportedUsing span;
    defaulted = λ f s. refl;
  }

  decl_said : (y : Fine Decl-F) → DeclAppends (in_decl env (beside_decl env (whole_decl y)))
  decl_said (Decl-F.Decl::Class declare class span) = record {
    declared = λ top f s. ap (λ p. rules.after (λ d. Some d) (rules.after (λ c. vDecl.Class top c span) p))
        (class.1 f s);
    defaulted = λ f s. ap (rules.after (λ c. vDecl.Class declare c span)) (class.1 f s);
  }
  decl_said (Decl-F.Decl::Fn declare function span) = record {
    declared = λ top f s.
        ap (λ p. rules.after (λ d. Some d) (rules.after (λ g. vDecl.Fn top g span) p)) (function.1.bare true false f s);
    defaulted = λ f s. ap (rules.after (λ g. vDecl.Fn declare g span)) (function.1.bare false false f s);
  }
  decl_said (Decl-F.Var declare k decls span) = variables_said (rules.is_plain_const k) k decls declare span
  decl_said (Decl-F.TsInterface declare id type_params extends body span) =
      record { declared = λ top f s. refl; defaulted = λ f s. refl }
  decl_said (Decl-F.TsTypeAlias declare id type_params ty span) =
      record { declared = λ top f s. refl; defaulted = λ f s. refl }
  decl_said (Decl-F.TsEnum declare is_const id members span) =
      record { declared = λ top f s. refl; defaulted = λ f s. refl }
  decl_said (Decl-F.TsNamespace declare is_module id body span) = record {
    declared = λ top f s.
        ap (λ p. rules.after (λ d. Some d)
        (rules.after (λ items. vDecl.TsNamespace top is_module (programs.outer env id) items span) p))
        (inside_said body f s);
    defaulted = λ f s.
        ap (rules.after (λ items. vDecl.TsNamespace declare is_module (programs.outer env id) items span))
        (inside_said body f s);
  }
  decl_said (Decl-F.TsModule declare id has_body body span) = record {
    declared = λ top f s.
        ap (λ p. rules.after (λ d. Some d) (rules.after (λ items. vDecl.TsModule top id has_body items span) p))
        (inside_said body f s);
    defaulted = λ f s. ap (rules.after (λ items. vDecl.TsModule declare id has_body items span)) (inside_said body f s);
  }
  decl_said (Decl-F.TsGlobal declare body span) = record {
    declared = λ top f s.
        ap (λ p. rules.after (λ d. Some d) (rules.after (λ items. vDecl.TsGlobal top items span) p))
        (inside_said body f s);
    defaulted = λ f s. ap (rules.after (λ items. vDecl.TsGlobal declare items span)) (inside_said body f s);
  }

  -- ---- statements and items
  stmt_decl_said : (goes stays : Bool) (u : (it : Decl) × OfDecl it) (top : Bool)
      → Appends (programs.stmt_decl env goes stays (with_decl env u.0) top)
  stmt_decl_said true stays u top = λ f s. refl
  stmt_decl_said false true u top = λ f s. refl
  stmt_decl_said false false u top = λ f s. ap (rules.after (λ d. option_map vStmt.Decl d)) (u.1.declared top f s)

  stmt_said : (y : Fine Stmt-F) (top : Bool) → Appends (in_stmt env (beside_stmt env (whole_stmt y)) top)
  stmt_said (Stmt-F.Block stmts span) top = λ f s. refl
  stmt_said (Stmt-F.Stmt::Empty span) top = λ f s. refl
  stmt_said (Stmt-F.Debugger span) top = λ f s. refl
  stmt_said (Stmt-F.With obj body span) top = λ f s. refl
  stmt_said (Stmt-F.Return arg span) top = λ f s. refl
  stmt_said (Stmt-F.Labeled label body span) top = λ f s. refl
  stmt_said (Stmt-F.Break label span) top = λ f s. refl
  stmt_said (Stmt-F.Continue label span) top = λ f s. refl
  stmt_said (Stmt-F.If test cons alt span) top = λ f s. refl
  stmt_said (Stmt-F.Switch discriminant cases span) top = λ f s. refl
  stmt_said (Stmt-F.Throw arg span) top = λ f s. refl
  stmt_said (Stmt-F.Try block param handler finalizer span) top = λ f s. refl
  stmt_said (Stmt-F.While test body span) top = λ f s. refl
  stmt_said (Stmt-F.DoWhile body test span) top = λ f s. refl
  stmt_said (Stmt-F.For init test update body span) top = λ f s. refl
  stmt_said (Stmt-F.ForIn kind left right body span) top = λ f s. refl
  stmt_said (Stmt-F.ForOf is_await kind left right body span) top = λ f s. refl
  stmt_said (Stmt-F.Decl it) top =
      stmt_decl_said ((shown_decl env it.0).is_function && env.implements (shown_decl env it.0).span)
      (shown_decl env it.0).stays it top
  stmt_said (Stmt-F.Stmt::Expr expr span) top = λ f s. refl

  exported_said : (span : Range) (run : Run (Option Decl)) → Appends run
      → Appends (λ s. programs.exported env span (run s))
  exported_said span run h = λ f s. ap (programs.exported env span) (h f s) ∙ by f (run s).0 (run s).1
    where
      by : (f : List Found) (o : Option Decl) (t : State)
          → programs.exported env span (o, ahead f t) ≡ moved f (programs.exported env span (o, t))
      by f (Some d) t = refl
      by f None t = noted [] kind.UnableToInferType span f t

  export_said : (goes : Bool) (u : (it : Decl) × OfDecl it) (span : Range) (top : Bool)
      → Appends (programs.export_decl env goes (with_decl env u.0) span top)
  export_said true u span top = λ f s. refl
  export_said false u span top = exported_said span ((shown_decl env u.0).declared top) (u.1.declared top)

  default_said : (goes : Bool) (u : (it : Decl) × OfDecl it) (span : Range)
      → Appends (programs.export_default env goes (with_decl env u.0) span)
  default_said true u span = λ f s. refl
  default_said false u span = λ f s.
      ap (rules.after (λ d. programs.one env (vModule.ExportDefaultDecl d span))) (u.1.defaulted f s)

  const_said : (e : Expr) (span : Range) (name : Ident) (run : Typing) → Appends run
      → Appends (λ s. programs.with_const env e span name (run s))
  const_said e span name run h = λ f s. ap (programs.with_const env e span name) (h f s) ∙ by f (run s).0 (run s).1
    where
      by : (f : List Found) (o : Option TsType) (t : State)
          → programs.with_const env e span name (o, ahead f t) ≡ moved f (programs.with_const env e span name (o, t))
      by f (Some ty) t = refl
      by f None t = refl

  drawn_said : (u : (it : Expr) × OfExpr it) (span : Range)
      → Appends (λ s. programs.with_const env u.0 span (made_name (env.name (s.made + 1)))
      ((shown_expr env u.0).rule false true (rules.drawn s)))
  drawn_said u span = λ f s.
      const_said u.0 span (made_name (env.name (s.made + 1))) ((shown_expr env u.0).rule false true)
      (u.1.rule false true)
      f (rules.drawn s)

  default_expr_said : (it : Whole Expr-F) (u : (it : Expr) × OfExpr it) (span : Range)
      → Appends (programs.default_expr env it (with_expr env u.0) span)
  default_expr_said (Expr-F.Expr::This span) u place = drawn_said u place
  default_expr_said (Expr-F.Super span) u place = drawn_said u place
  default_expr_said (Expr-F.Expr::Ident id) u place = λ f s. refl
  default_expr_said (Expr-F.PrivateName id) u place = drawn_said u place
  default_expr_said (Expr-F.Lit it) u place = drawn_said u place
  default_expr_said (Expr-F.Expr::Hole span) u place = drawn_said u place
  default_expr_said (Expr-F.Expr::Array elems span) u place = drawn_said u place
  default_expr_said (Expr-F.Expr::Spread expr span) u place = drawn_said u place
  default_expr_said (Expr-F.Expr::Object props span) u place = drawn_said u place
  default_expr_said (Expr-F.Expr::Fn it) u place = drawn_said u place
  default_expr_said (Expr-F.Expr::Class it) u place = drawn_said u place
  default_expr_said (Expr-F.Arrow it) u place = drawn_said u place
  default_expr_said (Expr-F.Paren expr span) u place = drawn_said u place
  default_expr_said (Expr-F.Unary op arg span) u place = drawn_said u place
  default_expr_said (Expr-F.Update op prefix arg span) u place = drawn_said u place
  default_expr_said (Expr-F.Await arg span) u place = drawn_said u place
  default_expr_said (Expr-F.Yield delegate arg span) u place = drawn_said u place
  default_expr_said (Expr-F.Bin op left right span) u place = drawn_said u place
  default_expr_said (Expr-F.Expr::Assign op left right span) u place = drawn_said u place
  default_expr_said (Expr-F.Cond test cons alt span) u place = drawn_said u place
  default_expr_said (Expr-F.Seq exprs span) u place = drawn_said u place
  default_expr_said (Expr-F.Member obj mark hidden prop span) u place = drawn_said u place
  default_expr_said (Expr-F.Index obj mark prop span) u place = drawn_said u place
  default_expr_said (Expr-F.Call callee mark type_args args span) u place = drawn_said u place
  default_expr_said (Expr-F.New callee type_args has_args args span) u place = drawn_said u place
  default_expr_said (Expr-F.ImportCall phase args span) u place = drawn_said u place
  default_expr_said (Expr-F.ImportMeta span) u place = drawn_said u place
  default_expr_said (Expr-F.NewTarget span) u place = drawn_said u place
  default_expr_said (Expr-F.Tpl quasis exprs span) u place = drawn_said u place
  default_expr_said (Expr-F.TaggedTpl tag type_args tpl span) u place = drawn_said u place
  default_expr_said (Expr-F.TsNonNull expr span) u place = drawn_said u place
  default_expr_said (Expr-F.TsAs expr ty span) u place = drawn_said u place
  default_expr_said (Expr-F.TsConstAssertion expr span) u place = drawn_said u place
  default_expr_said (Expr-F.TsSatisfies expr ty span) u place = drawn_said u place

  module_decl_said : (y : Fine ModuleDecl-F) (top : Bool)
      → Appends (in_module_decl env (beside_module_decl env (whole_module_decl y)) top)
  module_decl_said (ModuleDecl-F.Import it) top = λ f s. refl
  module_decl_said (ModuleDecl-F.ExportDecl decl span) top =
      export_said ((shown_decl env decl.0).is_function && env.implements span) decl span top
  module_decl_said (ModuleDecl-F.ExportNamed it) top = λ f s. refl
  module_decl_said (ModuleDecl-F.ExportDefaultDecl decl span) top =
      default_said ((shown_decl env decl.0).is_function && env.implements span) decl span
  module_decl_said (ModuleDecl-F.ExportDefaultExpr expr span) top = default_expr_said (out-Expr expr.0) expr span
  module_decl_said (ModuleDecl-F.ExportAll it) top = λ f s. refl
  module_decl_said (ModuleDecl-F.TsImportEquals it) top = λ f s. refl
  module_decl_said (ModuleDecl-F.TsExportAssignment expr span) top = λ f s. refl
  module_decl_said (ModuleDecl-F.TsNamespaceExport it) top = λ f s. refl

  item_said : (y : Fine ModuleItem-F) (top : Bool) → Appends (in_module_item env (beside_item env (whole_item y)) top)
  item_said (ModuleItem-F.ModuleDecl it) top = it.1 top
  item_said (ModuleItem-F.Stmt it) top = λ f s. ap (rules.after (programs.if_stmt env)) (it.1 top f s)

  -- ---- all nodes

  pub member_appends : (it : ClassMember) → OfMember it
  member_appends =
      ind-ClassMember OfMember OfDecl OfExpr OfModuleDecl OfItem OfPatProp OfPat OfProp OfStmt OfClass OfFunction
      OfParam OfCase OfEnumMember OfDeclarator
      (λ x y is. subst (λ (z : Whole ClassMember-F). OfMember (roll-ClassMember z)) is
      (subst (λ (o : Run (Option ClassMember)). Appends o) (sym (at_member env (whole_member y))) (member_said y)))
      (λ x y is. subst (λ (z : Whole Decl-F). OfDecl (roll-Decl z)) is
      (subst DeclAppends (sym (at_decl env (whole_decl y))) (decl_said y)))
      (λ x y is. subst (λ (z : Whole Expr-F). OfExpr (roll-Expr z)) is
      (subst ExprAppends (sym (at_expr env (whole_expr y))) (expr_said y)))
      (λ x y is. subst (λ (z : Whole ModuleDecl-F). OfModuleDecl (roll-ModuleDecl z)) is
      (subst (λ (o : Bool → Run (List ModuleItem)). (top : Bool) → Appends (o top))
      (sym (at_module_decl env (whole_module_decl y))) (module_decl_said y)))
      (λ x y is. subst (λ (z : Whole ModuleItem-F). OfItem (roll-ModuleItem z)) is
      (subst (λ (o : Bool → Run (List ModuleItem)). (top : Bool) → Appends (o top))
      (sym (at_item env (whole_item y))) (item_said y)))
      (λ x y is. tt)
      (λ x y is. subst (λ (z : Whole Pat-F). OfPat (roll-Pat z)) is
      (subst PatAppends (sym (at_pat env (whole_pat y))) (pat_said y)))
      (λ x y is. subst (λ (z : Whole Prop-F). OfProp (roll-Prop z)) is
      (subst (λ (o : rules.ShownProp). (c r : Bool) → Appends (o c r)) (sym (at_prop env (whole_prop y)))
      (prop_said y)))
      (λ x y is. subst (λ (z : Whole Stmt-F). OfStmt (roll-Stmt z)) is
      (subst (λ (o : rules.ShownStmt). (top : Bool) → Appends (o top)) (sym (at_stmt env (whole_stmt y)))
      (stmt_said y)))
      (λ x y is. subst (λ (z : Whole Class-F). OfClass (roll-Class z)) is
      (subst (λ (o : rules.ShownClass). Appends o.declared) (sym (at_class env (whole_class y))) (class_said y)))
      (λ x y is. subst (λ (z : Whole Function-F). OfFunction (roll-Function z)) is
      (subst FunctionAppends (sym (at_function env (whole_function y))) (function_said y)))
      (λ x y is. subst (λ (z : Whole Param-F). OfParam (roll-Param z)) is
      (subst ParamAppends (sym (at_param env (whole_param y))) (param_said y)))
      (λ x y is. tt)
      (λ x y is. tt)
      (λ x y is. subst (λ (z : Whole VarDeclarator-F). OfDeclarator (roll-VarDeclarator z)) is
      (subst (λ (o : Run VarDeclarator). Appends o) (sym (at_declarator env (whole_declarator y)))
      (declarator_said y)))

  pub decl_appends : (it : Decl) → OfDecl it
  decl_appends =
      ind-Decl OfMember OfDecl OfExpr OfModuleDecl OfItem OfPatProp OfPat OfProp OfStmt OfClass OfFunction OfParam
      OfCase OfEnumMember OfDeclarator
      (λ x y is. subst (λ (z : Whole ClassMember-F). OfMember (roll-ClassMember z)) is
      (subst (λ (o : Run (Option ClassMember)). Appends o) (sym (at_member env (whole_member y))) (member_said y)))
      (λ x y is. subst (λ (z : Whole Decl-F). OfDecl (roll-Decl z)) is
      (subst DeclAppends (sym (at_decl env (whole_decl y))) (decl_said y)))
      (λ x y is. subst (λ (z : Whole Expr-F). OfExpr (roll-Expr z)) is
      (subst ExprAppends (sym (at_expr env (whole_expr y))) (expr_said y)))
      (λ x y is. subst (λ (z : Whole ModuleDecl-F). OfModuleDecl (roll-ModuleDecl z)) is
      (subst (λ (o : Bool → Run (List ModuleItem)). (top : Bool) → Appends (o top))
      (sym (at_module_decl env (whole_module_decl y))) (module_decl_said y)))
      (λ x y is. subst (λ (z : Whole ModuleItem-F). OfItem (roll-ModuleItem z)) is
      (subst (λ (o : Bool → Run (List ModuleItem)). (top : Bool) → Appends (o top))
      (sym (at_item env (whole_item y))) (item_said y)))
      (λ x y is. tt)
      (λ x y is. subst (λ (z : Whole Pat-F). OfPat (roll-Pat z)) is
      (subst PatAppends (sym (at_pat env (whole_pat y))) (pat_said y)))
      (λ x y is. subst (λ (z : Whole Prop-F). OfProp (roll-Prop z)) is
      (subst (λ (o : rules.ShownProp). (c r : Bool) → Appends (o c r)) (sym (at_prop env (whole_prop y)))
      (prop_said y)))
      (λ x y is. subst (λ (z : Whole Stmt-F). OfStmt (roll-Stmt z)) is
      (subst (λ (o : rules.ShownStmt). (top : Bool) → Appends (o top)) (sym (at_stmt env (whole_stmt y)))
      (stmt_said y)))
      (λ x y is. subst (λ (z : Whole Class-F). OfClass (roll-Class z)) is
      (subst (λ (o : rules.ShownClass). Appends o.declared) (sym (at_class env (whole_class y))) (class_said y)))
      (λ x y is. subst (λ (z : Whole Function-F). OfFunction (roll-Function z)) is
      (subst FunctionAppends (sym (at_function env (whole_function y))) (function_said y)))
      (λ x y is. subst (λ (z : Whole Param-F). OfParam (roll-Param z)) is
      (subst ParamAppends (sym (at_param env (whole_param y))) (param_said y)))
      (λ x y is. tt)
      (λ x y is. tt)
      (λ x y is. subst (λ (z : Whole VarDeclarator-F). OfDeclarator (roll-VarDeclarator z)) is
      (subst (λ (o : Run VarDeclarator). Appends o) (sym (at_declarator env (whole_declarator y)))
      (declarator_said y)))

  pub expr_appends : (it : Expr) → OfExpr it
  expr_appends =
      ind-Expr OfMember OfDecl OfExpr OfModuleDecl OfItem OfPatProp OfPat OfProp OfStmt OfClass OfFunction OfParam
      OfCase OfEnumMember OfDeclarator
      (λ x y is. subst (λ (z : Whole ClassMember-F). OfMember (roll-ClassMember z)) is
      (subst (λ (o : Run (Option ClassMember)). Appends o) (sym (at_member env (whole_member y))) (member_said y)))
      (λ x y is. subst (λ (z : Whole Decl-F). OfDecl (roll-Decl z)) is
      (subst DeclAppends (sym (at_decl env (whole_decl y))) (decl_said y)))
      (λ x y is. subst (λ (z : Whole Expr-F). OfExpr (roll-Expr z)) is
      (subst ExprAppends (sym (at_expr env (whole_expr y))) (expr_said y)))
      (λ x y is. subst (λ (z : Whole ModuleDecl-F). OfModuleDecl (roll-ModuleDecl z)) is
      (subst (λ (o : Bool → Run (List ModuleItem)). (top : Bool) → Appends (o top))
      (sym (at_module_decl env (whole_module_decl y))) (module_decl_said y)))
      (λ x y is. subst (λ (z : Whole ModuleItem-F). OfItem (roll-ModuleItem z)) is
      (subst (λ (o : Bool → Run (List ModuleItem)). (top : Bool) → Appends (o top))
      (sym (at_item env (whole_item y))) (item_said y)))
      (λ x y is. tt)
      (λ x y is. subst (λ (z : Whole Pat-F). OfPat (roll-Pat z)) is
      (subst PatAppends (sym (at_pat env (whole_pat y))) (pat_said y)))
      (λ x y is. subst (λ (z : Whole Prop-F). OfProp (roll-Prop z)) is
      (subst (λ (o : rules.ShownProp). (c r : Bool) → Appends (o c r)) (sym (at_prop env (whole_prop y)))
      (prop_said y)))
      (λ x y is. subst (λ (z : Whole Stmt-F). OfStmt (roll-Stmt z)) is
      (subst (λ (o : rules.ShownStmt). (top : Bool) → Appends (o top)) (sym (at_stmt env (whole_stmt y)))
      (stmt_said y)))
      (λ x y is. subst (λ (z : Whole Class-F). OfClass (roll-Class z)) is
      (subst (λ (o : rules.ShownClass). Appends o.declared) (sym (at_class env (whole_class y))) (class_said y)))
      (λ x y is. subst (λ (z : Whole Function-F). OfFunction (roll-Function z)) is
      (subst FunctionAppends (sym (at_function env (whole_function y))) (function_said y)))
      (λ x y is. subst (λ (z : Whole Param-F). OfParam (roll-Param z)) is
      (subst ParamAppends (sym (at_param env (whole_param y))) (param_said y)))
      (λ x y is. tt)
      (λ x y is. tt)
      (λ x y is. subst (λ (z : Whole VarDeclarator-F). OfDeclarator (roll-VarDeclarator z)) is
      (subst (λ (o : Run VarDeclarator). Appends o) (sym (at_declarator env (whole_declarator y)))
      (declarator_said y)))

  pub module_decl_appends : (it : ModuleDecl) → OfModuleDecl it
  module_decl_appends =
      ind-ModuleDecl OfMember OfDecl OfExpr OfModuleDecl OfItem OfPatProp OfPat OfProp OfStmt OfClass OfFunction
      OfParam OfCase OfEnumMember OfDeclarator
      (λ x y is. subst (λ (z : Whole ClassMember-F). OfMember (roll-ClassMember z)) is
      (subst (λ (o : Run (Option ClassMember)). Appends o) (sym (at_member env (whole_member y))) (member_said y)))
      (λ x y is. subst (λ (z : Whole Decl-F). OfDecl (roll-Decl z)) is
      (subst DeclAppends (sym (at_decl env (whole_decl y))) (decl_said y)))
      (λ x y is. subst (λ (z : Whole Expr-F). OfExpr (roll-Expr z)) is
      (subst ExprAppends (sym (at_expr env (whole_expr y))) (expr_said y)))
      (λ x y is. subst (λ (z : Whole ModuleDecl-F). OfModuleDecl (roll-ModuleDecl z)) is
      (subst (λ (o : Bool → Run (List ModuleItem)). (top : Bool) → Appends (o top))
      (sym (at_module_decl env (whole_module_decl y))) (module_decl_said y)))
      (λ x y is. subst (λ (z : Whole ModuleItem-F). OfItem (roll-ModuleItem z)) is
      (subst (λ (o : Bool → Run (List ModuleItem)). (top : Bool) → Appends (o top))
      (sym (at_item env (whole_item y))) (item_said y)))
      (λ x y is. tt)
      (λ x y is. subst (λ (z : Whole Pat-F). OfPat (roll-Pat z)) is
      (subst PatAppends (sym (at_pat env (whole_pat y))) (pat_said y)))
      (λ x y is. subst (λ (z : Whole Prop-F). OfProp (roll-Prop z)) is
      (subst (λ (o : rules.ShownProp). (c r : Bool) → Appends (o c r)) (sym (at_prop env (whole_prop y)))
      (prop_said y)))
      (λ x y is. subst (λ (z : Whole Stmt-F). OfStmt (roll-Stmt z)) is
      (subst (λ (o : rules.ShownStmt). (top : Bool) → Appends (o top)) (sym (at_stmt env (whole_stmt y)))
      (stmt_said y)))
      (λ x y is. subst (λ (z : Whole Class-F). OfClass (roll-Class z)) is
      (subst (λ (o : rules.ShownClass). Appends o.declared) (sym (at_class env (whole_class y))) (class_said y)))
      (λ x y is. subst (λ (z : Whole Function-F). OfFunction (roll-Function z)) is
      (subst FunctionAppends (sym (at_function env (whole_function y))) (function_said y)))
      (λ x y is. subst (λ (z : Whole Param-F). OfParam (roll-Param z)) is
      (subst ParamAppends (sym (at_param env (whole_param y))) (param_said y)))
      (λ x y is. tt)
      (λ x y is. tt)
      (λ x y is. subst (λ (z : Whole VarDeclarator-F). OfDeclarator (roll-VarDeclarator z)) is
      (subst (λ (o : Run VarDeclarator). Appends o) (sym (at_declarator env (whole_declarator y)))
      (declarator_said y)))

  pub item_appends : (it : ModuleItem) → OfItem it
  item_appends =
      ind-ModuleItem OfMember OfDecl OfExpr OfModuleDecl OfItem OfPatProp OfPat OfProp OfStmt OfClass OfFunction
      OfParam OfCase OfEnumMember OfDeclarator
      (λ x y is. subst (λ (z : Whole ClassMember-F). OfMember (roll-ClassMember z)) is
      (subst (λ (o : Run (Option ClassMember)). Appends o) (sym (at_member env (whole_member y))) (member_said y)))
      (λ x y is. subst (λ (z : Whole Decl-F). OfDecl (roll-Decl z)) is
      (subst DeclAppends (sym (at_decl env (whole_decl y))) (decl_said y)))
      (λ x y is. subst (λ (z : Whole Expr-F). OfExpr (roll-Expr z)) is
      (subst ExprAppends (sym (at_expr env (whole_expr y))) (expr_said y)))
      (λ x y is. subst (λ (z : Whole ModuleDecl-F). OfModuleDecl (roll-ModuleDecl z)) is
      (subst (λ (o : Bool → Run (List ModuleItem)). (top : Bool) → Appends (o top))
      (sym (at_module_decl env (whole_module_decl y))) (module_decl_said y)))
      (λ x y is. subst (λ (z : Whole ModuleItem-F). OfItem (roll-ModuleItem z)) is
      (subst (λ (o : Bool → Run (List ModuleItem)). (top : Bool) → Appends (o top))
      (sym (at_item env (whole_item y))) (item_said y)))
      (λ x y is. tt)
      (λ x y is. subst (λ (z : Whole Pat-F). OfPat (roll-Pat z)) is
      (subst PatAppends (sym (at_pat env (whole_pat y))) (pat_said y)))
      (λ x y is. subst (λ (z : Whole Prop-F). OfProp (roll-Prop z)) is
      (subst (λ (o : rules.ShownProp). (c r : Bool) → Appends (o c r)) (sym (at_prop env (whole_prop y)))
      (prop_said y)))
      (λ x y is. subst (λ (z : Whole Stmt-F). OfStmt (roll-Stmt z)) is
      (subst (λ (o : rules.ShownStmt). (top : Bool) → Appends (o top)) (sym (at_stmt env (whole_stmt y)))
      (stmt_said y)))
      (λ x y is. subst (λ (z : Whole Class-F). OfClass (roll-Class z)) is
      (subst (λ (o : rules.ShownClass). Appends o.declared) (sym (at_class env (whole_class y))) (class_said y)))
      (λ x y is. subst (λ (z : Whole Function-F). OfFunction (roll-Function z)) is
      (subst FunctionAppends (sym (at_function env (whole_function y))) (function_said y)))
      (λ x y is. subst (λ (z : Whole Param-F). OfParam (roll-Param z)) is
      (subst ParamAppends (sym (at_param env (whole_param y))) (param_said y)))
      (λ x y is. tt)
      (λ x y is. tt)
      (λ x y is. subst (λ (z : Whole VarDeclarator-F). OfDeclarator (roll-VarDeclarator z)) is
      (subst (λ (o : Run VarDeclarator). Appends o) (sym (at_declarator env (whole_declarator y)))
      (declarator_said y)))

  pub pat_appends : (it : Pat) → OfPat it
  pat_appends =
      ind-Pat OfMember OfDecl OfExpr OfModuleDecl OfItem OfPatProp OfPat OfProp OfStmt OfClass OfFunction OfParam
      OfCase OfEnumMember OfDeclarator
      (λ x y is. subst (λ (z : Whole ClassMember-F). OfMember (roll-ClassMember z)) is
      (subst (λ (o : Run (Option ClassMember)). Appends o) (sym (at_member env (whole_member y))) (member_said y)))
      (λ x y is. subst (λ (z : Whole Decl-F). OfDecl (roll-Decl z)) is
      (subst DeclAppends (sym (at_decl env (whole_decl y))) (decl_said y)))
      (λ x y is. subst (λ (z : Whole Expr-F). OfExpr (roll-Expr z)) is
      (subst ExprAppends (sym (at_expr env (whole_expr y))) (expr_said y)))
      (λ x y is. subst (λ (z : Whole ModuleDecl-F). OfModuleDecl (roll-ModuleDecl z)) is
      (subst (λ (o : Bool → Run (List ModuleItem)). (top : Bool) → Appends (o top))
      (sym (at_module_decl env (whole_module_decl y))) (module_decl_said y)))
      (λ x y is. subst (λ (z : Whole ModuleItem-F). OfItem (roll-ModuleItem z)) is
      (subst (λ (o : Bool → Run (List ModuleItem)). (top : Bool) → Appends (o top))
      (sym (at_item env (whole_item y))) (item_said y)))
      (λ x y is. tt)
      (λ x y is. subst (λ (z : Whole Pat-F). OfPat (roll-Pat z)) is
      (subst PatAppends (sym (at_pat env (whole_pat y))) (pat_said y)))
      (λ x y is. subst (λ (z : Whole Prop-F). OfProp (roll-Prop z)) is
      (subst (λ (o : rules.ShownProp). (c r : Bool) → Appends (o c r)) (sym (at_prop env (whole_prop y)))
      (prop_said y)))
      (λ x y is. subst (λ (z : Whole Stmt-F). OfStmt (roll-Stmt z)) is
      (subst (λ (o : rules.ShownStmt). (top : Bool) → Appends (o top)) (sym (at_stmt env (whole_stmt y)))
      (stmt_said y)))
      (λ x y is. subst (λ (z : Whole Class-F). OfClass (roll-Class z)) is
      (subst (λ (o : rules.ShownClass). Appends o.declared) (sym (at_class env (whole_class y))) (class_said y)))
      (λ x y is. subst (λ (z : Whole Function-F). OfFunction (roll-Function z)) is
      (subst FunctionAppends (sym (at_function env (whole_function y))) (function_said y)))
      (λ x y is. subst (λ (z : Whole Param-F). OfParam (roll-Param z)) is
      (subst ParamAppends (sym (at_param env (whole_param y))) (param_said y)))
      (λ x y is. tt)
      (λ x y is. tt)
      (λ x y is. subst (λ (z : Whole VarDeclarator-F). OfDeclarator (roll-VarDeclarator z)) is
      (subst (λ (o : Run VarDeclarator). Appends o) (sym (at_declarator env (whole_declarator y)))
      (declarator_said y)))

  pub prop_appends : (it : Prop) → OfProp it
  prop_appends =
      ind-Prop OfMember OfDecl OfExpr OfModuleDecl OfItem OfPatProp OfPat OfProp OfStmt OfClass OfFunction OfParam
      OfCase OfEnumMember OfDeclarator
      (λ x y is. subst (λ (z : Whole ClassMember-F). OfMember (roll-ClassMember z)) is
      (subst (λ (o : Run (Option ClassMember)). Appends o) (sym (at_member env (whole_member y))) (member_said y)))
      (λ x y is. subst (λ (z : Whole Decl-F). OfDecl (roll-Decl z)) is
      (subst DeclAppends (sym (at_decl env (whole_decl y))) (decl_said y)))
      (λ x y is. subst (λ (z : Whole Expr-F). OfExpr (roll-Expr z)) is
      (subst ExprAppends (sym (at_expr env (whole_expr y))) (expr_said y)))
      (λ x y is. subst (λ (z : Whole ModuleDecl-F). OfModuleDecl (roll-ModuleDecl z)) is
      (subst (λ (o : Bool → Run (List ModuleItem)). (top : Bool) → Appends (o top))
      (sym (at_module_decl env (whole_module_decl y))) (module_decl_said y)))
      (λ x y is. subst (λ (z : Whole ModuleItem-F). OfItem (roll-ModuleItem z)) is
      (subst (λ (o : Bool → Run (List ModuleItem)). (top : Bool) → Appends (o top))
      (sym (at_item env (whole_item y))) (item_said y)))
      (λ x y is. tt)
      (λ x y is. subst (λ (z : Whole Pat-F). OfPat (roll-Pat z)) is
      (subst PatAppends (sym (at_pat env (whole_pat y))) (pat_said y)))
      (λ x y is. subst (λ (z : Whole Prop-F). OfProp (roll-Prop z)) is
      (subst (λ (o : rules.ShownProp). (c r : Bool) → Appends (o c r)) (sym (at_prop env (whole_prop y)))
      (prop_said y)))
      (λ x y is. subst (λ (z : Whole Stmt-F). OfStmt (roll-Stmt z)) is
      (subst (λ (o : rules.ShownStmt). (top : Bool) → Appends (o top)) (sym (at_stmt env (whole_stmt y)))
      (stmt_said y)))
      (λ x y is. subst (λ (z : Whole Class-F). OfClass (roll-Class z)) is
      (subst (λ (o : rules.ShownClass). Appends o.declared) (sym (at_class env (whole_class y))) (class_said y)))
      (λ x y is. subst (λ (z : Whole Function-F). OfFunction (roll-Function z)) is
      (subst FunctionAppends (sym (at_function env (whole_function y))) (function_said y)))
      (λ x y is. subst (λ (z : Whole Param-F). OfParam (roll-Param z)) is
      (subst ParamAppends (sym (at_param env (whole_param y))) (param_said y)))
      (λ x y is. tt)
      (λ x y is. tt)
      (λ x y is. subst (λ (z : Whole VarDeclarator-F). OfDeclarator (roll-VarDeclarator z)) is
      (subst (λ (o : Run VarDeclarator). Appends o) (sym (at_declarator env (whole_declarator y)))
      (declarator_said y)))

  pub stmt_appends : (it : Stmt) → OfStmt it
  stmt_appends =
      ind-Stmt OfMember OfDecl OfExpr OfModuleDecl OfItem OfPatProp OfPat OfProp OfStmt OfClass OfFunction OfParam
      OfCase OfEnumMember OfDeclarator
      (λ x y is. subst (λ (z : Whole ClassMember-F). OfMember (roll-ClassMember z)) is
      (subst (λ (o : Run (Option ClassMember)). Appends o) (sym (at_member env (whole_member y))) (member_said y)))
      (λ x y is. subst (λ (z : Whole Decl-F). OfDecl (roll-Decl z)) is
      (subst DeclAppends (sym (at_decl env (whole_decl y))) (decl_said y)))
      (λ x y is. subst (λ (z : Whole Expr-F). OfExpr (roll-Expr z)) is
      (subst ExprAppends (sym (at_expr env (whole_expr y))) (expr_said y)))
      (λ x y is. subst (λ (z : Whole ModuleDecl-F). OfModuleDecl (roll-ModuleDecl z)) is
      (subst (λ (o : Bool → Run (List ModuleItem)). (top : Bool) → Appends (o top))
      (sym (at_module_decl env (whole_module_decl y))) (module_decl_said y)))
      (λ x y is. subst (λ (z : Whole ModuleItem-F). OfItem (roll-ModuleItem z)) is
      (subst (λ (o : Bool → Run (List ModuleItem)). (top : Bool) → Appends (o top))
      (sym (at_item env (whole_item y))) (item_said y)))
      (λ x y is. tt)
      (λ x y is. subst (λ (z : Whole Pat-F). OfPat (roll-Pat z)) is
      (subst PatAppends (sym (at_pat env (whole_pat y))) (pat_said y)))
      (λ x y is. subst (λ (z : Whole Prop-F). OfProp (roll-Prop z)) is
      (subst (λ (o : rules.ShownProp). (c r : Bool) → Appends (o c r)) (sym (at_prop env (whole_prop y)))
      (prop_said y)))
      (λ x y is. subst (λ (z : Whole Stmt-F). OfStmt (roll-Stmt z)) is
      (subst (λ (o : rules.ShownStmt). (top : Bool) → Appends (o top)) (sym (at_stmt env (whole_stmt y)))
      (stmt_said y)))
      (λ x y is. subst (λ (z : Whole Class-F). OfClass (roll-Class z)) is
      (subst (λ (o : rules.ShownClass). Appends o.declared) (sym (at_class env (whole_class y))) (class_said y)))
      (λ x y is. subst (λ (z : Whole Function-F). OfFunction (roll-Function z)) is
      (subst FunctionAppends (sym (at_function env (whole_function y))) (function_said y)))
      (λ x y is. subst (λ (z : Whole Param-F). OfParam (roll-Param z)) is
      (subst ParamAppends (sym (at_param env (whole_param y))) (param_said y)))
      (λ x y is. tt)
      (λ x y is. tt)
      (λ x y is. subst (λ (z : Whole VarDeclarator-F). OfDeclarator (roll-VarDeclarator z)) is
      (subst (λ (o : Run VarDeclarator). Appends o) (sym (at_declarator env (whole_declarator y)))
      (declarator_said y)))

  pub class_appends : (it : Class) → OfClass it
  class_appends =
      ind-Class OfMember OfDecl OfExpr OfModuleDecl OfItem OfPatProp OfPat OfProp OfStmt OfClass OfFunction OfParam
      OfCase OfEnumMember OfDeclarator
      (λ x y is. subst (λ (z : Whole ClassMember-F). OfMember (roll-ClassMember z)) is
      (subst (λ (o : Run (Option ClassMember)). Appends o) (sym (at_member env (whole_member y))) (member_said y)))
      (λ x y is. subst (λ (z : Whole Decl-F). OfDecl (roll-Decl z)) is
      (subst DeclAppends (sym (at_decl env (whole_decl y))) (decl_said y)))
      (λ x y is. subst (λ (z : Whole Expr-F). OfExpr (roll-Expr z)) is
      (subst ExprAppends (sym (at_expr env (whole_expr y))) (expr_said y)))
      (λ x y is. subst (λ (z : Whole ModuleDecl-F). OfModuleDecl (roll-ModuleDecl z)) is
      (subst (λ (o : Bool → Run (List ModuleItem)). (top : Bool) → Appends (o top))
      (sym (at_module_decl env (whole_module_decl y))) (module_decl_said y)))
      (λ x y is. subst (λ (z : Whole ModuleItem-F). OfItem (roll-ModuleItem z)) is
      (subst (λ (o : Bool → Run (List ModuleItem)). (top : Bool) → Appends (o top))
      (sym (at_item env (whole_item y))) (item_said y)))
      (λ x y is. tt)
      (λ x y is. subst (λ (z : Whole Pat-F). OfPat (roll-Pat z)) is
      (subst PatAppends (sym (at_pat env (whole_pat y))) (pat_said y)))
      (λ x y is. subst (λ (z : Whole Prop-F). OfProp (roll-Prop z)) is
      (subst (λ (o : rules.ShownProp). (c r : Bool) → Appends (o c r)) (sym (at_prop env (whole_prop y)))
      (prop_said y)))
      (λ x y is. subst (λ (z : Whole Stmt-F). OfStmt (roll-Stmt z)) is
      (subst (λ (o : rules.ShownStmt). (top : Bool) → Appends (o top)) (sym (at_stmt env (whole_stmt y)))
      (stmt_said y)))
      (λ x y is. subst (λ (z : Whole Class-F). OfClass (roll-Class z)) is
      (subst (λ (o : rules.ShownClass). Appends o.declared) (sym (at_class env (whole_class y))) (class_said y)))
      (λ x y is. subst (λ (z : Whole Function-F). OfFunction (roll-Function z)) is
      (subst FunctionAppends (sym (at_function env (whole_function y))) (function_said y)))
      (λ x y is. subst (λ (z : Whole Param-F). OfParam (roll-Param z)) is
      (subst ParamAppends (sym (at_param env (whole_param y))) (param_said y)))
      (λ x y is. tt)
      (λ x y is. tt)
      (λ x y is. subst (λ (z : Whole VarDeclarator-F). OfDeclarator (roll-VarDeclarator z)) is
      (subst (λ (o : Run VarDeclarator). Appends o) (sym (at_declarator env (whole_declarator y)))
      (declarator_said y)))

  pub function_appends : (it : Function) → OfFunction it
  function_appends =
      ind-Function OfMember OfDecl OfExpr OfModuleDecl OfItem OfPatProp OfPat OfProp OfStmt OfClass OfFunction OfParam
      OfCase OfEnumMember OfDeclarator
      (λ x y is. subst (λ (z : Whole ClassMember-F). OfMember (roll-ClassMember z)) is
      (subst (λ (o : Run (Option ClassMember)). Appends o) (sym (at_member env (whole_member y))) (member_said y)))
      (λ x y is. subst (λ (z : Whole Decl-F). OfDecl (roll-Decl z)) is
      (subst DeclAppends (sym (at_decl env (whole_decl y))) (decl_said y)))
      (λ x y is. subst (λ (z : Whole Expr-F). OfExpr (roll-Expr z)) is
      (subst ExprAppends (sym (at_expr env (whole_expr y))) (expr_said y)))
      (λ x y is. subst (λ (z : Whole ModuleDecl-F). OfModuleDecl (roll-ModuleDecl z)) is
      (subst (λ (o : Bool → Run (List ModuleItem)). (top : Bool) → Appends (o top))
      (sym (at_module_decl env (whole_module_decl y))) (module_decl_said y)))
      (λ x y is. subst (λ (z : Whole ModuleItem-F). OfItem (roll-ModuleItem z)) is
      (subst (λ (o : Bool → Run (List ModuleItem)). (top : Bool) → Appends (o top))
      (sym (at_item env (whole_item y))) (item_said y)))
      (λ x y is. tt)
      (λ x y is. subst (λ (z : Whole Pat-F). OfPat (roll-Pat z)) is
      (subst PatAppends (sym (at_pat env (whole_pat y))) (pat_said y)))
      (λ x y is. subst (λ (z : Whole Prop-F). OfProp (roll-Prop z)) is
      (subst (λ (o : rules.ShownProp). (c r : Bool) → Appends (o c r)) (sym (at_prop env (whole_prop y)))
      (prop_said y)))
      (λ x y is. subst (λ (z : Whole Stmt-F). OfStmt (roll-Stmt z)) is
      (subst (λ (o : rules.ShownStmt). (top : Bool) → Appends (o top)) (sym (at_stmt env (whole_stmt y)))
      (stmt_said y)))
      (λ x y is. subst (λ (z : Whole Class-F). OfClass (roll-Class z)) is
      (subst (λ (o : rules.ShownClass). Appends o.declared) (sym (at_class env (whole_class y))) (class_said y)))
      (λ x y is. subst (λ (z : Whole Function-F). OfFunction (roll-Function z)) is
      (subst FunctionAppends (sym (at_function env (whole_function y))) (function_said y)))
      (λ x y is. subst (λ (z : Whole Param-F). OfParam (roll-Param z)) is
      (subst ParamAppends (sym (at_param env (whole_param y))) (param_said y)))
      (λ x y is. tt)
      (λ x y is. tt)
      (λ x y is. subst (λ (z : Whole VarDeclarator-F). OfDeclarator (roll-VarDeclarator z)) is
      (subst (λ (o : Run VarDeclarator). Appends o) (sym (at_declarator env (whole_declarator y)))
      (declarator_said y)))

  pub param_appends : (it : Param) → OfParam it
  param_appends =
      ind-Param OfMember OfDecl OfExpr OfModuleDecl OfItem OfPatProp OfPat OfProp OfStmt OfClass OfFunction OfParam
      OfCase OfEnumMember OfDeclarator
      (λ x y is. subst (λ (z : Whole ClassMember-F). OfMember (roll-ClassMember z)) is
      (subst (λ (o : Run (Option ClassMember)). Appends o) (sym (at_member env (whole_member y))) (member_said y)))
      (λ x y is. subst (λ (z : Whole Decl-F). OfDecl (roll-Decl z)) is
      (subst DeclAppends (sym (at_decl env (whole_decl y))) (decl_said y)))
      (λ x y is. subst (λ (z : Whole Expr-F). OfExpr (roll-Expr z)) is
      (subst ExprAppends (sym (at_expr env (whole_expr y))) (expr_said y)))
      (λ x y is. subst (λ (z : Whole ModuleDecl-F). OfModuleDecl (roll-ModuleDecl z)) is
      (subst (λ (o : Bool → Run (List ModuleItem)). (top : Bool) → Appends (o top))
      (sym (at_module_decl env (whole_module_decl y))) (module_decl_said y)))
      (λ x y is. subst (λ (z : Whole ModuleItem-F). OfItem (roll-ModuleItem z)) is
      (subst (λ (o : Bool → Run (List ModuleItem)). (top : Bool) → Appends (o top))
      (sym (at_item env (whole_item y))) (item_said y)))
      (λ x y is. tt)
      (λ x y is. subst (λ (z : Whole Pat-F). OfPat (roll-Pat z)) is
      (subst PatAppends (sym (at_pat env (whole_pat y))) (pat_said y)))
      (λ x y is. subst (λ (z : Whole Prop-F). OfProp (roll-Prop z)) is
      (subst (λ (o : rules.ShownProp). (c r : Bool) → Appends (o c r)) (sym (at_prop env (whole_prop y)))
      (prop_said y)))
      (λ x y is. subst (λ (z : Whole Stmt-F). OfStmt (roll-Stmt z)) is
      (subst (λ (o : rules.ShownStmt). (top : Bool) → Appends (o top)) (sym (at_stmt env (whole_stmt y)))
      (stmt_said y)))
      (λ x y is. subst (λ (z : Whole Class-F). OfClass (roll-Class z)) is
      (subst (λ (o : rules.ShownClass). Appends o.declared) (sym (at_class env (whole_class y))) (class_said y)))
      (λ x y is. subst (λ (z : Whole Function-F). OfFunction (roll-Function z)) is
      (subst FunctionAppends (sym (at_function env (whole_function y))) (function_said y)))
      (λ x y is. subst (λ (z : Whole Param-F). OfParam (roll-Param z)) is
      (subst ParamAppends (sym (at_param env (whole_param y))) (param_said y)))
      (λ x y is. tt)
      (λ x y is. tt)
      (λ x y is. subst (λ (z : Whole VarDeclarator-F). OfDeclarator (roll-VarDeclarator z)) is
      (subst (λ (o : Run VarDeclarator). Appends o) (sym (at_declarator env (whole_declarator y)))
      (declarator_said y)))

  pub declarator_appends : (it : VarDeclarator) → OfDeclarator it
  declarator_appends =
      ind-VarDeclarator OfMember OfDecl OfExpr OfModuleDecl OfItem OfPatProp OfPat OfProp OfStmt OfClass OfFunction
      OfParam OfCase OfEnumMember OfDeclarator
      (λ x y is. subst (λ (z : Whole ClassMember-F). OfMember (roll-ClassMember z)) is
      (subst (λ (o : Run (Option ClassMember)). Appends o) (sym (at_member env (whole_member y))) (member_said y)))
      (λ x y is. subst (λ (z : Whole Decl-F). OfDecl (roll-Decl z)) is
      (subst DeclAppends (sym (at_decl env (whole_decl y))) (decl_said y)))
      (λ x y is. subst (λ (z : Whole Expr-F). OfExpr (roll-Expr z)) is
      (subst ExprAppends (sym (at_expr env (whole_expr y))) (expr_said y)))
      (λ x y is. subst (λ (z : Whole ModuleDecl-F). OfModuleDecl (roll-ModuleDecl z)) is
      (subst (λ (o : Bool → Run (List ModuleItem)). (top : Bool) → Appends (o top))
      (sym (at_module_decl env (whole_module_decl y))) (module_decl_said y)))
      (λ x y is. subst (λ (z : Whole ModuleItem-F). OfItem (roll-ModuleItem z)) is
      (subst (λ (o : Bool → Run (List ModuleItem)). (top : Bool) → Appends (o top))
      (sym (at_item env (whole_item y))) (item_said y)))
      (λ x y is. tt)
      (λ x y is. subst (λ (z : Whole Pat-F). OfPat (roll-Pat z)) is
      (subst PatAppends (sym (at_pat env (whole_pat y))) (pat_said y)))
      (λ x y is. subst (λ (z : Whole Prop-F). OfProp (roll-Prop z)) is
      (subst (λ (o : rules.ShownProp). (c r : Bool) → Appends (o c r)) (sym (at_prop env (whole_prop y)))
      (prop_said y)))
      (λ x y is. subst (λ (z : Whole Stmt-F). OfStmt (roll-Stmt z)) is
      (subst (λ (o : rules.ShownStmt). (top : Bool) → Appends (o top)) (sym (at_stmt env (whole_stmt y)))
      (stmt_said y)))
      (λ x y is. subst (λ (z : Whole Class-F). OfClass (roll-Class z)) is
      (subst (λ (o : rules.ShownClass). Appends o.declared) (sym (at_class env (whole_class y))) (class_said y)))
      (λ x y is. subst (λ (z : Whole Function-F). OfFunction (roll-Function z)) is
      (subst FunctionAppends (sym (at_function env (whole_function y))) (function_said y)))
      (λ x y is. subst (λ (z : Whole Param-F). OfParam (roll-Param z)) is
      (subst ParamAppends (sym (at_param env (whole_param y))) (param_said y)))
      (λ x y is. tt)
      (λ x y is. tt)
      (λ x y is. subst (λ (z : Whole VarDeclarator-F). OfDeclarator (roll-VarDeclarator z)) is
      (subst (λ (o : Run VarDeclarator). Appends o) (sym (at_declarator env (whole_declarator y)))
      (declarator_said y)))
