-- What declarations, items and programs are as declarations.
use Rattle.std.specs.Prelude.{◌+◌, Bool, true, false, ◌&&◌, List, [], ◌∷◌, Option, Some, None, option_map, if◌then◌else◌, map}
use Rattle.base.specs.declared.range.Range.{Range}
use Rattle.es_ast.specs.declared.ts.leaf.Ident.{Ident}
use Rattle.es_ast.specs.declared.ts.leaf.TsEntityName.{TsEntityName}
use Rattle.es_ast.specs.declared.ts.leaf.MethodKind.{MethodKind}
use Rattle.es_ast.specs.declared.ts.ts.TsPart.{TsPart}
use Rattle.es_ast.specs.declared.ts.ts.TsType.{TsType}
use Rattle.es_ast.specs.declared.ts.ts.TsPatProp.{TsPatProp}
use Rattle.es_ast.specs.declared.leaf.Modifiers.{Modifiers}
use Rattle.es_ast.specs.declared.leaf.VarDeclKind.{VarDeclKind}
use Rattle.es_ast.specs.declared.leaf.VarDeclKind.TheVariants as vKind
use Rattle.es_ast.specs.declared.ast.Class.{Class, roll-Class}
use Rattle.es_ast.specs.declared.ast.ClassMember.{ClassMember}
use Rattle.es_ast.specs.declared.ast.ClassMember.TheVariants as vClassMember
use Rattle.es_ast.specs.declared.ast.Decl.{Decl}
use Rattle.es_ast.specs.declared.ast.Decl.TheVariants as vDecl
use Rattle.es_ast.specs.declared.ast.Expr.{Expr, out-Expr}
use Rattle.es_ast.specs.declared.ast.Expr.TheVariants as vExpr
use Rattle.es_ast.specs.declared.ast.Function.{Function}
use Rattle.es_ast.specs.declared.ast.ModuleDecl.{ModuleDecl}
use Rattle.es_ast.specs.declared.ast.ModuleDecl.TheVariants as vModule
use Rattle.es_ast.specs.declared.ast.ModuleItem.{ModuleItem}
use Rattle.es_ast.specs.declared.ast.ModuleItem.TheVariants as vItem
use Rattle.es_ast.specs.declared.ast.ObjectPatProp.{ObjectPatProp}
use Rattle.es_ast.specs.declared.ast.Param.{Param}
use Rattle.es_ast.specs.declared.ast.Pat.{Pat, out-Pat}
use Rattle.es_ast.specs.declared.ast.Pat.TheVariants as vPat
use Rattle.es_ast.specs.declared.ast.Prop.{Prop}
use Rattle.es_ast.specs.declared.ast.Stmt.{Stmt}
use Rattle.es_ast.specs.declared.ast.Stmt.TheVariants as vStmt
use Rattle.es_ast.specs.declared.ast.SwitchCase.{SwitchCase}
use Rattle.es_ast.specs.declared.ast.TsEnumMember.{TsEnumMember, roll-TsEnumMember}
use Rattle.es_ast.specs.declared.ast.VarDeclarator.{VarDeclarator, roll-VarDeclarator}
use Rattle.es_ast.specs.declared.ast.ClassMember.TheOpen.{ClassMember-F, Decl-F, Expr-F, ModuleDecl-F, ModuleItem-F, Pat-F, Stmt-F, Class-F, SwitchCase-F, TsEnumMember-F, VarDeclarator-F}
use Rattle.es_ast.specs.declared.ast.ClassMember.TheFolds.{para-ClassMember, para-Decl, para-Expr, para-ModuleDecl, para-ModuleItem, para-ObjectPatProp, para-Pat, para-Prop, para-Stmt, para-Class, para-Function, para-Param, para-SwitchCase, para-TsEnumMember, para-VarDeclarator}
use Rattle.es_site.specs.Parts.{Whole}
use Rattle.dts_rules.specs.declared.found.FoundKind.TheVariants as kind
use Rattle.dts_rules.specs.Sets.{Sets}
use Rattle.dts_rules.specs.Made.{nowhere, any_type, annotation, entity_of, made_name, if_true}
use Rattle.es_ast.specs.declared.ts.leaf.TsThisTypeOrIdent.{TsThisTypeOrIdent}
use Rattle.es_ast.specs.declared.ts.leaf.TsThisTypeOrIdent.TheVariants as vThis
use Rattle.es_ast.specs.declared.ast.Program.{Program}
use Rattle.es_ast.specs.declared.ast.Program.TheVariants as vProgram
use Rattle.dts_rules.specs.Sets.{no_sets, sets_of}
use Rattle.dts_rules.specs.Rules.{State, Run, give, note, drawn, after, in_turn, some, flat, or_any, Shown, ShownDecl, ShownClass, ShownItem, ShownStmt, Of, Env, undeclared, is_setter, is_plain_const, ShownPat, ShownFunction, ShownParam, ShownMember, ShownProp, ShownDeclarator, in_expr, in_prop, in_pat, in_pat_prop, in_param, in_function}

-- ---- members of classes
abbrev pub is_private_key : Whole Expr-F → Bool
is_private_key (Expr-F.PrivateName id) = true
is_private_key _ = false

-- a key in brackets is what it is looked through to; any other stays
abbrev pub member_key : Bool → Expr × Shown → Option (Bool × Expr)
member_key true key = key.1.key
member_key false key = if is_private_key (out-Expr key.0) then None else Some (false, key.0)

-- the type of a field: its own, or that of its value, or `any`; nothing is found
abbrev pub any_silently : Option TsType × State → Option TsPart × State
any_silently (Some ty, s) = (annotation ty, s)
any_silently (None, s) = (annotation any_type, s)

abbrev pub field_type : Option TsPart → Option (Expr × Shown) → Run (Option TsPart)
field_type (Some part) value s = (Some part, s)
field_type None None s = (None, s)
field_type None (Some value) s = any_silently (value.1.rule false false s)

module _ (env : Env) where
  abbrev pub method : Modifiers → MethodKind → Bool → Range → Function × ShownFunction → Option (Bool × Expr)
      → Run (Option ClassMember)
  method modifiers k mark span function (Some key) s =
      after (λ f. Some (vClassMember.Method modifiers k key.0 key.1 mark f span)) (function.1.bare true (is_setter k) s)
  method modifiers k mark span function None s = (None, s)

  abbrev pub field : Modifiers → Bool → Range → Option TsPart → Option (Expr × Shown) → Option (Bool × Expr)
      → Run (Option ClassMember)
  field modifiers mark span ty value (Some key) s =
      after (λ part. Some (vClassMember.Prop (undeclared modifiers) key.0 key.1 mark false part None span)) (field_type ty value s)
  field modifiers mark span ty value None s = (None, s)

  abbrev pub unless_ : {A : Type 0} → Bool → Run (Option A) → Run (Option A)
  unless_ true run = give None
  unless_ false run = run

  abbrev pub in_class_member : Of ClassMember-F → Run (Option ClassMember)
  in_class_member (ClassMember-F.ClassMember::Empty span) = give None
  in_class_member (ClassMember-F.StaticBlock stmts span) = give None
  in_class_member (ClassMember-F.TsIndexSignature modifiers name of ty span) =
      give (Some (vClassMember.TsIndexSignature modifiers name of ty span))
  in_class_member (ClassMember-F.ClassMember::Method modifiers k computed key mark function span) =
      unless_ (env.implements span) (method modifiers k mark span function (member_key computed key))
  in_class_member (ClassMember-F.Prop modifiers computed key mark definite ty value span) =
      unless_ modifiers.accessor (field modifiers mark span ty value (member_key computed key))

  abbrev pub in_class : Of Class-F → ShownClass
  in_class it = record {
    declared = λ s.
        after (λ members. roll-Class (record {
          ident = it.ident;
          is_abstract = it.is_abstract;
          type_params = it.type_params;
          super_class = option_map (λ e. e.0) it.super_class;
          super_type_args = it.super_type_args;
          implements = it.implements;
          body = some members;
          span = it.span;
        })) (in_turn (λ m. m.1) it.body s);
    span = it.span;
  }

  -- ---- variables and enums
  abbrev pub init_type : Option (Expr × Shown) → Run (Option TsType)
  init_type (Some e) s = e.1.rule false true s
  init_type None s = (None, s)

  abbrev pub variable : Whole Pat-F → Pat → Range → Option (Expr × Shown) → Run Pat
  variable (Pat-F.Pat::Ident id (Some part) place) name span init s = (name, s)
  variable (Pat-F.Pat::Ident id None place) name span init s =
      after (λ ty. vPat.Ident id (annotation ty) place) (or_any kind.UnableToInferTypeFallbackAny id.span (init_type init s))
  variable pat name span init s = (name, note kind.UnableToInferType span s)

  abbrev pub in_var_declarator : Of VarDeclarator-F → Run VarDeclarator
  in_var_declarator it s =
      after (λ name. roll-VarDeclarator (record { name = name; definite = it.definite; init = None; span = it.span }))
      (variable (out-Pat it.name.0) it.name.0 it.span it.init s)

  abbrev pub kept_init : Option (Expr × Shown) → Option Expr
  kept_init (Some e) = if_true e.1.starts_enum e.0
  kept_init None = None

  abbrev pub in_enum_member : Of TsEnumMember-F → TsEnumMember
  in_enum_member it =
      roll-TsEnumMember (record { computed = it.computed; id = it.id.0; init = kept_init it.init; span = it.span })

  -- ---- declarations
  abbrev pub outer_by : TsThisTypeOrIdent → TsEntityName → TsEntityName
  outer_by (vThis.Ident id) name = entity_of id
  outer_by (vThis.This span) name = name

  -- a name with dots keeps its first name
  abbrev pub outer : TsEntityName → TsEntityName
  outer name = outer_by name.left name

  abbrev pub inside : List (ModuleItem × ShownItem) → Run (List ModuleItem)
  inside body s = after (λ items. flat items) (in_turn (λ item. item.1 false) body s)

  -- a declaration that stays as it is
  abbrev pub kept_decl : Range → Decl → ShownDecl
  kept_decl span decl = record {
    span = span;
    declared = λ top. give (Some decl);
    defaulted = give decl;
    is_function = false;
    stays = true;
  }

  abbrev pub changed_decl : Range → Bool → (Bool → Run Decl) → Run Decl → ShownDecl
  changed_decl span is_fn run default_run = record {
    span = span;
    declared = λ top s. after (λ d. Some d) (run top s);
    defaulted = default_run;
    is_function = is_fn;
    stays = false;
  }

  abbrev pub using_decl : Range → Decl → ShownDecl
  using_decl span decl = record {
    span = span;
    declared = λ top s. (None, note kind.UnsupportedUsing span s);
    defaulted = give decl;
    is_function = false;
    stays = true;
  }

  abbrev pub variables : Bool → VarDeclKind → List (VarDeclarator × Run VarDeclarator) → Bool → Range → ShownDecl
  variables true k decls declare span =
      changed_decl span false (λ top s. after (λ ds. vDecl.Var top k ds span) (in_turn (λ d. d.1) decls s))
      (give (vDecl.Var declare k (map (λ d. d.0) decls) span))
  variables false k decls declare span = using_decl span (vDecl.Var declare k (map (λ d. d.0) decls) span)

  abbrev pub in_decl : Of Decl-F → ShownDecl
  in_decl (Decl-F.Decl::Class declare class span) =
      changed_decl span false (λ top s. after (λ c. vDecl.Class top c span) (class.1.declared s))
      (λ s. after (λ c. vDecl.Class declare c span) (class.1.declared s))
  in_decl (Decl-F.Decl::Fn declare function span) =
      changed_decl span true (λ top s. after (λ f. vDecl.Fn top f span) (function.1.bare true false s))
      (λ s. after (λ f. vDecl.Fn declare f span) (function.1.bare false false s))
  in_decl (Decl-F.Var declare k decls span) = variables (is_plain_const k) k decls declare span
  in_decl (Decl-F.TsInterface declare id type_params extends body span) =
      kept_decl span (vDecl.TsInterface declare id type_params extends body span)
  in_decl (Decl-F.TsTypeAlias declare id type_params ty span) =
      kept_decl span (vDecl.TsTypeAlias declare id type_params ty span)
  in_decl (Decl-F.TsEnum declare is_const id members span) =
      changed_decl span false (λ top. give (vDecl.TsEnum top is_const id (map (λ m. m.1) members) span))
      (give (vDecl.TsEnum declare is_const id (map (λ m. m.1) members) span))
  in_decl (Decl-F.TsNamespace declare is_module id body span) =
      changed_decl span false (λ top s. after (λ items. vDecl.TsNamespace top is_module (outer id) items span) (inside body s))
      (λ s. after (λ items. vDecl.TsNamespace declare is_module (outer id) items span) (inside body s))
  in_decl (Decl-F.TsModule declare id has_body body span) =
      changed_decl span false (λ top s. after (λ items. vDecl.TsModule top id has_body items span) (inside body s))
      (λ s. after (λ items. vDecl.TsModule declare id has_body items span) (inside body s))
  in_decl (Decl-F.TsGlobal declare body span) =
      changed_decl span false (λ top s. after (λ items. vDecl.TsGlobal top items span) (inside body s))
      (λ s. after (λ items. vDecl.TsGlobal declare items span) (inside body s))

  -- ---- statements and items
  abbrev pub stmt_decl : Bool → Bool → Decl × ShownDecl → Bool → Run (Option Stmt)
  stmt_decl true stays it top s = (None, s)
  stmt_decl false true it top s = (Some (vStmt.Decl it.0), s)
  stmt_decl false false it top s = after (λ d. option_map vStmt.Decl d) (it.1.declared top s)

  abbrev pub in_stmt : Of Stmt-F → ShownStmt
  in_stmt (Stmt-F.Decl it) = stmt_decl (it.1.is_function && env.implements it.1.span) it.1.stays it
  in_stmt _ = λ top. give None

  abbrev pub one : ModuleDecl → List ModuleItem
  one decl = vItem.ModuleDecl decl ∷ []

  abbrev pub exported : Range → Option Decl × State → List ModuleItem × State
  exported span (Some d, s) = (one (vModule.ExportDecl d span), s)
  exported span (None, s) = ([], note kind.UnableToInferType span s)

  abbrev pub export_decl : Bool → Decl × ShownDecl → Range → Bool → Run (List ModuleItem)
  export_decl true it span top s = ([], s)
  export_decl false it span top s = exported span (it.1.declared top s)

  abbrev pub export_default : Bool → Decl × ShownDecl → Range → Run (List ModuleItem)
  export_default true it span s = ([], s)
  export_default false it span s = after (λ d. one (vModule.ExportDefaultDecl d span)) (it.1.defaulted s)

  -- `declare const _dts_1: T;`
  abbrev pub made_const : Ident → TsType → ModuleItem
  made_const name ty =
      vItem.Stmt (vStmt.Decl (vDecl.Var true vKind.Const (roll-VarDeclarator (record {
        name = vPat.Ident name (annotation ty) nowhere;
        definite = false;
        init = None;
        span = nowhere;
      }) ∷ []) nowhere))

  abbrev pub with_const : Expr → Range → Ident → Option TsType × State → List ModuleItem × State
  with_const e span name (Some ty, s) = (made_const name ty ∷ one (vModule.ExportDefaultExpr (vExpr.Ident name) span), s)
  with_const e span name (None, s) = (one (vModule.ExportDefaultExpr e span), s)

  abbrev pub default_expr : Whole Expr-F → Expr × Shown → Range → Run (List ModuleItem)
  default_expr (Expr-F.Expr::Ident id) e span s = (one (vModule.ExportDefaultExpr e.0 span), s)
  default_expr other e span s =
      with_const e.0 span (made_name (env.name (s.made + 1))) (e.1.rule false true (drawn s))

  abbrev pub in_module_decl : Of ModuleDecl-F → ShownItem
  in_module_decl (ModuleDecl-F.Import it) top = give (one (vModule.Import it))
  in_module_decl (ModuleDecl-F.ExportDecl decl span) top =
      export_decl (decl.1.is_function && env.implements span) decl span top
  in_module_decl (ModuleDecl-F.ExportNamed it) top = give (one (vModule.ExportNamed it))
  in_module_decl (ModuleDecl-F.ExportDefaultDecl decl span) top =
      export_default (decl.1.is_function && env.implements span) decl span
  in_module_decl (ModuleDecl-F.ExportDefaultExpr expr span) top = default_expr (out-Expr expr.0) expr span
  in_module_decl (ModuleDecl-F.ExportAll it) top = give (one (vModule.ExportAll it))
  in_module_decl (ModuleDecl-F.TsImportEquals it) top = give (one (vModule.TsImportEquals it))
  in_module_decl (ModuleDecl-F.TsExportAssignment expr span) top = give (one (vModule.TsExportAssignment expr.0 span))
  in_module_decl (ModuleDecl-F.TsNamespaceExport it) top = give (one (vModule.TsNamespaceExport it))

  abbrev pub if_stmt : Option Stmt → List ModuleItem
  if_stmt (Some it) = vItem.Stmt it ∷ []
  if_stmt None = []

  abbrev pub in_module_item : Of ModuleItem-F → ShownItem
  in_module_item (ModuleItem-F.ModuleDecl it) top = it.1 top
  in_module_item (ModuleItem-F.Stmt it) top = λ s. after if_stmt (it.1 top s)

  abbrev pub in_switch_case : Of SwitchCase-F → Unit {0}
  in_switch_case it = tt

  -- ---- the tree: what each node shows, from what its parts show
  unfoldable pub shown_member : ClassMember → ShownMember
  shown_member =
      para-ClassMember ShownMember ShownDecl Shown ShownItem ShownItem (Option TsPatProp) ShownPat ShownProp ShownStmt ShownClass
      ShownFunction ShownParam (Unit {0}) TsEnumMember ShownDeclarator
      in_class_member in_decl (in_expr env) in_module_decl in_module_item (in_pat_prop env) (in_pat env) (in_prop env) in_stmt
      in_class (in_function env) (in_param env) in_switch_case in_enum_member in_var_declarator

  unfoldable pub shown_decl : Decl → ShownDecl
  shown_decl =
      para-Decl ShownMember ShownDecl Shown ShownItem ShownItem (Option TsPatProp) ShownPat ShownProp ShownStmt ShownClass
      ShownFunction ShownParam (Unit {0}) TsEnumMember ShownDeclarator
      in_class_member in_decl (in_expr env) in_module_decl in_module_item (in_pat_prop env) (in_pat env) (in_prop env) in_stmt
      in_class (in_function env) (in_param env) in_switch_case in_enum_member in_var_declarator

  unfoldable pub shown_expr : Expr → Shown
  shown_expr =
      para-Expr ShownMember ShownDecl Shown ShownItem ShownItem (Option TsPatProp) ShownPat ShownProp ShownStmt ShownClass
      ShownFunction ShownParam (Unit {0}) TsEnumMember ShownDeclarator
      in_class_member in_decl (in_expr env) in_module_decl in_module_item (in_pat_prop env) (in_pat env) (in_prop env) in_stmt
      in_class (in_function env) (in_param env) in_switch_case in_enum_member in_var_declarator

  unfoldable pub shown_module_decl : ModuleDecl → ShownItem
  shown_module_decl =
      para-ModuleDecl ShownMember ShownDecl Shown ShownItem ShownItem (Option TsPatProp) ShownPat ShownProp ShownStmt ShownClass
      ShownFunction ShownParam (Unit {0}) TsEnumMember ShownDeclarator
      in_class_member in_decl (in_expr env) in_module_decl in_module_item (in_pat_prop env) (in_pat env) (in_prop env) in_stmt
      in_class (in_function env) (in_param env) in_switch_case in_enum_member in_var_declarator

  unfoldable pub shown_item : ModuleItem → ShownItem
  shown_item =
      para-ModuleItem ShownMember ShownDecl Shown ShownItem ShownItem (Option TsPatProp) ShownPat ShownProp ShownStmt ShownClass
      ShownFunction ShownParam (Unit {0}) TsEnumMember ShownDeclarator
      in_class_member in_decl (in_expr env) in_module_decl in_module_item (in_pat_prop env) (in_pat env) (in_prop env) in_stmt
      in_class (in_function env) (in_param env) in_switch_case in_enum_member in_var_declarator

  unfoldable pub shown_pat_prop : ObjectPatProp → Option TsPatProp
  shown_pat_prop =
      para-ObjectPatProp ShownMember ShownDecl Shown ShownItem ShownItem (Option TsPatProp) ShownPat ShownProp ShownStmt ShownClass
      ShownFunction ShownParam (Unit {0}) TsEnumMember ShownDeclarator
      in_class_member in_decl (in_expr env) in_module_decl in_module_item (in_pat_prop env) (in_pat env) (in_prop env) in_stmt
      in_class (in_function env) (in_param env) in_switch_case in_enum_member in_var_declarator

  unfoldable pub shown_pat : Pat → ShownPat
  shown_pat =
      para-Pat ShownMember ShownDecl Shown ShownItem ShownItem (Option TsPatProp) ShownPat ShownProp ShownStmt ShownClass
      ShownFunction ShownParam (Unit {0}) TsEnumMember ShownDeclarator
      in_class_member in_decl (in_expr env) in_module_decl in_module_item (in_pat_prop env) (in_pat env) (in_prop env) in_stmt
      in_class (in_function env) (in_param env) in_switch_case in_enum_member in_var_declarator

  unfoldable pub shown_prop : Prop → ShownProp
  shown_prop =
      para-Prop ShownMember ShownDecl Shown ShownItem ShownItem (Option TsPatProp) ShownPat ShownProp ShownStmt ShownClass
      ShownFunction ShownParam (Unit {0}) TsEnumMember ShownDeclarator
      in_class_member in_decl (in_expr env) in_module_decl in_module_item (in_pat_prop env) (in_pat env) (in_prop env) in_stmt
      in_class (in_function env) (in_param env) in_switch_case in_enum_member in_var_declarator

  unfoldable pub shown_stmt : Stmt → ShownStmt
  shown_stmt =
      para-Stmt ShownMember ShownDecl Shown ShownItem ShownItem (Option TsPatProp) ShownPat ShownProp ShownStmt ShownClass
      ShownFunction ShownParam (Unit {0}) TsEnumMember ShownDeclarator
      in_class_member in_decl (in_expr env) in_module_decl in_module_item (in_pat_prop env) (in_pat env) (in_prop env) in_stmt
      in_class (in_function env) (in_param env) in_switch_case in_enum_member in_var_declarator

  unfoldable pub shown_class : Class → ShownClass
  shown_class =
      para-Class ShownMember ShownDecl Shown ShownItem ShownItem (Option TsPatProp) ShownPat ShownProp ShownStmt ShownClass
      ShownFunction ShownParam (Unit {0}) TsEnumMember ShownDeclarator
      in_class_member in_decl (in_expr env) in_module_decl in_module_item (in_pat_prop env) (in_pat env) (in_prop env) in_stmt
      in_class (in_function env) (in_param env) in_switch_case in_enum_member in_var_declarator

  unfoldable pub shown_function : Function → ShownFunction
  shown_function =
      para-Function ShownMember ShownDecl Shown ShownItem ShownItem (Option TsPatProp) ShownPat ShownProp ShownStmt ShownClass
      ShownFunction ShownParam (Unit {0}) TsEnumMember ShownDeclarator
      in_class_member in_decl (in_expr env) in_module_decl in_module_item (in_pat_prop env) (in_pat env) (in_prop env) in_stmt
      in_class (in_function env) (in_param env) in_switch_case in_enum_member in_var_declarator

  unfoldable pub shown_param : Param → ShownParam
  shown_param =
      para-Param ShownMember ShownDecl Shown ShownItem ShownItem (Option TsPatProp) ShownPat ShownProp ShownStmt ShownClass
      ShownFunction ShownParam (Unit {0}) TsEnumMember ShownDeclarator
      in_class_member in_decl (in_expr env) in_module_decl in_module_item (in_pat_prop env) (in_pat env) (in_prop env) in_stmt
      in_class (in_function env) (in_param env) in_switch_case in_enum_member in_var_declarator

  unfoldable pub shown_switch_case : SwitchCase → Unit {0}
  shown_switch_case =
      para-SwitchCase ShownMember ShownDecl Shown ShownItem ShownItem (Option TsPatProp) ShownPat ShownProp ShownStmt ShownClass
      ShownFunction ShownParam (Unit {0}) TsEnumMember ShownDeclarator
      in_class_member in_decl (in_expr env) in_module_decl in_module_item (in_pat_prop env) (in_pat env) (in_prop env) in_stmt
      in_class (in_function env) (in_param env) in_switch_case in_enum_member in_var_declarator

  unfoldable pub shown_enum_member : TsEnumMember → TsEnumMember
  shown_enum_member =
      para-TsEnumMember ShownMember ShownDecl Shown ShownItem ShownItem (Option TsPatProp) ShownPat ShownProp ShownStmt ShownClass
      ShownFunction ShownParam (Unit {0}) TsEnumMember ShownDeclarator
      in_class_member in_decl (in_expr env) in_module_decl in_module_item (in_pat_prop env) (in_pat env) (in_prop env) in_stmt
      in_class (in_function env) (in_param env) in_switch_case in_enum_member in_var_declarator

  unfoldable pub shown_declarator : VarDeclarator → ShownDeclarator
  shown_declarator =
      para-VarDeclarator ShownMember ShownDecl Shown ShownItem ShownItem (Option TsPatProp) ShownPat ShownProp ShownStmt ShownClass
      ShownFunction ShownParam (Unit {0}) TsEnumMember ShownDeclarator
      in_class_member in_decl (in_expr env) in_module_decl in_module_item (in_pat_prop env) (in_pat env) (in_prop env) in_stmt
      in_class (in_function env) (in_param env) in_switch_case in_enum_member in_var_declarator

  -- ---- a program
  abbrev pub declared_items : List ModuleItem → Run (List ModuleItem)
  declared_items items s = after (λ items. flat items) (in_turn (λ item. shown_item item true) items s)

  abbrev pub declared_stmts : List Stmt → Run (List Stmt)
  declared_stmts stmts s = after (λ stmts. some stmts) (in_turn (λ stmt. shown_stmt stmt true) stmts s)

-- with the sets of a module, and of a script with none
abbrev pub with_sets : Env → Sets → Env
with_sets env sets = record {
  number = env.number;
  unresolved = env.unresolved;
  sets = sets;
  implements = env.implements;
  name = env.name;
}

unfoldable pub declared : Env → Program → Run Program
declared env (vProgram.Module it) s =
    after (λ body. vProgram.Module (record { shebang = it.shebang; body = body; span = it.span }))
    (declared_items (with_sets env (sets_of env.number it.body)) it.body s)
declared env (vProgram.Script it) s =
    after (λ body. vProgram.Script (record { shebang = it.shebang; body = body; span = it.span }))
    (declared_stmts (with_sets env no_sets) it.body s)
