-- Each form of functions and classes moves as its parts do.
use Rattle.std.specs.Prelude.{Bool, List, Option, Some, None, option_map, map}
use Rattle.std.proofs.Common.{◌≡◌, sym, ap, ◌∙◌}
use Rattle.base.specs.declared.range.Range.{Range}
use Rattle.es_ast.specs.declared.ts.leaf.Ident.{Ident}
use Rattle.es_ast.specs.declared.ts.leaf.MethodKind.{MethodKind}
use Rattle.es_ast.specs.declared.ts.ts.TsPart.{TsPart}
use Rattle.es_ast.specs.declared.leaf.Modifiers.{Modifiers}
use Rattle.es_ast.specs.declared.ast.ModuleItem.{ModuleItem}
use Rattle.es_ast.specs.declared.ast.ModuleDecl.{ModuleDecl}
use Rattle.es_ast.specs.declared.ast.Stmt.{Stmt}
use Rattle.es_ast.specs.declared.ast.Decl.{Decl}
use Rattle.es_ast.specs.declared.ast.Expr.{Expr}
use Rattle.es_ast.specs.declared.ast.Pat.{Pat}
use Rattle.es_ast.specs.declared.ast.ObjectPatProp.{ObjectPatProp}
use Rattle.es_ast.specs.declared.ast.Prop.{Prop}
use Rattle.es_ast.specs.declared.ast.Function.{Function, roll-Function, map-Function}
use Rattle.es_ast.specs.declared.ast.Param.{Param}
use Rattle.es_ast.specs.declared.ast.VarDeclarator.{VarDeclarator}
use Rattle.es_ast.specs.declared.ast.SwitchCase.{SwitchCase}
use Rattle.es_ast.specs.declared.ast.TsEnumMember.{TsEnumMember, roll-TsEnumMember, map-TsEnumMember}
use Rattle.es_ast.specs.declared.ast.Class.{Class, roll-Class, map-Class}
use Rattle.es_ast.specs.declared.ast.ClassMember.{ClassMember, roll-ClassMember, map-ClassMember}
use Rattle.es_ast.specs.declared.ast.ClassMember.TheVariants as vClassMember
use Rattle.es_ast.specs.declared.ast.ClassMember.TheOpen.{ClassMember-F, Class-F, Function-F, TsEnumMember-F}
use Rattle.es_ast.specs.declared.ast.ClassMember.TheFolds.{fold-roll-ClassMember, fold-roll-Class, fold-roll-Function, fold-roll-TsEnumMember}
use Rattle.es_law_edits.specs.moved.Move.{Move, range_to}
use Rattle.es_law_edits.specs.moved.Leaves.{ident_to}
use Rattle.es_law_edits.specs.moved.Types.{ts_part_to}
use Rattle.es_law_edits.specs.moved.Steps.{Moved, in_class_member, in_decl, in_expr, in_module_decl, in_module_item, in_object_pat_prop, in_pat, in_prop, in_stmt, in_class, in_function, in_param, in_switch_case, in_ts_enum_member, in_var_declarator}
use Rattle.es_law_edits.specs.moved.Trees.{module_item_to, module_decl_to, stmt_to, decl_to, expr_to, pat_to, object_pat_prop_to, prop_to, function_to, param_to, var_declarator_to, switch_case_to, ts_enum_member_to, class_to, class_member_to}
use Rattle.es_law_edits.proofs.moved.Rel.{By, Opt, Each, opt_is, each_is}
use Rattle.es_law_edits.proofs.moved.Same.{same1, same2, same4, same5, same7, same8}

at_function : (m : Move) (it : Moved Function-F) → function_to m (roll-Function it) ≡ in_function m
    (map-Function ClassMember Decl Expr ModuleDecl ModuleItem ObjectPatProp Pat Prop Stmt Class Function Param
    SwitchCase TsEnumMember VarDeclarator ClassMember Decl Expr ModuleDecl ModuleItem ObjectPatProp Pat Prop Stmt
    Class Function Param SwitchCase TsEnumMember VarDeclarator (class_member_to m) (decl_to m) (expr_to m)
    (module_decl_to m) (module_item_to m) (object_pat_prop_to m) (pat_to m) (prop_to m) (stmt_to m) (class_to m)
    (function_to m) (param_to m) (switch_case_to m) (ts_enum_member_to m) (var_declarator_to m) it)
unfolding class_member_to decl_to expr_to module_decl_to module_item_to object_pat_prop_to pat_to prop_to stmt_to
    class_to function_to param_to switch_case_to ts_enum_member_to var_declarator_to
at_function m it = fold-roll-Function ClassMember Decl Expr ModuleDecl ModuleItem ObjectPatProp Pat Prop Stmt Class
    Function Param SwitchCase TsEnumMember VarDeclarator (in_class_member m) (in_decl m) (in_expr m)
    (in_module_decl m) (in_module_item m) (in_object_pat_prop m) (in_pat m) (in_prop m) (in_stmt m) (in_class m)
    (in_function m) (in_param m) (in_switch_case m) (in_ts_enum_member m) (in_var_declarator m) it

function_made_is : (m : Move) (ident : Option Ident) (is_async : Bool) (is_generator : Bool)
    (type_params : Option TsPart) (params : List Param) (return_type : Option TsPart) (body : Option Stmt)
    (span : Range) → function_to m (roll-Function (record {
      ident = ident;
      is_async = is_async;
      is_generator = is_generator;
      type_params = type_params;
      params = params;
      return_type = return_type;
      body = body;
      span = span;
    })) ≡ roll-Function (record {
      ident = (option_map (ident_to m) ident);
      is_async = is_async;
      is_generator = is_generator;
      type_params = (option_map (ts_part_to m) type_params);
      params = (map (param_to m) params);
      return_type = (option_map (ts_part_to m) return_type);
      body = (option_map (stmt_to m) body);
      span = (range_to m span);
    })
function_made_is m ident is_async is_generator type_params params return_type None span =
    at_function m (record {
      ident = ident;
      is_async = is_async;
      is_generator = is_generator;
      type_params = type_params;
      params = params;
      return_type = return_type;
      body = None;
      span = span;
    })
function_made_is m ident is_async is_generator type_params params return_type (Some body) span =
    at_function m (record {
      ident = ident;
      is_async = is_async;
      is_generator = is_generator;
      type_params = type_params;
      params = params;
      return_type = return_type;
      body = (Some body);
      span = span;
    })

pub function_made : (m : Move) {ident ident2 : Option Ident} {is_async is_async2 : Bool}
    {is_generator is_generator2 : Bool} {type_params type_params2 : Option TsPart} {params params2 : List Param}
    {return_type return_type2 : Option TsPart} {body body2 : Option Stmt} {span span2 : Range}
    → Opt (By (ident_to m)) ident ident2 → is_async2 ≡ is_async → is_generator2 ≡ is_generator
    → Opt (By (ts_part_to m)) type_params type_params2 → Each (By (param_to m)) params params2
    → Opt (By (ts_part_to m)) return_type return_type2 → Opt (By (stmt_to m)) body body2
    → By (range_to m) span span2 → By (function_to m) (roll-Function
    (record {
      ident = ident;
      is_async = is_async;
      is_generator = is_generator;
      type_params = type_params;
      params = params;
      return_type = return_type;
      body = body;
      span = span;
    }))
    (roll-Function (record {
      ident = ident2;
      is_async = is_async2;
      is_generator = is_generator2;
      type_params = type_params2;
      params = params2;
      return_type = return_type2;
      body = body2;
      span = span2;
    }))
function_made m {ident = ident} {is_async = is_async} {is_generator = is_generator} {type_params = type_params}
    {params = params} {return_type = return_type} {body = body} {span = span} h0 h1 h2 h3 h4 h5 h6 h7 =
    let make : Option Ident → Bool → Bool → Option TsPart → List Param → Option TsPart → Option Stmt → Range
    → Function = λ ident is_async is_generator type_params params return_type body span. roll-Function
    (record {
      ident = ident;
      is_async = is_async;
      is_generator = is_generator;
      type_params = type_params;
      params = params;
      return_type = return_type;
      body = body;
      span = span;
    }) in
    record {
      is = same8 make (opt_is h0) h1 h2 (opt_is h3) (each_is h4) (opt_is h5) (opt_is h6) h7.is ∙ sym
          (function_made_is m ident is_async is_generator type_params params return_type body span);
    }

at_class : (m : Move) (it : Moved Class-F) → class_to m (roll-Class it) ≡ in_class m
    (map-Class ClassMember Decl Expr ModuleDecl ModuleItem ObjectPatProp Pat Prop Stmt Class Function Param
    SwitchCase TsEnumMember VarDeclarator ClassMember Decl Expr ModuleDecl ModuleItem ObjectPatProp Pat Prop Stmt
    Class Function Param SwitchCase TsEnumMember VarDeclarator (class_member_to m) (decl_to m) (expr_to m)
    (module_decl_to m) (module_item_to m) (object_pat_prop_to m) (pat_to m) (prop_to m) (stmt_to m) (class_to m)
    (function_to m) (param_to m) (switch_case_to m) (ts_enum_member_to m) (var_declarator_to m) it)
unfolding class_member_to decl_to expr_to module_decl_to module_item_to object_pat_prop_to pat_to prop_to stmt_to
    class_to function_to param_to switch_case_to ts_enum_member_to var_declarator_to
at_class m it = fold-roll-Class ClassMember Decl Expr ModuleDecl ModuleItem ObjectPatProp Pat Prop Stmt Class
    Function Param SwitchCase TsEnumMember VarDeclarator (in_class_member m) (in_decl m) (in_expr m)
    (in_module_decl m) (in_module_item m) (in_object_pat_prop m) (in_pat m) (in_prop m) (in_stmt m) (in_class m)
    (in_function m) (in_param m) (in_switch_case m) (in_ts_enum_member m) (in_var_declarator m) it

class_made_is : (m : Move) (ident : Option Ident) (is_abstract : Bool) (type_params : Option TsPart)
    (super_class : Option Expr) (super_type_args : Option TsPart) (implements : Option TsPart)
    (body : List ClassMember) (span : Range) → class_to m (roll-Class
    (record {
      ident = ident;
      is_abstract = is_abstract;
      type_params = type_params;
      super_class = super_class;
      super_type_args = super_type_args;
      implements = implements;
      body = body;
      span = span;
    })) ≡ roll-Class
    (record {
      ident = (option_map (ident_to m) ident);
      is_abstract = is_abstract;
      type_params = (option_map (ts_part_to m) type_params);
      super_class = (option_map (expr_to m) super_class);
      super_type_args = (option_map (ts_part_to m) super_type_args);
      implements = (option_map (ts_part_to m) implements);
      body = (map (class_member_to m) body);
      span = (range_to m span);
    })
class_made_is m ident is_abstract type_params None super_type_args implements body span =
    at_class m (record {
      ident = ident;
      is_abstract = is_abstract;
      type_params = type_params;
      super_class = None;
      super_type_args = super_type_args;
      implements = implements;
      body = body;
      span = span;
    })
class_made_is m ident is_abstract type_params (Some super_class) super_type_args implements body span =
    at_class m (record {
      ident = ident;
      is_abstract = is_abstract;
      type_params = type_params;
      super_class = (Some super_class);
      super_type_args = super_type_args;
      implements = implements;
      body = body;
      span = span;
    })

pub class_made : (m : Move) {ident ident2 : Option Ident} {is_abstract is_abstract2 : Bool}
    {type_params type_params2 : Option TsPart} {super_class super_class2 : Option Expr}
    {super_type_args super_type_args2 : Option TsPart} {implements implements2 : Option TsPart}
    {body body2 : List ClassMember} {span span2 : Range} → Opt (By (ident_to m)) ident ident2
    → is_abstract2 ≡ is_abstract → Opt (By (ts_part_to m)) type_params type_params2
    → Opt (By (expr_to m)) super_class super_class2 → Opt (By (ts_part_to m)) super_type_args super_type_args2
    → Opt (By (ts_part_to m)) implements implements2 → Each (By (class_member_to m)) body body2
    → By (range_to m) span span2 → By (class_to m) (roll-Class
    (record {
      ident = ident;
      is_abstract = is_abstract;
      type_params = type_params;
      super_class = super_class;
      super_type_args = super_type_args;
      implements = implements;
      body = body;
      span = span;
    }))
    (roll-Class (record {
      ident = ident2;
      is_abstract = is_abstract2;
      type_params = type_params2;
      super_class = super_class2;
      super_type_args = super_type_args2;
      implements = implements2;
      body = body2;
      span = span2;
    }))
class_made m {ident = ident} {is_abstract = is_abstract} {type_params = type_params} {super_class = super_class}
    {super_type_args = super_type_args} {implements = implements} {body = body} {span = span} h0 h1 h2 h3 h4 h5 h6
    h7 =
    let make : Option Ident → Bool → Option TsPart → Option Expr → Option TsPart → Option TsPart → List ClassMember
    → Range → Class = λ ident is_abstract type_params super_class super_type_args implements body span. roll-Class
    (record {
      ident = ident;
      is_abstract = is_abstract;
      type_params = type_params;
      super_class = super_class;
      super_type_args = super_type_args;
      implements = implements;
      body = body;
      span = span;
    }) in
    record {
      is = same8 make (opt_is h0) h1 (opt_is h2) (opt_is h3) (opt_is h4) (opt_is h5) (each_is h6) h7.is ∙ sym
          (class_made_is m ident is_abstract type_params super_class super_type_args implements body span);
    }

at_class_member : (m : Move) (it : Moved ClassMember-F) → class_member_to m (roll-ClassMember it) ≡ in_class_member
    m (map-ClassMember ClassMember Decl Expr ModuleDecl ModuleItem ObjectPatProp Pat Prop Stmt Class Function Param
    SwitchCase TsEnumMember VarDeclarator ClassMember Decl Expr ModuleDecl ModuleItem ObjectPatProp Pat Prop Stmt
    Class Function Param SwitchCase TsEnumMember VarDeclarator (class_member_to m) (decl_to m) (expr_to m)
    (module_decl_to m) (module_item_to m) (object_pat_prop_to m) (pat_to m) (prop_to m) (stmt_to m) (class_to m)
    (function_to m) (param_to m) (switch_case_to m) (ts_enum_member_to m) (var_declarator_to m) it)
unfolding class_member_to decl_to expr_to module_decl_to module_item_to object_pat_prop_to pat_to prop_to stmt_to
    class_to function_to param_to switch_case_to ts_enum_member_to var_declarator_to
at_class_member m it = fold-roll-ClassMember ClassMember Decl Expr ModuleDecl ModuleItem ObjectPatProp Pat Prop Stmt
    Class Function Param SwitchCase TsEnumMember VarDeclarator (in_class_member m) (in_decl m) (in_expr m)
    (in_module_decl m) (in_module_item m) (in_object_pat_prop m) (in_pat m) (in_prop m) (in_stmt m) (in_class m)
    (in_function m) (in_param m) (in_switch_case m) (in_ts_enum_member m) (in_var_declarator m) it

pub class_member_Empty : (m : Move) {span span2 : Range} → By (range_to m) span span2
    → By (class_member_to m) (vClassMember.Empty span) (vClassMember.Empty span2)
class_member_Empty m {span = span} h0 =
    record {
      is = same1 vClassMember.Empty h0.is ∙ sym (ap (class_member_to m) (sym (vClassMember.rolls-Empty span))
          ∙ at_class_member m (ClassMember-F.ClassMember::Empty span));
    }

pub class_member_StaticBlock : (m : Move) {stmts stmts2 : List Stmt} {span span2 : Range}
    → Each (By (stmt_to m)) stmts stmts2 → By (range_to m) span span2
    → By (class_member_to m) (vClassMember.StaticBlock stmts span) (vClassMember.StaticBlock stmts2 span2)
class_member_StaticBlock m {stmts = stmts} {span = span} h0 h1 =
    record {
      is = same2 vClassMember.StaticBlock (each_is h0) h1.is ∙ sym
          (ap (class_member_to m) (sym (vClassMember.rolls-StaticBlock stmts span)) ∙ at_class_member m
          (ClassMember-F.StaticBlock stmts span));
    }

pub class_member_TsIndexSignature : (m : Move) {modifiers modifiers2 : Modifiers} {name name2 : Ident}
    {of of2 : Option TsPart} {type_ann type_ann2 : Option TsPart} {span span2 : Range} → modifiers2 ≡ modifiers
    → By (ident_to m) name name2 → Opt (By (ts_part_to m)) of of2 → Opt (By (ts_part_to m)) type_ann type_ann2
    → By (range_to m) span span2 → By (class_member_to m) (vClassMember.TsIndexSignature modifiers name of type_ann
    span) (vClassMember.TsIndexSignature modifiers2 name2 of2 type_ann2 span2)
class_member_TsIndexSignature m {modifiers = modifiers} {name = name} {of = of} {type_ann = type_ann} {span = span}
    h0 h1 h2 h3 h4 =
    record {
      is = same5 vClassMember.TsIndexSignature h0 h1.is (opt_is h2) (opt_is h3) h4.is ∙ sym
          (ap (class_member_to m) (sym (vClassMember.rolls-TsIndexSignature modifiers name of type_ann span)) ∙
          at_class_member m (ClassMember-F.TsIndexSignature modifiers name of type_ann span));
    }

pub class_member_Method : (m : Move) {modifiers modifiers2 : Modifiers} {kind kind2 : MethodKind}
    {computed computed2 : Bool} {key key2 : Expr} {optional optional2 : Bool} {function function2 : Function}
    {span span2 : Range} → modifiers2 ≡ modifiers → kind2 ≡ kind → computed2 ≡ computed → By (expr_to m) key key2
    → optional2 ≡ optional → By (function_to m) function function2 → By (range_to m) span span2
    → By (class_member_to m) (vClassMember.Method modifiers kind computed key optional function span)
    (vClassMember.Method modifiers2 kind2 computed2 key2 optional2 function2 span2)
class_member_Method m {modifiers = modifiers} {kind = kind} {computed = computed} {key = key} {optional = optional}
    {function = function} {span = span} h0 h1 h2 h3 h4 h5 h6 =
    record {
      is = same7 vClassMember.Method h0 h1 h2 h3.is h4 h5.is h6.is ∙ sym
          (ap (class_member_to m) (sym (vClassMember.rolls-Method modifiers kind computed key optional function span)) ∙
          at_class_member m (ClassMember-F.ClassMember::Method modifiers kind computed key optional function span));
    }

class_member_Prop_is : (m : Move) (modifiers : Modifiers) (computed : Bool) (key : Expr) (optional : Bool)
    (definite : Bool) (type_ann : Option TsPart) (value : Option Expr) (span : Range)
    → class_member_to m (vClassMember.Prop modifiers computed key optional definite type_ann value span) ≡
    vClassMember.Prop modifiers computed (expr_to m key) optional definite (option_map (ts_part_to m) type_ann)
    (option_map (expr_to m) value) (range_to m span)
class_member_Prop_is m modifiers computed key optional definite type_ann None span =
    ap (class_member_to m) (sym (vClassMember.rolls-Prop modifiers computed key optional definite type_ann None
    span)) ∙ at_class_member m (ClassMember-F.Prop modifiers computed key optional definite type_ann None span)
class_member_Prop_is m modifiers computed key optional definite type_ann (Some value) span =
    ap (class_member_to m) (sym (vClassMember.rolls-Prop modifiers computed key optional definite type_ann
    (Some value) span)) ∙ at_class_member m (ClassMember-F.Prop modifiers computed key optional definite type_ann
    (Some value) span)

pub class_member_Prop : (m : Move) {modifiers modifiers2 : Modifiers} {computed computed2 : Bool} {key key2 : Expr}
    {optional optional2 : Bool} {definite definite2 : Bool} {type_ann type_ann2 : Option TsPart}
    {value value2 : Option Expr} {span span2 : Range} → modifiers2 ≡ modifiers → computed2 ≡ computed
    → By (expr_to m) key key2 → optional2 ≡ optional → definite2 ≡ definite
    → Opt (By (ts_part_to m)) type_ann type_ann2 → Opt (By (expr_to m)) value value2 → By (range_to m) span span2
    → By (class_member_to m) (vClassMember.Prop modifiers computed key optional definite type_ann value span)
    (vClassMember.Prop modifiers2 computed2 key2 optional2 definite2 type_ann2 value2 span2)
class_member_Prop m {modifiers = modifiers} {computed = computed} {key = key} {optional = optional}
    {definite = definite} {type_ann = type_ann} {value = value} {span = span} h0 h1 h2 h3 h4 h5 h6 h7 =
    record {
      is = same8 vClassMember.Prop h0 h1 h2.is h3 h4 (opt_is h5) (opt_is h6) h7.is ∙ sym
          (class_member_Prop_is m modifiers computed key optional definite type_ann value span);
    }

at_ts_enum_member : (m : Move) (it : Moved TsEnumMember-F) → ts_enum_member_to m (roll-TsEnumMember it) ≡
    in_ts_enum_member m (map-TsEnumMember ClassMember Decl Expr ModuleDecl ModuleItem ObjectPatProp Pat Prop Stmt
    Class Function Param SwitchCase TsEnumMember VarDeclarator ClassMember Decl Expr ModuleDecl ModuleItem
    ObjectPatProp Pat Prop Stmt Class Function Param SwitchCase TsEnumMember VarDeclarator (class_member_to m)
    (decl_to m) (expr_to m) (module_decl_to m) (module_item_to m) (object_pat_prop_to m) (pat_to m) (prop_to m)
    (stmt_to m) (class_to m) (function_to m) (param_to m) (switch_case_to m) (ts_enum_member_to m)
    (var_declarator_to m) it)
unfolding class_member_to decl_to expr_to module_decl_to module_item_to object_pat_prop_to pat_to prop_to stmt_to
    class_to function_to param_to switch_case_to ts_enum_member_to var_declarator_to
at_ts_enum_member m it = fold-roll-TsEnumMember ClassMember Decl Expr ModuleDecl ModuleItem ObjectPatProp Pat Prop
    Stmt Class Function Param SwitchCase TsEnumMember VarDeclarator (in_class_member m) (in_decl m) (in_expr m)
    (in_module_decl m) (in_module_item m) (in_object_pat_prop m) (in_pat m) (in_prop m) (in_stmt m) (in_class m)
    (in_function m) (in_param m) (in_switch_case m) (in_ts_enum_member m) (in_var_declarator m) it

ts_enum_member_made_is : (m : Move) (computed : Bool) (id : Expr) (init : Option Expr) (span : Range)
    → ts_enum_member_to m (roll-TsEnumMember (record { computed = computed; id = id; init = init; span = span })) ≡
    roll-TsEnumMember (record {
      computed = computed;
      id = (expr_to m id);
      init = (option_map (expr_to m) init);
      span = (range_to m span);
    })
ts_enum_member_made_is m computed id None span =
    at_ts_enum_member m (record { computed = computed; id = id; init = None; span = span })
ts_enum_member_made_is m computed id (Some init) span =
    at_ts_enum_member m (record { computed = computed; id = id; init = (Some init); span = span })

pub ts_enum_member_made : (m : Move) {computed computed2 : Bool} {id id2 : Expr} {init init2 : Option Expr}
    {span span2 : Range} → computed2 ≡ computed → By (expr_to m) id id2 → Opt (By (expr_to m)) init init2
    → By (range_to m) span span2 → By (ts_enum_member_to m) (roll-TsEnumMember
    (record { computed = computed; id = id; init = init; span = span }))
    (roll-TsEnumMember (record { computed = computed2; id = id2; init = init2; span = span2 }))
ts_enum_member_made m {computed = computed} {id = id} {init = init} {span = span} h0 h1 h2 h3 =
    let make : Bool → Expr → Option Expr → Range → TsEnumMember = λ computed id init span. roll-TsEnumMember
    (record { computed = computed; id = id; init = init; span = span }) in
    record { is = same4 make h0 h1.is (opt_is h2) h3.is ∙ sym (ts_enum_member_made_is m computed id init span) }
