-- Each form of patterns, parameters and variables moves as its parts do.
use Rattle.std.specs.Prelude.{Bool, List, Option, Some, None, option_map}
use Rattle.std.proofs.Common.{◌≡◌, sym, ap, ◌∙◌}
use Rattle.base.specs.declared.range.Range.{Range}
use Rattle.es_ast.specs.declared.ts.leaf.Ident.{Ident}
use Rattle.es_ast.specs.declared.ts.ts.TsPart.{TsPart}
use Rattle.es_ast.specs.declared.leaf.Modifiers.{Modifiers}
use Rattle.es_ast.specs.declared.ast.ModuleItem.{ModuleItem}
use Rattle.es_ast.specs.declared.ast.ModuleDecl.{ModuleDecl}
use Rattle.es_ast.specs.declared.ast.Stmt.{Stmt}
use Rattle.es_ast.specs.declared.ast.Decl.{Decl}
use Rattle.es_ast.specs.declared.ast.Expr.{Expr}
use Rattle.es_ast.specs.declared.ast.Pat.{Pat, roll-Pat, map-Pat}
use Rattle.es_ast.specs.declared.ast.Pat.TheVariants as vPat
use Rattle.es_ast.specs.declared.ast.ObjectPatProp.{ObjectPatProp, roll-ObjectPatProp, map-ObjectPatProp}
use Rattle.es_ast.specs.declared.ast.ObjectPatProp.TheVariants as vObjectPatProp
use Rattle.es_ast.specs.declared.ast.Prop.{Prop}
use Rattle.es_ast.specs.declared.ast.Function.{Function}
use Rattle.es_ast.specs.declared.ast.Param.{Param, roll-Param, map-Param}
use Rattle.es_ast.specs.declared.ast.VarDeclarator.{VarDeclarator, roll-VarDeclarator, map-VarDeclarator}
use Rattle.es_ast.specs.declared.ast.SwitchCase.{SwitchCase}
use Rattle.es_ast.specs.declared.ast.TsEnumMember.{TsEnumMember}
use Rattle.es_ast.specs.declared.ast.Class.{Class}
use Rattle.es_ast.specs.declared.ast.ClassMember.{ClassMember}
use Rattle.es_ast.specs.declared.ast.ClassMember.TheOpen.{ObjectPatProp-F, Pat-F, Param-F, VarDeclarator-F}
use Rattle.es_ast.specs.declared.ast.ClassMember.TheFolds.{fold-roll-ObjectPatProp, fold-roll-Pat, fold-roll-Param, fold-roll-VarDeclarator}
use Rattle.es_law_edits.specs.moved.Move.{Move, range_to}
use Rattle.es_law_edits.specs.moved.Leaves.{ident_to}
use Rattle.es_law_edits.specs.moved.Types.{ts_part_to}
use Rattle.es_law_edits.specs.moved.Steps.{Moved, in_class_member, in_decl, in_expr, in_module_decl, in_module_item, in_object_pat_prop, in_pat, in_prop, in_stmt, in_class, in_function, in_param, in_switch_case, in_ts_enum_member, in_var_declarator}
use Rattle.es_law_edits.specs.moved.Trees.{module_item_to, module_decl_to, stmt_to, decl_to, expr_to, pat_to, object_pat_prop_to, prop_to, function_to, param_to, var_declarator_to, switch_case_to, ts_enum_member_to, class_to, class_member_to}
use Rattle.es_law_edits.proofs.moved.Rel.{By, Opt, Each, opt_is, each_is}
use Rattle.es_law_edits.proofs.moved.Same.{same1, same2, same3, same4}

at_pat : (m : Move) (it : Moved Pat-F) → pat_to m (roll-Pat it) ≡ in_pat m
    (map-Pat ClassMember Decl Expr ModuleDecl ModuleItem ObjectPatProp Pat Prop Stmt Class Function Param SwitchCase
    TsEnumMember VarDeclarator ClassMember Decl Expr ModuleDecl ModuleItem ObjectPatProp Pat Prop Stmt Class
    Function Param SwitchCase TsEnumMember VarDeclarator (class_member_to m) (decl_to m) (expr_to m)
    (module_decl_to m) (module_item_to m) (object_pat_prop_to m) (pat_to m) (prop_to m) (stmt_to m) (class_to m)
    (function_to m) (param_to m) (switch_case_to m) (ts_enum_member_to m) (var_declarator_to m) it)
unfolding class_member_to decl_to expr_to module_decl_to module_item_to object_pat_prop_to pat_to prop_to stmt_to
    class_to function_to param_to switch_case_to ts_enum_member_to var_declarator_to
at_pat m it = fold-roll-Pat ClassMember Decl Expr ModuleDecl ModuleItem ObjectPatProp Pat Prop Stmt Class Function
    Param SwitchCase TsEnumMember VarDeclarator (in_class_member m) (in_decl m) (in_expr m) (in_module_decl m)
    (in_module_item m) (in_object_pat_prop m) (in_pat m) (in_prop m) (in_stmt m) (in_class m) (in_function m)
    (in_param m) (in_switch_case m) (in_ts_enum_member m) (in_var_declarator m) it

pub pat_Ident : (m : Move) {id id2 : Ident} {type_ann type_ann2 : Option TsPart} {span span2 : Range}
    → By (ident_to m) id id2 → Opt (By (ts_part_to m)) type_ann type_ann2 → By (range_to m) span span2
    → By (pat_to m) (vPat.Ident id type_ann span) (vPat.Ident id2 type_ann2 span2)
pat_Ident m {id = id} {type_ann = type_ann} {span = span} h0 h1 h2 =
    record {
      is = same3 vPat.Ident h0.is (opt_is h1) h2.is ∙ sym
          (ap (pat_to m) (sym (vPat.rolls-Ident id type_ann span)) ∙ at_pat m (Pat-F.Pat::Ident id type_ann span));
    }

pub pat_This : (m : Move) {type_ann type_ann2 : Option TsPart} {span span2 : Range}
    → Opt (By (ts_part_to m)) type_ann type_ann2 → By (range_to m) span span2
    → By (pat_to m) (vPat.This type_ann span) (vPat.This type_ann2 span2)
pat_This m {type_ann = type_ann} {span = span} h0 h1 =
    record {
      is = same2 vPat.This (opt_is h0) h1.is ∙ sym (ap (pat_to m) (sym (vPat.rolls-This type_ann span)) ∙
          at_pat m (Pat-F.Pat::This type_ann span));
    }

pub pat_Hole : (m : Move) {span span2 : Range} → By (range_to m) span span2
    → By (pat_to m) (vPat.Hole span) (vPat.Hole span2)
pat_Hole m {span = span} h0 =
    record {
      is = same1 vPat.Hole h0.is ∙ sym (ap (pat_to m) (sym (vPat.rolls-Hole span)) ∙ at_pat m
          (Pat-F.Pat::Hole span));
    }

pub pat_Array : (m : Move) {elems elems2 : List Pat} {optional optional2 : Bool}
    {type_ann type_ann2 : Option TsPart} {span span2 : Range} → Each (By (pat_to m)) elems elems2
    → optional2 ≡ optional → Opt (By (ts_part_to m)) type_ann type_ann2 → By (range_to m) span span2
    → By (pat_to m) (vPat.Array elems optional type_ann span) (vPat.Array elems2 optional2 type_ann2 span2)
pat_Array m {elems = elems} {optional = optional} {type_ann = type_ann} {span = span} h0 h1 h2 h3 =
    record {
      is = same4 vPat.Array (each_is h0) h1 (opt_is h2) h3.is ∙ sym
          (ap (pat_to m) (sym (vPat.rolls-Array elems optional type_ann span)) ∙ at_pat m
          (Pat-F.Pat::Array elems optional type_ann span));
    }

pub pat_Object : (m : Move) {props props2 : List ObjectPatProp} {optional optional2 : Bool}
    {type_ann type_ann2 : Option TsPart} {span span2 : Range} → Each (By (object_pat_prop_to m)) props props2
    → optional2 ≡ optional → Opt (By (ts_part_to m)) type_ann type_ann2 → By (range_to m) span span2
    → By (pat_to m) (vPat.Object props optional type_ann span) (vPat.Object props2 optional2 type_ann2 span2)
pat_Object m {props = props} {optional = optional} {type_ann = type_ann} {span = span} h0 h1 h2 h3 =
    record {
      is = same4 vPat.Object (each_is h0) h1 (opt_is h2) h3.is ∙ sym
          (ap (pat_to m) (sym (vPat.rolls-Object props optional type_ann span)) ∙ at_pat m
          (Pat-F.Pat::Object props optional type_ann span));
    }

pub pat_Rest : (m : Move) {arg arg2 : Pat} {type_ann type_ann2 : Option TsPart} {span span2 : Range}
    → By (pat_to m) arg arg2 → Opt (By (ts_part_to m)) type_ann type_ann2 → By (range_to m) span span2
    → By (pat_to m) (vPat.Rest arg type_ann span) (vPat.Rest arg2 type_ann2 span2)
pat_Rest m {arg = arg} {type_ann = type_ann} {span = span} h0 h1 h2 =
    record {
      is = same3 vPat.Rest h0.is (opt_is h1) h2.is ∙ sym
          (ap (pat_to m) (sym (vPat.rolls-Rest arg type_ann span)) ∙ at_pat m (Pat-F.Pat::Rest arg type_ann span));
    }

pub pat_Assign : (m : Move) {left left2 : Pat} {right right2 : Expr} {span span2 : Range} → By (pat_to m) left left2
    → By (expr_to m) right right2 → By (range_to m) span span2
    → By (pat_to m) (vPat.Assign left right span) (vPat.Assign left2 right2 span2)
pat_Assign m {left = left} {right = right} {span = span} h0 h1 h2 =
    record {
      is = same3 vPat.Assign h0.is h1.is h2.is ∙ sym (ap (pat_to m) (sym (vPat.rolls-Assign left right span))
          ∙ at_pat m (Pat-F.Pat::Assign left right span));
    }

pub pat_Expr : (m : Move) {expr expr2 : Expr} → By (expr_to m) expr expr2
    → By (pat_to m) (vPat.Expr expr) (vPat.Expr expr2)
pat_Expr m {expr = expr} h0 =
    record {
      is = same1 vPat.Expr h0.is ∙ sym (ap (pat_to m) (sym (vPat.rolls-Expr expr)) ∙ at_pat m
          (Pat-F.Pat::Expr expr));
    }

at_object_pat_prop : (m : Move) (it : Moved ObjectPatProp-F) → object_pat_prop_to m (roll-ObjectPatProp it) ≡
    in_object_pat_prop m (map-ObjectPatProp ClassMember Decl Expr ModuleDecl ModuleItem ObjectPatProp Pat Prop Stmt
    Class Function Param SwitchCase TsEnumMember VarDeclarator ClassMember Decl Expr ModuleDecl ModuleItem
    ObjectPatProp Pat Prop Stmt Class Function Param SwitchCase TsEnumMember VarDeclarator (class_member_to m)
    (decl_to m) (expr_to m) (module_decl_to m) (module_item_to m) (object_pat_prop_to m) (pat_to m) (prop_to m)
    (stmt_to m) (class_to m) (function_to m) (param_to m) (switch_case_to m) (ts_enum_member_to m)
    (var_declarator_to m) it)
unfolding class_member_to decl_to expr_to module_decl_to module_item_to object_pat_prop_to pat_to prop_to stmt_to
    class_to function_to param_to switch_case_to ts_enum_member_to var_declarator_to
at_object_pat_prop m it = fold-roll-ObjectPatProp ClassMember Decl Expr ModuleDecl ModuleItem ObjectPatProp Pat Prop
    Stmt Class Function Param SwitchCase TsEnumMember VarDeclarator (in_class_member m) (in_decl m) (in_expr m)
    (in_module_decl m) (in_module_item m) (in_object_pat_prop m) (in_pat m) (in_prop m) (in_stmt m) (in_class m)
    (in_function m) (in_param m) (in_switch_case m) (in_ts_enum_member m) (in_var_declarator m) it

pub object_pat_prop_KeyValue : (m : Move) {computed computed2 : Bool} {key key2 : Expr} {value value2 : Pat}
    {span span2 : Range} → computed2 ≡ computed → By (expr_to m) key key2 → By (pat_to m) value value2
    → By (range_to m) span span2 → By (object_pat_prop_to m) (vObjectPatProp.KeyValue computed key value span)
    (vObjectPatProp.KeyValue computed2 key2 value2 span2)
object_pat_prop_KeyValue m {computed = computed} {key = key} {value = value} {span = span} h0 h1 h2 h3 =
    record {
      is = same4 vObjectPatProp.KeyValue h0 h1.is h2.is h3.is ∙ sym
          (ap (object_pat_prop_to m) (sym (vObjectPatProp.rolls-KeyValue computed key value span))
          ∙ at_object_pat_prop m
          (ObjectPatProp-F.ObjectPatProp::KeyValue computed key value span));
    }

object_pat_prop_Assign_is : (m : Move) (key : Ident) (value : Option Expr) (span : Range)
    → object_pat_prop_to m (vObjectPatProp.Assign key value span) ≡ vObjectPatProp.Assign (ident_to m key)
    (option_map (expr_to m) value) (range_to m span)
object_pat_prop_Assign_is m key None span =
    ap (object_pat_prop_to m) (sym (vObjectPatProp.rolls-Assign key None span)) ∙ at_object_pat_prop m
    (ObjectPatProp-F.ObjectPatProp::Assign key None span)
object_pat_prop_Assign_is m key (Some value) span =
    ap (object_pat_prop_to m) (sym (vObjectPatProp.rolls-Assign key (Some value) span)) ∙ at_object_pat_prop m
    (ObjectPatProp-F.ObjectPatProp::Assign key (Some value) span)

pub object_pat_prop_Assign : (m : Move) {key key2 : Ident} {value value2 : Option Expr} {span span2 : Range}
    → By (ident_to m) key key2 → Opt (By (expr_to m)) value value2 → By (range_to m) span span2
    → By (object_pat_prop_to m) (vObjectPatProp.Assign key value span) (vObjectPatProp.Assign key2 value2 span2)
object_pat_prop_Assign m {key = key} {value = value} {span = span} h0 h1 h2 =
    record {
      is = same3 vObjectPatProp.Assign h0.is (opt_is h1) h2.is ∙ sym
          (object_pat_prop_Assign_is m key value span);
    }

pub object_pat_prop_Rest : (m : Move) {arg arg2 : Pat} {span span2 : Range} → By (pat_to m) arg arg2
    → By (range_to m) span span2 → By (object_pat_prop_to m) (vObjectPatProp.Rest arg span)
    (vObjectPatProp.Rest arg2 span2)
object_pat_prop_Rest m {arg = arg} {span = span} h0 h1 =
    record {
      is = same2 vObjectPatProp.Rest h0.is h1.is ∙ sym
          (ap (object_pat_prop_to m) (sym (vObjectPatProp.rolls-Rest arg span)) ∙ at_object_pat_prop m
          (ObjectPatProp-F.ObjectPatProp::Rest arg span));
    }

at_param : (m : Move) (it : Moved Param-F) → param_to m (roll-Param it) ≡ in_param m
    (map-Param ClassMember Decl Expr ModuleDecl ModuleItem ObjectPatProp Pat Prop Stmt Class Function Param
    SwitchCase TsEnumMember VarDeclarator ClassMember Decl Expr ModuleDecl ModuleItem ObjectPatProp Pat Prop Stmt
    Class Function Param SwitchCase TsEnumMember VarDeclarator (class_member_to m) (decl_to m) (expr_to m)
    (module_decl_to m) (module_item_to m) (object_pat_prop_to m) (pat_to m) (prop_to m) (stmt_to m) (class_to m)
    (function_to m) (param_to m) (switch_case_to m) (ts_enum_member_to m) (var_declarator_to m) it)
unfolding class_member_to decl_to expr_to module_decl_to module_item_to object_pat_prop_to pat_to prop_to stmt_to
    class_to function_to param_to switch_case_to ts_enum_member_to var_declarator_to
at_param m it = fold-roll-Param ClassMember Decl Expr ModuleDecl ModuleItem ObjectPatProp Pat Prop Stmt Class
    Function Param SwitchCase TsEnumMember VarDeclarator (in_class_member m) (in_decl m) (in_expr m)
    (in_module_decl m) (in_module_item m) (in_object_pat_prop m) (in_pat m) (in_prop m) (in_stmt m) (in_class m)
    (in_function m) (in_param m) (in_switch_case m) (in_ts_enum_member m) (in_var_declarator m) it

pub param_made : (m : Move) {modifiers modifiers2 : Modifiers} {pat pat2 : Pat} {span span2 : Range}
    → modifiers2 ≡ modifiers → By (pat_to m) pat pat2 → By (range_to m) span span2
    → By (param_to m) (roll-Param (record { modifiers = modifiers; pat = pat; span = span }))
    (roll-Param (record { modifiers = modifiers2; pat = pat2; span = span2 }))
param_made m {modifiers = modifiers} {pat = pat} {span = span} h0 h1 h2 =
    let make : Modifiers → Pat → Range → Param = λ modifiers pat span. roll-Param
    (record { modifiers = modifiers; pat = pat; span = span }) in
    record {
      is = same3 make h0 h1.is h2.is ∙ sym (at_param m
          (record { modifiers = modifiers; pat = pat; span = span }));
    }

at_var_declarator : (m : Move) (it : Moved VarDeclarator-F) → var_declarator_to m (roll-VarDeclarator it) ≡
    in_var_declarator m (map-VarDeclarator ClassMember Decl Expr ModuleDecl ModuleItem ObjectPatProp Pat Prop Stmt
    Class Function Param SwitchCase TsEnumMember VarDeclarator ClassMember Decl Expr ModuleDecl ModuleItem
    ObjectPatProp Pat Prop Stmt Class Function Param SwitchCase TsEnumMember VarDeclarator (class_member_to m)
    (decl_to m) (expr_to m) (module_decl_to m) (module_item_to m) (object_pat_prop_to m) (pat_to m) (prop_to m)
    (stmt_to m) (class_to m) (function_to m) (param_to m) (switch_case_to m) (ts_enum_member_to m)
    (var_declarator_to m) it)
unfolding class_member_to decl_to expr_to module_decl_to module_item_to object_pat_prop_to pat_to prop_to stmt_to
    class_to function_to param_to switch_case_to ts_enum_member_to var_declarator_to
at_var_declarator m it = fold-roll-VarDeclarator ClassMember Decl Expr ModuleDecl ModuleItem ObjectPatProp Pat Prop
    Stmt Class Function Param SwitchCase TsEnumMember VarDeclarator (in_class_member m) (in_decl m) (in_expr m)
    (in_module_decl m) (in_module_item m) (in_object_pat_prop m) (in_pat m) (in_prop m) (in_stmt m) (in_class m)
    (in_function m) (in_param m) (in_switch_case m) (in_ts_enum_member m) (in_var_declarator m) it

var_declarator_made_is : (m : Move) (name : Pat) (definite : Bool) (init : Option Expr) (span : Range)
    → var_declarator_to m (roll-VarDeclarator (record {
      name = name;
      definite = definite;
      init = init;
      span = span;
    })) ≡ roll-VarDeclarator (record {
      name = (pat_to m name);
      definite = definite;
      init = (option_map (expr_to m) init);
      span = (range_to m span);
    })
var_declarator_made_is m name definite None span =
    at_var_declarator m (record { name = name; definite = definite; init = None; span = span })
var_declarator_made_is m name definite (Some init) span =
    at_var_declarator m (record { name = name; definite = definite; init = (Some init); span = span })

pub var_declarator_made : (m : Move) {name name2 : Pat} {definite definite2 : Bool} {init init2 : Option Expr}
    {span span2 : Range} → By (pat_to m) name name2 → definite2 ≡ definite → Opt (By (expr_to m)) init init2
    → By (range_to m) span span2 → By (var_declarator_to m) (roll-VarDeclarator
    (record { name = name; definite = definite; init = init; span = span }))
    (roll-VarDeclarator (record { name = name2; definite = definite2; init = init2; span = span2 }))
var_declarator_made m {name = name} {definite = definite} {init = init} {span = span} h0 h1 h2 h3 =
    let make : Pat → Bool → Option Expr → Range → VarDeclarator = λ name definite init span. roll-VarDeclarator
    (record { name = name; definite = definite; init = init; span = span }) in
    record { is = same4 make h0.is h1 (opt_is h2) h3.is ∙ sym (var_declarator_made_is m name definite init span) }
