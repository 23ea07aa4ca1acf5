-- What each node shows of the bodies of overloads, from what its parts show.
use Rattle.std.proofs.Common.{◌≡◌}
use Rattle.es_ast.specs.declared.ast.ClassMember.{ClassMember, roll-ClassMember, map-ClassMember}
use Rattle.es_ast.specs.declared.ast.Decl.{Decl, roll-Decl, map-Decl}
use Rattle.es_ast.specs.declared.ast.Expr.{Expr, roll-Expr, map-Expr}
use Rattle.es_ast.specs.declared.ast.ModuleDecl.{ModuleDecl, roll-ModuleDecl, map-ModuleDecl}
use Rattle.es_ast.specs.declared.ast.ModuleItem.{ModuleItem, roll-ModuleItem, map-ModuleItem}
use Rattle.es_ast.specs.declared.ast.ObjectPatProp.{ObjectPatProp, roll-ObjectPatProp, map-ObjectPatProp}
use Rattle.es_ast.specs.declared.ast.Pat.{Pat, roll-Pat, map-Pat}
use Rattle.es_ast.specs.declared.ast.Prop.{Prop, roll-Prop, map-Prop}
use Rattle.es_ast.specs.declared.ast.Stmt.{Stmt, roll-Stmt, map-Stmt}
use Rattle.es_ast.specs.declared.ast.Class.{Class, roll-Class, map-Class}
use Rattle.es_ast.specs.declared.ast.Function.{Function, roll-Function, map-Function}
use Rattle.es_ast.specs.declared.ast.Param.{Param, roll-Param, map-Param}
use Rattle.es_ast.specs.declared.ast.SwitchCase.{SwitchCase, roll-SwitchCase, map-SwitchCase}
use Rattle.es_ast.specs.declared.ast.TsEnumMember.{TsEnumMember, roll-TsEnumMember, map-TsEnumMember}
use Rattle.es_ast.specs.declared.ast.VarDeclarator.{VarDeclarator, roll-VarDeclarator, map-VarDeclarator}
use Rattle.es_ast.specs.declared.ast.ClassMember.TheOpen.{ClassMember-F, Decl-F, Expr-F, ModuleDecl-F, ModuleItem-F, ObjectPatProp-F, Pat-F, Prop-F, Stmt-F, Class-F, Function-F, Param-F, SwitchCase-F, TsEnumMember-F, VarDeclarator-F}
use Rattle.es_ast.specs.declared.ast.ClassMember.TheFolds.{fold-roll-ClassMember, fold-roll-Decl, fold-roll-Expr, fold-roll-ModuleDecl, fold-roll-ModuleItem, fold-roll-ObjectPatProp, fold-roll-Pat, fold-roll-Prop, fold-roll-Stmt, fold-roll-Class, fold-roll-Function, fold-roll-Param, fold-roll-SwitchCase, fold-roll-TsEnumMember, fold-roll-VarDeclarator}
use Rattle.es_site.specs.Parts.{Whole}
use Rattle.dts_rules.specs.Ranges.{In, Listed, Ranges, Seen, SeenDecl, SeenFunction, in_class_member, in_decl, in_expr, in_module_decl, in_module_item, in_pat_prop, in_pat, in_prop, in_stmt, in_class, in_function, in_param, in_switch_case, in_enum_member, in_var_declarator, listed_member, seen_decl, seen_expr, listed_module_decl, listed_item, pat_prop_ranges, pat_ranges, prop_ranges, listed_stmt, class_ranges, seen_function, param_ranges, case_ranges, enum_member_ranges, declarator_ranges}

abbrev pub of_listed_member : Whole ClassMember-F → In ClassMember-F
of_listed_member it =
    map-ClassMember
    ClassMember Decl Expr ModuleDecl ModuleItem ObjectPatProp Pat Prop Stmt Class Function Param SwitchCase
    TsEnumMember VarDeclarator Listed SeenDecl Seen Listed Listed Ranges Ranges Ranges Listed Ranges SeenFunction
    Ranges Ranges Ranges Ranges listed_member seen_decl seen_expr listed_module_decl listed_item pat_prop_ranges
    pat_ranges prop_ranges listed_stmt class_ranges seen_function param_ranges case_ranges enum_member_ranges
    declarator_ranges it

abbrev pub of_seen_decl : Whole Decl-F → In Decl-F
of_seen_decl it =
    map-Decl
    ClassMember Decl Expr ModuleDecl ModuleItem ObjectPatProp Pat Prop Stmt Class Function Param SwitchCase
    TsEnumMember VarDeclarator Listed SeenDecl Seen Listed Listed Ranges Ranges Ranges Listed Ranges SeenFunction
    Ranges Ranges Ranges Ranges listed_member seen_decl seen_expr listed_module_decl listed_item pat_prop_ranges
    pat_ranges prop_ranges listed_stmt class_ranges seen_function param_ranges case_ranges enum_member_ranges
    declarator_ranges it

abbrev pub of_seen_expr : Whole Expr-F → In Expr-F
of_seen_expr it =
    map-Expr
    ClassMember Decl Expr ModuleDecl ModuleItem ObjectPatProp Pat Prop Stmt Class Function Param SwitchCase
    TsEnumMember VarDeclarator Listed SeenDecl Seen Listed Listed Ranges Ranges Ranges Listed Ranges SeenFunction
    Ranges Ranges Ranges Ranges listed_member seen_decl seen_expr listed_module_decl listed_item pat_prop_ranges
    pat_ranges prop_ranges listed_stmt class_ranges seen_function param_ranges case_ranges enum_member_ranges
    declarator_ranges it

abbrev pub of_listed_module_decl : Whole ModuleDecl-F → In ModuleDecl-F
of_listed_module_decl it =
    map-ModuleDecl
    ClassMember Decl Expr ModuleDecl ModuleItem ObjectPatProp Pat Prop Stmt Class Function Param SwitchCase
    TsEnumMember VarDeclarator Listed SeenDecl Seen Listed Listed Ranges Ranges Ranges Listed Ranges SeenFunction
    Ranges Ranges Ranges Ranges listed_member seen_decl seen_expr listed_module_decl listed_item pat_prop_ranges
    pat_ranges prop_ranges listed_stmt class_ranges seen_function param_ranges case_ranges enum_member_ranges
    declarator_ranges it

abbrev pub of_listed_item : Whole ModuleItem-F → In ModuleItem-F
of_listed_item it =
    map-ModuleItem
    ClassMember Decl Expr ModuleDecl ModuleItem ObjectPatProp Pat Prop Stmt Class Function Param SwitchCase
    TsEnumMember VarDeclarator Listed SeenDecl Seen Listed Listed Ranges Ranges Ranges Listed Ranges SeenFunction
    Ranges Ranges Ranges Ranges listed_member seen_decl seen_expr listed_module_decl listed_item pat_prop_ranges
    pat_ranges prop_ranges listed_stmt class_ranges seen_function param_ranges case_ranges enum_member_ranges
    declarator_ranges it

abbrev pub of_pat_prop_ranges : Whole ObjectPatProp-F → In ObjectPatProp-F
of_pat_prop_ranges it =
    map-ObjectPatProp
    ClassMember Decl Expr ModuleDecl ModuleItem ObjectPatProp Pat Prop Stmt Class Function Param SwitchCase
    TsEnumMember VarDeclarator Listed SeenDecl Seen Listed Listed Ranges Ranges Ranges Listed Ranges SeenFunction
    Ranges Ranges Ranges Ranges listed_member seen_decl seen_expr listed_module_decl listed_item pat_prop_ranges
    pat_ranges prop_ranges listed_stmt class_ranges seen_function param_ranges case_ranges enum_member_ranges
    declarator_ranges it

abbrev pub of_pat_ranges : Whole Pat-F → In Pat-F
of_pat_ranges it =
    map-Pat
    ClassMember Decl Expr ModuleDecl ModuleItem ObjectPatProp Pat Prop Stmt Class Function Param SwitchCase
    TsEnumMember VarDeclarator Listed SeenDecl Seen Listed Listed Ranges Ranges Ranges Listed Ranges SeenFunction
    Ranges Ranges Ranges Ranges listed_member seen_decl seen_expr listed_module_decl listed_item pat_prop_ranges
    pat_ranges prop_ranges listed_stmt class_ranges seen_function param_ranges case_ranges enum_member_ranges
    declarator_ranges it

abbrev pub of_prop_ranges : Whole Prop-F → In Prop-F
of_prop_ranges it =
    map-Prop
    ClassMember Decl Expr ModuleDecl ModuleItem ObjectPatProp Pat Prop Stmt Class Function Param SwitchCase
    TsEnumMember VarDeclarator Listed SeenDecl Seen Listed Listed Ranges Ranges Ranges Listed Ranges SeenFunction
    Ranges Ranges Ranges Ranges listed_member seen_decl seen_expr listed_module_decl listed_item pat_prop_ranges
    pat_ranges prop_ranges listed_stmt class_ranges seen_function param_ranges case_ranges enum_member_ranges
    declarator_ranges it

abbrev pub of_listed_stmt : Whole Stmt-F → In Stmt-F
of_listed_stmt it =
    map-Stmt
    ClassMember Decl Expr ModuleDecl ModuleItem ObjectPatProp Pat Prop Stmt Class Function Param SwitchCase
    TsEnumMember VarDeclarator Listed SeenDecl Seen Listed Listed Ranges Ranges Ranges Listed Ranges SeenFunction
    Ranges Ranges Ranges Ranges listed_member seen_decl seen_expr listed_module_decl listed_item pat_prop_ranges
    pat_ranges prop_ranges listed_stmt class_ranges seen_function param_ranges case_ranges enum_member_ranges
    declarator_ranges it

abbrev pub of_class_ranges : Whole Class-F → In Class-F
of_class_ranges it =
    map-Class
    ClassMember Decl Expr ModuleDecl ModuleItem ObjectPatProp Pat Prop Stmt Class Function Param SwitchCase
    TsEnumMember VarDeclarator Listed SeenDecl Seen Listed Listed Ranges Ranges Ranges Listed Ranges SeenFunction
    Ranges Ranges Ranges Ranges listed_member seen_decl seen_expr listed_module_decl listed_item pat_prop_ranges
    pat_ranges prop_ranges listed_stmt class_ranges seen_function param_ranges case_ranges enum_member_ranges
    declarator_ranges it

abbrev pub of_seen_function : Whole Function-F → In Function-F
of_seen_function it =
    map-Function
    ClassMember Decl Expr ModuleDecl ModuleItem ObjectPatProp Pat Prop Stmt Class Function Param SwitchCase
    TsEnumMember VarDeclarator Listed SeenDecl Seen Listed Listed Ranges Ranges Ranges Listed Ranges SeenFunction
    Ranges Ranges Ranges Ranges listed_member seen_decl seen_expr listed_module_decl listed_item pat_prop_ranges
    pat_ranges prop_ranges listed_stmt class_ranges seen_function param_ranges case_ranges enum_member_ranges
    declarator_ranges it

abbrev pub of_param_ranges : Whole Param-F → In Param-F
of_param_ranges it =
    map-Param
    ClassMember Decl Expr ModuleDecl ModuleItem ObjectPatProp Pat Prop Stmt Class Function Param SwitchCase
    TsEnumMember VarDeclarator Listed SeenDecl Seen Listed Listed Ranges Ranges Ranges Listed Ranges SeenFunction
    Ranges Ranges Ranges Ranges listed_member seen_decl seen_expr listed_module_decl listed_item pat_prop_ranges
    pat_ranges prop_ranges listed_stmt class_ranges seen_function param_ranges case_ranges enum_member_ranges
    declarator_ranges it

abbrev pub of_case_ranges : Whole SwitchCase-F → In SwitchCase-F
of_case_ranges it =
    map-SwitchCase
    ClassMember Decl Expr ModuleDecl ModuleItem ObjectPatProp Pat Prop Stmt Class Function Param SwitchCase
    TsEnumMember VarDeclarator Listed SeenDecl Seen Listed Listed Ranges Ranges Ranges Listed Ranges SeenFunction
    Ranges Ranges Ranges Ranges listed_member seen_decl seen_expr listed_module_decl listed_item pat_prop_ranges
    pat_ranges prop_ranges listed_stmt class_ranges seen_function param_ranges case_ranges enum_member_ranges
    declarator_ranges it

abbrev pub of_enum_member_ranges : Whole TsEnumMember-F → In TsEnumMember-F
of_enum_member_ranges it =
    map-TsEnumMember
    ClassMember Decl Expr ModuleDecl ModuleItem ObjectPatProp Pat Prop Stmt Class Function Param SwitchCase
    TsEnumMember VarDeclarator Listed SeenDecl Seen Listed Listed Ranges Ranges Ranges Listed Ranges SeenFunction
    Ranges Ranges Ranges Ranges listed_member seen_decl seen_expr listed_module_decl listed_item pat_prop_ranges
    pat_ranges prop_ranges listed_stmt class_ranges seen_function param_ranges case_ranges enum_member_ranges
    declarator_ranges it

abbrev pub of_declarator_ranges : Whole VarDeclarator-F → In VarDeclarator-F
of_declarator_ranges it =
    map-VarDeclarator
    ClassMember Decl Expr ModuleDecl ModuleItem ObjectPatProp Pat Prop Stmt Class Function Param SwitchCase
    TsEnumMember VarDeclarator Listed SeenDecl Seen Listed Listed Ranges Ranges Ranges Listed Ranges SeenFunction
    Ranges Ranges Ranges Ranges listed_member seen_decl seen_expr listed_module_decl listed_item pat_prop_ranges
    pat_ranges prop_ranges listed_stmt class_ranges seen_function param_ranges case_ranges enum_member_ranges
    declarator_ranges it

pub at_listed_member : (it : Whole ClassMember-F)
    → listed_member (roll-ClassMember it) ≡ in_class_member (of_listed_member it)
unfolding listed_member seen_decl seen_expr listed_module_decl listed_item pat_prop_ranges pat_ranges
    prop_ranges listed_stmt class_ranges seen_function param_ranges case_ranges enum_member_ranges
    declarator_ranges
at_listed_member it =
    fold-roll-ClassMember
    Listed SeenDecl Seen Listed Listed Ranges Ranges Ranges Listed Ranges SeenFunction Ranges Ranges Ranges Ranges
    in_class_member in_decl in_expr in_module_decl in_module_item in_pat_prop in_pat in_prop in_stmt in_class
    in_function in_param in_switch_case in_enum_member in_var_declarator it

pub at_seen_decl : (it : Whole Decl-F) → seen_decl (roll-Decl it) ≡ in_decl (of_seen_decl it)
unfolding listed_member seen_decl seen_expr listed_module_decl listed_item pat_prop_ranges pat_ranges
    prop_ranges listed_stmt class_ranges seen_function param_ranges case_ranges enum_member_ranges
    declarator_ranges
at_seen_decl it =
    fold-roll-Decl
    Listed SeenDecl Seen Listed Listed Ranges Ranges Ranges Listed Ranges SeenFunction Ranges Ranges Ranges Ranges
    in_class_member in_decl in_expr in_module_decl in_module_item in_pat_prop in_pat in_prop in_stmt in_class
    in_function in_param in_switch_case in_enum_member in_var_declarator it

pub at_seen_expr : (it : Whole Expr-F) → seen_expr (roll-Expr it) ≡ in_expr (of_seen_expr it)
unfolding listed_member seen_decl seen_expr listed_module_decl listed_item pat_prop_ranges pat_ranges
    prop_ranges listed_stmt class_ranges seen_function param_ranges case_ranges enum_member_ranges
    declarator_ranges
at_seen_expr it =
    fold-roll-Expr
    Listed SeenDecl Seen Listed Listed Ranges Ranges Ranges Listed Ranges SeenFunction Ranges Ranges Ranges Ranges
    in_class_member in_decl in_expr in_module_decl in_module_item in_pat_prop in_pat in_prop in_stmt in_class
    in_function in_param in_switch_case in_enum_member in_var_declarator it

pub at_listed_module_decl : (it : Whole ModuleDecl-F)
    → listed_module_decl (roll-ModuleDecl it) ≡ in_module_decl (of_listed_module_decl it)
unfolding listed_member seen_decl seen_expr listed_module_decl listed_item pat_prop_ranges pat_ranges
    prop_ranges listed_stmt class_ranges seen_function param_ranges case_ranges enum_member_ranges
    declarator_ranges
at_listed_module_decl it =
    fold-roll-ModuleDecl
    Listed SeenDecl Seen Listed Listed Ranges Ranges Ranges Listed Ranges SeenFunction Ranges Ranges Ranges Ranges
    in_class_member in_decl in_expr in_module_decl in_module_item in_pat_prop in_pat in_prop in_stmt in_class
    in_function in_param in_switch_case in_enum_member in_var_declarator it

pub at_listed_item : (it : Whole ModuleItem-F) → listed_item (roll-ModuleItem it) ≡ in_module_item (of_listed_item it)
unfolding listed_member seen_decl seen_expr listed_module_decl listed_item pat_prop_ranges pat_ranges
    prop_ranges listed_stmt class_ranges seen_function param_ranges case_ranges enum_member_ranges
    declarator_ranges
at_listed_item it =
    fold-roll-ModuleItem
    Listed SeenDecl Seen Listed Listed Ranges Ranges Ranges Listed Ranges SeenFunction Ranges Ranges Ranges Ranges
    in_class_member in_decl in_expr in_module_decl in_module_item in_pat_prop in_pat in_prop in_stmt in_class
    in_function in_param in_switch_case in_enum_member in_var_declarator it

pub at_pat_prop_ranges : (it : Whole ObjectPatProp-F)
    → pat_prop_ranges (roll-ObjectPatProp it) ≡ in_pat_prop (of_pat_prop_ranges it)
unfolding listed_member seen_decl seen_expr listed_module_decl listed_item pat_prop_ranges pat_ranges
    prop_ranges listed_stmt class_ranges seen_function param_ranges case_ranges enum_member_ranges
    declarator_ranges
at_pat_prop_ranges it =
    fold-roll-ObjectPatProp
    Listed SeenDecl Seen Listed Listed Ranges Ranges Ranges Listed Ranges SeenFunction Ranges Ranges Ranges Ranges
    in_class_member in_decl in_expr in_module_decl in_module_item in_pat_prop in_pat in_prop in_stmt in_class
    in_function in_param in_switch_case in_enum_member in_var_declarator it

pub at_pat_ranges : (it : Whole Pat-F) → pat_ranges (roll-Pat it) ≡ in_pat (of_pat_ranges it)
unfolding listed_member seen_decl seen_expr listed_module_decl listed_item pat_prop_ranges pat_ranges
    prop_ranges listed_stmt class_ranges seen_function param_ranges case_ranges enum_member_ranges
    declarator_ranges
at_pat_ranges it =
    fold-roll-Pat
    Listed SeenDecl Seen Listed Listed Ranges Ranges Ranges Listed Ranges SeenFunction Ranges Ranges Ranges Ranges
    in_class_member in_decl in_expr in_module_decl in_module_item in_pat_prop in_pat in_prop in_stmt in_class
    in_function in_param in_switch_case in_enum_member in_var_declarator it

pub at_prop_ranges : (it : Whole Prop-F) → prop_ranges (roll-Prop it) ≡ in_prop (of_prop_ranges it)
unfolding listed_member seen_decl seen_expr listed_module_decl listed_item pat_prop_ranges pat_ranges
    prop_ranges listed_stmt class_ranges seen_function param_ranges case_ranges enum_member_ranges
    declarator_ranges
at_prop_ranges it =
    fold-roll-Prop
    Listed SeenDecl Seen Listed Listed Ranges Ranges Ranges Listed Ranges SeenFunction Ranges Ranges Ranges Ranges
    in_class_member in_decl in_expr in_module_decl in_module_item in_pat_prop in_pat in_prop in_stmt in_class
    in_function in_param in_switch_case in_enum_member in_var_declarator it

pub at_listed_stmt : (it : Whole Stmt-F) → listed_stmt (roll-Stmt it) ≡ in_stmt (of_listed_stmt it)
unfolding listed_member seen_decl seen_expr listed_module_decl listed_item pat_prop_ranges pat_ranges
    prop_ranges listed_stmt class_ranges seen_function param_ranges case_ranges enum_member_ranges
    declarator_ranges
at_listed_stmt it =
    fold-roll-Stmt
    Listed SeenDecl Seen Listed Listed Ranges Ranges Ranges Listed Ranges SeenFunction Ranges Ranges Ranges Ranges
    in_class_member in_decl in_expr in_module_decl in_module_item in_pat_prop in_pat in_prop in_stmt in_class
    in_function in_param in_switch_case in_enum_member in_var_declarator it

pub at_class_ranges : (it : Whole Class-F) → class_ranges (roll-Class it) ≡ in_class (of_class_ranges it)
unfolding listed_member seen_decl seen_expr listed_module_decl listed_item pat_prop_ranges pat_ranges
    prop_ranges listed_stmt class_ranges seen_function param_ranges case_ranges enum_member_ranges
    declarator_ranges
at_class_ranges it =
    fold-roll-Class
    Listed SeenDecl Seen Listed Listed Ranges Ranges Ranges Listed Ranges SeenFunction Ranges Ranges Ranges Ranges
    in_class_member in_decl in_expr in_module_decl in_module_item in_pat_prop in_pat in_prop in_stmt in_class
    in_function in_param in_switch_case in_enum_member in_var_declarator it

pub at_seen_function : (it : Whole Function-F) → seen_function (roll-Function it) ≡ in_function (of_seen_function it)
unfolding listed_member seen_decl seen_expr listed_module_decl listed_item pat_prop_ranges pat_ranges
    prop_ranges listed_stmt class_ranges seen_function param_ranges case_ranges enum_member_ranges
    declarator_ranges
at_seen_function it =
    fold-roll-Function
    Listed SeenDecl Seen Listed Listed Ranges Ranges Ranges Listed Ranges SeenFunction Ranges Ranges Ranges Ranges
    in_class_member in_decl in_expr in_module_decl in_module_item in_pat_prop in_pat in_prop in_stmt in_class
    in_function in_param in_switch_case in_enum_member in_var_declarator it

pub at_param_ranges : (it : Whole Param-F) → param_ranges (roll-Param it) ≡ in_param (of_param_ranges it)
unfolding listed_member seen_decl seen_expr listed_module_decl listed_item pat_prop_ranges pat_ranges
    prop_ranges listed_stmt class_ranges seen_function param_ranges case_ranges enum_member_ranges
    declarator_ranges
at_param_ranges it =
    fold-roll-Param
    Listed SeenDecl Seen Listed Listed Ranges Ranges Ranges Listed Ranges SeenFunction Ranges Ranges Ranges Ranges
    in_class_member in_decl in_expr in_module_decl in_module_item in_pat_prop in_pat in_prop in_stmt in_class
    in_function in_param in_switch_case in_enum_member in_var_declarator it

pub at_case_ranges : (it : Whole SwitchCase-F) → case_ranges (roll-SwitchCase it) ≡ in_switch_case (of_case_ranges it)
unfolding listed_member seen_decl seen_expr listed_module_decl listed_item pat_prop_ranges pat_ranges
    prop_ranges listed_stmt class_ranges seen_function param_ranges case_ranges enum_member_ranges
    declarator_ranges
at_case_ranges it =
    fold-roll-SwitchCase
    Listed SeenDecl Seen Listed Listed Ranges Ranges Ranges Listed Ranges SeenFunction Ranges Ranges Ranges Ranges
    in_class_member in_decl in_expr in_module_decl in_module_item in_pat_prop in_pat in_prop in_stmt in_class
    in_function in_param in_switch_case in_enum_member in_var_declarator it

pub at_enum_member_ranges : (it : Whole TsEnumMember-F)
    → enum_member_ranges (roll-TsEnumMember it) ≡ in_enum_member (of_enum_member_ranges it)
unfolding listed_member seen_decl seen_expr listed_module_decl listed_item pat_prop_ranges pat_ranges
    prop_ranges listed_stmt class_ranges seen_function param_ranges case_ranges enum_member_ranges
    declarator_ranges
at_enum_member_ranges it =
    fold-roll-TsEnumMember
    Listed SeenDecl Seen Listed Listed Ranges Ranges Ranges Listed Ranges SeenFunction Ranges Ranges Ranges Ranges
    in_class_member in_decl in_expr in_module_decl in_module_item in_pat_prop in_pat in_prop in_stmt in_class
    in_function in_param in_switch_case in_enum_member in_var_declarator it

pub at_declarator_ranges : (it : Whole VarDeclarator-F)
    → declarator_ranges (roll-VarDeclarator it) ≡ in_var_declarator (of_declarator_ranges it)
unfolding listed_member seen_decl seen_expr listed_module_decl listed_item pat_prop_ranges pat_ranges
    prop_ranges listed_stmt class_ranges seen_function param_ranges case_ranges enum_member_ranges
    declarator_ranges
at_declarator_ranges it =
    fold-roll-VarDeclarator
    Listed SeenDecl Seen Listed Listed Ranges Ranges Ranges Listed Ranges SeenFunction Ranges Ranges Ranges Ranges
    in_class_member in_decl in_expr in_module_decl in_module_item in_pat_prop in_pat in_prop in_stmt in_class
    in_function in_param in_switch_case in_enum_member in_var_declarator it
