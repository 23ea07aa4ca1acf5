-- The tree of a text that has other string literals in the places of some of its own: the old tree, where each name and
-- literal is as its range says, and all places have moved.
use Rattle.std.specs.Prelude.{map}
use Rattle.es_ast.specs.declared.ast.Program.{Program}
use Rattle.es_ast.specs.declared.ast.Program.TheVariants as vProgram
use Rattle.es_ast.specs.declared.ast.Module.{Module}
use Rattle.es_ast.specs.declared.ast.Script.{Script}
use Rattle.es_ast.specs.declared.ast.ModuleItem.{ModuleItem}
use Rattle.es_ast.specs.declared.ast.ModuleDecl.{ModuleDecl}
use Rattle.es_ast.specs.declared.ast.Stmt.{Stmt}
use Rattle.es_ast.specs.declared.ast.Decl.{Decl}
use Rattle.es_ast.specs.declared.ast.Expr.{Expr}
use Rattle.es_ast.specs.declared.ast.Pat.{Pat}
use Rattle.es_ast.specs.declared.ast.ObjectPatProp.{ObjectPatProp}
use Rattle.es_ast.specs.declared.ast.Prop.{Prop}
use Rattle.es_ast.specs.declared.ast.Function.{Function}
use Rattle.es_ast.specs.declared.ast.Param.{Param}
use Rattle.es_ast.specs.declared.ast.VarDeclarator.{VarDeclarator}
use Rattle.es_ast.specs.declared.ast.SwitchCase.{SwitchCase}
use Rattle.es_ast.specs.declared.ast.TsEnumMember.{TsEnumMember}
use Rattle.es_ast.specs.declared.ast.Class.{Class}
use Rattle.es_ast.specs.declared.ast.ClassMember.{ClassMember}
use Rattle.es_ast.specs.declared.ast.ClassMember.TheFolds.{fold-ClassMember, fold-Decl, fold-Expr, fold-ModuleDecl, fold-ModuleItem, fold-ObjectPatProp, fold-Pat, fold-Prop, fold-Stmt, fold-Class, fold-Function, fold-Param, fold-SwitchCase, fold-TsEnumMember, fold-VarDeclarator}
use Rattle.es_law_edits.specs.moved.Move.{Move, range_to}
use Rattle.es_law_edits.specs.moved.Steps.{in_class_member, in_decl, in_expr, in_module_decl, in_module_item, in_object_pat_prop, in_pat, in_prop, in_stmt, in_class, in_function, in_param, in_switch_case, in_ts_enum_member, in_var_declarator}

unfoldable pub class_member_to : Move → ClassMember → ClassMember
class_member_to m =
    fold-ClassMember ClassMember Decl Expr ModuleDecl ModuleItem ObjectPatProp Pat Prop Stmt Class Function Param
    SwitchCase TsEnumMember VarDeclarator
    (in_class_member m) (in_decl m) (in_expr m) (in_module_decl m) (in_module_item m) (in_object_pat_prop m)
    (in_pat m) (in_prop m) (in_stmt m) (in_class m) (in_function m) (in_param m) (in_switch_case m)
    (in_ts_enum_member m) (in_var_declarator m)

unfoldable pub decl_to : Move → Decl → Decl
decl_to m =
    fold-Decl ClassMember Decl Expr ModuleDecl ModuleItem ObjectPatProp Pat Prop Stmt Class Function Param
    SwitchCase TsEnumMember VarDeclarator
    (in_class_member m) (in_decl m) (in_expr m) (in_module_decl m) (in_module_item m) (in_object_pat_prop m)
    (in_pat m) (in_prop m) (in_stmt m) (in_class m) (in_function m) (in_param m) (in_switch_case m)
    (in_ts_enum_member m) (in_var_declarator m)

unfoldable pub expr_to : Move → Expr → Expr
expr_to m =
    fold-Expr ClassMember Decl Expr ModuleDecl ModuleItem ObjectPatProp Pat Prop Stmt Class Function Param
    SwitchCase TsEnumMember VarDeclarator
    (in_class_member m) (in_decl m) (in_expr m) (in_module_decl m) (in_module_item m) (in_object_pat_prop m)
    (in_pat m) (in_prop m) (in_stmt m) (in_class m) (in_function m) (in_param m) (in_switch_case m)
    (in_ts_enum_member m) (in_var_declarator m)

unfoldable pub module_decl_to : Move → ModuleDecl → ModuleDecl
module_decl_to m =
    fold-ModuleDecl ClassMember Decl Expr ModuleDecl ModuleItem ObjectPatProp Pat Prop Stmt Class Function Param
    SwitchCase TsEnumMember VarDeclarator
    (in_class_member m) (in_decl m) (in_expr m) (in_module_decl m) (in_module_item m) (in_object_pat_prop m)
    (in_pat m) (in_prop m) (in_stmt m) (in_class m) (in_function m) (in_param m) (in_switch_case m)
    (in_ts_enum_member m) (in_var_declarator m)

unfoldable pub module_item_to : Move → ModuleItem → ModuleItem
module_item_to m =
    fold-ModuleItem ClassMember Decl Expr ModuleDecl ModuleItem ObjectPatProp Pat Prop Stmt Class Function Param
    SwitchCase TsEnumMember VarDeclarator
    (in_class_member m) (in_decl m) (in_expr m) (in_module_decl m) (in_module_item m) (in_object_pat_prop m)
    (in_pat m) (in_prop m) (in_stmt m) (in_class m) (in_function m) (in_param m) (in_switch_case m)
    (in_ts_enum_member m) (in_var_declarator m)

unfoldable pub object_pat_prop_to : Move → ObjectPatProp → ObjectPatProp
object_pat_prop_to m =
    fold-ObjectPatProp ClassMember Decl Expr ModuleDecl ModuleItem ObjectPatProp Pat Prop Stmt Class Function Param
    SwitchCase TsEnumMember VarDeclarator
    (in_class_member m) (in_decl m) (in_expr m) (in_module_decl m) (in_module_item m) (in_object_pat_prop m)
    (in_pat m) (in_prop m) (in_stmt m) (in_class m) (in_function m) (in_param m) (in_switch_case m)
    (in_ts_enum_member m) (in_var_declarator m)

unfoldable pub pat_to : Move → Pat → Pat
pat_to m =
    fold-Pat ClassMember Decl Expr ModuleDecl ModuleItem ObjectPatProp Pat Prop Stmt Class Function Param SwitchCase
    TsEnumMember VarDeclarator
    (in_class_member m) (in_decl m) (in_expr m) (in_module_decl m) (in_module_item m) (in_object_pat_prop m)
    (in_pat m) (in_prop m) (in_stmt m) (in_class m) (in_function m) (in_param m) (in_switch_case m)
    (in_ts_enum_member m) (in_var_declarator m)

unfoldable pub prop_to : Move → Prop → Prop
prop_to m =
    fold-Prop ClassMember Decl Expr ModuleDecl ModuleItem ObjectPatProp Pat Prop Stmt Class Function Param
    SwitchCase TsEnumMember VarDeclarator
    (in_class_member m) (in_decl m) (in_expr m) (in_module_decl m) (in_module_item m) (in_object_pat_prop m)
    (in_pat m) (in_prop m) (in_stmt m) (in_class m) (in_function m) (in_param m) (in_switch_case m)
    (in_ts_enum_member m) (in_var_declarator m)

unfoldable pub stmt_to : Move → Stmt → Stmt
stmt_to m =
    fold-Stmt ClassMember Decl Expr ModuleDecl ModuleItem ObjectPatProp Pat Prop Stmt Class Function Param
    SwitchCase TsEnumMember VarDeclarator
    (in_class_member m) (in_decl m) (in_expr m) (in_module_decl m) (in_module_item m) (in_object_pat_prop m)
    (in_pat m) (in_prop m) (in_stmt m) (in_class m) (in_function m) (in_param m) (in_switch_case m)
    (in_ts_enum_member m) (in_var_declarator m)

unfoldable pub class_to : Move → Class → Class
class_to m =
    fold-Class ClassMember Decl Expr ModuleDecl ModuleItem ObjectPatProp Pat Prop Stmt Class Function Param
    SwitchCase TsEnumMember VarDeclarator
    (in_class_member m) (in_decl m) (in_expr m) (in_module_decl m) (in_module_item m) (in_object_pat_prop m)
    (in_pat m) (in_prop m) (in_stmt m) (in_class m) (in_function m) (in_param m) (in_switch_case m)
    (in_ts_enum_member m) (in_var_declarator m)

unfoldable pub function_to : Move → Function → Function
function_to m =
    fold-Function ClassMember Decl Expr ModuleDecl ModuleItem ObjectPatProp Pat Prop Stmt Class Function Param
    SwitchCase TsEnumMember VarDeclarator
    (in_class_member m) (in_decl m) (in_expr m) (in_module_decl m) (in_module_item m) (in_object_pat_prop m)
    (in_pat m) (in_prop m) (in_stmt m) (in_class m) (in_function m) (in_param m) (in_switch_case m)
    (in_ts_enum_member m) (in_var_declarator m)

unfoldable pub param_to : Move → Param → Param
param_to m =
    fold-Param ClassMember Decl Expr ModuleDecl ModuleItem ObjectPatProp Pat Prop Stmt Class Function Param
    SwitchCase TsEnumMember VarDeclarator
    (in_class_member m) (in_decl m) (in_expr m) (in_module_decl m) (in_module_item m) (in_object_pat_prop m)
    (in_pat m) (in_prop m) (in_stmt m) (in_class m) (in_function m) (in_param m) (in_switch_case m)
    (in_ts_enum_member m) (in_var_declarator m)

unfoldable pub switch_case_to : Move → SwitchCase → SwitchCase
switch_case_to m =
    fold-SwitchCase ClassMember Decl Expr ModuleDecl ModuleItem ObjectPatProp Pat Prop Stmt Class Function Param
    SwitchCase TsEnumMember VarDeclarator
    (in_class_member m) (in_decl m) (in_expr m) (in_module_decl m) (in_module_item m) (in_object_pat_prop m)
    (in_pat m) (in_prop m) (in_stmt m) (in_class m) (in_function m) (in_param m) (in_switch_case m)
    (in_ts_enum_member m) (in_var_declarator m)

unfoldable pub ts_enum_member_to : Move → TsEnumMember → TsEnumMember
ts_enum_member_to m =
    fold-TsEnumMember ClassMember Decl Expr ModuleDecl ModuleItem ObjectPatProp Pat Prop Stmt Class Function Param
    SwitchCase TsEnumMember VarDeclarator
    (in_class_member m) (in_decl m) (in_expr m) (in_module_decl m) (in_module_item m) (in_object_pat_prop m)
    (in_pat m) (in_prop m) (in_stmt m) (in_class m) (in_function m) (in_param m) (in_switch_case m)
    (in_ts_enum_member m) (in_var_declarator m)

unfoldable pub var_declarator_to : Move → VarDeclarator → VarDeclarator
var_declarator_to m =
    fold-VarDeclarator ClassMember Decl Expr ModuleDecl ModuleItem ObjectPatProp Pat Prop Stmt Class Function Param
    SwitchCase TsEnumMember VarDeclarator
    (in_class_member m) (in_decl m) (in_expr m) (in_module_decl m) (in_module_item m) (in_object_pat_prop m)
    (in_pat m) (in_prop m) (in_stmt m) (in_class m) (in_function m) (in_param m) (in_switch_case m)
    (in_ts_enum_member m) (in_var_declarator m)

unfoldable pub module_to : Move → Module → Module
module_to m it = record {
  shebang = it.shebang;
  body = map (module_item_to m) it.body;
  span = range_to m it.span;
}

unfoldable pub script_to : Move → Script → Script
script_to m it = record { shebang = it.shebang; body = map (stmt_to m) it.body; span = range_to m it.span }

unfoldable pub moved_program : Move → Program → Program
moved_program m (vProgram.Module whole) = vProgram.Module (module_to m whole)
moved_program m (vProgram.Script whole) = vProgram.Script (script_to m whole)
