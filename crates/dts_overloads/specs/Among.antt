-- Which ranges are those of bodies of overloads, in each part of a typed tree.
use Rattle.std.specs.Prelude.{Bool, false, ◌||◌, List, [], ◌∷◌, ◌++◌, Option, Some, None, map}
use Rattle.base.specs.declared.range.Range.{Range}
use Rattle.es_ast.specs.declared.ast.ClassMember.{ClassMember}
use Rattle.es_ast.specs.declared.ast.Decl.{Decl}
use Rattle.es_ast.specs.declared.ast.Expr.{Expr}
use Rattle.es_ast.specs.declared.ast.ModuleDecl.{ModuleDecl}
use Rattle.es_ast.specs.declared.ast.ModuleItem.{ModuleItem}
use Rattle.es_ast.specs.declared.ast.ObjectPatProp.{ObjectPatProp}
use Rattle.es_ast.specs.declared.ast.Pat.{Pat}
use Rattle.es_ast.specs.declared.ast.Prop.{Prop}
use Rattle.es_ast.specs.declared.ast.Stmt.{Stmt}
use Rattle.es_ast.specs.declared.ast.Class.{Class}
use Rattle.es_ast.specs.declared.ast.Function.{Function}
use Rattle.es_ast.specs.declared.ast.Param.{Param}
use Rattle.es_ast.specs.declared.ast.SwitchCase.{SwitchCase}
use Rattle.es_ast.specs.declared.ast.TsEnumMember.{TsEnumMember}
use Rattle.es_ast.specs.declared.ast.VarDeclarator.{VarDeclarator}
use Rattle.es_ast.specs.declared.ast.Program.{Program}
use Rattle.dts_rules.specs.Ranges.{Ranges, Head, Listed, implements, in_list, has_range, listed_member, seen_decl, seen_expr, listed_module_decl, listed_item, pat_prop_ranges, pat_ranges, prop_ranges, listed_stmt, class_ranges, seen_function, param_ranges, case_ranges, enum_member_ranges, declarator_ranges, overloads}

-- whether a range is among some
abbrev pub Among : Type 0
Among = Range → Bool

abbrev pub none : Among
none range = false

infixl 30 ◌∪◌
abbrev pub ◌∪◌ : Among → Among → Among
a ∪ b = λ range. a range || b range

abbrev pub all_of : {A : Type 0} → (A → Among) → List A → Among
all_of f [] = none
all_of f (a ∷ others) = f a ∪ all_of f others

abbrev pub if_some : {A : Type 0} → (A → Among) → Option A → Among
if_some f (Some a) = f a
if_some f None = none

-- ---- in each part
unfoldable pub of_class_member : ClassMember → Among
of_class_member it = has_range (listed_member it).within

unfoldable pub of_decl : Decl → Among
of_decl it = has_range (seen_decl it).within

unfoldable pub of_expr : Expr → Among
of_expr it = has_range (seen_expr it).within

unfoldable pub of_module_decl : ModuleDecl → Among
of_module_decl it = has_range (listed_module_decl it).within

unfoldable pub of_module_item : ModuleItem → Among
of_module_item it = has_range (listed_item it).within

unfoldable pub of_object_pat_prop : ObjectPatProp → Among
of_object_pat_prop it = has_range (pat_prop_ranges it)

unfoldable pub of_pat : Pat → Among
of_pat it = has_range (pat_ranges it)

unfoldable pub of_prop : Prop → Among
of_prop it = has_range (prop_ranges it)

unfoldable pub of_stmt : Stmt → Among
of_stmt it = has_range (listed_stmt it).within

unfoldable pub of_class : Class → Among
of_class it = has_range (class_ranges it)

unfoldable pub of_function : Function → Among
of_function it = has_range (seen_function it).within

unfoldable pub of_param : Param → Among
of_param it = has_range (param_ranges it)

unfoldable pub of_switch_case : SwitchCase → Among
of_switch_case it = has_range (case_ranges it)

unfoldable pub of_ts_enum_member : TsEnumMember → Among
of_ts_enum_member it = has_range (enum_member_ranges it)

unfoldable pub of_var_declarator : VarDeclarator → Among
of_var_declarator it = has_range (declarator_ranges it)

unfoldable pub of_program : Program → Among
of_program it = has_range (overloads it)

-- ---- in lists
unfoldable pub of_stmts : List Stmt → Among
of_stmts them = has_range (in_list None (map listed_stmt them))

unfoldable pub of_items : List ModuleItem → Among
of_items them = has_range (in_list None (map listed_item them))

unfoldable pub of_members : List ClassMember → Among
of_members them = has_range (in_list None (map listed_member them))

-- ---- the bodies of a list itself, by the heads of its items, after one that stands before them
abbrev pub bodies : Option Head → List (Option Head) → Ranges
bodies before [] = []
bodies before (it ∷ others) = implements before it ++ bodies it others

abbrev pub stmt_head : Stmt → Option Head
stmt_head it = (listed_stmt it).head

abbrev pub item_head : ModuleItem → Option Head
item_head it = (listed_item it).head

abbrev pub member_head : ClassMember → Option Head
member_head it = (listed_member it).head

unfoldable pub own_stmts : List Stmt → Among
own_stmts them = has_range (bodies None (map stmt_head them))

unfoldable pub own_items : List ModuleItem → Among
own_items them = has_range (bodies None (map item_head them))

unfoldable pub own_members : List ClassMember → Among
own_members them = has_range (bodies None (map member_head them))
