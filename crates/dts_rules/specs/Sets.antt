-- Names by their numbers, and the three sets of a module: names whose types may be asked for by `typeof`, classes without type
-- parameters, and names of arrays.
use Rattle.std.specs.Prelude.{ℕ, ◌==◌, Bool, true, false, ◌&&◌, ◌||◌, not, List, [], ◌∷◌, ◌++◌, Option, Some, None, is_some, bytes_eq, codes, map}
use Rattle.base.specs.declared.range.Range.{Range}
use Rattle.es_ast.specs.declared.ts.leaf.Ident.{Ident}
use Rattle.es_ast.specs.declared.ts.leaf.TsThisTypeOrIdent.{TsThisTypeOrIdent}
use Rattle.es_ast.specs.declared.ts.leaf.TsThisTypeOrIdent.TheVariants as vThis
use Rattle.es_ast.specs.declared.ts.leaf.TsTypeOperatorOp.{TsTypeOperatorOp}
use Rattle.es_ast.specs.declared.ts.leaf.TsTypeOperatorOp.TheVariants as operator
use Rattle.es_ast.specs.declared.ts.ts.TsPart.{TsPart}
use Rattle.es_ast.specs.declared.ts.ts.TsPart.TheVariants as vPart
use Rattle.es_ast.specs.declared.ts.ts.TsType.{TsType}
use Rattle.es_ast.specs.declared.ts.ts.TsType.TheOpen.{TsType-F}
use Rattle.es_ast.specs.declared.ts.ts.TsType.TheFolds.{fold-TsType}
use Rattle.es_ast.specs.declared.leaf.VarDeclKind.{VarDeclKind}
use Rattle.es_ast.specs.declared.leaf.VarDeclKind.TheVariants as vKind
use Rattle.es_ast.specs.declared.ast.Class.{Class, out-Class}
use Rattle.es_ast.specs.declared.ast.Decl.{Decl, out-Decl}
use Rattle.es_ast.specs.declared.ast.Expr.{Expr, out-Expr}
use Rattle.es_ast.specs.declared.ast.Function.{out-Function}
use Rattle.es_ast.specs.declared.ast.ModuleDecl.{out-ModuleDecl}
use Rattle.es_ast.specs.declared.ast.ModuleItem.{ModuleItem, out-ModuleItem}
use Rattle.es_ast.specs.declared.ast.Pat.{out-Pat}
use Rattle.es_ast.specs.declared.ast.Stmt.{out-Stmt}
use Rattle.es_ast.specs.declared.ast.VarDeclarator.{VarDeclarator, out-VarDeclarator}
use Rattle.es_ast.specs.declared.ast.ClassMember.TheOpen.{Decl-F, Expr-F, ModuleDecl-F, ModuleItem-F, Pat-F, Stmt-F}
use Rattle.es_ast.specs.declared.ast.ClassMember.TheFolds.{fold-Expr}
use Rattle.es_site.specs.Parts.{Kind, Whole}

-- a name and the number of the scope that declares it
abbrev pub Id : Type 0
Id = List ℕ × ℕ

abbrev pub same_id : Id → Id → Bool
same_id a b = bytes_eq a.0 b.0 && a.1 == b.1

abbrev pub is_in : List Id → Id → Bool
is_in [] id = false
is_in (a ∷ others) id = same_id a id || is_in others id

-- the number of the name that stands at a range; 0 where none does
abbrev pub Numbers : Type 0
Numbers = Range → ℕ

abbrev pub id_of : Numbers → Ident → Id
id_of number name = (name.sym, number name.span)

-- what a module knows of its own names
pub record Sets : Type 0 where
  pub typeofs : List Id
  pub plain : List Id
  pub arrays : List Id

abbrev pub no_sets : Sets
no_sets = record { typeofs = []; plain = []; arrays = [] }

abbrev pub both : Sets → Sets → Sets
both a b = record { typeofs = a.typeofs ++ b.typeofs; plain = a.plain ++ b.plain; arrays = a.arrays ++ b.arrays }

abbrev pub all_sets : List Sets → Sets
all_sets [] = no_sets
all_sets (s ∷ ss) = both s (all_sets ss)

abbrev pub where_ : {A : Type 0} → Bool → A → List A
where_ true a = a ∷ []
where_ false a = []

-- ---- types of arrays: `a[]`, a tuple, `readonly` of such, `Array` and `ReadonlyArray`
abbrev pub is_array_name : TsThisTypeOrIdent → List Ident → Bool
is_array_name (vThis.Ident id) [] = bytes_eq id.sym (codes "Array") || bytes_eq id.sym (codes "ReadonlyArray")
is_array_name _ _ = false

abbrev pub is_readonly : TsTypeOperatorOp → Bool
is_readonly operator.ReadOnly = true
is_readonly _ = false

abbrev pub array_by : TsType-F Bool Bool Bool Bool Bool → Bool
array_by (TsType-F.Array elem span) = true
array_by (TsType-F.Tuple elems span) = true
array_by (TsType-F.Operator op ty span) = is_readonly op && ty
array_by (TsType-F.Ref name type_params span) = is_array_name name.left name.rest
array_by _ = false

abbrev pub no_array : {A : Type 0} → A → Bool
no_array part = false

unfoldable pub is_array_type : TsType → Bool
is_array_type = fold-TsType Bool Bool Bool Bool Bool array_by no_array no_array no_array no_array

-- the type behind `:`, `as` or `satisfies`
abbrev pub type_in : Option TsPart → Option TsType
type_in (Some (vPart.TypeAnn ty)) = Some ty
type_in _ = None

abbrev pub is_array_part : Option TsType → Bool
is_array_part (Some ty) = is_array_type ty
is_array_part None = false

-- ---- array literals, looked at through `( )`, `as const`, `satisfies`, and `as` of such a type
abbrev pub Bools : Kind → Type 0
Bools K = K Bool Bool Bool Bool Bool Bool Bool Bool Bool Bool Bool Bool Bool Bool Bool

abbrev pub literal_by : Bools Expr-F → Bool
literal_by (Expr-F.Expr::Array elems span) = true
literal_by (Expr-F.Paren expr span) = expr
literal_by (Expr-F.TsConstAssertion expr span) = expr
literal_by (Expr-F.TsSatisfies expr ty span) = expr
literal_by (Expr-F.TsAs expr ty span) = is_array_part (type_in ty)
literal_by _ = false

unfoldable pub is_array_literal : Expr → Bool
is_array_literal =
    fold-Expr Bool Bool Bool Bool Bool Bool Bool Bool Bool Bool Bool Bool Bool Bool Bool
    no_array no_array literal_by no_array no_array no_array no_array no_array no_array no_array no_array no_array no_array
    no_array no_array

abbrev pub is_function_by : Whole Expr-F → Bool
is_function_by (Expr-F.Expr::Fn it) = true
is_function_by (Expr-F.Arrow it) = true
is_function_by _ = false

abbrev pub is_function : Option Expr → Bool
is_function (Some e) = is_function_by (out-Expr e)
is_function None = false

abbrev pub is_array_value : Option TsType → Option Expr → Bool
is_array_value (Some ty) init = is_array_type ty
is_array_value None (Some e) = is_array_literal e
is_array_value None None = false

module _ (number : Numbers) where
  -- ---- declarations
  abbrev pub class_sets : Class → Option Ident → Sets
  class_sets it (Some name) = record {
    typeofs = id_of number name ∷ [];
    plain = where_ (not (is_some (out-Class it).type_params)) (id_of number name);
    arrays = [];
  }
  class_sets it None = no_sets

  abbrev pub function_sets : Option Ident → Sets
  function_sets (Some name) = record { typeofs = id_of number name ∷ []; plain = []; arrays = [] }
  function_sets None = no_sets

  abbrev pub name_sets : Id → Option TsType → Option Expr → Sets
  name_sets id ty init = record {
    typeofs = where_ (is_some ty || is_function init) id;
    plain = [];
    arrays = where_ (is_array_value ty init) id;
  }

  abbrev pub const_by : Option Expr → Whole Pat-F → Sets
  const_by init (Pat-F.Pat::Ident id ty span) = name_sets (id_of number id) (type_in ty) init
  const_by init _ = no_sets

  abbrev pub const_sets : VarDeclarator → Sets
  const_sets it = const_by (out-VarDeclarator it).init (out-Pat (out-VarDeclarator it).name)

  abbrev pub variable_sets : VarDeclKind → List VarDeclarator → Sets
  variable_sets vKind.Const decls = all_sets (map const_sets decls)
  variable_sets _ decls = no_sets

  abbrev pub decl_by : Whole Decl-F → Sets
  decl_by (Decl-F.Decl::Class declare class span) = class_sets class (out-Class class).ident
  decl_by (Decl-F.Decl::Fn declare function span) = function_sets (out-Function function).ident
  decl_by (Decl-F.Var declare kind decls span) = variable_sets kind decls
  decl_by _ = no_sets

  abbrev pub decl_sets : Decl → Sets
  decl_sets it = decl_by (out-Decl it)

  abbrev pub stmt_by : Whole Stmt-F → Sets
  stmt_by (Stmt-F.Decl it) = decl_sets it
  stmt_by _ = no_sets

  abbrev pub export_by : Whole ModuleDecl-F → Sets
  export_by (ModuleDecl-F.ExportDecl decl span) = decl_sets decl
  export_by (ModuleDecl-F.ExportDefaultDecl decl span) = decl_sets decl
  export_by _ = no_sets

  abbrev pub item_by : Whole ModuleItem-F → Sets
  item_by (ModuleItem-F.ModuleDecl it) = export_by (out-ModuleDecl it)
  item_by (ModuleItem-F.Stmt it) = stmt_by (out-Stmt it)

  -- of the top items of a module
  unfoldable pub sets_of : List ModuleItem → Sets
  sets_of items = all_sets (map (λ item. item_by (out-ModuleItem item)) items)
