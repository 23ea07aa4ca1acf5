-- The names that patterns and declarations bind (ECMA-262, "Static Semantics: BoundNames"; of enums and namespaces, the
-- handbook of TypeScript).
use Rattle.std.specs.Prelude.{ℕ, List, [], ◌∷◌, Option, Some, None}
use Rattle.std.specs.List.{flat_map}
use Rattle.es_ast.specs.declared.ts.leaf.Ident.{Ident}
use Rattle.es_ast.specs.declared.ts.leaf.TsEntityName.{TsEntityName}
use Rattle.es_ast.specs.declared.ts.leaf.TsThisTypeOrIdent.{TsThisTypeOrIdent}
use Rattle.es_ast.specs.declared.ts.leaf.TsThisTypeOrIdent.TheVariants as vThis
use Rattle.es_ast.specs.declared.leaf.VarDeclKind.{VarDeclKind}
use Rattle.es_ast.specs.declared.ast.Class.{Class, out-Class}
use Rattle.es_ast.specs.declared.ast.Decl.{Decl, out-Decl}
use Rattle.es_ast.specs.declared.ast.Function.{Function, out-Function}
use Rattle.es_ast.specs.declared.ast.ObjectPatProp.{ObjectPatProp}
use Rattle.es_ast.specs.declared.ast.Pat.{Pat}
use Rattle.es_ast.specs.declared.ast.VarDeclarator.{VarDeclarator, out-VarDeclarator}
use Rattle.es_ast.specs.declared.ast.ClassMember.TheOpen.{Decl-F, ObjectPatProp-F, Pat-F}
use Rattle.es_ast.specs.declared.ast.ClassMember.TheFolds.{fold-ObjectPatProp, fold-Pat}
use Rattle.es_site.specs.Parts.{Kind, Whole}

-- names, as they are spelled
abbrev pub Names : Type 0
Names = List (List ℕ)

-- ---- patterns

-- a node of this kind with the names that each of its parts binds
abbrev pub Of : Kind → Type 0
Of K = K Names Names Names Names Names Names Names Names Names Names Names Names Names Names Names

-- those of parts that follow each other
abbrev pub all_of : List Names → Names
all_of parts = flat_map (λ part. part) parts

-- what is no pattern binds none
abbrev pub no_names : {A : Type 0} → A → Names
no_names part = []

-- `a: b` binds what `b` does, `a` its name; a default binds nothing
abbrev pub in_prop : Of ObjectPatProp-F → Names
in_prop (ObjectPatProp-F.ObjectPatProp::KeyValue computed key value span) = value
in_prop (ObjectPatProp-F.ObjectPatProp::Assign key value span) = key.sym ∷ []
in_prop (ObjectPatProp-F.ObjectPatProp::Rest arg span) = arg

abbrev pub in_pat : Of Pat-F → Names
in_pat (Pat-F.Pat::Ident id type_ann span) = id.sym ∷ []
in_pat (Pat-F.Pat::This type_ann span) = []
in_pat (Pat-F.Pat::Hole span) = []
in_pat (Pat-F.Pat::Array elems optional type_ann span) = all_of elems
in_pat (Pat-F.Pat::Object props optional type_ann span) = all_of props
in_pat (Pat-F.Pat::Rest arg type_ann span) = arg
in_pat (Pat-F.Pat::Assign left right span) = left
in_pat (Pat-F.Pat::Expr expr) = []

-- the names that a pattern binds, in order
unfoldable pub bound_names : Pat → Names
bound_names =
    fold-Pat Names Names Names Names Names Names Names Names Names Names Names Names Names Names Names
    no_names no_names no_names no_names no_names in_prop in_pat no_names no_names no_names no_names no_names no_names
    no_names no_names

unfoldable pub prop_names : ObjectPatProp → Names
prop_names =
    fold-ObjectPatProp Names Names Names Names Names Names Names Names Names Names Names Names Names Names Names
    no_names no_names no_names no_names no_names in_prop in_pat no_names no_names no_names no_names no_names no_names
    no_names no_names

-- ---- declarations

abbrev pub ident_names : Ident → Names
ident_names id = id.sym ∷ []

-- a name that may be absent
abbrev pub own_names : Option Ident → Names
own_names (Some id) = ident_names id
own_names None = []

abbrev pub class_names : Class → Names
class_names it = own_names (out-Class it).ident

abbrev pub function_names : Function → Names
function_names it = own_names (out-Function it).ident

abbrev pub declarator_names : VarDeclarator → Names
declarator_names it = bound_names (out-VarDeclarator it).name

abbrev pub variables_names : VarDeclKind × List VarDeclarator → Names
variables_names variables = flat_map declarator_names variables.1

-- a name with dots declares its first name
abbrev pub first_name : TsThisTypeOrIdent → Names
first_name (vThis.Ident id) = id.sym ∷ []
first_name (vThis.This span) = []

abbrev pub entity_names : TsEntityName → Names
entity_names it = first_name it.left

-- a type has no name at run time, and a module that is named by a string none at all
abbrev pub names_by : Whole Decl-F → Names
names_by (Decl-F.Decl::Class declare class span) = class_names class
names_by (Decl-F.Decl::Fn declare function span) = function_names function
names_by (Decl-F.Var declare kind decls span) = flat_map declarator_names decls
names_by (Decl-F.TsInterface declare id type_params extends body span) = []
names_by (Decl-F.TsTypeAlias declare id type_params type_ann span) = []
names_by (Decl-F.TsEnum declare is_const id members span) = id.sym ∷ []
names_by (Decl-F.TsNamespace declare is_module id body span) = entity_names id
names_by (Decl-F.TsModule declare id has_body body span) = []
names_by (Decl-F.TsGlobal declare body span) = []

-- the names that a declaration binds at run time, in order
unfoldable pub declared_names : Decl → Names
declared_names d = names_by (out-Decl d)
