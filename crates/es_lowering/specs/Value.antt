-- What the parts of a plain tree are on the way to the typed tree, and how they are read from the parts of a node.
use Rattle.std.specs.Prelude.{ℕ, zero, suc, ◌+◌, Bool, true, false, List, [], ◌∷◌, Option, Some, None, option_map}
use Rattle.base.specs.declared.range.Range.{Range}
use Rattle.es_ast.specs.declared.ts.leaf.Ident.{Ident}
use Rattle.es_ast.specs.declared.ts.leaf.TsEntityName.{TsEntityName}
use Rattle.es_ast.specs.declared.ts.leaf.TsKey.{TsKey}
use Rattle.es_ast.specs.declared.ts.ts.Nodes.{Nodes}
use Rattle.es_ast.specs.declared.ts.ts.TsType.{TsType}
use Rattle.es_ast.specs.declared.ts.ts.TsTypeParam.{TsTypeParam}
use Rattle.es_ast.specs.declared.ts.ts.TsTypeElement.{TsTypeElement}
use Rattle.es_ast.specs.declared.ts.ts.TsTupleElement.{TsTupleElement}
use Rattle.es_ast.specs.declared.ts.ts.TsFnParam.{TsFnParam}
use Rattle.es_ast.specs.declared.ts.ts.TsParamPat.{TsParamPat}
use Rattle.es_ast.specs.declared.ts.ts.TsPatProp.{TsPatProp}
use Rattle.es_ast.specs.declared.ts.ts.TsPart.{TsPart}
use Rattle.es_ast.specs.declared.leaf.ImportNames.{ImportNames}
use Rattle.es_ast.specs.declared.leaf.ImportClause.{ImportClause}
use Rattle.es_ast.specs.declared.leaf.ImportSpecifier.{ImportSpecifier}
use Rattle.es_ast.specs.declared.leaf.ExportSpecifier.{ExportSpecifier}
use Rattle.es_ast.specs.declared.leaf.ImportAttributes.{ImportAttributes}
use Rattle.es_ast.specs.declared.leaf.VarDeclKind.{VarDeclKind}
use Rattle.es_ast.specs.declared.ast.Program.{Program}
use Rattle.es_ast.specs.declared.ast.ModuleItem.{ModuleItem}
use Rattle.es_ast.specs.declared.ast.Decl.{Decl}
use Rattle.es_ast.specs.declared.ast.Stmt.{Stmt}
use Rattle.es_ast.specs.declared.ast.Expr.{Expr}
use Rattle.es_ast.specs.declared.ast.Pat.{Pat}
use Rattle.es_ast.specs.declared.ast.ObjectPatProp.{ObjectPatProp}
use Rattle.es_ast.specs.declared.ast.Prop.{Prop}
use Rattle.es_ast.specs.declared.ast.Param.{Param}
use Rattle.es_ast.specs.declared.ast.VarDeclarator.{VarDeclarator}
use Rattle.es_ast.specs.declared.ast.ClassMember.{ClassMember}

-- what stands between `<` and `>`, the parameters, and the result of a function of TypeScript
abbrev pub Signature : Type 0
Signature = Option TsPart × List Param × Option TsPart

-- all that a node may be read as: the place where it stands tells which of them is asked for
pub record Typed : Type 0 where
  pub expr : Option Expr
  pub pat : Option Pat
  pub stmt : Option Stmt
  pub decl : Option Decl
  pub item : Option ModuleItem
  pub program : Option Program
  -- the statements of a block
  pub block : Option (List Stmt)
  -- variables, without the `;` behind them
  pub variables : Option (VarDeclKind × List VarDeclarator)
  pub declarator : Option VarDeclarator
  -- the head of a `for` before `in` or `of`
  pub head : Option (Option VarDeclKind × Pat)
  pub param : Option Param
  pub params : Option (List Param)
  pub pat_prop : Option ObjectPatProp
  pub prop : Option Prop
  pub member : Option ClassMember
  -- a key, and whether it is computed
  pub key : Option (Bool × Expr)
  -- what a further part of a chain makes of what stands before it, which begins at this byte
  pub post : Option (ℕ → Expr → Expr)
  pub args : Option (List Expr)
  pub clause : Option ImportClause
  pub names : Option ImportNames
  pub import_specifier : Option ImportSpecifier
  pub export_specifier : Option ExportSpecifier
  pub attributes : Option ImportAttributes
  pub entity : Option TsEntityName
  -- ---- of TypeScript
  -- a pattern with `?` or not, with a type behind it or not, over a range
  pub marked : Option (Bool → Option TsPart → Range → Pat)
  pub signature : Option Signature
  -- a declaration, behind `declare` or not, over a range
  pub declarable : Option (Bool → Range → Decl)
  -- ---- of types
  pub ts_type : Option TsType
  -- a name with arguments or without
  pub reference : Option (TsEntityName × Option (Nodes TsType))
  -- arguments and parameters between `<` and `>`
  pub arguments : Option (Nodes TsType)
  pub type_params : Option (Nodes TsTypeParam)
  pub element : Option TsTupleElement
  pub type_member : Option TsTypeElement
  pub type_key : Option TsKey
  pub fn_params : Option (List TsFnParam)
  pub fn_param : Option TsFnParam
  pub type_pat : Option TsParamPat
  -- the name, where it is a pattern that is a name alone
  pub type_name : Option Ident
  pub type_prop : Option TsPatProp

pub data Value : Type 0 where
  -- there is no such part
  absent : Value
  -- no more parts of a node, of a group or of a list
  nil : Value
  -- a part, and those after it
  more : Value → Value → Value
  -- a token, by its number
  token : ℕ → Value
  -- a node: its first token, the token after its last one, and what it is
  node : ℕ → ℕ → Typed → Value

-- one behind the other, where the first is there
abbrev pub given : {A B : Type 0} → Option A → (A → Option B) → Option B
given (Some a) f = f a
given None f = None

-- a part, counted from 0
abbrev pub part : Value → ℕ → Value
part (more v vs) zero = v
part (more v vs) (suc n) = part vs n
part _ n = absent

-- ---- parts that are nodes
abbrev pub typed : Value → Option Typed
typed (node from to m) = Some m
typed _ = None

-- its first token, and the token after its last one
abbrev pub first_of : Value → ℕ
first_of (node from to m) = from
first_of (token n) = n
first_of _ = 0

abbrev pub behind : Value → ℕ
behind (node from to m) = to
behind (token n) = n + 1
behind _ = 0

-- ---- parts that may be absent, and lists
-- a part that holds parts: a part that may be absent, or a list. One that holds none is empty
abbrev pub as_group : Value → Value
as_group (more v vs) = more v vs
as_group _ = nil

abbrev pub group : Value → ℕ → Value
group p n = as_group (part p n)

-- a part that may be absent: what stands first in its group
abbrev pub optional : {A : Type 0} → (Value → ℕ → Option A) → Value → Option (Option A)
optional one (more v vs) = option_map Some (one (more v vs) 0)
optional one _ = Some None

abbrev pub option_list : {A : Type 0} → Option A → List A
option_list (Some a) = a ∷ []
option_list None = []

abbrev pub is_there : Value → Bool
is_there (more v vs) = true
is_there _ = false

-- a list, by what the parts of a turn are
abbrev pub turns : {A : Type 0} → (Value → Option A) → Value → Option (List A)
turns one (more v vs) = given (one (as_group v)) (λ a. given (turns one vs) (λ rest. Some (a ∷ rest)))
turns one _ = Some []

-- ---- what stands at a place among the parts
abbrev pub expr_at : Value → ℕ → Option Expr
expr_at p n = given (typed (part p n)) (λ m. m.expr)

abbrev pub pat_at : Value → ℕ → Option Pat
pat_at p n = given (typed (part p n)) (λ m. m.pat)

abbrev pub stmt_at : Value → ℕ → Option Stmt
stmt_at p n = given (typed (part p n)) (λ m. m.stmt)

abbrev pub decl_at : Value → ℕ → Option Decl
decl_at p n = given (typed (part p n)) (λ m. m.decl)

abbrev pub item_at : Value → ℕ → Option ModuleItem
item_at p n = given (typed (part p n)) (λ m. m.item)

abbrev pub block_at : Value → ℕ → Option (List Stmt)
block_at p n = given (typed (part p n)) (λ m. m.block)

abbrev pub variables_at : Value → ℕ → Option (VarDeclKind × List VarDeclarator)
variables_at p n = given (typed (part p n)) (λ m. m.variables)

abbrev pub declarator_at : Value → ℕ → Option VarDeclarator
declarator_at p n = given (typed (part p n)) (λ m. m.declarator)

abbrev pub head_at : Value → ℕ → Option (Option VarDeclKind × Pat)
head_at p n = given (typed (part p n)) (λ m. m.head)

abbrev pub param_at : Value → ℕ → Option Param
param_at p n = given (typed (part p n)) (λ m. m.param)

abbrev pub params_at : Value → ℕ → Option (List Param)
params_at p n = given (typed (part p n)) (λ m. m.params)

abbrev pub pat_prop_at : Value → ℕ → Option ObjectPatProp
pat_prop_at p n = given (typed (part p n)) (λ m. m.pat_prop)

abbrev pub prop_at : Value → ℕ → Option Prop
prop_at p n = given (typed (part p n)) (λ m. m.prop)

abbrev pub member_at : Value → ℕ → Option ClassMember
member_at p n = given (typed (part p n)) (λ m. m.member)

abbrev pub key_at : Value → ℕ → Option (Bool × Expr)
key_at p n = given (typed (part p n)) (λ m. m.key)

abbrev pub post_at : Value → ℕ → Option (ℕ → Expr → Expr)
post_at p n = given (typed (part p n)) (λ m. m.post)

abbrev pub args_at : Value → ℕ → Option (List Expr)
args_at p n = given (typed (part p n)) (λ m. m.args)

abbrev pub clause_at : Value → ℕ → Option ImportClause
clause_at p n = given (typed (part p n)) (λ m. m.clause)

abbrev pub names_at : Value → ℕ → Option ImportNames
names_at p n = given (typed (part p n)) (λ m. m.names)

abbrev pub import_specifier_at : Value → ℕ → Option ImportSpecifier
import_specifier_at p n = given (typed (part p n)) (λ m. m.import_specifier)

abbrev pub export_specifier_at : Value → ℕ → Option ExportSpecifier
export_specifier_at p n = given (typed (part p n)) (λ m. m.export_specifier)

abbrev pub attributes_at : Value → ℕ → Option ImportAttributes
attributes_at p n = given (typed (part p n)) (λ m. m.attributes)

abbrev pub entity_at : Value → ℕ → Option TsEntityName
entity_at p n = given (typed (part p n)) (λ m. m.entity)

-- ---- of TypeScript
abbrev pub marked_at : Value → ℕ → Option (Bool → Option TsPart → Range → Pat)
marked_at p n = given (typed (part p n)) (λ m. m.marked)

abbrev pub signature_at : Value → ℕ → Option Signature
signature_at p n = given (typed (part p n)) (λ m. m.signature)

abbrev pub declarable_at : Value → ℕ → Option (Bool → Range → Decl)
declarable_at p n = given (typed (part p n)) (λ m. m.declarable)

-- ---- of types
abbrev pub type_at : Value → ℕ → Option TsType
type_at p n = given (typed (part p n)) (λ m. m.ts_type)

abbrev pub reference_at : Value → ℕ → Option (TsEntityName × Option (Nodes TsType))
reference_at p n = given (typed (part p n)) (λ m. m.reference)

abbrev pub arguments_at : Value → ℕ → Option (Nodes TsType)
arguments_at p n = given (typed (part p n)) (λ m. m.arguments)

abbrev pub type_params_at : Value → ℕ → Option (Nodes TsTypeParam)
type_params_at p n = given (typed (part p n)) (λ m. m.type_params)

abbrev pub element_at : Value → ℕ → Option TsTupleElement
element_at p n = given (typed (part p n)) (λ m. m.element)

abbrev pub type_member_at : Value → ℕ → Option TsTypeElement
type_member_at p n = given (typed (part p n)) (λ m. m.type_member)

abbrev pub type_key_at : Value → ℕ → Option TsKey
type_key_at p n = given (typed (part p n)) (λ m. m.type_key)

abbrev pub fn_params_at : Value → ℕ → Option (List TsFnParam)
fn_params_at p n = given (typed (part p n)) (λ m. m.fn_params)

abbrev pub fn_param_at : Value → ℕ → Option TsFnParam
fn_param_at p n = given (typed (part p n)) (λ m. m.fn_param)

abbrev pub type_pat_at : Value → ℕ → Option TsParamPat
type_pat_at p n = given (typed (part p n)) (λ m. m.type_pat)

abbrev pub type_name_at : Value → ℕ → Option Ident
type_name_at p n = given (typed (part p n)) (λ m. m.type_name)

abbrev pub type_prop_at : Value → ℕ → Option TsPatProp
type_prop_at p n = given (typed (part p n)) (λ m. m.type_prop)
