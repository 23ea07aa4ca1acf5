-- What a value is in each role in which a node may stand.
use Rattle.std.specs.Prelude.{ℕ, Bool, List, Option}
use Rattle.base.specs.declared.range.Range.{Range}
use Rattle.es_ast.specs.declared.ts.leaf.Ident.{Ident}
use Rattle.es_ast.specs.declared.ts.leaf.TsEntityName.{TsEntityName}
use Rattle.es_ast.specs.declared.ts.leaf.TsKey.{TsKey}
use Rattle.es_ast.specs.declared.ts.ts.Nodes.{Nodes}
use Rattle.es_ast.specs.declared.ts.ts.TsType.{TsType}
use Rattle.es_ast.specs.declared.ts.ts.TsTypeParam.{TsTypeParam}
use Rattle.es_ast.specs.declared.ts.ts.TsTypeElement.{TsTypeElement}
use Rattle.es_ast.specs.declared.ts.ts.TsTupleElement.{TsTupleElement}
use Rattle.es_ast.specs.declared.ts.ts.TsFnParam.{TsFnParam}
use Rattle.es_ast.specs.declared.ts.ts.TsParamPat.{TsParamPat}
use Rattle.es_ast.specs.declared.ts.ts.TsPatProp.{TsPatProp}
use Rattle.es_ast.specs.declared.ts.ts.TsPart.{TsPart}
use Rattle.es_ast.specs.declared.leaf.ImportNames.{ImportNames}
use Rattle.es_ast.specs.declared.leaf.ImportClause.{ImportClause}
use Rattle.es_ast.specs.declared.leaf.ImportSpecifier.{ImportSpecifier}
use Rattle.es_ast.specs.declared.leaf.ExportSpecifier.{ExportSpecifier}
use Rattle.es_ast.specs.declared.leaf.ImportAttributes.{ImportAttributes}
use Rattle.es_ast.specs.declared.leaf.VarDeclKind.{VarDeclKind}
use Rattle.es_ast.specs.declared.ast.Program.{Program}
use Rattle.es_ast.specs.declared.ast.ModuleItem.{ModuleItem}
use Rattle.es_ast.specs.declared.ast.Decl.{Decl}
use Rattle.es_ast.specs.declared.ast.Stmt.{Stmt}
use Rattle.es_ast.specs.declared.ast.Expr.{Expr}
use Rattle.es_ast.specs.declared.ast.Pat.{Pat}
use Rattle.es_ast.specs.declared.ast.ObjectPatProp.{ObjectPatProp}
use Rattle.es_ast.specs.declared.ast.Prop.{Prop}
use Rattle.es_ast.specs.declared.ast.Param.{Param}
use Rattle.es_ast.specs.declared.ast.VarDeclarator.{VarDeclarator}
use Rattle.es_ast.specs.declared.ast.ClassMember.{ClassMember}
use Rattle.es_lowering.specs.Value.{Value, Signature, given, typed}

abbrev pub expr_in : Value → Option Expr
expr_in v = given (typed v) (λ m. m.expr)

abbrev pub pat_in : Value → Option Pat
pat_in v = given (typed v) (λ m. m.pat)

abbrev pub stmt_in : Value → Option Stmt
stmt_in v = given (typed v) (λ m. m.stmt)

abbrev pub decl_in : Value → Option Decl
decl_in v = given (typed v) (λ m. m.decl)

abbrev pub item_in : Value → Option ModuleItem
item_in v = given (typed v) (λ m. m.item)

abbrev pub program_in : Value → Option Program
program_in v = given (typed v) (λ m. m.program)

abbrev pub block_in : Value → Option (List Stmt)
block_in v = given (typed v) (λ m. m.block)

abbrev pub variables_in : Value → Option (VarDeclKind × List VarDeclarator)
variables_in v = given (typed v) (λ m. m.variables)

abbrev pub declarator_in : Value → Option VarDeclarator
declarator_in v = given (typed v) (λ m. m.declarator)

abbrev pub head_in : Value → Option (Option VarDeclKind × Pat)
head_in v = given (typed v) (λ m. m.head)

abbrev pub param_in : Value → Option Param
param_in v = given (typed v) (λ m. m.param)

abbrev pub params_in : Value → Option (List Param)
params_in v = given (typed v) (λ m. m.params)

abbrev pub pat_prop_in : Value → Option ObjectPatProp
pat_prop_in v = given (typed v) (λ m. m.pat_prop)

abbrev pub prop_in : Value → Option Prop
prop_in v = given (typed v) (λ m. m.prop)

abbrev pub member_in : Value → Option ClassMember
member_in v = given (typed v) (λ m. m.member)

abbrev pub key_in : Value → Option (Bool × Expr)
key_in v = given (typed v) (λ m. m.key)

abbrev pub post_in : Value → Option (ℕ → Expr → Expr)
post_in v = given (typed v) (λ m. m.post)

abbrev pub args_in : Value → Option (List Expr)
args_in v = given (typed v) (λ m. m.args)

abbrev pub clause_in : Value → Option ImportClause
clause_in v = given (typed v) (λ m. m.clause)

abbrev pub names_in : Value → Option ImportNames
names_in v = given (typed v) (λ m. m.names)

abbrev pub import_specifier_in : Value → Option ImportSpecifier
import_specifier_in v = given (typed v) (λ m. m.import_specifier)

abbrev pub export_specifier_in : Value → Option ExportSpecifier
export_specifier_in v = given (typed v) (λ m. m.export_specifier)

abbrev pub attributes_in : Value → Option ImportAttributes
attributes_in v = given (typed v) (λ m. m.attributes)

abbrev pub entity_in : Value → Option TsEntityName
entity_in v = given (typed v) (λ m. m.entity)

abbrev pub marked_in : Value → Option (Bool → Option TsPart → Range → Pat)
marked_in v = given (typed v) (λ m. m.marked)

abbrev pub signature_in : Value → Option Signature
signature_in v = given (typed v) (λ m. m.signature)

abbrev pub declarable_in : Value → Option (Bool → Range → Decl)
declarable_in v = given (typed v) (λ m. m.declarable)

abbrev pub ts_type_in : Value → Option TsType
ts_type_in v = given (typed v) (λ m. m.ts_type)

abbrev pub reference_in : Value → Option (TsEntityName × Option (Nodes TsType))
reference_in v = given (typed v) (λ m. m.reference)

abbrev pub arguments_in : Value → Option (Nodes TsType)
arguments_in v = given (typed v) (λ m. m.arguments)

abbrev pub type_params_in : Value → Option (Nodes TsTypeParam)
type_params_in v = given (typed v) (λ m. m.type_params)

abbrev pub element_in : Value → Option TsTupleElement
element_in v = given (typed v) (λ m. m.element)

abbrev pub type_member_in : Value → Option TsTypeElement
type_member_in v = given (typed v) (λ m. m.type_member)

abbrev pub type_key_in : Value → Option TsKey
type_key_in v = given (typed v) (λ m. m.type_key)

abbrev pub fn_params_in : Value → Option (List TsFnParam)
fn_params_in v = given (typed v) (λ m. m.fn_params)

abbrev pub fn_param_in : Value → Option TsFnParam
fn_param_in v = given (typed v) (λ m. m.fn_param)

abbrev pub type_pat_in : Value → Option TsParamPat
type_pat_in v = given (typed v) (λ m. m.type_pat)

abbrev pub type_name_in : Value → Option Ident
type_name_in v = given (typed v) (λ m. m.type_name)

abbrev pub type_prop_in : Value → Option TsPatProp
type_prop_in v = given (typed v) (λ m. m.type_prop)
