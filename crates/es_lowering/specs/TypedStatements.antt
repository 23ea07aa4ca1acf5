-- What variables, declarations and items of TypeScript become (the handbook of TypeScript, "Everyday Types", "Object Types",
-- "Enums", "Namespaces", "Modules").
use Rattle.std.specs.Prelude.{ℕ, Bool, true, List, Option, Some, None, option_map}
use Rattle.base.specs.declared.range.Range.{Range}
use Rattle.es_token.specs.declared.token.Token.{Token}
use Rattle.es_token.specs.declared.token.TokenKind.TheVariants as k
use Rattle.grammar_theory.specs.Key.{same_kind}
use Rattle.es_ast.specs.declared.ts.ts.TsPart.TheVariants as vPart
use Rattle.es_ast.specs.declared.ast.Pat.{Pat}
use Rattle.es_ast.specs.declared.ast.Stmt.{Stmt}
use Rattle.es_ast.specs.declared.ast.Stmt.TheVariants as vStmt
use Rattle.es_ast.specs.declared.ast.Decl.{Decl}
use Rattle.es_ast.specs.declared.ast.Decl.TheVariants as vDecl
use Rattle.es_ast.specs.declared.ast.ModuleItem.{ModuleItem}
use Rattle.es_ast.specs.declared.ast.ModuleDecl.{ModuleDecl}
use Rattle.es_ast.specs.declared.ast.ModuleDecl.TheVariants as vModuleDecl
use Rattle.es_ast.specs.declared.ast.TsEnumMember.{TsEnumMember, roll-TsEnumMember}
use Rattle.es_ast.specs.declared.ast.VarDeclarator.{VarDeclarator, roll-VarDeclarator}
use Rattle.es_lowering.specs.Value.{Value, nil, more, given, part, group, first_of, behind, optional, is_there, turns, expr_at, stmt_at, item_at, variables_at, key_at, entity_at, declarable_at, type_at, type_member_at}
use Rattle.es_lowering.specs.Texts.{span_of, kind_at, ident_at, str_at}
use Rattle.es_lowering.specs.Operators.{listed, variable_kinds, is_kind_at}
use Rattle.es_lowering.specs.Statements.{Head}
use Rattle.es_lowering.specs.TypeNames.{behind_in}
use Rattle.es_lowering.specs.TypedParts.{annotated_at, params_part_at, heritage_in}

-- ---- variables
-- Pat '!'? (':' Type)? ('=' Assign)?
unfoldable pub typed_declarator : List Token → Range → Value → Option VarDeclarator
typed_declarator ts r p =
    given (annotated_at ts p 0 2) (λ pat.
    given (optional expr_at (group p 3)) (λ value.
    Some (roll-VarDeclarator (record { name = pat; definite = is_there (group p 1); init = value; span = r }))))

-- ('var' | 'let' | 'const') Pat (':' Type)?
unfoldable pub typed_head : List Token → Value → Option Head
typed_head ts p =
    given (given (kind_at ts p 0) (listed variable_kinds)) (λ kind.
    given (annotated_at ts p 1 2) (λ pat. Some (Some kind, pat)))

-- ---- `try`
abbrev pub caught_in : List Token → Value → Option (Option Pat)
caught_in ts (more v vs) = option_map Some (annotated_at ts (more v vs) 0 1)
caught_in ts _ = Some None

abbrev pub typed_handled : List Token → Range → Stmt → Value → Option Stmt
typed_handled ts r block (more body nil) =
    option_map (λ finalizer. vStmt.Try block None None (Some finalizer) r) (stmt_at (more body nil) 0)
typed_handled ts r block v =
    given (caught_in ts (group v 0)) (λ param.
    given (stmt_at v 1) (λ handler.
    given (optional stmt_at (group v 2)) (λ finalizer. Some (vStmt.Try block param (Some handler) finalizer r))))

unfoldable pub typed_try : List Token → Range → Value → Option Stmt
typed_try ts r p = given (stmt_at p 0) (λ block. typed_handled ts r block (group p 1))

-- ---- declarations, behind `declare` or not, over a range
abbrev pub Declarable : Type 0
Declarable = Bool → Range → Decl

-- 'interface' Name TParams? ('extends' Ref%+)? '{' TMember* '}'
unfoldable pub interface : List ℕ → List Token → Value → Option Declarable
interface x ts p =
    given (ident_at x ts p 0) (λ id.
    given (params_part_at p 1) (λ type_params.
    given (heritage_in ts (group p 2)) (λ extends.
    given (option_map vPart.Members (turns (λ turn. type_member_at turn 0) (group p 3))) (λ body.
    Some (λ declare r. vDecl.TsInterface declare id type_params extends (Some body) r)))))

-- 'type' Name TParams? '=' Type END
unfoldable pub alias : List ℕ → List Token → Value → Option Declarable
alias x ts p =
    given (ident_at x ts p 0) (λ id.
    given (params_part_at p 1) (λ type_params.
    given (option_map vPart.TypeAnn (type_at p 2)) (λ ty.
    Some (λ declare r. vDecl.TsTypeAlias declare id type_params (Some ty) r))))

-- Key ('=' Assign)?
abbrev pub enum_member : List Token → Value → Option TsEnumMember
enum_member ts turn =
    given (key_at turn 0) (λ key.
    given (optional expr_at (group turn 1)) (λ value.
    Some (roll-TsEnumMember (record {
      computed = key.0;
      id = key.1;
      init = value;
      span = span_of ts (first_of (part turn 0)) (behind_in (group turn 1) (behind (part turn 0)));
    }))))

-- 'const'? 'enum' Name '{' .. '}'
unfoldable pub enum_ : List ℕ → List Token → Value → Option Declarable
enum_ x ts p =
    given (ident_at x ts p 1) (λ id.
    given (turns (enum_member ts) (group p 2)) (λ members.
    Some (λ declare r. vDecl.TsEnum declare (is_there (group p 0)) id members r)))

-- the items between `{` and `}`
abbrev pub items_of : Value → Option (List ModuleItem)
items_of v = turns (λ turn. item_at turn 0) v

-- ('namespace' | 'module') Entity '{' Item* '}'
unfoldable pub namespace : List Token → Value → Option Declarable
namespace ts p =
    given (kind_at ts p 0) (λ kind.
    given (entity_at p 1) (λ id.
    given (items_of (group p 2)) (λ body.
    Some (λ declare r. vDecl.TsNamespace declare (same_kind kind k.ModuleWord) id body r))))

-- 'module' Str ('{' Item* '}' | END): there is a body where `{` stands behind the literal
unfoldable pub module_namespace : List ℕ → List Token → Value → Option Declarable
module_namespace x ts p =
    given (str_at x ts p 0) (λ id.
    given (items_of (group (group p 1) 0)) (λ body.
    Some (λ declare r. vDecl.TsModule declare id (is_kind_at ts k.OpenBrace (behind (part p 0))) body r)))

-- 'global' '{' Item* '}'
unfoldable pub global : Value → Option Declarable
global p = option_map (λ body declare r. vDecl.TsGlobal declare body r) (items_of (group p 0))

-- 'declare' Decl
unfoldable pub declared : Range → Value → Option Decl
declared r p = option_map (λ decl. decl true r) (declarable_at p 0)

-- 'declare' Var END
unfoldable pub declared_variables : Range → Value → Option Decl
declared_variables r p = option_map (λ v. vDecl.Var true v.0 v.1 r) (variables_at p 0)

-- ---- items
-- 'export' '=' Expr END
unfoldable pub export_assignment : Range → Value → Option ModuleDecl
export_assignment r p = option_map (λ e. vModuleDecl.TsExportAssignment e r) (expr_at p 0)
