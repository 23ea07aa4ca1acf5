-- What a view of a declaration that may stand behind `declare` tells.
use Rattle.std.specs.Prelude.{ℕ, Bool, List, [], ◌∷◌, Option, Some, None, option_map, slice_get}
use Rattle.base.specs.declared.range.Range.{Range}
use Rattle.es_token.specs.declared.token.Token.{Token}
use Rattle.es_grammar.specs.declared.rows.NodeKind.{NodeKind}
use Rattle.es_grammar.specs.declared.rows.NodeKind.TheVariants as l
use Rattle.es_ast.specs.declared.ts.ts.TsPart.TheVariants as vPart
use Rattle.es_ast.specs.declared.ts.ts.TsType.{TsType}
use Rattle.es_ast.specs.declared.ts.leaf.TsEntityName.{TsEntityName}
use Rattle.es_ast.specs.declared.ast.Decl.TheVariants as vDecl
use Rattle.es_token.specs.declared.token.TokenKind.TheVariants as k
use Rattle.grammar_theory.specs.Key.{same_kind}
use Rattle.es_lowering.specs.Value.{Value, given, optional, turns, behind, type_params_at, type_member_at}
use Rattle.es_lowering.specs.Texts.{ident_of, str_of, token_of}
use Rattle.es_lowering.specs.Operators.{is_kind_at}
use Rattle.es_lowering.specs.TypedParts.{heritage_in}
use Rattle.es_lowering.specs.TypedFunctions.{typed_function, typed_class}
use Rattle.es_lowering.specs.TypedStatements.{Declarable as ADeclarable, enum_member, items_of}
use Rattle.es_syntax.specs.declared.cursor.Siblings.{Siblings}
use Rattle.es_syntax.specs.Held.{held, valued}
use Rattle.es_syntax.specs.Roles.{entity_in, ts_type_in}
use Rattle.es_syntax.specs.Views.{Under, Within}
use Rattle.es_view_statements.specs.declared.decl.declarable.Declarable.{Declarable}
use Rattle.es_view_statements.specs.declared.decl.declarable.Declarable.TheVariants as view

-- the alternatives
abbrev pub declarables : List NodeKind
declarables =
    l.TypedFunction ∷ l.TypedAsyncFunction ∷ l.TypedClass ∷ l.AbstractClass ∷ l.InterfaceDeclaration ∷
    l.AliasDeclaration ∷ l.EnumDeclaration ∷ l.NamespaceDeclaration ∷ l.ModuleDeclaration ∷ l.GlobalDeclaration ∷ []

-- ---- each form, of what its parts are
unfoldable pub interface_of : List ℕ → List Token → Option Token → Value → Value → Value → Option ADeclarable
interface_of x ts name type_params extends members =
    given (option_map (ident_of x) name) (λ id.
    given (option_map (λ ps. option_map vPart.TypeParams ps) (optional type_params_at type_params)) (λ type_params.
    given (heritage_in ts extends) (λ extends.
    given (option_map vPart.Members (turns (λ turn. type_member_at turn 0) members)) (λ body.
    Some (λ declare r. vDecl.TsInterface declare id type_params extends (Some body) r)))))

unfoldable pub alias_of : List ℕ → Option Token → Value → Option TsType → Option ADeclarable
alias_of x name type_params ty =
    given (option_map (ident_of x) name) (λ id.
    given (option_map (λ ps. option_map vPart.TypeParams ps) (optional type_params_at type_params)) (λ type_params.
    given (option_map vPart.TypeAnn ty) (λ ty.
    Some (λ declare r. vDecl.TsTypeAlias declare id type_params (Some ty) r))))

unfoldable pub enum_of : List ℕ → List Token → Bool → Option Token → Value → Option ADeclarable
enum_of x ts is_const name members =
    given (option_map (ident_of x) name) (λ id.
    given (turns (enum_member ts) members) (λ members.
    Some (λ declare r. vDecl.TsEnum declare is_const id members r)))

unfoldable pub namespace_of : Option Token → Option TsEntityName → Value → Option ADeclarable
namespace_of word name items =
    given (option_map (λ t. t.kind) word) (λ kind.
    given name (λ id.
    given (items_of items) (λ body.
    Some (λ declare r. vDecl.TsNamespace declare (same_kind kind k.ModuleWord) id body r))))

unfoldable pub module_of : List ℕ → List Token → Value → Value → Option ADeclarable
module_of x ts name items =
    given (option_map (str_of x) (token_of ts name)) (λ id.
    given (items_of items) (λ body.
    Some (λ declare r. vDecl.TsModule declare id (is_kind_at ts k.OpenBrace (behind name)) body r)))

unfoldable pub global_of : Value → Option ADeclarable
global_of items = option_map (λ body declare r. vDecl.TsGlobal declare body r) (items_of items)

-- what a view tells
abbrev pub the_declarable : List ℕ → List Token → Range → Declarable → Option ADeclarable
the_declarable x ts r (view.Function is_async parts) =
    option_map (λ function declare span. vDecl.Fn declare function span)
    (typed_function x ts is_async r (held x ts parts.entries.now))
the_declarable x ts r (view.Class is_abstract parts) =
    option_map (λ class declare span. vDecl.Class declare class span)
    (typed_class x ts is_abstract r (held x ts parts.entries.now))
the_declarable x ts r (view.Interface name type_params extends members) =
    interface_of x ts (slice_get ts name) (held x ts type_params.entries.now) (held x ts extends.entries.now)
    (held x ts members.entries.now)
the_declarable x ts r (view.Alias name type_params ty) =
    alias_of x (slice_get ts name) (held x ts type_params.entries.now) (ts_type_in (valued x ts ty))
the_declarable x ts r (view.Enum is_const name members) =
    enum_of x ts is_const (slice_get ts name) (held x ts members.entries.now)
the_declarable x ts r (view.Namespace word name items) =
    namespace_of (slice_get ts word) (entity_in (valued x ts name)) (held x ts items.entries.now)
the_declarable x ts r (view.Module name items) = module_of x ts (valued x ts name) (held x ts items.entries.now)
the_declarable x ts r (view.Global items) = global_of (held x ts items.entries.now)
the_declarable x ts r view.Broken = None

-- the parts take fewer entries
abbrev pub IsBelow : Siblings → Declarable → Type 0
IsBelow n (view.Function is_async parts) = Within parts n
IsBelow n (view.Class is_abstract parts) = Within parts n
IsBelow n (view.Interface name type_params extends members) =
    Within type_params n × Within extends n × Within members n
IsBelow n (view.Alias name type_params ty) = Within type_params n × Under ty n
IsBelow n (view.Enum is_const name members) = Within members n
IsBelow n (view.Namespace word name items) = Under name n × Within items n
IsBelow n (view.Module name items) = Under name n × Within items n
IsBelow n (view.Global items) = Within items n
IsBelow n view.Broken = Unit {0}
