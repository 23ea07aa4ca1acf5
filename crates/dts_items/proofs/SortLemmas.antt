-- What declarations are by the rules, form by form.
use Rattle.std.specs.Prelude.{ℕ, Bool, true, false, not, List, [], ◌∷◌, Option, Some, None, option_map}
use Rattle.std.proofs.Common.{◌≡◌, refl, sym, ap, subst, ◌∙◌}
use Rattle.base.specs.declared.range.Range.{Range}
use Rattle.es_token.specs.declared.token.Token.{Token}
use Rattle.es_token.specs.declared.token.TokenKind.{TokenKind}
use Rattle.es_ast.specs.declared.ts.leaf.Ident.{Ident}
use Rattle.es_ast.specs.declared.ts.leaf.Str.{Str}
use Rattle.es_ast.specs.declared.ts.leaf.TsEntityName.{TsEntityName}
use Rattle.es_ast.specs.declared.ts.ts.TsPart.{TsPart}
use Rattle.es_ast.specs.declared.ts.ts.TsPart.TheVariants as vPart
use Rattle.es_ast.specs.declared.ts.ts.TsType.{TsType}
use Rattle.es_ast.specs.declared.leaf.VarDeclKind.{VarDeclKind}
use Rattle.es_ast.specs.declared.ast.Class.{Class}
use Rattle.es_ast.specs.declared.ast.Decl.{Decl, roll-Decl}
use Rattle.es_ast.specs.declared.ast.Decl.TheVariants as vDecl
use Rattle.es_ast.specs.declared.ast.Function.{Function}
use Rattle.es_ast.specs.declared.ast.ModuleItem.{ModuleItem}
use Rattle.es_ast.specs.declared.ast.TsEnumMember.{TsEnumMember}
use Rattle.es_ast.specs.declared.ast.VarDeclarator.{VarDeclarator}
use Rattle.es_ast.specs.declared.ast.ClassMember.TheOpen.{Decl-F}
use Rattle.es_site.specs.Parts.{Whole}
use Rattle.es_token.specs.declared.token.TokenKind.TheVariants as k
use Rattle.grammar_theory.specs.Key.{same_kind}
use Rattle.es_lowering.specs.Value.{Value, behind, given, optional, turns, type_member_at, type_params_at, declarator_at}
use Rattle.es_lowering.specs.Texts.{ident_of, str_of, token_of}
use Rattle.es_lowering.specs.Operators.{is_kind_at, listed, variable_kinds}
use Rattle.es_lowering.specs.Statements as stmts
use Rattle.es_lowering.specs.Statements.{using_kind}
use Rattle.es_lowering.specs.TypedParts.{heritage_in}
use Rattle.es_lowering.specs.TypedFunctions.{typed_class, typed_function}
use Rattle.es_lowering.specs.TypedStatements.{Declarable, enum_member, items_of}
use Rattle.es_syntax.specs.declared.cursor.Item.{Item}
use Rattle.es_syntax.specs.Held.{valued}
use Rattle.es_syntax.specs.Roles.{declarable_in, decl_in, variables_in}
use Rattle.es_syntax.specs.Views.{IsNone}
use Rattle.es_view_statements.specs.decl.Decl as decl_view
use Rattle.es_view_statements.specs.decl.Decl.{declarations}
use Rattle.es_view_statements.specs.decl.Declarable as declarable_view
use Rattle.es_view_statements.specs.decl.Declarable.{declarables}
use Rattle.es_expr_spans.proofs.Given.{Of}
use Rattle.dts_rules.specs.Rules.{Env, ShownDecl, ShownDeclarator, is_plain_const}
use Rattle.dts_rules.specs.Programs as programs
use Rattle.dts_rules.specs.Programs.{in_decl, shown_decl}
use Rattle.dts_rules.proofs.Shown.{at_decl, beside_decl}
use Rattle.dts_draft.specs.Written.{IfThere}
use Rattle.dts_draft.proofs.There.{one, none, mapped, made, given_any, given_there}
use Rattle.dts_items.specs.declared.sorts.Sort.{Sort}
use Rattle.dts_items.specs.declared.sorts.Sort.TheVariants as sort
use Rattle.dts_items.specs.Labels.{is_node_of, using_labels}
use Rattle.dts_items.specs.Sorts.{Shows, Sorted}
use Rattle.dts_items.proofs.LabelLemmas.{Plain, plain_variables, variables_known, undeclarable, undeclared}

shown_by : (env : Env) (it : Decl) (w : Whole Decl-F) → roll-Decl w ≡ it
    → shown_decl env it ≡ in_decl env (beside_decl env w)
shown_by env it w rolls = ap (shown_decl env) (sym rolls) ∙ at_decl env w

sorted_by : (s : Sort) (span : Range) (it : Decl) (w : Whole Decl-F) → roll-Decl w ≡ it
    → ((env : Env) → (in_decl env (beside_decl env w)).span ≡ span)
    → ((env : Env) → Shows s span it (in_decl env (beside_decl env w))) → Sorted s span it
sorted_by s span it w rolls spans shows = record {
  span_is = λ env. ap (λ (k : ShownDecl). k.span) (shown_by env it w rolls) ∙ spans env;
  shows = λ env. subst (Shows s span it) (sym (shown_by env it w rolls)) (shows env);
}

-- ---- each declaration
fn_sorted : (declare : Bool) (f : Function) (span : Range) → Sorted sort.Function span (vDecl.Fn declare f span)
fn_sorted declare f span =
    sorted_by sort.Function span _ (Decl-F.Decl::Fn declare f span) (vDecl.rolls-Fn declare f span) (λ env. refl)
    (λ env. (refl, refl))

class_sorted : (declare : Bool) (c : Class) (span : Range) → Sorted sort.Other span (vDecl.Class declare c span)
class_sorted declare c span =
    sorted_by sort.Other span _ (Decl-F.Decl::Class declare c span) (vDecl.rolls-Class declare c span) (λ env. refl)
    (λ env. (refl, refl))

interface_sorted : (declare : Bool) (id : Ident) (type_params extends body : Option TsPart) (span : Range)
    → Sorted sort.Type span (vDecl.TsInterface declare id type_params extends body span)
interface_sorted declare id type_params extends body span =
    sorted_by sort.Type span _ (Decl-F.TsInterface declare id type_params extends body span)
    (vDecl.rolls-TsInterface declare id type_params extends body span) (λ env. refl)
    (λ env. (refl, refl, λ top s. refl))

alias_sorted : (declare : Bool) (id : Ident) (type_params ty : Option TsPart) (span : Range)
    → Sorted sort.Type span (vDecl.TsTypeAlias declare id type_params ty span)
alias_sorted declare id type_params ty span =
    sorted_by sort.Type span _ (Decl-F.TsTypeAlias declare id type_params ty span)
    (vDecl.rolls-TsTypeAlias declare id type_params ty span) (λ env. refl) (λ env. (refl, refl, λ top s. refl))

enum_sorted : (declare is_const : Bool) (id : Ident) (members : List TsEnumMember) (span : Range)
    → Sorted sort.Other span (vDecl.TsEnum declare is_const id members span)
enum_sorted declare is_const id members span =
    sorted_by sort.Other span _ (Decl-F.TsEnum declare is_const id members span)
    (vDecl.rolls-TsEnum declare is_const id members span) (λ env. refl) (λ env. (refl, refl))

namespace_sorted : (declare is_module : Bool) (id : TsEntityName) (body : List ModuleItem) (span : Range)
    → Sorted sort.Other span (vDecl.TsNamespace declare is_module id body span)
namespace_sorted declare is_module id body span =
    sorted_by sort.Other span _ (Decl-F.TsNamespace declare is_module id body span)
    (vDecl.rolls-TsNamespace declare is_module id body span) (λ env. refl) (λ env. (refl, refl))

module_sorted : (declare : Bool) (id : Str) (has_body : Bool) (body : List ModuleItem) (span : Range)
    → Sorted sort.Other span (vDecl.TsModule declare id has_body body span)
module_sorted declare id has_body body span =
    sorted_by sort.Other span _ (Decl-F.TsModule declare id has_body body span)
    (vDecl.rolls-TsModule declare id has_body body span) (λ env. refl) (λ env. (refl, refl))

global_sorted : (declare : Bool) (body : List ModuleItem) (span : Range)
    → Sorted sort.Other span (vDecl.TsGlobal declare body span)
global_sorted declare body span =
    sorted_by sort.Other span _ (Decl-F.TsGlobal declare body span) (vDecl.rolls-TsGlobal declare body span)
    (λ env. refl) (λ env. (refl, refl))

-- variables by whether they are plain
abbrev sort_by : Bool → Sort
sort_by true = sort.Other
sort_by false = sort.Using

module _ (env : Env) (kind : VarDeclKind) (ds : List (VarDeclarator × ShownDeclarator)) (declare : Bool) (span : Range)
  where
    variables_span : (b : Bool) → (programs.variables env b kind ds declare span).span ≡ span
    variables_span true = refl
    variables_span false = refl

    variables_show : (d : Decl) (b : Bool)
        → Shows (sort_by b) span d (programs.variables env b kind ds declare span)
    variables_show d true = (refl, refl)
    variables_show d false = (refl, refl, λ top s. refl)

var_sorted : (b : Bool) (declare : Bool) (kind : VarDeclKind) (decls : List VarDeclarator) (span : Range)
    → is_plain_const kind ≡ b → Sorted (sort_by b) span (vDecl.Var declare kind decls span)
var_sorted b declare kind decls span e =
    sorted_by (sort_by b) span _ (Decl-F.Var declare kind decls span) (vDecl.rolls-Var declare kind decls span)
    (λ env. variables_span env kind _ declare span (is_plain_const kind))
    (λ env. subst (λ (b : Bool). Shows (sort_by b) span (vDecl.Var declare kind decls span)
    (in_decl env (beside_decl env (Decl-F.Var declare kind decls span)))) e
    (variables_show env kind _ declare span (vDecl.Var declare kind decls span) (is_plain_const kind)))

-- ---- variables at a place
pub are_using : (x : List ℕ) (ts : List Token) (declare : Bool) (r : Range) (i : Item)
    → is_node_of using_labels i.what ≡ true
    → IfThere (λ v. Sorted sort.Using r (vDecl.Var declare v.0 v.1 r)) (variables_in (valued x ts i))
are_using x ts declare r i e =
    go (variables_in (valued x ts i)) (variables_known x ts i true e)
  where
    go : (o : Option stmts.Variables) → Of (Plain (not true)) o
        → IfThere (λ (v : stmts.Variables). Sorted sort.Using r (vDecl.Var declare v.0 v.1 r)) o
    go None known = record { is = tt }
    go (Some v) known = record { is = var_sorted false declare v.0 v.1 r known.is }

pub are_plain : (x : List ℕ) (ts : List Token) (declare : Bool) (r : Range) (i : Item)
    → is_node_of using_labels i.what ≡ false
    → IfThere (λ v. Sorted sort.Other r (vDecl.Var declare v.0 v.1 r)) (variables_in (valued x ts i))
are_plain x ts declare r i e =
    go (variables_in (valued x ts i)) (variables_known x ts i false e)
  where
    go : (o : Option stmts.Variables) → Of (Plain (not false)) o
        → IfThere (λ (v : stmts.Variables). Sorted sort.Other r (vDecl.Var declare v.0 v.1 r)) o
    go None known = record { is = tt }
    go (Some v) known = record { is = var_sorted true declare v.0 v.1 r known.is }

-- ---- what may follow `declare`, by its view
module _ (x : List ℕ) (ts : List Token) (declare : Bool) (r span : Range) where
  abbrev Of_ : Sort → Option Declarable → Type 0
  Of_ s o = IfThere (λ d. Sorted s r (d declare r)) o

  abbrev Is : Sort → Declarable → Type 0
  Is s d = Sorted s r (d declare r)

  pub function_view : (is_async : Bool) (p : Value)
      → Of_ sort.Function (option_map (λ function declare span. vDecl.Fn declare function span)
      (typed_function x ts is_async span p))
  function_view is_async p =
      made (Is sort.Function) (λ function declare span. vDecl.Fn declare function span)
      (typed_function x ts is_async span p) (λ f. fn_sorted declare f r)

  pub class_view : (is_abstract : Bool) (p : Value)
      → Of_ sort.Other (option_map (λ class declare span. vDecl.Class declare class span)
      (typed_class x ts is_abstract span p))
  class_view is_abstract p =
      made (Is sort.Other) (λ class declare span. vDecl.Class declare class span)
      (typed_class x ts is_abstract span p) (λ c. class_sorted declare c r)

  pub interface_view : (name : Option Token) (type_params extends members : Value)
      → Of_ sort.Type (declarable_view.interface_of x ts name type_params extends members)
  unfolding declarable_view.interface_of
  interface_view name type_params extends members =
      given_any (Is sort.Type) (option_map (ident_of x) name) _ (λ id.
      given_any (Is sort.Type)
      (option_map (λ ps. option_map vPart.TypeParams ps) (optional type_params_at type_params)) _ (λ ps.
      given_any (Is sort.Type) (heritage_in ts extends) _ (λ es.
      given_any (Is sort.Type) (option_map vPart.Members (turns (λ turn. type_member_at turn 0) members)) _ (λ body.
      one (Is sort.Type) (interface_sorted declare id ps es (Some body) r)))))

  pub alias_view : (name : Option Token) (type_params : Value) (ty : Option TsType)
      → Of_ sort.Type (declarable_view.alias_of x name type_params ty)
  unfolding declarable_view.alias_of
  alias_view name type_params ty =
      given_any (Is sort.Type) (option_map (ident_of x) name) _ (λ id.
      given_any (Is sort.Type)
      (option_map (λ ps. option_map vPart.TypeParams ps) (optional type_params_at type_params)) _ (λ ps.
      given_any (Is sort.Type) (option_map vPart.TypeAnn ty) _ (λ ty.
      one (Is sort.Type) (alias_sorted declare id ps (Some ty) r))))

  pub enum_view : (is_const : Bool) (name : Option Token) (members : Value)
      → Of_ sort.Other (declarable_view.enum_of x ts is_const name members)
  unfolding declarable_view.enum_of
  enum_view is_const name members =
      given_any (Is sort.Other) (option_map (ident_of x) name) _ (λ id.
      given_any (Is sort.Other) (turns (enum_member ts) members) _ (λ ms.
      one (Is sort.Other) (enum_sorted declare is_const id ms r)))

  pub namespace_view : (word : Option Token) (name : Option TsEntityName) (items : Value)
      → Of_ sort.Other (declarable_view.namespace_of word name items)
  unfolding declarable_view.namespace_of
  namespace_view word name items =
      given_any (Is sort.Other) (option_map (λ t. t.kind) word) _ (λ kind.
      given_any (Is sort.Other) name _ (λ id.
      given_any (Is sort.Other) (items_of items) _ (λ body.
      one (Is sort.Other) (namespace_sorted declare (same_kind kind k.ModuleWord) id body r))))

  pub module_view : (name items : Value) → Of_ sort.Other (declarable_view.module_of x ts name items)
  unfolding declarable_view.module_of
  module_view name items =
      given_any (Is sort.Other) (option_map (str_of x) (token_of ts name)) _ (λ id.
      given_any (Is sort.Other) (items_of items) _ (λ body.
      one (Is sort.Other) (module_sorted declare id (is_kind_at ts k.OpenBrace (behind name)) body r)))

  pub global_view : (items : Value) → Of_ sort.Other (declarable_view.global_of items)
  unfolding declarable_view.global_of
  global_view items =
      made (Is sort.Other) (λ body declare r. vDecl.TsGlobal declare body r) (items_of items)
      (λ body. global_sorted declare body r)

  pub nothing_view : (s : Sort) → Of_ s None
  nothing_view s = none (Is s)

  pub no_view : (s : Sort) (i : Item) → IsNone declarables i.what → Of_ s (declarable_in (valued x ts i))
  no_view s i e =
      subst (λ (o : Option Declarable). Of_ s o) (sym (undeclarable x ts i e)) (none (Is s))

-- ---- declarations, by their views
module _ (x : List ℕ) (ts : List Token) (r : Range) where
  pub plain_function : (f : Option Function) → IfThere (Sorted sort.Function r)
      (option_map (λ function. vDecl.Fn false function r) f)
  plain_function f = made (Sorted sort.Function r) (λ function. vDecl.Fn false function r) f (λ f. fn_sorted false f r)

  pub plain_class : (c : Option Class) → IfThere (Sorted sort.Other r)
      (option_map (λ class. vDecl.Class false class r) c)
  plain_class c = made (Sorted sort.Other r) (λ class. vDecl.Class false class r) c (λ c. class_sorted false c r)

  pub variables : (s : Sort) (o : Option stmts.Variables)
      → IfThere (λ v. Sorted s r (vDecl.Var false v.0 v.1 r)) o → IfThere (Sorted s r) (decl_view.var_decl r o)
  unfolding decl_view.var_decl
  variables s o h =
      mapped (λ (v : stmts.Variables). Sorted s r (vDecl.Var false v.0 v.1 r)) (Sorted s r) (stmts.decl_of r) o
      (λ v p. p) h

  pub declared_variables : (s : Sort) (o : Option stmts.Variables)
      → IfThere (λ v. Sorted s r (vDecl.Var true v.0 v.1 r)) o
      → IfThere (Sorted s r) (decl_view.declared_variables r o)
  unfolding decl_view.declared_variables
  declared_variables s o h =
      mapped (λ (v : stmts.Variables). Sorted s r (vDecl.Var true v.0 v.1 r)) (Sorted s r)
      (λ v. vDecl.Var true v.0 v.1 r) o (λ v p. p) h

  pub var_view : (word : Option Token) (first : Option VarDeclarator) (others : Value)
      → IfThere (Sorted sort.Other r) (decl_view.var_of r word first others)
  unfolding decl_view.var_of
  var_view word first others =
      go _ (plain_variables x ts (option_map (λ (t : Token). t.kind) word)
      (given first (λ first. given (turns (λ turn. declarator_at turn 0) others)
      (λ others. Some (first ∷ others)))) (λ kind decls. (kind, decls)) (λ it b. refl))
    where
      go : (o : Option stmts.Variables) → Of (Plain true) o
          → IfThere (Sorted sort.Other r) (option_map (stmts.decl_of r) o)
      go None known = record { is = tt }
      go (Some v) known = record { is = var_sorted true false v.0 v.1 r known.is }

  using_is : (is_await : Bool) → is_plain_const (using_kind is_await) ≡ false
  using_is true = refl
  using_is false = refl

  pub using_view : (is_await : Bool) (first : Option VarDeclarator) (others : Value)
      → IfThere (Sorted sort.Using r) (decl_view.using_of r is_await first others)
  unfolding decl_view.using_of
  using_view is_await first others =
      go (given first (λ first. given (turns (λ turn. declarator_at turn 0) others) (λ others. Some (first ∷ others))))
    where
      go : (o : Option (List VarDeclarator)) → IfThere (Sorted sort.Using r)
          (option_map (stmts.decl_of r) (given o (λ decls. Some (using_kind is_await, decls))))
      go None = record { is = tt }
      go (Some decls) = record { is = var_sorted false false (using_kind is_await) decls r (using_is is_await) }

  pub declared : (s : Sort) (o : Option Declarable) → IfThere (λ d. Sorted s r (d true r)) o
      → IfThere (Sorted s r) (decl_view.declared r o)
  unfolding decl_view.declared
  declared s o h = mapped (λ (d : Declarable). Sorted s r (d true r)) (Sorted s r) (λ d. d true r) o (λ d p. p) h

  pub undeclared_view : (s : Sort) (o : Option Declarable) → IfThere (λ d. Sorted s r (d false r)) o
      → IfThere (Sorted s r) (option_map (λ decl. decl false r) o)
  undeclared_view s o h =
      mapped (λ (d : Declarable). Sorted s r (d false r)) (Sorted s r) (λ d. d false r) o (λ d p. p) h

  pub no_decl : (s : Sort) → IfThere (Sorted s r) None
  no_decl s = none (Sorted s r)

  pub no_decl_view : (s : Sort) (i : Item) → IsNone declarations i.what
      → IfThere (Sorted s r) (decl_in (valued x ts i))
  no_decl_view s i e =
      subst (λ (o : Option Decl). IfThere (Sorted s r) o) (sym (undeclared x ts i e)) (none (Sorted s r))
