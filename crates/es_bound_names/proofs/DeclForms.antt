-- What a declaration adds, from what its parts add.
use Rattle.std.specs.Prelude.{ℕ, Bool, true, false, List, [], ◌∷◌, ◌++◌, Option, Some, None, slice_get}
use Rattle.std.specs.Option.{option_map}
use Rattle.std.specs.List.{flat_map}
use Rattle.std.proofs.Common.{◌≡◌, refl, sym, ap, ◌∙◌}
use Rattle.base.specs.declared.range.Range.{Range}
use Rattle.es_token.specs.declared.token.Token.{Token}
use Rattle.es_ast.specs.declared.ts.leaf.TsEntityName.{TsEntityName}
use Rattle.es_ast.specs.declared.ts.ts.TsType.{TsType}
use Rattle.es_ast.specs.declared.ast.Class.{Class}
use Rattle.es_ast.specs.declared.ast.Decl.{Decl, roll-Decl, out-Decl, out-roll-Decl}
use Rattle.es_ast.specs.declared.ast.Decl.TheVariants as vDecl
use Rattle.es_ast.specs.declared.ast.Expr.{Expr}
use Rattle.es_ast.specs.declared.ast.Function.{Function}
use Rattle.es_ast.specs.declared.ast.Pat.{Pat}
use Rattle.es_ast.specs.declared.ast.ModuleItem.{ModuleItem}
use Rattle.es_ast.specs.declared.leaf.VarDeclKind.{VarDeclKind}
use Rattle.es_token.specs.declared.token.TokenKind.{TokenKind}
use Rattle.es_token.specs.declared.token.TokenKind.TheVariants as k
use Rattle.grammar_theory.specs.Key.{same_kind}
use Rattle.es_ast.specs.declared.ts.ts.TsPart.{TsPart}
use Rattle.es_ast.specs.declared.ts.ts.TsPart.TheVariants as vPart
use Rattle.es_ast.specs.declared.ast.VarDeclarator.{VarDeclarator, roll-VarDeclarator, out-VarDeclarator, out-roll-VarDeclarator}
use Rattle.es_ast.specs.declared.ast.ClassMember.TheOpen.{Decl-F, VarDeclarator-F}
use Rattle.es_site.specs.Parts.{Whole}
use Rattle.es_lowering.specs.Value.{Value, given, behind, turns, optional, declarator_at, expr_at, type_at, type_params_at, type_member_at}
use Rattle.es_lowering.specs.Texts.{ident_of, str_of, token_of}
use Rattle.es_lowering.specs.Functions.{function}
use Rattle.es_lowering.specs.Classes.{class_}
use Rattle.es_lowering.specs.Statements.{Variables, decl_of, declarator_of, using_kind}
use Rattle.es_lowering.specs.TypedFunctions.{typed_function, typed_class}
use Rattle.es_lowering.specs.TypedParts.{heritage_in, marked_by}
use Rattle.es_lowering.specs.TypedStatements.{Declarable, enum_member, items_of}
use Rattle.es_lowering.specs.Operators.{listed, variable_kinds, is_kind_at}
use Rattle.es_view_statements.specs.decl.Decl as decl
use Rattle.es_view_statements.specs.decl.Declarable as d
use Rattle.es_view_statements.specs.decl.Declarator as declarator
use Rattle.es_view_statements.specs.decl.Variables as var
use Rattle.es_bound_names.specs.Names.{Names, ident_names, bound_names, class_names, function_names, declarator_names, variables_names, entity_names, names_by, declared_names}
use Rattle.es_bound_names.specs.Adds.{Adds, decls_of}
use Rattle.es_bound_names.proofs.Lists.{adds_more}
use Rattle.es_bound_names.proofs.Heads.{given_any, nothing}

-- ---- declarators
declarator_is : (old new : Names) (w : Whole VarDeclarator-F) → new ≡ old ++ bound_names w.name
    → Adds declarator_names old new (Some (roll-VarDeclarator w))
declarator_is old new w e = record {
  added = e ∙ ap (λ (m : Whole VarDeclarator-F). old ++ bound_names m.name) (sym (out-roll-VarDeclarator w));
}

pub adds_assigned : (r : Range) (o : Option Pat) (e : Option Expr) (old new : Names) → Adds bound_names old new o
    → Adds declarator_names old new (declarator.assigned r o e)
unfolding declarator.assigned
adds_assigned r None e old new a = record { added = tt }
adds_assigned r (Some pat) None old new a = record { added = tt }
adds_assigned r (Some pat) (Some value) old new a =
    declarator_is old new _ a.added

pub adds_pattern : (r : Range) (o : Option Pat) (old new : Names) → Adds bound_names old new o
    → Adds declarator_names old new (option_map (declarator_of r None) o)
adds_pattern r None old new a = record { added = tt }
adds_pattern r (Some pat) old new a =
    declarator_is old new _ a.added

typed_by : (span r : Range) (name : Option declarator.Marked) (definite : Bool) (value : Option (Option Expr))
    (t : Option (Option TsPart)) (old new : Names)
    → ((mark : Bool) (ty : Option TsPart) (r : Range)
    → Adds (λ (pat : declarator.Marked). bound_names (pat mark ty r)) old new name)
    → Adds declarator_names old new (given (given t (λ ty. marked_by name false ty span)) (λ pat.
    given value (λ value.
    Some (roll-VarDeclarator (record { name = pat; definite = definite; init = value; span = r })))))
typed_by span r name definite value None old new a = record { added = tt }
typed_by span r None definite value (Some ty) old new a = record { added = tt }
typed_by span r (Some pat) definite value (Some ty) old new a =
    given_any declarator_names value (λ value.
    declarator_is old new _ (a false ty span).added)

pub adds_typed : (span r : Range) (name : Option declarator.Marked) (definite : Bool) (ty value : Value)
    (old new : Names)
    → ((mark : Bool) (ty : Option TsPart) (r : Range)
    → Adds (λ (pat : declarator.Marked). bound_names (pat mark ty r)) old new name)
    → Adds declarator_names old new (declarator.typed span r name definite ty value)
unfolding declarator.typed
adds_typed span r name definite ty value old new a =
    typed_by span r name definite (optional expr_at value)
    (option_map (λ ty. option_map vPart.TypeAnn ty) (optional type_at ty)) old new a

-- ---- variables
pub adds_decls : (o : Option VarDeclarator) (os : Option (List VarDeclarator)) (old mid new : Names)
    → Adds declarator_names old mid o → Adds (flat_map declarator_names) mid new os
    → Adds (flat_map declarator_names) old new (decls_of o os)
unfolding decls_of
adds_decls o os old mid new a b = adds_more declarator_names old mid new o os a b

variables_are : (kind : VarDeclKind) (ds : Option (List VarDeclarator)) (old new : Names)
    → Adds (flat_map declarator_names) old new ds
    → Adds variables_names old new (given ds (λ decls. Some (kind, decls)))
variables_are kind None old new a = record { added = tt }
variables_are kind (Some decls) old new a = record { added = a.added }

pub adds_var : (word : Option Token) (o : Option VarDeclarator) (v : Value) (old new : Names)
    → Adds (flat_map declarator_names) old new (decls_of o (turns (λ turn. declarator_at turn 0) v))
    → Adds variables_names old new (var.var_of word o v)
unfolding var.var_of decls_of
adds_var word o v old new a =
    given_any variables_names (given (option_map (λ t. t.kind) word) (listed variable_kinds)) (λ kind.
    variables_are kind (given o (λ first.
    given (turns (λ turn. declarator_at turn 0) v) (λ others. Some (first ∷ others)))) old new a)

pub adds_using : (is_await : Bool) (o : Option VarDeclarator) (v : Value) (old new : Names)
    → Adds (flat_map declarator_names) old new (decls_of o (turns (λ turn. declarator_at turn 0) v))
    → Adds variables_names old new (var.using_of is_await o v)
unfolding var.using_of decls_of
adds_using is_await o v old new a =
    variables_are (using_kind is_await) (given o (λ first.
    given (turns (λ turn. declarator_at turn 0) v) (λ others. Some (first ∷ others)))) old new a

-- ---- declarations
decl_is : (d : Decl) (w : Whole Decl-F) (old new : Names) → new ≡ old ++ names_by w → roll-Decl w ≡ d
    → Adds declared_names old new (Some d)
unfolding declared_names
decl_is d w old new e rolls = record {
  added = e ∙ ap (λ m. old ++ names_by m) (sym (sym (ap out-Decl rolls) ∙ out-roll-Decl w));
}

pub adds_function : (r : Range) (o : Option Function) (old new : Names) → Adds function_names old new o
    → Adds declared_names old new (option_map (λ function. vDecl.Fn false function r) o)
adds_function r None old new a = record { added = tt }
adds_function r (Some f) old new a =
    decl_is _ (Decl-F.Decl::Fn false f r) old new a.added (vDecl.rolls-Fn false f r)

pub adds_class : (r : Range) (o : Option Class) (old new : Names) → Adds class_names old new o
    → Adds declared_names old new (option_map (λ class. vDecl.Class false class r) o)
adds_class r None old new a = record { added = tt }
adds_class r (Some c) old new a =
    decl_is _ (Decl-F.Decl::Class false c r) old new a.added (vDecl.rolls-Class false c r)

variables_decl : (declare : Bool) (r : Range) (o : Option Variables) (old new : Names)
    → Adds variables_names old new o
    → Adds declared_names old new (option_map (λ v. vDecl.Var declare v.0 v.1 r) o)
variables_decl declare r None old new a = record { added = tt }
variables_decl declare r (Some v) old new a =
    decl_is _ (Decl-F.Var declare v.0 v.1 r) old new a.added (vDecl.rolls-Var declare v.0 v.1 r)

pub adds_var_decl : (r : Range) (o : Option Variables) (old new : Names) → Adds variables_names old new o
    → Adds declared_names old new (decl.var_decl r o)
unfolding decl.var_decl
adds_var_decl r o old new a = variables_decl false r o old new a

pub adds_var_of : (r : Range) (word : Option Token) (o : Option VarDeclarator) (v : Value) (old new : Names)
    → Adds (flat_map declarator_names) old new (decls_of o (turns (λ turn. declarator_at turn 0) v))
    → Adds declared_names old new (decl.var_of r word o v)
unfolding decl.var_of decls_of
adds_var_of r word o v old new a =
    variables_decl false r _ old new
    (given_any variables_names (given (option_map (λ t. t.kind) word) (listed variable_kinds)) (λ kind.
    variables_are kind (given o (λ first.
    given (turns (λ turn. declarator_at turn 0) v) (λ others. Some (first ∷ others)))) old new a))

pub adds_using_of : (r : Range) (is_await : Bool) (o : Option VarDeclarator) (v : Value) (old new : Names)
    → Adds (flat_map declarator_names) old new (decls_of o (turns (λ turn. declarator_at turn 0) v))
    → Adds declared_names old new (decl.using_of r is_await o v)
unfolding decl.using_of decls_of
adds_using_of r is_await o v old new a =
    variables_decl false r _ old new
    (variables_are (using_kind is_await) (given o (λ first.
    given (turns (λ turn. declarator_at turn 0) v) (λ others. Some (first ∷ others)))) old new a)

pub adds_declared_variables : (r : Range) (o : Option Variables) (old new : Names) → Adds variables_names old new o
    → Adds declared_names old new (decl.declared_variables r o)
unfolding decl.declared_variables
adds_declared_variables r o old new a = variables_decl true r o old new a

-- ---- declarations that may stand behind `declare`
pub adds_declared : (r : Range) (o : Option Declarable) (old new : Names)
    → ((declare : Bool) (r : Range) → Adds (λ (decl : Declarable). declared_names (decl declare r)) old new o)
    → Adds declared_names old new (decl.declared r o)
unfolding decl.declared
adds_declared r None old new a = record { added = tt }
adds_declared r (Some decl) old new a = record { added = (a true r).added }

pub adds_declarable : (r : Range) (o : Option Declarable) (old new : Names)
    → ((declare : Bool) (r : Range) → Adds (λ (decl : Declarable). declared_names (decl declare r)) old new o)
    → Adds declared_names old new (option_map (λ decl. decl false r) o)
adds_declarable r None old new a = record { added = tt }
adds_declarable r (Some decl) old new a = record { added = (a false r).added }

module _ (declare : Bool) (r : Range) where
  abbrev Named : Declarable → Names
  Named decl = declared_names (decl declare r)

  -- a declaration with these names
  declarable_is : (make : Declarable) (w : Whole Decl-F) (old new : Names) → new ≡ old ++ names_by w
      → roll-Decl w ≡ make declare r → Adds Named old new (Some make)
  declarable_is make w old new e rolls = record { added = (decl_is (make declare r) w old new e rolls).added }

  pub adds_typed_function : (o : Option Function) (old new : Names) → Adds function_names old new o
      → Adds (λ (decl : Declarable). declared_names (decl declare r)) old new
      (option_map (λ function declare span. vDecl.Fn declare function span) o)
  adds_typed_function None old new a = record { added = tt }
  adds_typed_function (Some f) old new a =
      declarable_is _ (Decl-F.Decl::Fn declare f r) old new a.added (vDecl.rolls-Fn declare f r)

  pub adds_typed_class : (o : Option Class) (old new : Names) → Adds class_names old new o
      → Adds (λ (decl : Declarable). declared_names (decl declare r)) old new
      (option_map (λ class declare span. vDecl.Class declare class span) o)
  adds_typed_class None old new a = record { added = tt }
  adds_typed_class (Some c) old new a =
      declarable_is _ (Decl-F.Decl::Class declare c r) old new a.added (vDecl.rolls-Class declare c r)

  pub adds_interface : (x : List ℕ) (ts : List Token) (name : Option Token) (params extends members : Value)
      (old : Names)
      → Adds (λ (decl : Declarable). declared_names (decl declare r)) old old
      (d.interface_of x ts name params extends members)
  unfolding d.interface_of
  adds_interface x ts name params extends members old =
      given_any Named (option_map (ident_of x) name) (λ id.
      given_any Named (option_map (λ ps. option_map vPart.TypeParams ps) (optional type_params_at params)) (λ ps.
      given_any Named (heritage_in ts extends) (λ hs.
      given_any Named (option_map vPart.Members (turns (λ turn. type_member_at turn 0) members)) (λ body.
      declarable_is _ (Decl-F.TsInterface declare id ps hs (Some body) r) old old (nothing old)
      (vDecl.rolls-TsInterface declare id ps hs (Some body) r)))))

  pub adds_alias : (x : List ℕ) (name : Option Token) (params : Value) (ty : Option TsType) (old : Names)
      → Adds (λ (decl : Declarable). declared_names (decl declare r)) old old (d.alias_of x name params ty)
  unfolding d.alias_of
  adds_alias x name params ty old =
      given_any Named (option_map (ident_of x) name) (λ id.
      given_any Named (option_map (λ ps. option_map vPart.TypeParams ps) (optional type_params_at params)) (λ ps.
      given_any Named (option_map vPart.TypeAnn ty) (λ ty.
      declarable_is _ (Decl-F.TsTypeAlias declare id ps (Some ty) r) old old (nothing old)
      (vDecl.rolls-TsTypeAlias declare id ps (Some ty) r))))

  pub adds_enum : (x : List ℕ) (ts : List Token) (is_const : Bool) (name : Option Token) (members : Value)
      (old new : Names) → Adds ident_names old new (option_map (ident_of x) name)
      → Adds (λ (decl : Declarable). declared_names (decl declare r)) old new (d.enum_of x ts is_const name members)
  unfolding d.enum_of
  adds_enum x ts is_const None members old new a = record { added = tt }
  adds_enum x ts is_const (Some t) members old new a =
      given_any Named (turns (enum_member ts) members) (λ ms.
      declarable_is _ (Decl-F.TsEnum declare is_const (ident_of x t) ms r) old new a.added
      (vDecl.rolls-TsEnum declare is_const (ident_of x t) ms r))

  named_by : (kind : TokenKind) (name : Option TsEntityName) (items : Value) (old new : Names)
      → Adds entity_names old new name
      → Adds Named old new (given name (λ id.
      given (items_of items) (λ body.
      Some (λ declare r. vDecl.TsNamespace declare (same_kind kind k.ModuleWord) id body r))))
  named_by kind None items old new a = record { added = tt }
  named_by kind (Some id) items old new a =
      given_any Named (items_of items) (λ body.
      declarable_is _ (Decl-F.TsNamespace declare (same_kind kind k.ModuleWord) id body r) old new a.added
      (vDecl.rolls-TsNamespace declare (same_kind kind k.ModuleWord) id body r))

  pub adds_namespace : (word : Option Token) (name : Option TsEntityName) (items : Value) (old new : Names)
      → Adds entity_names old new name
      → Adds (λ (decl : Declarable). declared_names (decl declare r)) old new (d.namespace_of word name items)
  unfolding d.namespace_of
  adds_namespace word name items old new a =
      given_any Named (option_map (λ t. t.kind) word) (λ kind. named_by kind name items old new a)

  pub adds_module : (x : List ℕ) (ts : List Token) (name items : Value) (old : Names)
      → Adds (λ (decl : Declarable). declared_names (decl declare r)) old old (d.module_of x ts name items)
  unfolding d.module_of
  adds_module x ts name items old =
      given_any Named (option_map (str_of x) (token_of ts name)) (λ id.
      given_any Named (items_of items) (λ body.
      declarable_is _ (Decl-F.TsModule declare id (is_kind_at ts k.OpenBrace (behind name)) body r) old old
      (nothing old)
      (vDecl.rolls-TsModule declare id (is_kind_at ts k.OpenBrace (behind name)) body r)))

  global_by : (o : Option (List ModuleItem)) (old : Names)
      → Adds Named old old (option_map (λ body declare r. vDecl.TsGlobal declare body r) o)
  global_by None old = record { added = tt }
  global_by (Some body) old =
      declarable_is _ (Decl-F.TsGlobal declare body r) old old (nothing old) (vDecl.rolls-TsGlobal declare body r)

  pub adds_global : (items : Value) (old : Names)
      → Adds (λ (decl : Declarable). declared_names (decl declare r)) old old (d.global_of items)
  unfolding d.global_of
  adds_global items old = global_by (items_of items) old
