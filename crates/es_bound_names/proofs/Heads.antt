-- What the names of functions, classes and namespaces add.
use Rattle.std.specs.Prelude.{ℕ, Bool, true, false, List, [], ◌∷◌, ◌++◌, Option, Some, None, slice_get, if◌then◌else◌}
use Rattle.std.specs.Option.{option_map}
use Rattle.std.proofs.Common.{◌≡◌, refl, sym, ap, subst, ◌∙◌}
use Rattle.std.proofs.lemmas.List.{append-nil}
use Rattle.base.specs.declared.range.Range.{Range}
use Rattle.es_token.specs.declared.token.Token.{Token}
use Rattle.es_ast.specs.declared.ts.leaf.Ident.{Ident}
use Rattle.es_ast.specs.declared.ts.leaf.TsEntityName.{TsEntityName}
use Rattle.es_ast.specs.declared.ts.leaf.TsThisTypeOrIdent.{TsThisTypeOrIdent}
use Rattle.es_ast.specs.declared.ts.leaf.TsThisTypeOrIdent.TheVariants as vThis
use Rattle.es_ast.specs.declared.ts.ts.TsPart.{TsPart}
use Rattle.es_token.specs.declared.token.TokenKind.TheVariants as k
use Rattle.grammar_theory.specs.Key.{same_kind}
use Rattle.es_ast.specs.declared.ast.Class.{Class, roll-Class, out-Class, out-roll-Class}
use Rattle.es_ast.specs.declared.ast.Expr.{Expr}
use Rattle.es_ast.specs.declared.ast.ClassMember.{ClassMember}
use Rattle.es_ast.specs.declared.ast.Function.{Function, roll-Function, out-Function, out-roll-Function}
use Rattle.es_ast.specs.declared.ast.ClassMember.TheOpen.{Class-F, Function-F}
use Rattle.es_site.specs.Parts.{Whole}
use Rattle.es_ast.specs.declared.ast.Param.{Param}
use Rattle.es_ast.specs.declared.ast.Stmt.{Stmt}
use Rattle.es_lowering.specs.Value.{Value, Signature, absent, nil, more, token, node, given, group, turns, optional, expr_at, member_at, type_params_at, arguments_at}
use Rattle.es_lowering.specs.TypedParts.{heritage_in, body_in}
use Rattle.es_lowering.specs.Texts.{ident_of, token_of, own_name_of, this_or_name_of, ident_at}
use Rattle.es_view_expressions.specs.function.Class as class
use Rattle.es_view_expressions.specs.function.Head as head
use Rattle.es_view_types.specs.names.Entity as entity
use Rattle.es_bound_names.specs.Names.{Names, ident_names, own_names, class_names, function_names, entity_names, first_name}
use Rattle.es_bound_names.specs.Adds.{Adds}

pub nothing : (old : Names) → old ≡ old ++ []
nothing old = sym (append-nil old)

-- what is made of a name and of other parts
pub given_any : {A B : Type 0} (f : B → Names) {old new : Names} (o : Option A) {make : A → Option B}
    → ((it : A) → Adds f old new (make it)) → Adds f old new (given o make)
given_any f None a = record { added = tt }
given_any f (Some it) a = a it

given_names : {B : Type 0} (f : B → Names) {old new : Names} (o : Option (Option Ident))
    {make : Option Ident → Option B} → Adds own_names old new o
    → ((n : Option Ident) → new ≡ old ++ own_names n → Adds f old new (make n)) → Adds f old new (given o make)
given_names f None a b = record { added = tt }
given_names f (Some n) a b = b n a.added

-- ---- the name of a function or a class
module _ (x : List ℕ) (ts : List Token) where
  pub adds_own_none : (old : Names) → Adds own_names old old (own_name_of x ts absent)
  adds_own_none old = record { added = nothing old }

  pub adds_own_empty : (v : Value) (old : Names) → v ≡ nil → Adds own_names old old (own_name_of x ts v)
  adds_own_empty v old e =
      subst (λ (w : Value). Adds own_names old old (own_name_of x ts w)) (sym e) (record { added = nothing old })

  some_ident : (o : Option Token) (old new : Names) → Adds ident_names old new (option_map (ident_of x) o)
      → Adds own_names old new (option_map Some (option_map (ident_of x) o))
  some_ident None old new a = record { added = tt }
  some_ident (Some t) old new a = record { added = a.added }

  pub adds_own_first : (v u us : Value) (o : Option Token) (old new : Names) → v ≡ more u us → token_of ts u ≡ o
      → Adds ident_names old new (option_map (ident_of x) o) → Adds own_names old new (own_name_of x ts v)
  adds_own_first v u us o old new e is a =
      subst (λ (w : Value). Adds own_names old new (own_name_of x ts w)) (sym e)
      (some_ident (token_of ts u) old new
      (subst (λ (p : Option Token). Adds ident_names old new (option_map (ident_of x) p)) (sym is) a))

  pub adds_own_token : (n : ℕ) (old new : Names)
      → Adds ident_names old new (option_map (ident_of x) (slice_get ts n))
      → Adds own_names old new (own_name_of x ts (token n))
  adds_own_token n old new a = go (slice_get ts n) a
    where
      go : (o : Option Token) → Adds ident_names old new (option_map (ident_of x) o)
          → Adds own_names old new (option_map (λ (t : Token). Some (ident_of x t)) o)
      go None a = record { added = tt }
      go (Some t) a = record { added = a.added }

  abbrev Name : Type 0
  Name = Option (Option Ident)

  class_is : (w : Whole Class-F) (old new : Names) → new ≡ old ++ own_names w.ident
      → Adds class_names old new (Some (roll-Class w))
  class_is w old new e = record {
    added = e ∙ ap (λ (m : Whole Class-F). old ++ own_names m.ident) (sym (out-roll-Class w));
  }

  function_is : (w : Whole Function-F) (old new : Names) → new ≡ old ++ own_names w.ident
      → Adds function_names old new (Some (roll-Function w))
  function_is w old new e = record {
    added = e ∙ ap (λ (m : Whole Function-F). old ++ own_names m.ident) (sym (out-roll-Function w));
  }

  pub adds_plain_class : (r : Range) (v super members : Value) (old new : Names)
      → Adds own_names old new (own_name_of x ts v)
      → Adds class_names old new (class.plain_class x ts r v super members)
  unfolding class.plain_class
  adds_plain_class r v super members old new a =
      given_names class_names (own_name_of x ts v) a (λ n e.
      given_any class_names (optional expr_at super) (λ s.
      given_any class_names (turns (λ turn. member_at turn 0) members) (λ ms.
      class_is _ old new e)))

  pub adds_typed_class : (r : Range) (is_abstract : Bool) (v params extends implements members : Value)
      (old new : Names) → Adds own_names old new (own_name_of x ts v)
      → Adds class_names old new (class.typed_class x ts r is_abstract v params extends implements members)
  unfolding class.typed_class
  adds_typed_class r is_abstract v params extends implements members old new a =
      given_names class_names (own_name_of x ts v) a (λ n e.
      given_any class_names (option_map _ (optional type_params_at params)) (λ ps.
      given_any class_names (optional expr_at extends) (λ s.
      given_any class_names (option_map _ (optional arguments_at (group extends 1))) (λ args.
      given_any class_names (heritage_in ts implements) (λ hs.
      given_any class_names (turns (λ turn. member_at turn 0) members) (λ ms.
      class_is _ old new e))))))

  pub adds_plain_function : (r : Range) (is_async is_generator : Bool) (v : Value) (params : Option (List Param))
      (body : Option Stmt) (old new : Names) → Adds own_names old new (own_name_of x ts v)
      → Adds function_names old new (head.plain_function x ts r is_async is_generator v params body)
  unfolding head.plain_function
  adds_plain_function r is_async is_generator v params body old new a =
      given_names function_names (own_name_of x ts v) a (λ n e.
      given_any function_names params (λ ps.
      given_any function_names body (λ b.
      function_is _ old new e)))

  pub adds_typed_function : (r : Range) (is_async is_generator : Bool) (v : Value) (signature : Option Signature)
      (body : Value) (old new : Names) → Adds own_names old new (own_name_of x ts v)
      → Adds function_names old new (head.typed_function x ts r is_async is_generator v signature body)
  unfolding head.typed_function
  adds_typed_function r is_async is_generator v signature body old new a =
      given_names function_names (own_name_of x ts v) a (λ n e.
      given_any function_names signature (λ s.
      given_any function_names (body_in body) (λ b.
      function_is _ old new e)))

  -- ---- the first name of a name with dots
  by_this : (b : Bool) (t : Token) → b ≡ true → (old : Names)
      → Adds first_name old old (Some (if b then vThis.This t.range else vThis.Ident (ident_of x t)))
  by_this true t e old = record { added = nothing old }
  by_this false t e old = let bad : ⊥ = cc in absurd bad

  by_name : (b : Bool) (t : Token) → b ≡ false → (old new : Names)
      → Adds ident_names old new (Some (ident_of x t))
      → Adds first_name old new (Some (if b then vThis.This t.range else vThis.Ident (ident_of x t)))
  by_name true t e old new a = let bad : ⊥ = cc in absurd bad
  by_name false t e old new a = record { added = a.added }

  pub adds_this : (o : Option Token) (t : Token) (old : Names) → Some t ≡ o → same_kind t.kind k.ThisWord ≡ true
      → Adds first_name old old (option_map (this_or_name_of x) o)
  unfolding this_or_name_of
  adds_this o t old is e =
      subst (λ (p : Option Token). Adds first_name old old (option_map (this_or_name_of x) p)) is
      (by_this (same_kind t.kind k.ThisWord) t e old)

  pub adds_first : (o : Option Token) (t : Token) (old new : Names) → Some t ≡ o
      → same_kind t.kind k.ThisWord ≡ false → Adds ident_names old new (option_map (ident_of x) o)
      → Adds first_name old new (option_map (this_or_name_of x) o)
  unfolding this_or_name_of
  adds_first o t old new is e a =
      subst (λ (p : Option Token). Adds first_name old new (option_map (this_or_name_of x) p)) is
      (by_name (same_kind t.kind k.ThisWord) t e old new
      (subst (λ (p : Option Token). Adds ident_names old new (option_map (ident_of x) p)) (sym is) a))

  pub adds_entity : (r : Range) (o : Option Token) (rest : Value) (old new : Names)
      → Adds first_name old new (option_map (this_or_name_of x) o)
      → Adds entity_names old new (entity.names x ts r o rest)
  unfolding entity.names
  adds_entity r o rest old new a = go (option_map (this_or_name_of x) o) a
    where
      go : (left : Option TsThisTypeOrIdent) → Adds first_name old new left
          → Adds entity_names old new (given left (λ left.
          given (turns (λ turn. ident_at x ts turn 0) rest) (λ rest.
          Some (record { left = left; rest = rest; span = r }))))
      go None a = record { added = tt }
      go (Some left) a = given_any entity_names (turns (λ turn. ident_at x ts turn 0) rest)
          (λ rest. record { added = a.added })
