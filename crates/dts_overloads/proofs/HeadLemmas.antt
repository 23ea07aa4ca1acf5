-- Functions and declarations in lists.
use Rattle.std.specs.Prelude.{ℕ, Bool, true, false, List, [], ◌∷◌, Option, Some, None, option_map, is_some, slice_get}
use Rattle.std.proofs.Common.{◌≡◌, refl, sym, ap, subst, ◌∙◌}
use Rattle.base.specs.declared.range.Range.{Range}
use Rattle.es_token.specs.declared.token.Token.{Token}
use Rattle.es_ast.specs.declared.ts.leaf.Ident.{Ident}
use Rattle.es_ast.specs.declared.ts.leaf.Str.{Str}
use Rattle.es_ast.specs.declared.ts.leaf.TsEntityName.{TsEntityName}
use Rattle.es_ast.specs.declared.ts.ts.TsPart.{TsPart}
use Rattle.es_ast.specs.declared.ts.ts.TsPart.TheVariants as vPart
use Rattle.es_ast.specs.declared.ts.ts.TsType.{TsType}
use Rattle.es_ast.specs.declared.leaf.VarDeclKind.{VarDeclKind}
use Rattle.es_ast.specs.declared.ast.Class.{Class}
use Rattle.es_ast.specs.declared.ast.Decl.{Decl}
use Rattle.es_ast.specs.declared.ast.Decl.TheVariants as vDecl
use Rattle.es_ast.specs.declared.ast.Function.{Function, roll-Function}
use Rattle.es_ast.specs.declared.ast.ModuleItem.{ModuleItem}
use Rattle.es_ast.specs.declared.ast.Param.{Param}
use Rattle.es_ast.specs.declared.ast.Stmt.{Stmt}
use Rattle.es_ast.specs.declared.ast.TsEnumMember.{TsEnumMember}
use Rattle.es_ast.specs.declared.ast.VarDeclarator.{VarDeclarator}
use Rattle.es_ast.specs.declared.ast.ClassMember.TheOpen.{Decl-F, Function-F}
use Rattle.es_site.specs.Parts.{Whole}
use Rattle.es_lowering.specs.Value.{Value, Signature, absent, nil, more, token, node, given, as_group, optional, turns, behind, type_params_at}
use Rattle.es_lowering.specs.Texts.{ident_of, ident_at, token_at, token_of, own_name_of, str_of}
use Rattle.es_lowering.specs.Functions.{function_of}
use Rattle.es_lowering.specs.Statements.{Variables, decl_of, using_kind}
use Rattle.es_lowering.specs.TypedParts.{body_in, heritage_in}
use Rattle.es_lowering.specs.TypedFunctions.{typed_function_of}
use Rattle.es_lowering.specs.TypedStatements.{Declarable, enum_member, items_of}
use Rattle.es_lowering.specs.Lowering.{build, packed}
use Rattle.es_syntax.specs.declared.entry.What.{What}
use Rattle.es_syntax.specs.declared.entry.What.TheVariants as what
use Rattle.es_syntax.specs.declared.cursor.Item.{Item}
use Rattle.es_grammar.specs.declared.rows.NodeKind.{NodeKind}
use Rattle.es_syntax.specs.Held.{held, made, parts_of, valued, token_there}
use Rattle.es_view_expressions.specs.function.Head as function
use Rattle.es_view_statements.specs.decl.Decl as decl
use Rattle.es_view_statements.specs.decl.Declarable as declarable
use Rattle.dts_rules.specs.Ranges.{Name, unnamed, text, Head, SeenDecl, SeenFunction, decl_head, function_name, seen_decl, seen_function}
use Rattle.dts_rules.proofs.Listed.{at_seen_decl, at_seen_function}
use Rattle.dts_overloads.specs.declared.names.Name.{Name as AName}
use Rattle.dts_overloads.specs.declared.names.Name.TheVariants as name
use Rattle.dts_overloads.specs.declared.heads.Head.{Head as AHead}
use Rattle.dts_overloads.specs.Names.{name_of, spelling, CallsFunction}
use Rattle.dts_overloads.specs.Heads.{heads_of, HasBody, HeadsFunction, IsHead, HeadsDecl, HeadsDeclarable}

-- ---- names of functions
abbrev or_empty : Option (List ℕ) → List ℕ
or_empty (Some s) = s
or_empty None = []

module _ (x : List ℕ) (ts : List Token) where
  pub group_unnamed : (v : Value) → v ≡ nil → CallsFunction name.Unnamed (optional (ident_at x ts) v)
  group_unnamed v e =
      subst (λ (w : Value). CallsFunction name.Unnamed (optional (ident_at x ts) w)) (sym e) (record { calls = refl })

  ident_named : (o : Option Token) (t : List ℕ) → spelling x o ≡ Some t
      → CallsFunction (name.Text t) (option_map (λ t. Some (ident_of x t)) o)
  unfolding ident_of
  ident_named None t e = record { calls = tt }
  ident_named (Some tok) t e = record { calls = ap (λ (o : Option (List ℕ)). text (or_empty o)) e }

  some_named : (o : Option Token) (t : List ℕ) → spelling x o ≡ Some t
      → CallsFunction (name.Text t) (option_map Some (option_map (ident_of x) o))
  unfolding ident_of
  some_named None t e = record { calls = tt }
  some_named (Some tok) t e = record { calls = ap (λ (o : Option (List ℕ)). text (or_empty o)) e }

  pub group_named : (v a vs : Value) (n : ℕ) (t : List ℕ) → v ≡ more a vs → token_at ts v 0 ≡ slice_get ts n
      → spelling x (slice_get ts n) ≡ Some t → CallsFunction (name.Text t) (optional (ident_at x ts) v)
  group_named v a vs n t e f g =
      subst (λ (w : Value). CallsFunction (name.Text t) (optional (ident_at x ts) w)) (sym e)
      (some_named (token_at ts (more a vs) 0) t
      (ap (spelling x) (ap (λ (w : Value). token_at ts w 0) (sym e) ∙ f) ∙ g))

  pub token_named : (v : Value) (n : ℕ) (t : List ℕ) → token_of ts v ≡ slice_get ts n
      → spelling x (slice_get ts n) ≡ Some t → CallsFunction (name.Text t) (own_name_of x ts v)
  token_named (token k) n t e g = ident_named (slice_get ts k) t (ap (spelling x) e ∙ g)
  token_named absent n t e g = let no : None ≡ Some t = ap (spelling x) e ∙ g in let bad : ⊥ = cc in absurd bad
  token_named nil n t e g = let no : None ≡ Some t = ap (spelling x) e ∙ g in let bad : ⊥ = cc in absurd bad
  token_named (more a others) n t e g = let no : None ≡ Some t = ap (spelling x) e ∙ g in let bad : ⊥ = cc in absurd bad
  token_named (node a b m) n t e g = let no : None ≡ Some t = ap (spelling x) e ∙ g in let bad : ⊥ = cc in absurd bad

  no_token : (n : AName) (o : Option Token) → o ≡ None → CallsFunction n (option_map (λ t. Some (ident_of x t)) o)
  no_token n None e = record { calls = tt }
  no_token n (Some t) e = let bad : ⊥ = cc in absurd bad

  pub other_named : (v g : Value) (n : AName) → token_of ts v ≡ None → g ≡ as_group v
      → CallsFunction n (optional (ident_at x ts) g) → CallsFunction n (own_name_of x ts v)
  other_named (token k) g n e f c = no_token n (slice_get ts k) e
  other_named absent g n e f c = subst (λ (w : Value). CallsFunction n (optional (ident_at x ts) w)) f c
  other_named nil g n e f c = subst (λ (w : Value). CallsFunction n (optional (ident_at x ts) w)) f c
  other_named (more a others) g n e f c = subst (λ (w : Value). CallsFunction n (optional (ident_at x ts) w)) f c
  other_named (node a b m) g n e f c = subst (λ (w : Value). CallsFunction n (optional (ident_at x ts) w)) f c

  pub absent_named : CallsFunction name.Unnamed (own_name_of x ts absent)
  absent_named = record { calls = refl }

  -- ---- bodies
  pub no_body : (v : Value) → v ≡ nil → HasBody false (body_in v)
  no_body v e = subst (λ (w : Value). HasBody false (body_in w)) (sym e) (record { has = refl })

  some_body : (o : Option Stmt) → HasBody true (option_map Some o)
  some_body None = record { has = tt }
  some_body (Some s) = record { has = refl }

  module _ (v vs : Value) (i : Item) (e : v ≡ more (valued x ts i) vs) where
    by_first : (b : Bool) (w : What) → i.what ≡ w → HasBody b (body_in (more (made x ts w i.from i.to
        (held x ts i.parts.entries.now) (parts_of x ts i.parts.entries.now)) vs)) → HasBody b (body_in v)
    by_first b w is h =
        subst (λ (u : Value). HasBody b (body_in u)) (sym e)
        (subst (λ (w : What). HasBody b (body_in (more (made x ts w i.from i.to
        (held x ts i.parts.entries.now) (parts_of x ts i.parts.entries.now)) vs))) (sym is) h)

    pub node_body : (label : NodeKind) → i.what ≡ what.Node label → HasBody true (body_in v)
    node_body label is = by_first true _ is (some_body _)

    pub leaf_body : i.what ≡ what.Leaf → HasBody false (body_in v)
    leaf_body is = by_first false _ is (record { has = refl })

    packed_body : (us : List Value) → HasBody false (body_in (more (packed us) vs))
    packed_body [] = record { has = refl }
    packed_body (u ∷ us) = record { has = refl }

    pub parts_body : i.what ≡ what.Parts → HasBody false (body_in v)
    unfolding held
    parts_body is = by_first false _ is (packed_body _)

-- ---- functions
fn_seen : (w : Whole Function-F) → (seen_function (roll-Function w)).ident ≡ w.ident
fn_seen w = ap (λ (s : SeenFunction). s.ident) (at_seen_function w)

pub body_seen : (ident : Option Ident) (is_async is_generator : Bool) (type_params : Option TsPart) (params : List Param)
    (return_type : Option TsPart) (body : Option Stmt) (span : Range)
    → (seen_function (roll-Function (record {
      ident = ident;
      is_async = is_async;
      is_generator = is_generator;
      type_params = type_params;
      params = params;
      return_type = return_type;
      body = body;
      span = span;
    }))).has_body ≡ is_some body
body_seen ident is_async is_generator type_params params return_type None span =
    ap (λ (s : SeenFunction). s.has_body) (at_seen_function (record {
      ident = ident;
      is_async = is_async;
      is_generator = is_generator;
      type_params = type_params;
      params = params;
      return_type = return_type;
      body = None;
      span = span;
    }))
body_seen ident is_async is_generator type_params params return_type (Some body) span =
    ap (λ (s : SeenFunction). s.has_body) (at_seen_function (record {
      ident = ident;
      is_async = is_async;
      is_generator = is_generator;
      type_params = type_params;
      params = params;
      return_type = return_type;
      body = Some body;
      span = span;
    }))

abbrev made_of : Name → Bool → Range → Option Head
made_of name has_body span = Some (record { name = name; has_body = has_body; span = span })

head_is : (a b : Name) (c d : Bool) (span : Range) → a ≡ b → c ≡ d → made_of a c span ≡ made_of b d span
head_is a b c d span e f =
    ap (λ (n : Name). made_of n c span) e ∙ ap (λ (h : Bool). made_of b h span) f

module _ (x : List ℕ) (ts : List Token) (r span : Range) (it : AName) where
  pub heads_plain : (is_async is_generator : Bool) (v : Value) (params : Option (List Param)) (body : Option Stmt)
      → CallsFunction it (own_name_of x ts v)
      → HeadsFunction (Some (record { name = it; has_body = true; span = span })) span
      (function.plain_function x ts r is_async is_generator v params body)
  unfolding function.plain_function
  heads_plain is_async is_generator v params body c = go (own_name_of x ts v) params body c
    where
      go : (o : Option (Option Ident)) (params : Option (List Param)) (body : Option Stmt) → CallsFunction it o
          → HeadsFunction (Some (record { name = it; has_body = true; span = span })) span
          (given o (λ name. given params (λ params. given body (λ body.
          Some (function_of is_async is_generator r name params body)))))
      go None params body c = record { heads = tt }
      go (Some name) None body c = record { heads = tt }
      go (Some name) (Some params) None c = record { heads = tt }
      go (Some name) (Some params) (Some body) c = record {
        heads = head_is _ _ _ _ span (ap function_name (fn_seen _) ∙ c.calls) (body_seen name is_async is_generator None params None (Some body) r);
      }

  pub heads_typed : (is_async is_generator there : Bool) (v : Value) (signature : Option Signature) (b : Value)
      → CallsFunction it (own_name_of x ts v) → HasBody there (body_in b)
      → HeadsFunction (Some (record { name = it; has_body = there; span = span })) span
      (function.typed_function x ts r is_async is_generator v signature b)
  unfolding function.typed_function
  heads_typed is_async is_generator there v signature b c h =
      go (own_name_of x ts v) signature (body_in b) c h
    where
      go : (o : Option (Option Ident)) (signature : Option Signature) (body : Option (Option Stmt))
          → CallsFunction it o → HasBody there body
          → HeadsFunction (Some (record { name = it; has_body = there; span = span })) span
          (given o (λ name. given signature (λ signature. given body (λ body.
          Some (typed_function_of is_async is_generator r name signature body)))))
      go None signature body c h = record { heads = tt }
      go (Some name) None body c h = record { heads = tt }
      go (Some name) (Some signature) None c h = record { heads = tt }
      go (Some name) (Some signature) (Some body) c h = record {
        heads = head_is _ _ _ _ span (ap function_name (fn_seen _) ∙ c.calls)
            (body_seen name is_async is_generator signature.0 signature.1 signature.2 body r ∙ h.has);
      }

-- ---- declarations
module _ (span : Range) where
  fn_head : (declare : Bool) (f : Function) (r : Range) (head : Option AHead)
      → Some (record { name = function_name (seen_function f).ident; has_body = (seen_function f).has_body; span = span })
      ≡ heads_of head → IsHead head span r (vDecl.Fn declare f r)
  fn_head declare f r head e =
      let s = ap seen_decl (sym (vDecl.rolls-Fn declare f r)) ∙ at_seen_decl (Decl-F.Decl::Fn declare f r) in
      (ap (λ (s : SeenDecl). decl_head s.function span) s ∙ e, ap (λ (s : SeenDecl). s.span) s)

  class_head : (declare : Bool) (c : Class) (r : Range) → IsHead None span r (vDecl.Class declare c r)
  class_head declare c r =
      let s = ap seen_decl (sym (vDecl.rolls-Class declare c r)) ∙ at_seen_decl (Decl-F.Decl::Class declare c r) in
      (ap (λ (s : SeenDecl). decl_head s.function span) s, ap (λ (s : SeenDecl). s.span) s)

  var_head : (declare : Bool) (kind : VarDeclKind) (decls : List VarDeclarator) (r : Range)
      → IsHead None span r (vDecl.Var declare kind decls r)
  var_head declare kind decls r =
      let s = ap seen_decl (sym (vDecl.rolls-Var declare kind decls r))
      ∙ at_seen_decl (Decl-F.Var declare kind decls r) in
      (ap (λ (s : SeenDecl). decl_head s.function span) s, ap (λ (s : SeenDecl). s.span) s)

  interface_head : (declare : Bool) (id : Ident) (params extends body : Option TsPart) (r : Range)
      → IsHead None span r (vDecl.TsInterface declare id params extends body r)
  interface_head declare id params extends body r =
      let s = ap seen_decl (sym (vDecl.rolls-TsInterface declare id params extends body r))
      ∙ at_seen_decl (Decl-F.TsInterface declare id params extends body r) in
      (ap (λ (s : SeenDecl). decl_head s.function span) s, ap (λ (s : SeenDecl). s.span) s)

  alias_head : (declare : Bool) (id : Ident) (params ty : Option TsPart) (r : Range)
      → IsHead None span r (vDecl.TsTypeAlias declare id params ty r)
  alias_head declare id params ty r =
      let s = ap seen_decl (sym (vDecl.rolls-TsTypeAlias declare id params ty r))
      ∙ at_seen_decl (Decl-F.TsTypeAlias declare id params ty r) in
      (ap (λ (s : SeenDecl). decl_head s.function span) s, ap (λ (s : SeenDecl). s.span) s)

  enum_head : (declare is_const : Bool) (id : Ident) (members : List TsEnumMember) (r : Range)
      → IsHead None span r (vDecl.TsEnum declare is_const id members r)
  enum_head declare is_const id members r =
      let s = ap seen_decl (sym (vDecl.rolls-TsEnum declare is_const id members r))
      ∙ at_seen_decl (Decl-F.TsEnum declare is_const id members r) in
      (ap (λ (s : SeenDecl). decl_head s.function span) s, ap (λ (s : SeenDecl). s.span) s)

  namespace_head : (declare is_module : Bool) (id : TsEntityName) (body : List ModuleItem) (r : Range)
      → IsHead None span r (vDecl.TsNamespace declare is_module id body r)
  namespace_head declare is_module id body r =
      let s = ap seen_decl (sym (vDecl.rolls-TsNamespace declare is_module id body r))
      ∙ at_seen_decl (Decl-F.TsNamespace declare is_module id body r) in
      (ap (λ (s : SeenDecl). decl_head s.function span) s, ap (λ (s : SeenDecl). s.span) s)

  module_head : (declare : Bool) (id : Str) (has_body : Bool) (body : List ModuleItem) (r : Range)
      → IsHead None span r (vDecl.TsModule declare id has_body body r)
  module_head declare id has_body body r =
      let s = ap seen_decl (sym (vDecl.rolls-TsModule declare id has_body body r))
      ∙ at_seen_decl (Decl-F.TsModule declare id has_body body r) in
      (ap (λ (s : SeenDecl). decl_head s.function span) s, ap (λ (s : SeenDecl). s.span) s)

  global_head : (declare : Bool) (body : List ModuleItem) (r : Range)
      → IsHead None span r (vDecl.TsGlobal declare body r)
  global_head declare body r =
      let s = ap seen_decl (sym (vDecl.rolls-TsGlobal declare body r)) ∙ at_seen_decl (Decl-F.TsGlobal declare body r) in
      (ap (λ (s : SeenDecl). decl_head s.function span) s, ap (λ (s : SeenDecl). s.span) s)

  -- ---- after `declare` or not
  pub declarable_same : (head : Option AHead) (a b : Option Declarable) → a ≡ b → HeadsDeclarable head span b
      → HeadsDeclarable head span a
  declarable_same head a b e h = subst (HeadsDeclarable head span) (sym e) h

  pub declarable_fn : (head : Option AHead) (a b : Option Function) → a ≡ b → HeadsFunction head span b
      → HeadsDeclarable head span (option_map (λ function declare r. vDecl.Fn declare function r) a)
  declarable_fn head a b e h = go a (subst (HeadsFunction head span) (sym e) h)
    where
      go : (o : Option Function) → HeadsFunction head span o
          → HeadsDeclarable head span (option_map (λ function declare r. vDecl.Fn declare function r) o)
      go None h = record { heads = tt }
      go (Some f) h = record { heads = λ declare r. fn_head declare f r head h.heads }

  no_declarable : {A : Type 0} (o : Option A) (make : A → Option Declarable)
      → ((a : A) → HeadsDeclarable None span (make a)) → HeadsDeclarable None span (given o make)
  no_declarable None make h = record { heads = tt }
  no_declarable (Some a) make h = h a

  last_declarable : {A : Type 0} (o : Option A) (make : A → Declarable)
      → ((a : A) (declare : Bool) (r : Range) → IsHead None span r (make a declare r))
      → HeadsDeclarable None span (given o (λ a. Some (make a)))
  last_declarable None make h = record { heads = tt }
  last_declarable (Some a) make h = record { heads = h a }

  mapped_declarable : {A : Type 0} (o : Option A) (make : A → Declarable)
      → ((a : A) (declare : Bool) (r : Range) → IsHead None span r (make a declare r))
      → HeadsDeclarable None span (option_map make o)
  mapped_declarable None make h = record { heads = tt }
  mapped_declarable (Some a) make h = record { heads = h a }

  pub declarable_class : (o : Option Class)
      → HeadsDeclarable None span (option_map (λ class declare r. vDecl.Class declare class r) o)
  declarable_class o = mapped_declarable o _ (λ c declare r. class_head declare c r)

  module _ (x : List ℕ) (ts : List Token) where
    pub declarable_interface : (o : Option Token) (a b c : Value)
        → HeadsDeclarable None span (declarable.interface_of x ts o a b c)
    unfolding declarable.interface_of
    declarable_interface o a b c =
        no_declarable (option_map (ident_of x) o) _ (λ id. no_declarable _ _ (λ params.
        no_declarable (heritage_in ts b) _ (λ extends.
        last_declarable _ (λ body declare r. vDecl.TsInterface declare id params extends (Some body) r)
        (λ body declare r. interface_head declare id params extends (Some body) r))))

    pub declarable_alias : (o : Option Token) (a : Value) (ty : Option TsType)
        → HeadsDeclarable None span (declarable.alias_of x o a ty)
    unfolding declarable.alias_of
    declarable_alias o a ty =
        no_declarable (option_map (ident_of x) o) _ (λ id.
        no_declarable (option_map (λ ps. option_map vPart.TypeParams ps) (optional type_params_at a)) _ (λ params.
        last_declarable (option_map vPart.TypeAnn ty) (λ ty declare r. vDecl.TsTypeAlias declare id params (Some ty) r)
        (λ ty declare r. alias_head declare id params (Some ty) r)))

    pub declarable_enum : (is_const : Bool) (o : Option Token) (a : Value)
        → HeadsDeclarable None span (declarable.enum_of x ts is_const o a)
    unfolding declarable.enum_of
    declarable_enum is_const o a =
        no_declarable (option_map (ident_of x) o) _ (λ id.
        last_declarable _ (λ members declare r. vDecl.TsEnum declare is_const id members r)
        (λ members declare r. enum_head declare is_const id members r))

    pub declarable_module : (a b : Value) → HeadsDeclarable None span (declarable.module_of x ts a b)
    unfolding declarable.module_of
    declarable_module a b =
        no_declarable _ _ (λ id.
        last_declarable (items_of b) _ (λ body declare r. module_head declare id _ body r))

  pub declarable_namespace : (o : Option Token) (id : Option TsEntityName) (a : Value)
      → HeadsDeclarable None span (declarable.namespace_of o id a)
  unfolding declarable.namespace_of
  declarable_namespace o id a =
      no_declarable _ _ (λ kind. no_declarable id _ (λ id.
      last_declarable (items_of a) _ (λ body declare r. namespace_head declare _ id body r)))

  pub declarable_global : (a : Value) → HeadsDeclarable None span (declarable.global_of a)
  unfolding declarable.global_of
  declarable_global a = mapped_declarable (items_of a) _ (λ body declare r. global_head declare body r)

  -- ---- each form
  module _ (r : Range) where
    pub decl_same : (head : Option AHead) (a b : Option Decl) → a ≡ b → HeadsDecl head span r b
        → HeadsDecl head span r a
    decl_same head a b e h = subst (HeadsDecl head span r) (sym e) h

    pub decl_fn : (head : Option AHead) (a b : Option Function) → a ≡ b → HeadsFunction head span b
        → HeadsDecl head span r (option_map (λ function. vDecl.Fn false function r) a)
    decl_fn head a b e h = go a (subst (HeadsFunction head span) (sym e) h)
      where
        go : (o : Option Function) → HeadsFunction head span o
            → HeadsDecl head span r (option_map (λ function. vDecl.Fn false function r) o)
        go None h = record { heads = tt }
        go (Some f) h = record { heads = fn_head false f r head h.heads }

    mapped_decl : {A : Type 0} (o : Option A) (make : A → Decl) → ((a : A) → IsHead None span r (make a))
        → HeadsDecl None span r (option_map make o)
    mapped_decl None make h = record { heads = tt }
    mapped_decl (Some a) make h = record { heads = h a }

    pub decl_class : (o : Option Class)
        → HeadsDecl None span r (option_map (λ class. vDecl.Class false class r) o)
    decl_class o = mapped_decl o _ (λ c. class_head false c r)

    pub decl_variables : (o : Option Variables) → HeadsDecl None span r (decl.var_decl r o)
    unfolding decl.var_decl
    decl_variables o = mapped_decl o _ (λ v. var_head false v.0 v.1 r)

    pub decl_var : (o : Option Token) (first : Option VarDeclarator) (a : Value)
        → HeadsDecl None span r (decl.var_of r o first a)
    unfolding decl.var_of
    decl_var o first a = mapped_decl _ _ (λ v. var_head false v.0 v.1 r)

    pub decl_using : (b : Bool) (first : Option VarDeclarator) (a : Value)
        → HeadsDecl None span r (decl.using_of r b first a)
    unfolding decl.using_of
    decl_using b first a = mapped_decl _ _ (λ v. var_head false v.0 v.1 r)

    pub decl_declared_variables : (o : Option Variables) → HeadsDecl None span r (decl.declared_variables r o)
    unfolding decl.declared_variables
    decl_declared_variables o = mapped_decl o _ (λ v. var_head true v.0 v.1 r)

    declared_by : (declare : Bool) (head : Option AHead) (o : Option Declarable) → HeadsDeclarable head span o
        → HeadsDecl head span r (option_map (λ decl. decl declare r) o)
    declared_by declare head None h = record { heads = tt }
    declared_by declare head (Some d) h = record { heads = h.heads declare r }

    pub decl_declared : (head : Option AHead) (o : Option Declarable) → HeadsDeclarable head span o
        → HeadsDecl head span r (decl.declared r o)
    unfolding decl.declared
    decl_declared head o h = declared_by true head o h

    pub decl_declarable : (head : Option AHead) (o : Option Declarable) → HeadsDeclarable head span o
        → HeadsDecl head span r (option_map (λ decl. decl false r) o)
    decl_declarable head o h = declared_by false head o h
