-- What each form of a property is.
use Rattle.std.specs.Prelude.{ℕ, Bool, true, false, List, Option, Some, None, option_map, is_some, unwrap_or, slice_get, if◌then◌else◌}
use Rattle.std.proofs.Common.{◌≡◌, refl, sym, ap, subst, ◌∙◌}
use denote.Enum.Bare.{same_true}
use Rattle.base.specs.declared.range.Range.{Range}
use Rattle.es_token.specs.contracts.token.TokenKind.{the_type}
use Rattle.es_token.specs.declared.token.Token.{Token}
use Rattle.es_token.specs.declared.token.TokenKind.{TokenKind}
use Rattle.es_token.specs.declared.token.TokenKind.TheVariants as k
use Rattle.grammar_theory.specs.Key.{same_kind}
use Rattle.es_ast.specs.declared.ts.leaf.MethodKind.{MethodKind}
use Rattle.es_ast.specs.declared.ts.leaf.MethodKind.TheVariants as vMethod
use Rattle.es_ast.specs.declared.ast.Expr.{Expr}
use Rattle.es_ast.specs.declared.ast.Function.{Function, out-Function, out-roll-Function}
use Rattle.es_ast.specs.declared.ast.Param.{Param}
use Rattle.es_ast.specs.declared.ast.Prop.{Prop, roll-Prop, out-Prop, out-roll-Prop}
use Rattle.es_ast.specs.declared.ast.Prop.TheVariants as vProp
use Rattle.es_ast.specs.declared.ast.Stmt.{Stmt}
use Rattle.es_ast.specs.declared.ast.ClassMember.TheOpen.{Function-F, Prop-F}
use Rattle.es_site.specs.Parts.{Whole}
use Rattle.es_lowering.specs.Value.{Signature, given}
use Rattle.es_lowering.specs.Texts.{ident_of}
use Rattle.es_lowering.specs.Operators.{listed, accessor_kinds}
use Rattle.es_lowering.specs.Functions.{Key, function_of}
use Rattle.es_lowering.specs.TypedFunctions.{typed_function_of}
use Rattle.es_syntax.specs.declared.cursor.Item.{Item}
use Rattle.es_syntax.specs.Held.{valued}
use Rattle.es_syntax.specs.Roles.{expr_in, stmt_in}
use Rattle.es_view_expressions.specs.member.Prop as view
use Rattle.cjs_facts.specs.Looks.{Property as AProperty, Look, name_by, is_harmless, property, property_in, returned, returns_harmless}
use Rattle.cjs_facts.specs.Looks.{returned_by, is_method_export, method_function}
use Rattle.cjs_looks.specs.declared.looks.Look.{Look as SeenLook}
use Rattle.cjs_looks.specs.declared.looks.Look.TheVariants as seen
use Rattle.cjs_looks.specs.declared.kind.Body.{Body}
use Rattle.cjs_looks.specs.declared.kind.Body.TheVariants as vBody
use Rattle.cjs_looks.specs.Odd.{All, Linked}
use Rattle.cjs_looks.specs.Kinds.{IsObject, IsParen, IsNumber, IsSequence, IsSpread, IsFunction, IsAssignment, body_of, body_by}
use Rattle.cjs_looks.specs.Seen.{Tells, look_of, name_of}
use Rattle.cjs_looks.specs.declared.objects.properties.Property.{Property}
use Rattle.cjs_looks.specs.objects.Properties.{key_says, body_harmless, Fits, Is, IsProperty, Runs, AsAccessor, Accesses}
use Rattle.cjs_looks.specs.objects.Returns.{Meets, Gives, handed}

-- ---- bodies
module _ (x : List ℕ) (ts : List Token) (b : Body) where
  pub returns_nothing : Gives returned_by (body_of x ts b) None → Tells body_harmless (body_of x ts b) false
  returns_nothing given = go (body_of x ts b) given
    where
      go : (o : Option (Option Stmt)) → Gives returned_by o None → Tells body_harmless o false
      go None given = record { told = tt }
      go (Some body) given =
          record { told = ap (λ (e : Option Expr). unwrap_or (option_map is_harmless e) false) given.gives }

  pub returns_some : (e : Option Expr) (is : Bool) → Gives returned_by (body_of x ts b) (Some e)
      → Tells is_harmless e is → Tells body_harmless (body_of x ts b) is
  returns_some e is given harms = go (body_of x ts b) e given harms
    where
      go : (o : Option (Option Stmt)) (e : Option Expr) → Gives returned_by o (Some e) → Tells is_harmless e is
          → Tells body_harmless o is
      go None e given harms = record { told = tt }
      go (Some body) (Some a) given harms = record {
        told = ap (λ (e : Option Expr). unwrap_or (option_map is_harmless e) false) given.gives.0 ∙ harms.told;
      }
      go (Some body) None given harms =
          let there : false ≡ true = given.gives.1 in let bad : ⊥ = cc in absurd bad

-- ---- a property, by its parts
prop_is : (w : Whole Prop-F) (p : Prop) → roll-Prop w ≡ p → property p ≡ property_in w
unfolding property
prop_is w p rolls = ap property_in (sym (ap out-Prop rolls) ∙ out-roll-Prop w)

module _ (x : List ℕ) (ts : List Token) where
  is_by : (told : Property) (w : Whole Prop-F) (p : Prop) → roll-Prop w ≡ p
      → (property_in w).name ≡ name_by (look_of x ts told.name) → (property_in w).is_export ≡ told.is_export
      → Fits x ts told.function (body_by (property_in w).function)
      → Meets (handed x ts told.spread) (property_in w).spread → Is x ts told p
  is_by told w p rolls a b c d = record {
    names = ap (λ (q : AProperty). q.name) (prop_is w p rolls) ∙ a;
    exports = ap (λ (q : AProperty). q.is_export) (prop_is w p rolls) ∙ b;
    runs = subst (λ (q : AProperty). Fits x ts told.function (body_by q.function)) (sym (prop_is w p rolls)) c;
    spreads = subst (λ (q : AProperty). Meets (handed x ts told.spread) q.spread) (sym (prop_is w p rolls)) d;
  }

  no_property : (told : Property) → IsProperty x ts told None
  no_property told = record { is = tt }

  -- what stands in a row, a shorthand and `...`
  pub is_shorthand : (n : ℕ)
      → IsProperty x ts (record { name = seen.Named n; is_export = true; function = None; spread = None })
      (view.shorthand x (slice_get ts n))
  unfolding view.shorthand
  is_shorthand n = go (slice_get ts n) refl
    where
      go : (o : Option Token) → slice_get ts n ≡ o
          → IsProperty x ts (record { name = seen.Named n; is_export = true; function = None; spread = None })
          (option_map (λ t. vProp.Shorthand (ident_of x t)) o)
      go None e = record { is = tt }
      go (Some t) e = record {
        is = is_by _ (Prop-F.Shorthand (ident_of x t)) _ (vProp.rolls-Shorthand (ident_of x t))
            (ap (λ (o : Option Token). Some (name_of x o)) (sym e)) refl refl refl;
      }

  pub is_spread : (r : Range) (i : Item)
      → IsProperty x ts (record { name = seen.Other; is_export = false; function = None; spread = Some i })
      (view.spread r (expr_in (valued x ts i)))
  unfolding view.spread
  is_spread r i = go (expr_in (valued x ts i)) refl
    where
      go : (o : Option Expr) → expr_in (valued x ts i) ≡ o
          → IsProperty x ts (record { name = seen.Other; is_export = false; function = None; spread = Some i })
          (option_map (λ e. vProp.Spread e r) o)
      go None e = record { is = tt }
      go (Some a) e =
          record {
            is = is_by _ (Prop-F.Prop::Spread a r) _ (vProp.rolls-Spread a r) refl refl refl
                (sym e, ap is_some e);
          }

  -- ---- methods and accessors
  method_is : (told : Property) (kind : MethodKind) (key : Key) (f : Function) (r : Range)
      → key_says key ≡ name_by (look_of x ts told.name) → is_method_export kind f ≡ told.is_export
      → Fits x ts told.function (body_by (method_function kind f)) → Meets (handed x ts told.spread) None
      → Is x ts told (vProp.Method kind key.0 key.1 f r)
  method_is told kind key f r a b c d =
      is_by told (Prop-F.Prop::Method kind key.0 key.1 f r) _ (vProp.rolls-Method kind key.0 key.1 f r) a b c d

  -- what holds of a method whose function has this body
  of_method : (told : Property) (kind : MethodKind) (body : Option Stmt)
      → ((key : Key) (f : Function) (s : Stmt) (r : Range) → body ≡ Some s → (out-Function f).body ≡ Some s
      → key_says key ≡ name_by (look_of x ts told.name) → Is x ts told (vProp.Method kind key.0 key.1 f r))
      → (r : Range) (is_async is_generator : Bool) (span : Range) (key : Option Key) (params : Option (List Param))
      → Tells key_says key (name_by (look_of x ts told.name))
      → IsProperty x ts told (view.method r kind is_async is_generator span key params body)
  unfolding view.method
  of_method told kind body each r is_async is_generator span None params names = record { is = tt }
  of_method told kind body each r is_async is_generator span (Some key) None names = record { is = tt }
  of_method told kind None each r is_async is_generator span (Some key) (Some params) names = record { is = tt }
  of_method told kind (Some s) each r is_async is_generator span (Some key) (Some params) names = record {
    is = each key (function_of is_async is_generator span None params s) s r refl
        (ap (λ (w : Whole Function-F). w.body) (out-roll-Function _)) names.told;
  }

  of_typed : (told : Property) (kind : MethodKind) (body : Option Stmt)
      → ((key : Key) (f : Function) (s : Stmt) (r : Range) → body ≡ Some s → (out-Function f).body ≡ Some s
      → key_says key ≡ name_by (look_of x ts told.name) → Is x ts told (vProp.Method kind key.0 key.1 f r))
      → (r : Range) (is_async is_generator : Bool) (span : Range) (key : Option Key) (signature : Option Signature)
      → Tells key_says key (name_by (look_of x ts told.name))
      → IsProperty x ts told (view.typed_method r kind is_async is_generator span key signature body)
  unfolding view.typed_method
  of_typed told kind body each r is_async is_generator span None signature names = record { is = tt }
  of_typed told kind body each r is_async is_generator span (Some key) None names = record { is = tt }
  of_typed told kind None each r is_async is_generator span (Some key) (Some signature) names = record { is = tt }
  of_typed told kind (Some s) each r is_async is_generator span (Some key) (Some signature) names = record {
    is = each key (typed_function_of is_async is_generator span None signature (Some s)) s r refl
        (ap (λ (w : Whole Function-F). w.body) (out-roll-Function _)) names.told;
  }

  module _ (l : SeenLook) (i : Item) where
    -- a method: its function is that of a `get` of a descriptor
    abbrev AsMethod : Property
    AsMethod = record { name = l; is_export = true; function = Some (vBody.Block i); spread = None }

    method_each : (key : Key) (f : Function) (s : Stmt) (r : Range) → stmt_in (valued x ts i) ≡ Some s
        → (out-Function f).body ≡ Some s → key_says key ≡ name_by (look_of x ts l)
        → Is x ts AsMethod (vProp.Method vMethod.Method key.0 key.1 f r)
    method_each key f s r body is names =
        method_is AsMethod vMethod.Method key f r names refl
        (ap Some is ∙ sym (ap (option_map Some) body), ap (λ (o : Option Stmt). is_some (option_map Some o)) body) refl

    pub is_method : (r : Range) (is_async is_generator : Bool) (span : Range) (key : Option Key)
        (params : Option (List Param)) → Tells key_says key (name_by (look_of x ts l))
        → IsProperty x ts AsMethod (view.method r vMethod.Method is_async is_generator span key params
        (stmt_in (valued x ts i)))
    is_method = of_method AsMethod vMethod.Method (stmt_in (valued x ts i)) method_each

    pub is_typed_method : (r : Range) (is_async is_generator : Bool) (span : Range) (key : Option Key)
        (signature : Option Signature) → Tells key_says key (name_by (look_of x ts l))
        → IsProperty x ts AsMethod (view.typed_method r vMethod.Method is_async is_generator span key signature
        (stmt_in (valued x ts i)))
    is_typed_method = of_typed AsMethod vMethod.Method (stmt_in (valued x ts i)) method_each

    -- an accessor: a getter is an export where it only returns what is harmless
    getter_each : (is : Bool) → Tells body_harmless (body_of x ts (vBody.Block i)) is → (key : Key) (f : Function)
        (s : Stmt) (r : Range) → stmt_in (valued x ts i) ≡ Some s → (out-Function f).body ≡ Some s
        → key_says key ≡ name_by (look_of x ts l)
        → Is x ts (AsAccessor l is) (vProp.Method vMethod.Getter key.0 key.1 f r)
    unfolding returns_harmless returned
    getter_each is harms key f s r body same names =
        let there : Tells body_harmless (Some (Some s)) is
        = subst (λ (o : Option Stmt). Tells body_harmless (option_map Some o) is) body harms in
        method_is (AsAccessor l is) vMethod.Getter key f r names
        (ap body_harmless same ∙ there.told) refl refl

    setter_each : (key : Key) (f : Function) (s : Stmt) (r : Range) → stmt_in (valued x ts i) ≡ Some s
        → (out-Function f).body ≡ Some s → key_says key ≡ name_by (look_of x ts l)
        → Is x ts (AsAccessor l false) (vProp.Method vMethod.Setter key.0 key.1 f r)
    setter_each key f s r body same names =
        method_is (AsAccessor l false) vMethod.Setter key f r names refl refl refl

    -- ---- by the word before it
    by_getter : (kind : TokenKind) → same_kind kind k.GetWord ≡ true
        → listed accessor_kinds kind ≡ Some vMethod.Getter
    unfolding accessor_kinds
    by_getter kind is =
        subst (λ (kind : TokenKind). listed accessor_kinds kind ≡ Some vMethod.Getter)
        (sym (same_true the_type tt kind k.GetWord is)) refl

    by_other : (kind : TokenKind) → same_kind kind k.GetWord ≡ false
        → listed accessor_kinds kind ≡ (if same_kind kind k.SetWord then Some vMethod.Setter else None)
    unfolding accessor_kinds
    by_other kind is =
        ap (λ (b : Bool). if b then Some vMethod.Getter
        else (if same_kind kind k.SetWord then Some vMethod.Setter else None)) is

    abbrev Keyed : Option Key → Type 0
    Keyed key = Tells key_says key (name_by (look_of x ts l))

    pub is_getter : (o : Option Token) (t : Token) (is : Bool) (r span : Range) (key : Option Key)
        (params : Option (List Param)) → Some t ≡ o → same_kind t.kind k.GetWord ≡ true → Keyed key
        → Tells body_harmless (body_of x ts (vBody.Block i)) is
        → IsProperty x ts (AsAccessor l is) (view.accessor r o span key params (stmt_in (valued x ts i)))
    unfolding view.accessor
    is_getter o t is r span key params e same names harms =
        subst (λ (p : Option Token). IsProperty x ts (AsAccessor l is) (given (given (option_map (λ t. t.kind) p)
        (listed accessor_kinds)) (λ kind. view.method r kind false false span key params (stmt_in (valued x ts i)))))
        e (subst (λ (m : Option MethodKind). IsProperty x ts (AsAccessor l is) (given m (λ kind.
        view.method r kind false false span key params (stmt_in (valued x ts i))))) (sym (by_getter t.kind same))
        (of_method (AsAccessor l is) vMethod.Getter (stmt_in (valued x ts i)) (getter_each is harms) r false false span
        key params names))

    setter_or_none : (b : Bool) (r span : Range) (key : Option Key) (params : Option (List Param)) → Keyed key
        → IsProperty x ts (AsAccessor l false) (given (if b then Some vMethod.Setter else None) (λ kind.
        view.method r kind false false span key params (stmt_in (valued x ts i))))
    setter_or_none true r span key params names =
        of_method (AsAccessor l false) vMethod.Setter (stmt_in (valued x ts i)) setter_each r false false span key
        params
        names
    setter_or_none false r span key params names = record { is = tt }

    pub is_setter : (o : Option Token) (t : Token) (r span : Range) (key : Option Key) (params : Option (List Param))
        → Some t ≡ o → same_kind t.kind k.GetWord ≡ false → Keyed key
        → IsProperty x ts (AsAccessor l false) (view.accessor r o span key params (stmt_in (valued x ts i)))
    unfolding view.accessor
    is_setter o t r span key params e same names =
        subst (λ (p : Option Token). IsProperty x ts (AsAccessor l false) (given (given (option_map (λ t. t.kind) p)
        (listed accessor_kinds)) (λ kind. view.method r kind false false span key params (stmt_in (valued x ts i)))))
        e (subst (λ (m : Option MethodKind). IsProperty x ts (AsAccessor l false) (given m (λ kind.
        view.method r kind false false span key params (stmt_in (valued x ts i))))) (sym (by_other t.kind same))
        (setter_or_none (same_kind t.kind k.SetWord) r span key params names))

    typed_setter_or_none : (b : Bool) (r span : Range) (key : Option Key) (signature : Option Signature) → Keyed key
        → IsProperty x ts (AsAccessor l false) (given (if b then Some vMethod.Setter else None) (λ kind.
        view.typed_method r kind false false span key signature (stmt_in (valued x ts i))))
    typed_setter_or_none true r span key signature names =
        of_typed (AsAccessor l false) vMethod.Setter (stmt_in (valued x ts i)) setter_each r false false span key
        signature names
    typed_setter_or_none false r span key signature names = record { is = tt }

    pub is_typed_getter : (o : Option Token) (t : Token) (is : Bool) (r span : Range) (key : Option Key)
        (signature : Option Signature) → Some t ≡ o → same_kind t.kind k.GetWord ≡ true → Keyed key
        → Tells body_harmless (body_of x ts (vBody.Block i)) is
        → IsProperty x ts (AsAccessor l is) (view.typed_accessor r o span key signature (stmt_in (valued x ts i)))
    unfolding view.typed_accessor
    is_typed_getter o t is r span key signature e same names harms =
        subst (λ (p : Option Token). IsProperty x ts (AsAccessor l is) (given (given (option_map (λ t. t.kind) p)
        (listed accessor_kinds)) (λ kind.
        view.typed_method r kind false false span key signature (stmt_in (valued x ts i)))))
        e (subst (λ (m : Option MethodKind). IsProperty x ts (AsAccessor l is) (given m (λ kind.
        view.typed_method r kind false false span key signature (stmt_in (valued x ts i)))))
        (sym (by_getter t.kind same))
        (of_typed (AsAccessor l is) vMethod.Getter (stmt_in (valued x ts i)) (getter_each is harms) r false false span
        key signature names))

    pub is_typed_setter : (o : Option Token) (t : Token) (r span : Range) (key : Option Key)
        (signature : Option Signature) → Some t ≡ o → same_kind t.kind k.GetWord ≡ false → Keyed key
        → IsProperty x ts (AsAccessor l false) (view.typed_accessor r o span key signature (stmt_in (valued x ts i)))
    unfolding view.typed_accessor
    is_typed_setter o t r span key signature e same names =
        subst (λ (p : Option Token). IsProperty x ts (AsAccessor l false) (given (given (option_map (λ t. t.kind) p)
        (listed accessor_kinds)) (λ kind.
        view.typed_method r kind false false span key signature (stmt_in (valued x ts i)))))
        e (subst (λ (m : Option MethodKind). IsProperty x ts (AsAccessor l false) (given m (λ kind.
        view.typed_method r kind false false span key signature (stmt_in (valued x ts i)))))
        (sym (by_other t.kind same))
        (typed_setter_or_none (same_kind t.kind k.SetWord) r span key signature names))

  -- ---- `key: value`
  pub runs_plain : (l : Look) (o : Option Expr) → All (Linked l) o → Runs x ts None o
  runs_plain l None a = record { runs = tt }
  runs_plain l (Some e) a = record { runs = ap body_by a.all.1.runs }

  pub runs_object : (props : Option (List Prop)) (o : Option Expr) → All (IsObject props) o → Runs x ts None o
  runs_object props None a = record { runs = tt }
  runs_object props (Some e) a = record { runs = ap body_by a.all.runs }

  pub runs_paren : (inner o : Option Expr) → All (IsParen inner) o → Runs x ts None o
  runs_paren inner None a = record { runs = tt }
  runs_paren inner (Some e) a = record { runs = ap body_by a.all.runs }

  pub runs_number : (is : Bool) (o : Option Expr) → All (IsNumber is) o → Runs x ts None o
  runs_number is None a = record { runs = tt }
  runs_number is (Some e) a = record { runs = ap body_by a.all.runs }

  pub runs_sequence : (first second : Option Expr) (others : Option (List Expr)) (o : Option Expr)
      → All (IsSequence first second others) o → Runs x ts None o
  runs_sequence first second others None a = record { runs = tt }
  runs_sequence first second others (Some e) a = record { runs = ap body_by a.all.runs }

  pub runs_spread : (o : Option Expr) → All IsSpread o → Runs x ts None o
  runs_spread None a = record { runs = tt }
  runs_spread (Some e) a = record { runs = ap body_by a.all.runs }

  pub runs_assigned : (right o : Option Expr) → All (IsAssignment right) o → Runs x ts None o
  runs_assigned right None a = record { runs = tt }
  runs_assigned right (Some e) a = record { runs = ap body_by a.all.runs }

  pub runs_function : (b : Body) (o : Option Expr) → All (IsFunction (body_of x ts b)) o → Runs x ts (Some b) o
  runs_function b None a = record { runs = tt }
  runs_function b (Some e) a = record { runs = (a.all.runs, a.all.there) }

  pub is_key_value : (l : SeenLook) (f : Option Body) (r : Range) (key : Option Key) (value : Option Expr)
      → Tells key_says key (name_by (look_of x ts l)) → Runs x ts f value
      → IsProperty x ts (record { name = l; is_export = true; function = f; spread = None })
      (view.key_value r key value)
  unfolding view.key_value
  is_key_value l f r None value names runs = record { is = tt }
  is_key_value l f r (Some key) None names runs = record { is = tt }
  is_key_value l f r (Some key) (Some value) names runs = record {
    is = is_by _ (Prop-F.Prop::KeyValue key.0 key.1 value r) _ (vProp.rolls-KeyValue key.0 key.1 value r) names.told
        refl runs.runs refl;
  }

  -- ---- accessors, whatever their keys
  module _ (i : Item) where
    pub accesses_getter : (o : Option Token) (t : Token) (is : Bool) → Some t ≡ o
        → same_kind t.kind k.GetWord ≡ true → Tells body_harmless (body_of x ts (vBody.Block i)) is
        → Accesses x ts o i is
    accesses_getter o t is e same harms = record {
      plain = λ l r span key params names. is_getter l i o t is r span key params e same names harms;
      typed = λ l r span key signature names. is_typed_getter l i o t is r span key signature e same names harms;
    }

    pub accesses_setter : (o : Option Token) (t : Token) → Some t ≡ o → same_kind t.kind k.GetWord ≡ false
        → Accesses x ts o i false
    accesses_setter o t e same = record {
      plain = λ l r span key params names. is_setter l i o t r span key params e same names;
      typed = λ l r span key signature names. is_typed_setter l i o t r span key signature e same names;
    }

    pub accesses_nothing : (o : Option Token) (is : Bool) → None ≡ o → Accesses x ts o i is
    unfolding view.accessor view.typed_accessor
    accesses_nothing o is e = record {
      plain = λ l r span key params names.
          subst (λ (p : Option Token). IsProperty x ts (AsAccessor l is) (given (given (option_map (λ t. t.kind) p)
          (listed accessor_kinds)) (λ kind.
          view.method r kind false false span key params (stmt_in (valued x ts i))))) e (record { is = tt });
      typed = λ l r span key signature names.
          subst (λ (p : Option Token). IsProperty x ts (AsAccessor l is) (given (given (option_map (λ t. t.kind) p)
          (listed accessor_kinds)) (λ kind.
          view.typed_method r kind false false span key signature (stmt_in (valued x ts i))))) e (record { is = tt });
    }

    pub is_accessor : (o : Option Token) (is : Bool) (l : SeenLook) (r span : Range) (key : Option Key)
        (params : Option (List Param)) → Accesses x ts o i is → Tells key_says key (name_by (look_of x ts l))
        → IsProperty x ts (AsAccessor l is) (view.accessor r o span key params (stmt_in (valued x ts i)))
    is_accessor o is l r span key params a names = a.plain l r span key params names

    pub is_typed_accessor : (o : Option Token) (is : Bool) (l : SeenLook) (r span : Range) (key : Option Key)
        (signature : Option Signature) → Accesses x ts o i is → Tells key_says key (name_by (look_of x ts l))
        → IsProperty x ts (AsAccessor l is) (view.typed_accessor r o span key signature (stmt_in (valued x ts i)))
    is_typed_accessor o is l r span key signature a names = a.typed l r span key signature names
