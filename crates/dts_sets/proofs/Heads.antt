-- What the names of functions and classes add.
use Rattle.std.specs.Prelude.{ℕ, Bool, true, false, not, is_some, List, [], ◌∷◌, Option, Some, None, slice_get, IfSome}
use Rattle.std.specs.Option.{option_map}
use Rattle.std.proofs.Common.{◌≡◌, refl, sym, ap, subst, ◌∙◌}
use Rattle.base.specs.declared.range.Range.{Range}
use Rattle.es_token.specs.declared.token.Token.{Token}
use Rattle.es_ast.specs.declared.ts.leaf.Ident.{Ident}
use Rattle.es_ast.specs.declared.ts.ts.Nodes.{Nodes}
use Rattle.es_ast.specs.declared.ts.ts.TsPart.{TsPart}
use Rattle.es_ast.specs.declared.ts.ts.TsPart.TheVariants as vPart
use Rattle.es_ast.specs.declared.ts.ts.TsTypeParam.{TsTypeParam}
use Rattle.es_ast.specs.declared.ast.Class.{Class, roll-Class, out-Class, out-roll-Class}
use Rattle.es_ast.specs.declared.ast.Function.{roll-Function, out-roll-Function}
use Rattle.es_ast.specs.declared.ast.Param.{Param}
use Rattle.es_ast.specs.declared.ast.Stmt.{Stmt}
use Rattle.es_ast.specs.declared.ast.ClassMember.TheOpen.{Class-F, Function-F}
use Rattle.es_site.specs.Parts.{Whole}
use Rattle.es_lowering.specs.Value.{Value, Signature, absent, nil, more, token, given, group, turns, optional, expr_at, member_at, type_params_at, arguments_at}
use Rattle.es_lowering.specs.TypedParts.{heritage_in, body_in}
use Rattle.es_lowering.specs.Texts.{ident_of, token_of, own_name_of}
use Rattle.es_view_expressions.specs.function.Class as class
use Rattle.es_view_expressions.specs.function.Head as head
use Rattle.dts_rules.specs.Sets.{Numbers, Sets, no_sets, where_, id_of, class_sets, function_sets}
use Rattle.dts_sets.specs.declared.known.Flags.{Flags}
use Rattle.dts_sets.specs.declared.known.Known.{Known}
use Rattle.dts_sets.specs.Known.{Grown, Adds, ident_sets, own_sets, class_of, function_of}
use Rattle.dts_sets.proofs.Grown.{grown_none, grown_by, given_any}

given_names : {B : Type 0} (own : Option Ident → Sets) (f : B → Sets) {old new : Known} (o : Option (Option Ident))
    {make : Option Ident → Option B} → Adds own old new o
    → ((n : Option Ident) → Grown old new (own n) → Adds f old new (make n)) → Adds f old new (given o make)
given_names own f None a b = record { added = tt }
given_names own f (Some n) a b = b n a.added

module _ (x : List ℕ) (ts : List Token) (number : Numbers) (flags : Flags) where
  pub adds_own_none : (it : Known) → Adds (own_sets flags number) it it (own_name_of x ts absent)
  adds_own_none it = record { added = grown_none it }

  pub adds_own_empty : (v : Value) (it : Known) → v ≡ nil → Adds (own_sets flags number) it it (own_name_of x ts v)
  adds_own_empty v it e =
      let P : Value → Type 0 = λ w. Adds (own_sets flags number) it it (own_name_of x ts w) in
      subst P (sym e) (record { added = grown_none it })

  some_ident : (o : Option Token) (old new : Known) → Adds (ident_sets flags number) old new (option_map (ident_of x) o)
      → Adds (own_sets flags number) old new (option_map Some (option_map (ident_of x) o))
  some_ident None old new a = record { added = tt }
  some_ident (Some t) old new a = record { added = a.added }

  pub adds_own_first : (v u us : Value) (o : Option Token) (old new : Known) → v ≡ more u us → token_of ts u ≡ o
      → Adds (ident_sets flags number) old new (option_map (ident_of x) o)
      → Adds (own_sets flags number) old new (own_name_of x ts v)
  adds_own_first v u us o old new e is a =
      let P : Value → Type 0 = λ w. Adds (own_sets flags number) old new (own_name_of x ts w) in
      let Q : Option Token → Type 0 = λ p. Adds (ident_sets flags number) old new (option_map (ident_of x) p) in
      subst P (sym e) (some_ident (token_of ts u) old new (subst Q (sym is) a))

  pub adds_own_token : (n : ℕ) (old new : Known)
      → Adds (ident_sets flags number) old new (option_map (ident_of x) (slice_get ts n))
      → Adds (own_sets flags number) old new (own_name_of x ts (token n))
  adds_own_token n old new a = go (slice_get ts n) a
    where
      go : (o : Option Token) → Adds (ident_sets flags number) old new (option_map (ident_of x) o)
          → Adds (own_sets flags number) old new (option_map (λ (t : Token). Some (ident_of x t)) o)
      go None a = record { added = tt }
      go (Some t) a = record { added = a.added }

-- ---- with these flags
class_by : Numbers → Whole Class-F → Option Ident → Sets
class_by number w (Some name) = record {
  typeofs = id_of number name ∷ [];
  plain = where_ (not (is_some w.type_params)) (id_of number name);
  arrays = [];
}
class_by number w None = no_sets

same_class : (number : Numbers) (c : Class) (n : Option Ident) → class_sets number c n ≡ class_by number (out-Class c) n
unfolding class_by
same_class number c (Some n) = refl
same_class number c None = refl

class_flagged : (number : Numbers) (w : Whole Class-F) (flags : Flags) (n : Option Ident) → flags.typeofs ≡ true
    → flags.plain ≡ not (is_some w.type_params) → flags.arrays ≡ false → own_sets flags number n ≡ class_by number w n
unfolding class_by
class_flagged number w flags (Some n) typeofs plain arrays = rw (typeofs, plain, arrays) refl
class_flagged number w flags None typeofs plain arrays = refl

class_is : (number : Numbers) (w : Whole Class-F) (flags : Flags) (old new : Known) → flags.typeofs ≡ true
    → flags.plain ≡ not (is_some w.type_params) → flags.arrays ≡ false → Grown old new (own_sets flags number w.ident)
    → Adds (class_of number) old new (Some (roll-Class w))
class_is number w flags old new typeofs plain arrays grown = record {
  added = grown_by old new (own_sets flags number w.ident) (class_of number (roll-Class w))
      (class_flagged number w flags w.ident typeofs plain arrays
      ∙ sym (same_class number (roll-Class w) (out-Class (roll-Class w)).ident
      ∙ ap (λ (m : Whole Class-F). class_by number m m.ident) (out-roll-Class w))) grown;
}

function_flagged : (number : Numbers) (flags : Flags) (n : Option Ident) → flags.typeofs ≡ true → flags.plain ≡ false
    → flags.arrays ≡ false → own_sets flags number n ≡ function_sets number n
function_flagged number flags (Some n) typeofs plain arrays = rw (typeofs, plain, arrays) refl
function_flagged number flags None typeofs plain arrays = refl

function_is : (number : Numbers) (w : Whole Function-F) (flags : Flags) (old new : Known) → flags.typeofs ≡ true
    → flags.plain ≡ false → flags.arrays ≡ false → Grown old new (own_sets flags number w.ident)
    → Adds (function_of number) old new (Some (roll-Function w))
function_is number w flags old new typeofs plain arrays grown = record {
  added = grown_by old new (own_sets flags number w.ident) (function_of number (roll-Function w))
      (function_flagged number flags w.ident typeofs plain arrays
      ∙ sym (ap (λ (m : Whole Function-F). function_sets number m.ident) (out-roll-Function w))) grown;
}

-- type parameters are there where their group has a part
no_params : (g : Value) → g ≡ nil
    → IfSome (option_map (λ ps. option_map vPart.TypeParams ps) (optional type_params_at g))
    (λ ps. true ≡ not (is_some ps))
no_params g e =
    let P : Value → Type 0 = λ g.
    IfSome (option_map (λ ps. option_map vPart.TypeParams ps) (optional type_params_at g))
    (λ ps. true ≡ not (is_some ps)) in
    subst P (sym e) refl

some_params : (g v vs : Value) → g ≡ more v vs
    → IfSome (option_map (λ ps. option_map vPart.TypeParams ps) (optional type_params_at g))
    (λ ps. false ≡ not (is_some ps))
some_params g v vs e =
    let P : Value → Type 0 = λ g.
    IfSome (option_map (λ ps. option_map vPart.TypeParams ps) (optional type_params_at g))
    (λ ps. false ≡ not (is_some ps)) in
    subst P (sym e) (go (type_params_at (more v vs) 0))
  where
    go : (ps : Option (Nodes TsTypeParam))
        → IfSome (option_map (λ ps. option_map vPart.TypeParams ps) (option_map Some ps))
        (λ ps. false ≡ not (is_some ps))
    go (Some ps) = refl
    go None = tt

module _ (x : List ℕ) (ts : List Token) (number : Numbers) (r : Range) (flags : Flags) (old new : Known) where
  pub adds_plain_class : (v super members : Value) → flags.typeofs ≡ true → flags.plain ≡ true → flags.arrays ≡ false
      → Adds (own_sets flags number) old new (own_name_of x ts v)
      → Adds (class_of number) old new (class.plain_class x ts r v super members)
  unfolding class.plain_class
  adds_plain_class v super members typeofs plain arrays a =
      given_names (own_sets flags number) (class_of number) (own_name_of x ts v) a (λ n g.
      given_any (class_of number) (optional expr_at super) (λ s.
      given_any (class_of number) (turns (λ turn. member_at turn 0) members) (λ ms.
      class_is number _ flags old new typeofs plain arrays g)))

  class_rest : (n : Option Ident) (is_abstract : Bool) (ps : Option TsPart) (extends implements members : Value)
      → flags.typeofs ≡ true → flags.plain ≡ not (is_some ps) → flags.arrays ≡ false
      → Grown old new (own_sets flags number n)
      → Adds (class_of number) old new (given (optional expr_at extends) (λ super_class.
      given (option_map (λ args. option_map vPart.TypeArgs args) (optional arguments_at (group extends 1)))
      (λ super_type_args.
      given (heritage_in ts implements) (λ implements.
      given (turns (λ turn. member_at turn 0) members) (λ members.
      Some (roll-Class (record {
        ident = n;
        is_abstract = is_abstract;
        type_params = ps;
        super_class = super_class;
        super_type_args = super_type_args;
        implements = implements;
        body = members;
        span = r;
      })))))))
  class_rest n is_abstract ps extends implements members typeofs plain arrays g =
      given_any (class_of number) (optional expr_at extends) (λ s.
      given_any (class_of number)
      (option_map (λ args. option_map vPart.TypeArgs args) (optional arguments_at (group extends 1))) (λ args.
      given_any (class_of number) (heritage_in ts implements) (λ hs.
      given_any (class_of number) (turns (λ turn. member_at turn 0) members) (λ ms.
      class_is number _ flags old new typeofs plain arrays g))))

  class_params : (n : Option Ident) (is_abstract : Bool) (o : Option (Option TsPart))
      (extends implements members : Value)
      → flags.typeofs ≡ true → IfSome o (λ ps. flags.plain ≡ not (is_some ps)) → flags.arrays ≡ false
      → Grown old new (own_sets flags number n)
      → Adds (class_of number) old new (given o (λ type_params. given (optional expr_at extends) (λ super_class.
      given (option_map (λ args. option_map vPart.TypeArgs args) (optional arguments_at (group extends 1)))
      (λ super_type_args.
      given (heritage_in ts implements) (λ implements.
      given (turns (λ turn. member_at turn 0) members) (λ members.
      Some (roll-Class (record {
        ident = n;
        is_abstract = is_abstract;
        type_params = type_params;
        super_class = super_class;
        super_type_args = super_type_args;
        implements = implements;
        body = members;
        span = r;
      }))))))))
  class_params n is_abstract None extends implements members typeofs plain arrays g = record { added = tt }
  class_params n is_abstract (Some ps) extends implements members typeofs plain arrays g =
      class_rest n is_abstract ps extends implements members typeofs plain arrays g

  typed_by : (is_abstract : Bool) (v params extends implements members : Value) → flags.typeofs ≡ true
      → IfSome (option_map (λ ps. option_map vPart.TypeParams ps) (optional type_params_at params))
      (λ ps. flags.plain ≡ not (is_some ps))
      → flags.arrays ≡ false → Adds (own_sets flags number) old new (own_name_of x ts v)
      → Adds (class_of number) old new (class.typed_class x ts r is_abstract v params extends implements members)
  unfolding class.typed_class
  typed_by is_abstract v params extends implements members typeofs plain arrays a =
      given_names (own_sets flags number) (class_of number) (own_name_of x ts v) a (λ n g.
      class_params n is_abstract (option_map (λ ps. option_map vPart.TypeParams ps) (optional type_params_at params))
      extends
      implements members typeofs plain arrays g)

  flag : (o : Option (Option TsPart)) (b : Bool) → flags.plain ≡ b → IfSome o (λ ps. b ≡ not (is_some ps))
      → IfSome o (λ ps. flags.plain ≡ not (is_some ps))
  flag None b e known = tt
  flag (Some ps) b e known = e ∙ known

  pub adds_class_without : (is_abstract : Bool) (v params extends implements members : Value) → params ≡ nil
      → flags.typeofs ≡ true → flags.plain ≡ true → flags.arrays ≡ false
      → Adds (own_sets flags number) old new (own_name_of x ts v)
      → Adds (class_of number) old new (class.typed_class x ts r is_abstract v params extends implements members)
  adds_class_without is_abstract v params extends implements members e typeofs plain arrays a =
      typed_by is_abstract v params extends implements members typeofs (flag _ true plain (no_params params e)) arrays a

  pub adds_class_with : (is_abstract : Bool) (v params extends implements members u us : Value) → params ≡ more u us
      → flags.typeofs ≡ true → flags.plain ≡ false → flags.arrays ≡ false
      → Adds (own_sets flags number) old new (own_name_of x ts v)
      → Adds (class_of number) old new (class.typed_class x ts r is_abstract v params extends implements members)
  adds_class_with is_abstract v params extends implements members u us e typeofs plain arrays a =
      typed_by is_abstract v params extends implements members typeofs (flag _ false plain (some_params params u us e))
      arrays a

  pub adds_plain_function : (is_async is_generator : Bool) (v : Value) (params : Option (List Param))
      (body : Option Stmt)
      → flags.typeofs ≡ true → flags.plain ≡ false → flags.arrays ≡ false
      → Adds (own_sets flags number) old new (own_name_of x ts v)
      → Adds (function_of number) old new (head.plain_function x ts r is_async is_generator v params body)
  unfolding head.plain_function
  adds_plain_function is_async is_generator v params body typeofs plain arrays a =
      given_names (own_sets flags number) (function_of number) (own_name_of x ts v) a (λ n g.
      given_any (function_of number) params (λ ps.
      given_any (function_of number) body (λ b. function_is number _ flags old new typeofs plain arrays g)))

  pub adds_typed_function : (is_async is_generator : Bool) (v : Value) (signature : Option Signature) (body : Value)
      → flags.typeofs ≡ true → flags.plain ≡ false → flags.arrays ≡ false
      → Adds (own_sets flags number) old new (own_name_of x ts v)
      → Adds (function_of number) old new (head.typed_function x ts r is_async is_generator v signature body)
  unfolding head.typed_function
  adds_typed_function is_async is_generator v signature body typeofs plain arrays a =
      given_names (own_sets flags number) (function_of number) (own_name_of x ts v) a (λ n g.
      given_any (function_of number) signature (λ s.
      given_any (function_of number) (body_in body) (λ b. function_is number _ flags old new typeofs plain arrays g)))
