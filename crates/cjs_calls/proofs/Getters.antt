-- What getters of descriptors are.
use Rattle.std.specs.Prelude.{ℕ, Bool, true, false, List, ◌∷◌, Option, Some, None, is_some, codes, if◌then◌else◌}
use Rattle.std.proofs.Common.{◌≡◌, refl, sym, ap, subst, ◌∙◌}
use Rattle.es_token.specs.declared.token.Token.{Token}
use Rattle.es_ast.specs.declared.ast.Expr.{Expr}
use Rattle.es_ast.specs.declared.ast.Prop.{Prop}
use Rattle.es_ast.specs.declared.ast.Stmt.{Stmt}
use Rattle.es_ast.specs.declared.ast.Function.{Function, out-Function}
use Rattle.es_lowering.specs.Value.{Value, nil, more, given, as_group, turns, prop_at}
use Rattle.es_lowering.specs.Texts.{str_of}
use Rattle.cjs_facts.specs.Looks.{Name, Look, Property, other, text, name_by, bracket, required_by, look, property, returned, returns_harmless}
use Rattle.cjs_facts.specs.Looks as looks
use Rattle.cjs_facts.specs.Exports.{says, is_get, first_get, is_safe_by, is_safe_get, got, look_of, returned_by}
use Rattle.cjs_looks.specs.declared.kind.Body.{Body}
use Rattle.cjs_looks.specs.Kinds.{body_of, body_by}
use Rattle.cjs_looks.specs.Seen.{Tells, text_of, look_of as seen_of}
use Rattle.cjs_looks.specs.declared.objects.properties.Property.{Property as SeenProperty}
use Rattle.cjs_looks.specs.objects.Properties.{body_harmless, Fits, IsProperty}
use Rattle.cjs_looks.specs.objects.Returns.{Gives}
use Rattle.cjs_calls.specs.Getters.{Got, Gets, IsSafeGet, GotLook}

-- ---- names
pub get_text : (x : List ℕ) (t : Option Token) (is : Bool) → is ≡ says (bracket (text_of x t)) (codes "get")
    → is ≡ is_get (name_by (text_of x t))
get_text x None is e = e
get_text x (Some t) is e = e ∙ go (str_of x t).lone (str_of x t).value
  where
    go : (lone : Bool) (value : Name)
        → says (bracket (text lone value)) (codes "get") ≡ is_get (name_by (text lone value))
    go true value = refl
    go false value = refl

pub get_required : (x : List ℕ) (t : Option Token) → false ≡ is_get (name_by (required_by (text_of x t)))
get_required x None = refl
get_required x (Some t) = go (str_of x t).lone (str_of x t).value
  where
    go : (lone : Bool) (value : Name) → false ≡ is_get (name_by (required_by (text lone value)))
    go true value = refl
    go false value = refl

-- ---- the first property `get`
module _ (x : List ℕ) (ts : List Token) where
  -- what is got of what is left is got of all
  pub record GetsLeft (all left : Value) : Type 0 where
    pub gets : (told : Option (Option Body)) → Gets x ts told (turns (λ turn. prop_at turn 0) left)
        → Gets x ts told (turns (λ turn. prop_at turn 0) all)

  pub gets_all : (all : Value) → GetsLeft all all
  gets_all all = record { gets = λ told a. a }

  -- a property of another name is passed over
  passed : (told : Option (Option Body)) (it : SeenProperty) (o : Option Prop) (os : Option (List Prop))
      → IsProperty x ts it o → false ≡ is_get (name_by (seen_of x ts it.name)) → Gets x ts told os
      → Gets x ts told (given o (λ a. given os (λ rest. Some (a ∷ rest))))
  passed told it None os is not_so a = record { gets = tt }
  passed told it (Some p) None is not_so a = record { gets = tt }
  passed told it (Some p) (Some ps) is not_so a = record {
    gets = subst (λ (b : Bool). Got x ts told (if b then Some (property p) else first_get ps))
        (not_so ∙ sym (ap is_get is.is.names)) a.gets;
  }

  pub gets_next : (all left v rest : Value) (it : SeenProperty) (b : Bool) → left ≡ more v rest → GetsLeft all left
      → IsProperty x ts it (prop_at (as_group v) 0) → b ≡ is_get (name_by (seen_of x ts it.name)) → b ≡ false
      → GetsLeft all rest
  gets_next all left v rest it b e before is not_so not = record {
    gets = λ told a.
        before.gets told
        (subst (λ (w : Value). Gets x ts told (turns (λ turn. prop_at turn 0) w)) (sym e)
        (passed told it (prop_at (as_group v) 0) (turns (λ turn. prop_at turn 0) rest) is (sym not ∙ not_so) a));
  }

  here : (it : SeenProperty) (o : Option Prop) (os : Option (List Prop)) → IsProperty x ts it o
      → true ≡ is_get (name_by (seen_of x ts it.name))
      → Gets x ts (Some it.function) (given o (λ a. given os (λ rest. Some (a ∷ rest))))
  here it None os is is_so = record { gets = tt }
  here it (Some p) None is is_so = record { gets = tt }
  here it (Some p) (Some ps) is is_so = record {
    gets = subst (λ (b : Bool). Got x ts (Some it.function) (if b then Some (property p) else first_get ps))
        (is_so ∙ sym (ap is_get is.is.names)) is.is.runs;
  }

  pub gets_here : (all left v rest : Value) (it : SeenProperty) (b : Bool) → left ≡ more v rest → GetsLeft all left
      → IsProperty x ts it (prop_at (as_group v) 0) → b ≡ is_get (name_by (seen_of x ts it.name)) → b ≡ true
      → Gets x ts (Some it.function) (turns (λ turn. prop_at turn 0) all)
  gets_here all left v rest it b e before is not_so is_so =
      before.gets (Some it.function)
      (subst (λ (w : Value). Gets x ts (Some it.function) (turns (λ turn. prop_at turn 0) w)) (sym e)
      (here it (prop_at (as_group v) 0) (turns (λ turn. prop_at turn 0) rest) is (sym is_so ∙ not_so)))

  pub gets_done : (all left : Value) → left ≡ nil → GetsLeft all left
      → Gets x ts None (turns (λ turn. prop_at turn 0) all)
  gets_done all left e before =
      before.gets None
      (subst (λ (w : Value). Gets x ts None (turns (λ turn. prop_at turn 0) w)) (sym e) (record { gets = tt }))

  -- ---- whether it is safe
  pub safe_none : IsSafeGet x ts None true
  safe_none = record { safe = λ it is. go it is }
    where
      go : (it : Option Property) → Got x ts None it → is_safe_get it ≡ true
      go None is = refl
      go (Some it) is = absurd is

  pub safe_no_function : IsSafeGet x ts (Some None) false
  safe_no_function = record { safe = λ it is. go it is }
    where
      by : (f : Option Function) → body_by f ≡ None → is_safe_by f ≡ false
      by None is = refl
      by (Some f) is = let bad : ⊥ = cc in absurd bad

      go : (it : Option Property) → Got x ts (Some None) it → is_safe_get it ≡ false
      go None is = absurd is
      go (Some it) is = by it.function is

  module _ (b : Body) where
    harmless : (f : Option Function) (is : Bool) → Fits x ts (Some b) (body_by f)
        → Tells body_harmless (body_of x ts b) is → is_safe_by f ≡ is
    unfolding returns_harmless returned
    harmless None is fits told =
        let not_so : false ≡ true = ap is_some fits.0 ∙ fits.1 in let bad : ⊥ = cc in absurd bad
    harmless (Some f) is fits told =
        let it : Tells body_harmless (Some (out-Function f).body) is
        = subst (λ (o : Option (Option Stmt)). Tells body_harmless o is) (sym fits.0) told in it.told

    pub safe_function : (is : Bool) → Tells body_harmless (body_of x ts b) is → IsSafeGet x ts (Some (Some b)) is
    safe_function is told = record { safe = λ it is. go it is }
      where
        go : (it : Option Property) → Got x ts (Some (Some b)) it → is_safe_get it ≡ is
        go None fits = absurd fits
        go (Some it) fits = harmless it.function is fits told

    -- ---- what it only returns
    nothing : (f : Option Function) → Fits x ts (Some b) (body_by f) → Gives looks.returned_by (body_of x ts b) None
        → returned_by f ≡ other
    unfolding returned
    nothing None fits gives = refl
    nothing (Some f) fits gives =
        let it : Gives looks.returned_by (Some (out-Function f).body) None
        = subst (λ (o : Option (Option Stmt)). Gives looks.returned_by o None) (sym fits.0) gives in
        ap look_of it.gives

    pub look_nothing : Gives looks.returned_by (body_of x ts b) None → GotLook x ts (Some (Some b)) other
    look_nothing gives = record { looks = λ it is. go it is }
      where
        go : (it : Option Property) → Got x ts (Some (Some b)) it → returned_by (got it) ≡ other
        go None fits = absurd fits
        go (Some it) fits = nothing it.function fits gives

    some_look : (e : Option Expr) (l : Look) → is_some e ≡ true → Tells look e l → look_of e ≡ l
    some_look None l there told = let bad : ⊥ = cc in absurd bad
    some_look (Some e) l there told = told.told

    something : (f : Option Function) (e : Option Expr) (l : Look) → Fits x ts (Some b) (body_by f)
        → Gives looks.returned_by (body_of x ts b) (Some e) → Tells look e l → returned_by f ≡ l
    unfolding returned
    something None e l fits gives told =
        let not_so : false ≡ true = ap is_some fits.0 ∙ fits.1 in let bad : ⊥ = cc in absurd bad
    something (Some f) e l fits gives told =
        let it : Gives looks.returned_by (Some (out-Function f).body) (Some e)
        = subst (λ (o : Option (Option Stmt)). Gives looks.returned_by o (Some e)) (sym fits.0) gives in
        ap look_of it.gives.0 ∙ some_look e l it.gives.1 told

    pub look_returned : (e : Option Expr) (l : Look) → Gives looks.returned_by (body_of x ts b) (Some e)
        → Tells look e l → GotLook x ts (Some (Some b)) l
    look_returned e l gives told = record { looks = λ it is. go it is }
      where
        go : (it : Option Property) → Got x ts (Some (Some b)) it → returned_by (got it) ≡ l
        go None fits = absurd fits
        go (Some it) fits = something it.function e l fits gives told

  pub look_none : GotLook x ts None other
  look_none = record { looks = λ it is. go it is }
    where
      go : (it : Option Property) → Got x ts None it → returned_by (got it) ≡ other
      go None is = refl
      go (Some it) is = absurd is

  pub look_no_function : GotLook x ts (Some None) other
  look_no_function = record { looks = λ it is. go it is }
    where
      by : (f : Option Function) → body_by f ≡ None → returned_by f ≡ other
      by None is = refl
      by (Some f) is = let bad : ⊥ = cc in absurd bad

      go : (it : Option Property) → Got x ts (Some None) it → returned_by (got it) ≡ other
      go None is = absurd is
      go (Some it) is = by it.function is
