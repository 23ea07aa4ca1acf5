-- What descriptors add.
use Rattle.std.specs.Prelude.{ℕ, Bool, true, false, List, Option, Some, None, is_some, if◌then◌else◌}
use Rattle.std.proofs.Common.{◌≡◌, refl, sym, ap, subst, ◌∙◌}
use Rattle.es_token.specs.declared.token.Token.{Token}
use Rattle.es_ast.specs.declared.ast.Prop.{Prop}
use Rattle.es_lowering.specs.Texts.{str_of}
use Rattle.es_lowering.specs.Value.{turns, prop_at}
use Rattle.es_syntax.specs.declared.cursor.Siblings.{Siblings}
use Rattle.es_syntax.specs.Held.{held}
use Rattle.cjs_facts.specs.declared.found.Found.{Found}
use Rattle.cjs_facts.specs.Looks.{Name, Key, Object, Look, named, text, member, other, required_by}
use Rattle.cjs_facts.specs.Exports.{module_at, first_get, is_safe, got_look, define, with_export, with_unsafe, with_reexport, maybe}
use Rattle.cjs_looks.specs.declared.kind.Body.{Body}
use Rattle.cjs_looks.specs.Seen.{text_of}
use Rattle.cjs_calls.specs.Getters.{Gets, IsSafeGet, GotLook, IsSafe, PropsLook, Defines}

module _ (x : List ℕ) (ts : List Token) where
  module _ (row : Siblings) (told : Option (Option Body)) where
    abbrev Props : Option (List Prop)
    Props = turns (λ turn. prop_at turn 0) (held x ts row.entries.now)

    safe_by : (props : Option (List Prop)) (is : Bool) → Gets x ts told props → IsSafeGet x ts told is
        → is_some props ≡ true → is_safe props ≡ is
    safe_by None is gets safe there = let bad : ⊥ = cc in absurd bad
    safe_by (Some props) is gets safe there = safe.safe (first_get props) gets.gets

    pub safe_props : (is : Bool) → Gets x ts told Props → IsSafeGet x ts told is → IsSafe x ts (Some row) is
    safe_props is gets safe = record {
      safe = λ props are.
          safe_by props is (subst (λ (o : Option (List Prop)). Gets x ts told o) (sym are.0) gets) safe are.1;
    }

    look_by : (props : Option (List Prop)) (l : Look) → Gets x ts told props → GotLook x ts told l
        → is_some props ≡ true → got_look props ≡ l
    look_by None l gets looks there = let bad : ⊥ = cc in absurd bad
    look_by (Some props) l gets looks there = looks.looks (first_get props) gets.gets

    pub look_props : (l : Look) → Gets x ts told Props → GotLook x ts told l → PropsLook x ts (Some row) l
    look_props l gets looks = record {
      looks = λ props are.
          look_by props l (subst (λ (o : Option (List Prop)). Gets x ts told o) (sym are.0) gets) looks are.1;
    }

  pub safe_nothing : IsSafe x ts None false
  safe_nothing = record { safe = λ props are. ap is_safe are }

  pub look_nothing : PropsLook x ts None other
  look_nothing = record { looks = λ props are. ap got_look are }

  -- ---- what is defined
  module _ (row : Option Siblings) (old new : Found) where
    pub defines_export : (l : Look) (lone : Bool) (name : Name) (is : Bool) → IsSafe x ts row is → is ≡ true
        → l ≡ text lone name → new ≡ with_export name old → Defines x ts row l old new
    defines_export l lone name is safe is_so e made = record {
      defines = λ props are.
          made ∙ (sym (ap (λ (b : Bool). if b then with_export name old else with_unsafe name old)
          (safe.safe props are ∙ is_so)) ∙ ap (λ (k : Look). define k props old) (sym e));
    }

    pub defines_unsafe : (l : Look) (lone : Bool) (name : Name) (is : Bool) → IsSafe x ts row is → is ≡ false
        → l ≡ text lone name → new ≡ with_unsafe name old → Defines x ts row l old new
    defines_unsafe l lone name is safe not_so e made = record {
      defines = λ props are.
          made ∙ (sym (ap (λ (b : Bool). if b then with_export name old else with_unsafe name old)
          (safe.safe props are ∙ not_so)) ∙ ap (λ (k : Look). define k props old) (sym e));
    }

    pub defines_module : (key : Name) (l : Look) (o : Option Name) (name : Name) → PropsLook x ts row l
        → o ≡ module_at old.vars key l → o ≡ Some name → new ≡ with_reexport name old
        → Defines x ts row (named key) old new
    defines_module key l o name looks is e made = record {
      defines = λ props are.
          made ∙ (ap (λ (p : Option Name). maybe with_reexport p old) (sym e ∙ is)
          ∙ ap (λ (k : Look). maybe with_reexport (module_at old.vars key k) old) (sym (looks.looks props are)));
    }

  module _ (row : Option Siblings) (old : Found) where
    pub defines_no_module : (key : Name) (l : Look) (o : Option Name) → PropsLook x ts row l
        → o ≡ module_at old.vars key l → o ≡ None → Defines x ts row (named key) old old
    defines_no_module key l o looks is e = record {
      defines = λ props are.
          ap (λ (p : Option Name). maybe with_reexport p old) (sym e ∙ is)
          ∙ ap (λ (k : Look). maybe with_reexport (module_at old.vars key k) old) (sym (looks.looks props are));
    }

    pub defines_absent : (l : Look) → l ≡ other → Defines x ts row l old old
    defines_absent l e = record { defines = λ props are. sym (ap (λ (k : Look). define k props old) e) }

    pub defines_other : Defines x ts row other old old
    defines_other = record { defines = λ props are. refl }

    pub defines_member : (o : Object) (k : Key) → Defines x ts row (member o k) old old
    defines_member o k = record { defines = λ props are. refl }

    pub defines_required : (t : Option Token) → Defines x ts row (required_by (text_of x t)) old old
    defines_required None = record { defines = λ props are. refl }
    defines_required (Some t) = go (str_of x t).lone (str_of x t).value
      where
        go : (lone : Bool) (value : Name) → Defines x ts row (required_by (text lone value)) old old
        go true value = record { defines = λ props are. refl }
        go false value = record { defines = λ props are. refl }
