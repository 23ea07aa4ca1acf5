-- What calls add.
use Rattle.std.specs.Prelude.{ℕ, Bool, true, false, List, [], ◌∷◌, Option, Some, None, not, ◌&&◌, if◌then◌else◌}
use Rattle.std.proofs.Common.{◌≡◌, refl, sym, ap, subst, ◌∙◌}
use Rattle.es_token.specs.declared.token.Token.{Token}
use Rattle.es_ast.specs.declared.ast.Expr.{Expr}
use Rattle.es_lowering.specs.Value.{Value, nil, more, given, as_group, turns}
use Rattle.es_lowering.specs.Expressions.{argument}
use Rattle.es_view_expressions.specs.call.Args.{arguments}
use Rattle.es_syntax.specs.declared.cursor.Siblings.{Siblings}
use Rattle.cjs_facts.specs.declared.found.Found.{Found}
use Rattle.cjs_facts.specs.Looks.{Look, look, props_of}
use Rattle.cjs_facts.specs.Exports.{exports_like, is_spread, define, defined, starred, is_exports, star, is_define, is_star, called_by}
use Rattle.cjs_looks.specs.Seen.{Tells}
use Rattle.cjs_calls.specs.Getters.{Defines}
use Rattle.cjs_calls.specs.Calls.{starred_by, Makes, HasProps, DefinesBy, StarsOne, StarsTwo}

-- ---- `Object.defineProperty` of three
module _ (a b c : Option Expr) (l : Look) (old : Found) where
  pub defines_unlike : (is : Bool) → Tells look a l → is ≡ exports_like l → is ≡ false → DefinesBy a b c old old
  defines_unlike is told e not_so = go a told b c
    where
      go : (a : Option Expr) → Tells look a l → (b c : Option Expr) → DefinesBy a b c old old
      go None told b c = record { defines = tt }
      go (Some a) told None c = record { defines = tt }
      go (Some a) told (Some b) None = record { defines = tt }
      go (Some a) told (Some b) (Some c) = record {
        defines = λ others.
            sym (ap (λ (t : Bool). if t && not (is_spread c) then define (look b) (props_of c) old else old)
            (ap exports_like told.told ∙ (sym e ∙ not_so)));
      }

  module _ (x : List ℕ) (ts : List Token) where
    pub defines_spread : (is : Bool) → Tells look a l → is ≡ exports_like l → is ≡ true → HasProps x ts None c
        → DefinesBy a b c old old
    unfolding is_spread
    defines_spread is told e is_so has = go a told b c has
      where
        go : (a : Option Expr) → Tells look a l → (b c : Option Expr) → HasProps x ts None c
            → DefinesBy a b c old old
        go None told b c has = record { defines = tt }
        go (Some a) told None c has = record { defines = tt }
        go (Some a) told (Some b) None has = record { defines = tt }
        go (Some a) told (Some b) (Some c) has = record {
          defines = λ others.
              sym (ap (λ (t : Bool). if t && not (is_spread c) then define (look b) (props_of c) old else old)
              (ap exports_like told.told ∙ (sym e ∙ is_so))
              ∙ ap (λ (t : Bool). if not t then define (look b) (props_of c) old else old) has.has);
        }

module _ (x : List ℕ) (ts : List Token) (a b c : Option Expr) (l m : Look) (old new : Found) where
  pub defines_by : (row : Option Siblings) (is : Bool) → Tells look a l → is ≡ exports_like l → is ≡ true
      → HasProps x ts (Some row) c → Tells look b m → Defines x ts row m old new → DefinesBy a b c old new
  unfolding is_spread
  defines_by row is told e is_so has names makes = go a told b names c has
    where
      go : (a : Option Expr) → Tells look a l → (b : Option Expr) → Tells look b m → (c : Option Expr)
          → HasProps x ts (Some row) c → DefinesBy a b c old new
      go None told b names c has = record { defines = tt }
      go (Some a) told None names c has = record { defines = tt }
      go (Some a) told (Some b) names None has = record { defines = tt }
      go (Some a) told (Some b) names (Some c) has = record {
        defines = λ others.
            makes.defines (props_of c) has.has.1
            ∙ (ap (λ (k : Look). define k (props_of c) old) (sym names.told)
            ∙ sym (ap (λ (t : Bool). if t && not (is_spread c) then define (look b) (props_of c) old else old)
            (ap exports_like told.told ∙ (sym e ∙ is_so))
            ∙ ap (λ (t : Bool). if not t then define (look b) (props_of c) old else old) has.has.0));
      }

-- ---- by how many arguments there are
abbrev Turned : (List Expr → Found → Found) → List Token → Value → Found → Found → Type 0
Turned f ts v old new = Makes f (turns (argument ts) v) old new

module _ (f : List Expr → Found → Found) (ts : List Token) (old new : Found) where
  none_turn : (v : Value) → v ≡ nil → new ≡ f [] old → Turned f ts v old new
  none_turn v e is = subst (λ (w : Value). Turned f ts w old new) (sym e) (record { makes = is })

  more_turn : (v u us : Value) → v ≡ more u us
      → ((a : Expr) → argument ts (as_group u) ≡ Some a → Makes (λ rest. f (a ∷ rest)) (turns (argument ts) us) old new)
      → Turned f ts v old new
  more_turn v u us e each =
      subst (λ (w : Value). Turned f ts w old new) (sym e)
      (go (argument ts (as_group u)) refl (turns (argument ts) us) each)
    where
      go : (o : Option Expr) → argument ts (as_group u) ≡ o → (os : Option (List Expr))
          → ((a : Expr) → argument ts (as_group u) ≡ Some a → Makes (λ rest. f (a ∷ rest)) os old new)
          → Makes f (given o (λ a. given os (λ rest. Some (a ∷ rest)))) old new
      go None is os each = record { makes = tt }
      go (Some a) is None each = record { makes = tt }
      go (Some a) is (Some rest) each = record { makes = (each a is).makes }

module _ (ts : List Token) (old : Found) where
  pub defined_none : (v : Value) → v ≡ nil → Makes defined (arguments ts v) old old
  unfolding arguments
  defined_none v e = none_turn defined ts old old v e refl

  pub defined_one : (v u us : Value) → v ≡ more u us → us ≡ nil → Makes defined (arguments ts v) old old
  unfolding arguments
  defined_one v u us e f =
      more_turn defined ts old old v u us e (λ a is.
      none_turn (λ rest. defined (a ∷ rest)) ts old old us f refl)

  pub defined_two : (v u us w ws : Value) → v ≡ more u us → us ≡ more w ws → ws ≡ nil
      → Makes defined (arguments ts v) old old
  unfolding arguments
  defined_two v u us w ws e f g =
      more_turn defined ts old old v u us e (λ a is.
      more_turn (λ rest. defined (a ∷ rest)) ts old old us w ws f (λ b are.
      none_turn (λ rest. defined (a ∷ b ∷ rest)) ts old old ws g refl))

module _ (ts : List Token) (old new : Found) where
  always : (f : List Expr → Found → Found) (o : Option (List Expr)) → ((others : List Expr) → new ≡ f others old)
      → Makes f o old new
  always f None each = record { makes = tt }
  always f (Some others) each = record { makes = each others }

  three : (a b c : Expr) (oa ob oc : Option Expr) → oa ≡ Some a → ob ≡ Some b → oc ≡ Some c
      → DefinesBy oa ob oc old new → (others : List Expr) → new ≡ defined (a ∷ b ∷ c ∷ others) old
  three a b c oa ob oc e f g by =
      let it : DefinesBy (Some a) (Some b) (Some c) old new
      = subst (λ (o : Option Expr). DefinesBy o (Some b) (Some c) old new) e
      (subst (λ (o : Option Expr). DefinesBy oa o (Some c) old new) f
      (subst (λ (o : Option Expr). DefinesBy oa ob o old new) g by)) in it.defines

  pub defined_three : (v u us w ws z zs : Value) → v ≡ more u us → us ≡ more w ws → ws ≡ more z zs
      → DefinesBy (argument ts (as_group u)) (argument ts (as_group w)) (argument ts (as_group z)) old new
      → Makes defined (arguments ts v) old new
  unfolding arguments
  defined_three v u us w ws z zs e f g by =
      more_turn defined ts old new v u us e (λ a is.
      more_turn (λ rest. defined (a ∷ rest)) ts old new us w ws f (λ b are.
      more_turn (λ rest. defined (a ∷ b ∷ rest)) ts old new ws z zs g (λ c so.
      always (λ rest. defined (a ∷ b ∷ c ∷ rest)) (turns (argument ts) zs)
      (three a b c (argument ts (as_group u)) (argument ts (as_group w)) (argument ts (as_group z)) is are so by))))

-- ---- `__exportStar`
module _ (old new : Found) where
  pub stars_one : (o : Option Expr) (l : Look) → Tells look o l → new ≡ starred l old → StarsOne o old new
  stars_one None l told is = record { stars = tt }
  stars_one (Some a) l told is = record { stars = is ∙ ap (λ (k : Look). starred k old) (sym told.told) }

  pub stars_two : (a b : Option Expr) (l : Look) → Tells look b l → is_exports l ≡ true → StarsOne a old new
      → StarsTwo a b old new
  stars_two None b l told e is = record { stars = tt }
  stars_two (Some a) None l told e is = record { stars = tt }
  stars_two (Some a) (Some b) l told e is = record {
    stars = is.stars ∙ sym (ap (λ (t : Bool). if t then starred (look a) old else old) (ap is_exports told.told ∙ e));
  }

module _ (ts : List Token) (old new : Found) where
  pub starred_one : (v u us : Value) → v ≡ more u us → us ≡ nil → StarsOne (argument ts (as_group u)) old new
      → Makes star (arguments ts v) old new
  unfolding arguments
  starred_one v u us e f by =
      more_turn star ts old new v u us e (λ a is.
      none_turn (λ rest. star (a ∷ rest)) ts old new us f
      (let it : StarsOne (Some a) old new = subst (λ (o : Option Expr). StarsOne o old new) is by in it.stars))

  pub starred_two : (v u us w ws : Value) → v ≡ more u us → us ≡ more w ws → ws ≡ nil
      → StarsTwo (argument ts (as_group u)) (argument ts (as_group w)) old new
      → Makes star (arguments ts v) old new
  unfolding arguments
  starred_two v u us w ws e f g by =
      more_turn star ts old new v u us e (λ a is.
      more_turn (λ rest. star (a ∷ rest)) ts old new us w ws f (λ b are.
      none_turn (λ rest. star (a ∷ b ∷ rest)) ts old new ws g
      (let it : StarsTwo (Some a) (Some b) old new
      = subst (λ (o : Option Expr). StarsTwo o (Some b) old new) is
      (subst (λ (o : Option Expr). StarsTwo (argument ts (as_group u)) o old new) are by) in it.stars)))

module _ (old : Found) where
  pub stars_other : (a b : Option Expr) (l : Look) → Tells look b l → is_exports l ≡ false → StarsTwo a b old old
  stars_other None b l told e = record { stars = tt }
  stars_other (Some a) None l told e = record { stars = tt }
  stars_other (Some a) (Some b) l told e = record {
    stars = sym (ap (λ (t : Bool). if t then starred (look a) old else old) (ap is_exports told.told ∙ e));
  }

module _ (ts : List Token) (old : Found) where
  pub starred_none : (v : Value) → v ≡ nil → Makes star (arguments ts v) old old
  unfolding arguments
  starred_none v e = none_turn star ts old old v e refl

  pub starred_more : (v u us w ws z zs : Value) → v ≡ more u us → us ≡ more w ws → ws ≡ more z zs
      → Makes star (arguments ts v) old old
  unfolding arguments
  starred_more v u us w ws z zs e f g =
      more_turn star ts old old v u us e (λ a is.
      more_turn (λ rest. star (a ∷ rest)) ts old old us w ws f (λ b are.
      more_turn (λ rest. star (a ∷ b ∷ rest)) ts old old ws z zs g (λ c so.
      passed a b c (turns (argument ts) zs))))
    where
      passed : (a b c : Expr) (o : Option (List Expr)) → Makes (λ rest. star (a ∷ b ∷ c ∷ rest)) o old old
      passed a b c None = record { makes = tt }
      passed a b c (Some others) = record { makes = refl }

-- ---- by the callee
module _ (l : Look) (o : Option (List Expr)) (old new : Found) where
  by_callee : (f : List Expr → Found → Found) → ((args : List Expr) → f args old ≡ called_by l args old)
      → (o : Option (List Expr)) → Makes f o old new → Makes (called_by l) o old new
  by_callee f same None makes = record { makes = tt }
  by_callee f same (Some args) makes = record { makes = makes.makes ∙ same args }

  pub calls_define : is_define l ≡ true → Makes defined o old new → Makes (called_by l) o old new
  calls_define e makes =
      by_callee defined (λ args. sym (ap (λ (t : Bool). if t then defined args old
      else (if is_star l then star args old else old)) e)) o makes

  pub calls_other : is_define l ≡ false → Makes (starred_by l) o old new → Makes (called_by l) o old new
  calls_other e makes =
      by_callee (starred_by l) (λ args. sym (ap (λ (t : Bool). if t then defined args old
      else starred_by l args old) e)) o makes

pub star_is : (l : Look) (o : Option (List Expr)) (old new : Found) → is_star l ≡ true → Makes star o old new
    → Makes (starred_by l) o old new
star_is l None old new e makes = record { makes = tt }
star_is l (Some args) old new e makes = record {
  makes = makes.makes ∙ sym (ap (λ (t : Bool). if t then star args old else old) e);
}

pub star_not : (l : Look) (o : Option (List Expr)) (old : Found) → is_star l ≡ false → Makes (starred_by l) o old old
star_not l None old e = record { makes = tt }
star_not l (Some args) old e = record { makes = sym (ap (λ (t : Bool). if t then star args old else old) e) }
