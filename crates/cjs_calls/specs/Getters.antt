-- What the getter of a descriptor is.
use Rattle.std.specs.Prelude.{◌≡◌, ℕ, Bool, true, List, Option, Some, None, is_some, IfSome}
use Rattle.es_token.specs.declared.token.Token.{Token}
use Rattle.es_ast.specs.declared.ast.Prop.{Prop}
use Rattle.es_lowering.specs.Value.{turns, prop_at}
use Rattle.es_syntax.specs.declared.cursor.Siblings.{Siblings}
use Rattle.es_syntax.specs.Held.{held}
use Rattle.cjs_facts.specs.declared.found.Found.{Found}
use Rattle.cjs_facts.specs.Looks.{Look, Property}
use Rattle.cjs_facts.specs.Exports.{first_get, is_safe_get, is_safe, got, returned_by, got_look, define}
use Rattle.cjs_looks.specs.declared.kind.Body.{Body}
use Rattle.cjs_looks.specs.Kinds.{body_by}
use Rattle.cjs_looks.specs.objects.Properties.{Fits}

module _ (x : List ℕ) (ts : List Token) where
  -- a property `get` with this function, or none
  abbrev pub Got : Option (Option Body) → Option Property → Type 0
  Got None None = Unit {0}
  Got None (Some it) = ⊥
  Got (Some told) None = ⊥
  Got (Some told) (Some it) = Fits x ts told (body_by it.function)

  -- of these properties
  pub record Gets (told : Option (Option Body)) (props : Option (List Prop)) : Type 0 where
    pub gets : IfSome props (λ props. Got told (first_get props))

  pub record IsSafeGet (told : Option (Option Body)) (is : Bool) : Type 0 where
    pub safe : (it : Option Property) → Got told it → is_safe_get it ≡ is

  pub record GotLook (told : Option (Option Body)) (look : Look) : Type 0 where
    pub looks : (it : Option Property) → Got told it → returned_by (got it) ≡ look

  -- ---- a descriptor: an object with these properties, or none
  abbrev pub PropsAre : Option Siblings → Option (List Prop) → Type 0
  PropsAre None props = props ≡ None
  PropsAre (Some row) props =
      (props ≡ turns (λ turn. prop_at turn 0) (held x ts row.entries.now)) × (is_some props ≡ true)

  pub record IsSafe (row : Option Siblings) (is : Bool) : Type 0 where
    pub safe : (props : Option (List Prop)) → PropsAre row props → is_safe props ≡ is

  pub record PropsLook (row : Option Siblings) (look : Look) : Type 0 where
    pub looks : (props : Option (List Prop)) → PropsAre row props → got_look props ≡ look

  pub record Defines (row : Option Siblings) (name : Look) (old new : Found) : Type 0 where
    pub defines : (props : Option (List Prop)) → PropsAre row props → new ≡ define name props old
