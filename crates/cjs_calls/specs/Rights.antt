-- What the right side of `exports = a` adds.
use Rattle.std.specs.Prelude.{◌≡◌, ℕ, true, List, Option, None, is_some, IfSome}
use Rattle.es_token.specs.declared.token.Token.{Token}
use Rattle.es_ast.specs.declared.ast.Expr.{Expr}
use Rattle.es_ast.specs.declared.ast.Prop.{Prop}
use Rattle.es_syntax.specs.declared.cursor.Item.{Item}
use Rattle.cjs_facts.specs.declared.found.Found.{Found}
use Rattle.cjs_facts.specs.Looks.{property, assigned_last, right_of}
use Rattle.cjs_facts.specs.Exports.{look_of, spread_found, property_found, props_found, exports_found}
use Rattle.cjs_looks.specs.declared.objects.properties.Property.{Property}
use Rattle.cjs_looks.specs.objects.Properties.{Is}
use Rattle.cjs_looks.specs.objects.Returns.{Meets, handed}

module _ (x : List ℕ) (ts : List Token) where
  pub record Spreads (told : Option Item) (old new : Found) : Type 0 where
    pub adds : (e : Option Expr) → Meets (handed x ts told) e → new ≡ spread_found (look_of e) old

  pub record OneFound (told : Property) (old new : Found) : Type 0 where
    pub adds : (prop : Prop) → Is x ts told prop → new ≡ property_found (property prop) old

-- a property, and properties, where they are there
pub record Adds (part : Option Prop) (old new : Found) : Type 0 where
  pub adds : IfSome part (λ prop. new ≡ property_found (property prop) old)

pub record AddsProps (part : Option (List Prop)) (old new : Found) : Type 0 where
  pub adds : IfSome part (λ props. new ≡ props_found props old)

-- no assignment by `=`
abbrev pub IsLast : Expr → Type 0
IsLast e = assigned_last e ≡ None

-- the last right side of an expression is that of another
pub record LastOf (whole last : Option Expr) : Type 0 where
  pub lasts : IfSome whole (λ e. (is_some last ≡ true) × IfSome last (λ l. right_of e ≡ right_of l))

-- where the expression is there, it adds this
pub record Rights (part : Option Expr) (old new : Found) : Type 0 where
  pub adds : IfSome part (λ e. new ≡ exports_found (right_of e) old)
