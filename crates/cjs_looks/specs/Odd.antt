-- Expressions that are none of those that are looked at.
use Rattle.std.specs.Prelude.{◌≡◌, Bool, false, Option, None, IfSome}
use Rattle.es_ast.specs.declared.ast.Expr.{Expr, out-Expr}
use Rattle.cjs_facts.specs.Exports.{is_spread_in}
use Rattle.cjs_facts.specs.Looks.{Look, other, look, is_harmless, props_of, behind_zero, is_zero, second_in, function_in, assigned_last}

-- where the part is there
pub record All (P : Expr → Type 0) (part : Option Expr) : Type 0 where
  pub all : IfSome part P

-- no object, no `(0, a)`, no function, no assignment by `=`; no zero, no expression behind one, and none behind `...`
pub record IsPlain (e : Expr) : Type 0 where
  pub holds : props_of e ≡ None
  pub follows : behind_zero (out-Expr e) ≡ None
  pub runs : function_in (out-Expr e) ≡ None
  pub ends : assigned_last e ≡ None
  pub zero : is_zero (out-Expr e) ≡ false
  pub pairs : second_in (out-Expr e) ≡ None
  pub spreads : is_spread_in (out-Expr e) ≡ false

-- it looks so
abbrev pub Looks : Look → Expr → Type 0
Looks l e = look e ≡ l

-- it looks so, and is plain
abbrev pub Linked : Look → Expr → Type 0
Linked l e = Looks l e × IsPlain e

abbrev pub IsNothing : Expr → Type 0
IsNothing e = Linked other e × (is_harmless e ≡ false)

-- no object, no `(0, a)`, no assignment by `=`: a function
pub record IsRunning (e : Expr) : Type 0 where
  pub looks : look e ≡ other
  pub harms : is_harmless e ≡ false
  pub holds : props_of e ≡ None
  pub follows : behind_zero (out-Expr e) ≡ None
  pub ends : assigned_last e ≡ None

-- an assignment
pub record IsAssigning (e : Expr) : Type 0 where
  pub looks : look e ≡ other
  pub harms : is_harmless e ≡ false
  pub holds : props_of e ≡ None
  pub follows : behind_zero (out-Expr e) ≡ None
  pub runs : function_in (out-Expr e) ≡ None

-- it is harmless, or not
abbrev pub Harms : Bool → Expr → Type 0
Harms is e = is_harmless e ≡ is
