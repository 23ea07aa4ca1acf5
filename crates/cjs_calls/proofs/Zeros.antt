-- Which expressions are zero.
use Rattle.std.specs.Prelude.{ℕ, Bool, true, false, List, Option, Some, None, bytes_eq, codes, if◌then◌else◌}
use Rattle.std.proofs.Common.{◌≡◌, sym, ap, ◌∙◌}
use Rattle.es_token.specs.declared.token.Token.{Token}
use Rattle.es_token.specs.declared.token.TokenKind.TheVariants as k
use Rattle.grammar_theory.specs.Key.{same_kind}
use Rattle.es_ast.specs.declared.ast.Expr.{Expr}
use Rattle.es_ast.specs.declared.ast.Prop.{Prop}
use Rattle.es_ast.specs.declared.ast.Stmt.{Stmt}
use Rattle.cjs_facts.specs.Looks.{Look}
use Rattle.cjs_looks.specs.Odd.{All, Linked}
use Rattle.cjs_looks.specs.Kinds.{number_zero, IsObject, IsParen, IsNumber, IsSequence, IsSpread, IsFunction, IsAssignment}
use Rattle.cjs_looks.specs.Seen.{Tells, name_of}
use Rattle.cjs_calls.specs.Callees.{zero_of}

module _ (x : List ℕ) (o : Option Token) (t : Token) where
  pub is_number : (b : Bool) → Some t ≡ o → same_kind t.kind k.Number ≡ true → b ≡ bytes_eq (name_of x o) (codes "0")
      → b ≡ number_zero x o
  is_number b e is same =
      same ∙ (ap (λ (p : Option Token). bytes_eq (name_of x p) (codes "0")) (sym e)
      ∙ (sym (ap (λ (c : Bool). if c then bytes_eq (name_of x (Some t)) (codes "0") else false) is)
      ∙ ap (number_zero x) e))

  pub is_other : Some t ≡ o → same_kind t.kind k.Number ≡ false → false ≡ number_zero x o
  is_other e is =
      sym (ap (λ (c : Bool). if c then bytes_eq (name_of x (Some t)) (codes "0") else false) is)
      ∙ ap (number_zero x) e

pub is_none : (x : List ℕ) (o : Option Token) → None ≡ o → false ≡ number_zero x o
is_none x o e = ap (number_zero x) e

pub zero_plain : (l : Look) (o : Option Expr) → All (Linked l) o → Tells zero_of o false
zero_plain l None a = record { told = tt }
zero_plain l (Some e) a = record { told = a.all.1.zero }

pub zero_object : (props : Option (List Prop)) (o : Option Expr) → All (IsObject props) o → Tells zero_of o false
zero_object props None a = record { told = tt }
zero_object props (Some e) a = record { told = a.all.zero }

pub zero_paren : (inner o : Option Expr) → All (IsParen inner) o → Tells zero_of o false
zero_paren inner None a = record { told = tt }
zero_paren inner (Some e) a = record { told = a.all.zero }

pub zero_number : (is b : Bool) (o : Option Expr) → All (IsNumber is) o → b ≡ is → Tells zero_of o b
zero_number is b None a e = record { told = tt }
zero_number is b (Some it) a e = record { told = a.all.zero ∙ sym e }

pub zero_sequence : (first second : Option Expr) (others : Option (List Expr)) (o : Option Expr)
    → All (IsSequence first second others) o → Tells zero_of o false
zero_sequence first second others None a = record { told = tt }
zero_sequence first second others (Some e) a = record { told = a.all.zero }

pub zero_spread : (o : Option Expr) → All IsSpread o → Tells zero_of o false
zero_spread None a = record { told = tt }
zero_spread (Some e) a = record { told = a.all.zero }

pub zero_function : (body : Option (Option Stmt)) (o : Option Expr) → All (IsFunction body) o → Tells zero_of o false
zero_function body None a = record { told = tt }
zero_function body (Some e) a = record { told = a.all.zero }

pub zero_assigned : (right o : Option Expr) → All (IsAssignment right) o → Tells zero_of o false
zero_assigned right None a = record { told = tt }
zero_assigned right (Some e) a = record { told = a.all.zero }
