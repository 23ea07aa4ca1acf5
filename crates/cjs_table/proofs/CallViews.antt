-- Whether a view of a further part is a call.
use Rattle.std.specs.Prelude.{ℕ, Bool, true, false, List, Option, Some, None, option_map}
use Rattle.base.specs.declared.range.Range.{Range}
use Rattle.es_token.specs.declared.token.Token.{Token}
use Rattle.es_ast.specs.declared.ts.leaf.Ident.{Ident}
use Rattle.es_ast.specs.declared.ts.ts.TsPart.{TsPart}
use Rattle.es_ast.specs.declared.ts.ts.TsPart.TheVariants as vPart
use Rattle.es_ast.specs.declared.ast.Expr.{Expr}
use Rattle.es_ast.specs.declared.ast.Expr.TheVariants as vExpr
use Rattle.es_ast.specs.declared.ast.ClassMember.TheOpen.{Expr-F}
use Rattle.es_lowering.specs.Value.{Value, absent, nil, more, token, node, given, optional, args_at, arguments_at}
use Rattle.es_lowering.specs.Texts.{token_of, property_of}
use Rattle.es_lowering.specs.Expressions.{Post, from_byte, member_of, index_of, call_of, tagged_of, optional_inner, optional_of}
use Rattle.es_lowering.specs.TypedParts.{args_part_at}
use Rattle.es_lowering.specs.TypedExpressions.{typed_call_of, typed_call, typed_tagged_of, non_null_of, typed_optional_inner, typed_optional_of}
use Rattle.es_view_expressions.specs.call.Post as view
use Rattle.std.proofs.Common.{refl}
use Rattle.cjs_facts.specs.Looks.{look}
use Rattle.cjs_looks.proofs.Links.{call_link}
use Rattle.cjs_table.specs.Chains.{IsCall, IsQuiet, CallsOf}
use Rattle.cjs_table.proofs.Chains.{called_roll}

-- ---- by their forms
call_made : (r : Range) (types : Option TsPart) (args : List Expr) → IsCall (typed_call_of false r types args) args
call_made r types args start e = (
  called_roll _ (Expr-F.Call e false types args (from_byte start r)) (vExpr.rolls-Call e false types args _),
  call_link r types args (look e) start e refl,
)

optional_made : (r : Range) (types : Option TsPart) (args : List Expr) → IsQuiet (typed_call_of true r types args)
optional_made r types args start e =
    called_roll _ (Expr-F.Call e true types args (from_byte start r)) (vExpr.rolls-Call e true types args _)

member_made : (b : Bool) (r : Range) (m : Bool × Ident) → IsQuiet (member_of b r m)
member_made b r m start e =
    called_roll _ (Expr-F.Member e b m.0 m.1 (from_byte start r)) (vExpr.rolls-Member e b m.0 m.1 _)

index_made : (b : Bool) (r : Range) (i : Expr) → IsQuiet (index_of b r i)
index_made b r i start e = called_roll _ (Expr-F.Index e b i (from_byte start r)) (vExpr.rolls-Index e b i _)

tagged_made : (r : Range) (types : Option TsPart) (tpl : Expr) → IsQuiet (typed_tagged_of r types tpl)
tagged_made r types tpl start e =
    called_roll _ (Expr-F.TaggedTpl e types tpl (from_byte start r)) (vExpr.rolls-TaggedTpl e types tpl _)

quiet_by : {A : Type 0} (make : A → Post) → ((a : A) → IsQuiet (make a)) → (o : Option A)
    → CallsOf None (option_map make o)
quiet_by make is None = record { calls = tt }
quiet_by make is (Some a) = record { calls = is a }

quiet_given : {A B : Type 0} (make : A → B → Post) → ((a : A) (b : B) → IsQuiet (make a b)) → (o : Option A)
    → (p : Option B) → CallsOf None (given o (λ a. given p (λ b. Some (make a b))))
quiet_given make is None p = record { calls = tt }
quiet_given make is (Some a) None = record { calls = tt }
quiet_given make is (Some a) (Some b) = record { calls = is a b }

-- ---- by views
pub call_is : (r : Range) (args : Option (List Expr)) → CallsOf (Some args) (view.call r args)
unfolding view.call
call_is r None = record { calls = tt }
call_is r (Some args) = record { calls = call_made r None args }

typed_by : (r : Range) (types : Option (Option TsPart)) (args : Option (List Expr))
    → CallsOf (Some args) (given types (λ types. given args (λ args. Some (typed_call_of false r types args))))
typed_by r None args = record { calls = tt }
typed_by r (Some types) None = record { calls = tt }
typed_by r (Some types) (Some args) = record { calls = call_made r types args }

pub typed_call_is : (r : Range) (types : Value) (args : Option (List Expr))
    → CallsOf (Some args) (view.typed_call r types args)
unfolding view.typed_call
typed_call_is r types args =
    typed_by r (option_map (λ args. option_map vPart.TypeArgs args) (optional arguments_at types)) args

pub member_is : (x : List ℕ) (r : Range) (name : Option Token) → CallsOf None (view.member x r name)
unfolding view.member
member_is x r name = quiet_by (member_of false r) (member_made false r) (given name (property_of x))

pub index_is : (r : Range) (o : Option Expr) → CallsOf None (view.index r o)
unfolding view.index
index_is r o = quiet_by (index_of false r) (index_made false r) o

pub tagged_is : (r : Range) (o : Option Expr) → CallsOf None (view.tagged r o)
unfolding view.tagged
tagged_is r o = quiet_by (tagged_of r) (tagged_made r None) o

typed_tagged_by : (r : Range) (types : Option (Option TsPart)) (o : Option Expr)
    → CallsOf None (given types (λ types. option_map (typed_tagged_of r types) o))
typed_tagged_by r None o = record { calls = tt }
typed_tagged_by r (Some types) o = quiet_by (typed_tagged_of r types) (tagged_made r types) o

pub typed_tagged_is : (r : Range) (types : Value) (o : Option Expr) → CallsOf None (view.typed_tagged r types o)
unfolding view.typed_tagged
typed_tagged_is r types o =
    typed_tagged_by r (option_map (λ args. option_map vPart.TypeArgs args) (optional arguments_at types)) o

pub non_null_is : (r : Range) → CallsOf None (Some (non_null_of r))
non_null_is r = record {
  calls = λ start e. called_roll _ (Expr-F.TsNonNull e (from_byte start r)) (vExpr.rolls-TsNonNull e _);
}

pub broken_is : (args : Option (Option (List Expr))) → CallsOf args None
broken_is args = record { calls = tt }

module _ (x : List ℕ) (ts : List Token) (r : Range) where
  inner_is : (u : Value) → CallsOf None (optional_inner x ts r u)
  inner_is (token n) = quiet_by (member_of true r) (member_made true r) (given (token_of ts (token n)) (property_of x))
  inner_is (node from to m) = quiet_by (call_of true r) (optional_made r None) m.args
  inner_is absent = record { calls = tt }
  inner_is nil = record { calls = tt }
  inner_is (more v vs) = record { calls = tt }

  optional_of_is : (u : Value) → CallsOf None (optional_of x ts r u)
  optional_of_is (node from to m) = quiet_by (index_of true r) (index_made true r) m.expr
  optional_of_is absent = inner_is absent
  optional_of_is nil = inner_is absent
  optional_of_is (token n) = inner_is absent
  optional_of_is (more v vs) = inner_is v

  pub optional_is : (u : Value) → CallsOf None (view.optioned x ts r u)
  unfolding view.optioned
  optional_is u = optional_of_is u

  typed_call_quiet : (g : Value) → CallsOf None (typed_call true r g)
  typed_call_quiet g =
      quiet_given (λ types args. typed_call_of true r types args) (λ types args. optional_made r types args)
      (args_part_at g 0) (args_at g 1)

  typed_inner_is : (g : Value) → CallsOf None (typed_optional_inner x ts r g)
  typed_inner_is (more (token n) vs) =
      quiet_by (member_of true r) (member_made true r) (given (token_of ts (token n)) (property_of x))
  typed_inner_is g = typed_call_quiet g

  typed_of_is : (u : Value) → CallsOf None (typed_optional_of x ts r u)
  typed_of_is (node from to m) = quiet_by (index_of true r) (index_made true r) m.expr
  typed_of_is absent = typed_inner_is nil
  typed_of_is nil = typed_inner_is nil
  typed_of_is (token n) = typed_inner_is nil
  typed_of_is (more v vs) = typed_inner_is (more v vs)

  pub typed_optional_is : (u : Value) → CallsOf None (view.typed_optioned x ts r u)
  unfolding view.typed_optioned
  typed_optional_is u = typed_of_is u
