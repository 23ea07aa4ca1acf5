-- Calls, functions and chains of operators that are none of those that are looked at.
use Rattle.std.specs.Prelude.{ℕ, Bool, true, false, List, [], ◌∷◌, Option, Some, None, option_map}
use Rattle.std.proofs.Common.{refl}
use Rattle.base.specs.declared.range.Range.{Range}
use Rattle.es_token.specs.declared.token.Token.{Token}
use Rattle.es_ast.specs.declared.ts.ts.TsPart.TheVariants as vPart
use Rattle.es_ast.specs.declared.leaf.ImportPhase.{ImportPhase}
use Rattle.es_ast.specs.declared.ast.Expr.{Expr}
use Rattle.es_ast.specs.declared.ast.Expr.TheVariants as vExpr
use Rattle.es_ast.specs.declared.ast.Param.{Param}
use Rattle.es_ast.specs.declared.ast.Function.{Function as AFunction}
use Rattle.es_ast.specs.declared.ast.ClassMember.TheOpen.{Expr-F}
use Rattle.es_lowering.specs.Value.{Value, more, first_of, behind, part, group, as_group, optional, option_list, turns, expr_at, args_at, arguments_at, type_at, type_params_at}
use Rattle.es_lowering.specs.Texts.{span_of}
use Rattle.es_lowering.specs.Operators.{binary_between}
use Rattle.es_lowering.specs.Expressions.{binary, new_of}
use Rattle.es_lowering.specs.TypedExpressions.{typed_binary, typed_new_of}
use Rattle.es_lowering.specs.Functions.{body_of}
use Rattle.es_lowering.specs.Lowering.{build, expr_of}
use Rattle.es_syntax.specs.declared.entry.Lean.{Lean}
use Rattle.es_syntax.specs.declared.entry.Lean.TheVariants as vLean
use Rattle.es_syntax.specs.Held.{Held, label_of, node_of, leaning, leaned, leant}
use Rattle.es_syntax.specs.Roles.{expr_in}
use Rattle.es_view_expressions.specs.call.Call as call
use Rattle.es_view_expressions.specs.function.Function as fn
use Rattle.cjs_looks.specs.Odd.{All, Linked, IsNothing, IsRunning}
use Rattle.cjs_facts.specs.Looks.{other}
use Rattle.cjs_looks.proofs.Given.{all_given, all_map, all_one}
use Rattle.cjs_looks.proofs.Odd.{nothing, running, turned, is_bin}

abbrev N : Expr → Type 0
N = IsNothing

pub all_plain : (o : Option Expr) → All IsNothing o → All (Linked other) o
all_plain None a = record { all = tt }
all_plain (Some e) a = record { all = a.all.0 }

-- ---- calls
module _ (r : Range) where
  pub is_super : All N (Some (vExpr.Super r))
  is_super = all_one N _ (nothing (Expr-F.Super r) _ (vExpr.rolls-Super r) refl refl refl refl refl refl)

  pub is_import_meta : All N (Some (vExpr.ImportMeta r))
  is_import_meta =
      all_one N _ (nothing (Expr-F.ImportMeta r) _ (vExpr.rolls-ImportMeta r) refl refl refl refl refl refl)

  pub is_new_target : All N (Some (vExpr.NewTarget r))
  is_new_target =
      all_one N _ (nothing (Expr-F.NewTarget r) _ (vExpr.rolls-NewTarget r) refl refl refl refl refl refl)

  pub is_imported : (phase : ImportPhase) (first : Option Expr) (second : Value)
      → All N (call.imported r phase first second)
  unfolding call.imported
  is_imported phase first second =
      all_given N first (λ first. all_given N (optional expr_at second) (λ second.
      all_one N _
      (nothing (Expr-F.ImportCall phase (first ∷ option_list second) r) _
      (vExpr.rolls-ImportCall phase (first ∷ option_list second) r) refl refl refl refl refl refl)))

  pub is_newed : (callee : Option Expr) (args : Value) → All N (call.newed r callee args)
  unfolding call.newed
  is_newed callee args =
      all_given N callee (λ callee. all_given N (optional args_at args) (λ args. all_one N _ (go callee args)))
    where
      go : (callee : Expr) (args : Option (List Expr)) → N (new_of r callee args)
      go callee (Some args) =
          nothing (Expr-F.New callee None true args r) _ (vExpr.rolls-New callee None true args r) refl refl refl refl
          refl refl
      go callee None =
          nothing (Expr-F.New callee None false [] r) _ (vExpr.rolls-New callee None false [] r) refl refl refl refl
          refl refl

  pub is_typed_newed : (callee : Option Expr) (type_args args : Value)
      → All N (call.typed_newed r callee type_args args)
  unfolding call.typed_newed
  is_typed_newed callee type_args args =
      all_given N callee (λ callee.
      all_given N (option_map (λ args. option_map vPart.TypeArgs args) (optional arguments_at type_args)) (λ type_args.
      all_given N (optional args_at args) (λ args. all_one N _ (go callee type_args args))))
    where
      go : (callee : Expr) (type_args : _) (args : Option (List Expr)) → N (typed_new_of r callee type_args args)
      go callee type_args (Some args) =
          nothing (Expr-F.New callee type_args true args r) _ (vExpr.rolls-New callee type_args true args r) refl refl
          refl refl refl refl
      go callee type_args None =
          nothing (Expr-F.New callee type_args false [] r) _ (vExpr.rolls-New callee type_args false [] r) refl refl
          refl refl refl refl

  pub is_broken : All N None
  is_broken = record { all = tt }

-- ---- functions and classes
pub fn_is : (o : Option AFunction) → All IsRunning (option_map vExpr.Fn o)
fn_is o =
    all_map IsRunning o vExpr.Fn (λ it. running (Expr-F.Expr::Fn it) _ (vExpr.rolls-Fn it) refl refl refl refl refl)

pub class_is : (o : Option _) → All N (option_map vExpr.Class o)
class_is o =
    all_map N o vExpr.Class
    (λ it. nothing (Expr-F.Expr::Class it) _ (vExpr.rolls-Class it) refl refl refl refl refl refl)

arrow_is : (it : AFunction) → All IsRunning (Some (vExpr.Arrow it))
arrow_is it = all_one IsRunning _ (running (Expr-F.Arrow it) _ (vExpr.rolls-Arrow it) refl refl refl refl refl)

module _ (x : List ℕ) (ts : List Token) (r : Range) where
  pub named_arrow_is : (is_async : Bool) (param : Option Token) (body : Value)
      → All IsRunning (fn.named_arrow x ts r is_async param body)
  unfolding fn.named_arrow
  named_arrow_is is_async param body =
      all_given IsRunning param (λ t. all_given IsRunning (body_of ts body) (λ body. arrow_is _))

  pub plain_arrow_is : (is_async : Bool) (params : Option (List Param)) (body : Value)
      → All IsRunning (fn.arrow ts r is_async params body)
  unfolding fn.arrow
  plain_arrow_is is_async params body =
      all_given IsRunning params (λ params. all_given IsRunning (body_of ts body) (λ body. arrow_is _))

  pub typed_arrow_is : (is_async : Bool) (type_params : Value) (params : Option (List Param)) (return_type body : Value)
      → All IsRunning (fn.typed_arrow_of ts r is_async type_params params return_type body)
  unfolding fn.typed_arrow_of
  typed_arrow_is is_async type_params params return_type body =
      all_given IsRunning (option_map (λ ps. option_map vPart.TypeParams ps) (optional type_params_at type_params))
      (λ type_params. all_given IsRunning params (λ params.
      all_given IsRunning (option_map (λ ty. option_map vPart.TypeAnn ty) (optional type_at return_type))
      (λ return_type. all_given IsRunning (body_of ts body) (λ body. arrow_is _))))

-- ---- chains of operators that lean left
module _ (x : List ℕ) (ts : List Token) where
  binary_is : (r : Range) (p : Value) → All N (binary ts r p)
  unfolding binary
  binary_is r p =
      all_given N (expr_at p 0) (λ a. all_given N (binary_between ts (behind (part p 0)) (first_of (part p 2))) (λ op.
      all_given N (expr_at p 2) (λ b. all_one N _ (is_bin op a b r))))

  typed_binary_is : (r : Range) (p : Value) → All N (typed_binary ts r p)
  unfolding typed_binary
  typed_binary_is r p =
      all_given N (expr_at p 0) (λ a. turned ts r a (behind (part p 0)) (group p 1) (part (group p 1) 1))

  leaning_is : (lean : Lean) (from to : ℕ) (p : Value) → All N (expr_in (node_of x ts (label_of lean) from to p))
  unfolding build expr_of
  leaning_is vLean.Binary from to p = binary_is (span_of ts from to) p
  leaning_is vLean.TypedBinary from to p = typed_binary_is (span_of ts from to) p

  leaned_is : (lean : Lean) (from : ℕ) (v : Value) (turns : List Held) → All N (expr_in v)
      → All N (expr_in (leaned x ts lean from v turns))
  unfolding leaned
  leaned_is lean from v [] is = is
  leaned_is lean from v (turn ∷ turns) is =
      leaned_is lean from (leaning x ts lean from v turn) turns
      (leaning_is lean from turn.0 (more v (as_group turn.1)))

  -- fewer operands than two are nothing
  pub lean_is : (lean : Lean) (from : ℕ) (parts : List Held) → All N (expr_in (leant x ts lean from parts))
  lean_is lean from [] = record { all = tt }
  lean_is lean from (first ∷ []) = record { all = tt }
  lean_is lean from (first ∷ turn ∷ turns) =
      leaned_is lean from (leaning x ts lean from first.1 turn) turns
      (leaning_is lean from turn.0 (more first.1 (as_group turn.1)))

pub plain_class : (o : Option _) → All (Linked other) (option_map vExpr.Class o)
plain_class o = all_plain _ (class_is o)
