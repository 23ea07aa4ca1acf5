-- Functions by their bodies.
use Rattle.std.specs.Prelude.{ℕ, Bool, false, List, [], ◌∷◌, Option, Some, None, option_map}
use Rattle.std.proofs.Common.{◌≡◌, refl, sym, ap, ◌∙◌}
use Rattle.base.specs.declared.range.Range.{Range}
use Rattle.es_token.specs.declared.token.Token.{Token}
use Rattle.es_ast.specs.declared.ts.leaf.Ident.{Ident}
use Rattle.es_ast.specs.declared.ts.ts.TsPart.{TsPart}
use Rattle.es_ast.specs.declared.ts.ts.TsPart.TheVariants as vPart
use Rattle.es_ast.specs.declared.ast.Expr.{Expr, roll-Expr, out-Expr, out-roll-Expr}
use Rattle.es_ast.specs.declared.ast.Expr.TheVariants as vExpr
use Rattle.es_ast.specs.declared.ast.Param.{Param}
use Rattle.es_ast.specs.declared.ast.Stmt.{Stmt}
use Rattle.es_ast.specs.declared.ast.Function.{Function as AFunction, roll-Function, out-roll-Function}
use Rattle.es_ast.specs.declared.ast.ClassMember.TheOpen.{Expr-F, Function-F}
use Rattle.es_site.specs.Parts.{Whole, ExprParts}
use Rattle.es_lowering.specs.Value.{Value, Signature, given, optional, type_at, type_params_at}
use Rattle.es_lowering.specs.Texts.{own_name_of}
use Rattle.es_lowering.specs.Functions.{function_of, arrow_of, name_param, body_of}
use Rattle.es_lowering.specs.TypedFunctions.{typed_function_of}
use Rattle.es_lowering.specs.TypedParts.{body_in}
use Rattle.es_view_expressions.specs.function.Function as fn
use Rattle.es_view_expressions.specs.function.Head as head
use Rattle.cjs_facts.specs.Exports.{is_spread_in}
use Rattle.cjs_facts.specs.Looks.{look, props_in, props_of, behind_zero, is_zero, second_in, function_in, assigned_last}
use Rattle.cjs_facts.proofs.Rolls.{look_roll, assigned_roll}
use Rattle.cjs_looks.specs.Odd.{All}
use Rattle.cjs_looks.specs.Kinds.{IsFunction, body_by}
use Rattle.cjs_looks.proofs.Given.{all_given}

fn_at : (w : Whole Function-F) → IsFunction (Some w.body) (vExpr.Fn (roll-Function w))
unfolding props_of
fn_at w =
    let it = roll-Function w in
    let p : ExprParts = Expr-F.Expr::Fn it in
    let e : Expr = vExpr.Fn it in
    let rolls : roll-Expr p ≡ e = vExpr.rolls-Fn it in
    let is : out-Expr e ≡ p = sym (ap out-Expr rolls) ∙ out-roll-Expr p in
    record {
      holds = ap props_in is;
      looks = ap look (sym rolls) ∙ look_roll p;
      follows = ap behind_zero is;
      runs = ap (λ q. body_by (function_in q)) is ∙ ap (λ (m : Whole Function-F). Some m.body) (out-roll-Function w);
      ends = ap assigned_last (sym rolls) ∙ assigned_roll p;
      zero = ap is_zero is;
      pairs = ap second_in is;
      spreads = ap is_spread_in is;
      there = refl;
    }

arrow_at : (w : Whole Function-F) → IsFunction (Some w.body) (vExpr.Arrow (roll-Function w))
unfolding props_of
arrow_at w =
    let it = roll-Function w in
    let p : ExprParts = Expr-F.Arrow it in
    let e : Expr = vExpr.Arrow it in
    let rolls : roll-Expr p ≡ e = vExpr.rolls-Arrow it in
    let is : out-Expr e ≡ p = sym (ap out-Expr rolls) ∙ out-roll-Expr p in
    record {
      holds = ap props_in is;
      looks = ap look (sym rolls) ∙ look_roll p;
      follows = ap behind_zero is;
      runs = ap (λ q. body_by (function_in q)) is ∙ ap (λ (m : Whole Function-F). Some m.body) (out-roll-Function w);
      ends = ap assigned_last (sym rolls) ∙ assigned_roll p;
      zero = ap is_zero is;
      pairs = ap second_in is;
      spreads = ap is_spread_in is;
      there = refl;
    }

fn_given : {A : Type 0} (P : Expr → Type 0) (o : Option A) (make : A → Option AFunction)
    → ((a : A) → All P (option_map vExpr.Fn (make a))) → All P (option_map vExpr.Fn (given o make))
fn_given P None make each = record { all = tt }
fn_given P (Some a) make each = each a

abbrev F : Option (Option Stmt) → Expr → Type 0
F = IsFunction

module _ (x : List ℕ) (ts : List Token) (r : Range) where
  pub is_plain_function : (is_async is_generator : Bool) (name : Value) (params : Option (List Param))
      (body : Option Stmt)
      → All (F (option_map Some body))
      (option_map vExpr.Fn (head.plain_function x ts r is_async is_generator name params body))
  unfolding head.plain_function
  is_plain_function is_async is_generator name params body =
      fn_given _ (own_name_of x ts name) _ (λ name. fn_given _ params _ (λ params. go name params body))
    where
      go : (name : Option Ident) (params : List Param) (body : Option Stmt)
          → All (F (option_map Some body)) (option_map vExpr.Fn (given body (λ body.
          Some (function_of is_async is_generator r name params body))))
      go name params None = record { all = tt }
      go name params (Some body) = record { all = fn_at _ }

  pub is_typed_function : (is_async is_generator : Bool) (name : Value) (signature : Option Signature) (body : Value)
      → All (F (body_in body))
      (option_map vExpr.Fn (head.typed_function x ts r is_async is_generator name signature body))
  unfolding head.typed_function
  is_typed_function is_async is_generator name signature body =
      fn_given _ (own_name_of x ts name) _ (λ name.
      fn_given _ signature _ (λ signature. go name signature (body_in body)))
    where
      go : (name : Option Ident) (signature : Signature) (body : Option (Option Stmt))
          → All (F body) (option_map vExpr.Fn (given body (λ body.
          Some (typed_function_of is_async is_generator r name signature body))))
      go name signature None = record { all = tt }
      go name signature (Some body) = record { all = fn_at _ }

  pub is_named_arrow : (is_async : Bool) (param : Option Token) (body : Value)
      → All (F (option_map Some (body_of ts body))) (fn.named_arrow x ts r is_async param body)
  unfolding fn.named_arrow
  is_named_arrow is_async param body = all_given _ param (λ t. go t (body_of ts body))
    where
      go : (t : Token) (body : Option Stmt)
          → All (F (option_map Some body)) (given body (λ body. Some (arrow_of is_async r (name_param x t ∷ []) body)))
      go t None = record { all = tt }
      go t (Some body) = record { all = arrow_at _ }

  pub is_plain_arrow : (is_async : Bool) (params : Option (List Param)) (body : Value)
      → All (F (option_map Some (body_of ts body))) (fn.arrow ts r is_async params body)
  unfolding fn.arrow
  is_plain_arrow is_async params body = all_given _ params (λ params. go params (body_of ts body))
    where
      go : (params : List Param) (body : Option Stmt)
          → All (F (option_map Some body)) (given body (λ body. Some (arrow_of is_async r params body)))
      go params None = record { all = tt }
      go params (Some body) = record { all = arrow_at _ }

  pub is_typed_arrow : (is_async : Bool) (type_params : Value) (params : Option (List Param)) (return_type body : Value)
      → All (F (option_map Some (body_of ts body)))
      (fn.typed_arrow_of ts r is_async type_params params return_type body)
  unfolding fn.typed_arrow_of
  is_typed_arrow is_async type_params params return_type body =
      all_given _ (option_map (λ ps. option_map vPart.TypeParams ps) (optional type_params_at type_params))
      (λ type_params. all_given _ params (λ params.
      all_given _ (option_map (λ ty. option_map vPart.TypeAnn ty) (optional type_at return_type)) (λ return_type.
      go type_params params return_type (body_of ts body))))
    where
      go : (type_params : Option TsPart) (params : List Param) (return_type : Option TsPart) (body : Option Stmt)
          → All (F (option_map Some body)) (given body (λ body.
          Some (vExpr.Arrow (typed_function_of is_async false r None (type_params, params, return_type) (Some body)))))
      go type_params params return_type None = record { all = tt }
      go type_params params return_type (Some body) = record { all = arrow_at _ }
