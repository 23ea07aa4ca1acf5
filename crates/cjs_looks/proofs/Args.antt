-- What arguments look like.
use Rattle.std.specs.Prelude.{ℕ, Bool, true, false, List, [], ◌∷◌, Option, Some, None, option_map, map, bytes_eq, codes, if◌then◌else◌}
use Rattle.std.proofs.Common.{◌≡◌, refl, sym, ap, subst, ◌∙◌}
use Rattle.es_token.specs.declared.token.Token.{Token}
use Rattle.es_ast.specs.declared.ast.Expr.{Expr}
use Rattle.es_ast.specs.declared.ast.Expr.TheVariants as vExpr
use Rattle.es_ast.specs.declared.ast.ClassMember.TheOpen.{Expr-F}
use Rattle.es_lowering.specs.Value.{Value, nil, more, given, as_group, group, part, first_of, behind, turns, is_there, expr_at}
use Rattle.es_lowering.specs.Texts.{span_of, str_of}
use Rattle.es_lowering.specs.Expressions.{argument, argument_of}
use Rattle.es_view_expressions.specs.call.Args.{arguments}
use Rattle.cjs_facts.specs.Looks.{Name, Key, Object, Look, named, member, requires, other, required_by, passed, call_by, call_of, look}
use Rattle.cjs_facts.proofs.Rolls.{look_roll}
use Rattle.cjs_looks.specs.Seen.{Tells, text_of}
use Rattle.cjs_looks.specs.Args.{first_look}

-- ---- the first of them
pub tells_none : (ts : List Token) (v : Value) → v ≡ nil
    → Tells (λ args. first_look (map look args)) (arguments ts v) other
unfolding arguments
tells_none ts v e =
    subst (λ (w : Value). Tells (λ args. first_look (map look args)) (turns (argument ts) w) other) (sym e)
    (record { told = refl })

pub tells_first : (ts : List Token) (v u us : Value) (l : Look) → v ≡ more u us
    → Tells look (argument ts (as_group u)) l → Tells (λ args. first_look (map look args)) (arguments ts v) l
unfolding arguments
tells_first ts v u us l e told =
    subst (λ (w : Value). Tells (λ args. first_look (map look args)) (turns (argument ts) w) l) (sym e)
    (go (argument ts (as_group u)) (turns (argument ts) us) told)
  where
    go : (o : Option Expr) (os : Option (List Expr)) → Tells look o l
        → Tells (λ args. first_look (map look args)) (given o (λ a. given os (λ rest. Some (a ∷ rest)))) l
    go None os told = record { told = tt }
    go (Some a) None told = record { told = tt }
    go (Some a) (Some rest) told = record { told = told.told }

-- what stands behind `...` is no string and no call
pub tells_spread : (ts : List Token) (turn : Value) → is_there (group turn 0) ≡ true
    → Tells look (argument ts turn) other
tells_spread ts turn e =
    subst (λ (b : Bool). Tells look
    (option_map (argument_of b (span_of ts (first_of (part (group turn 0) 0)) (behind (part turn 1))))
    (expr_at turn 1)) other)
    (sym e) (go (expr_at turn 1))
  where
    go : (o : Option Expr)
        → Tells look (option_map
        (argument_of true (span_of ts (first_of (part (group turn 0) 0)) (behind (part turn 1)))) o) other
    go None = record { told = tt }
    go (Some a) = record {
      told = ap look (sym (vExpr.rolls-Spread a _)) ∙ look_roll (Expr-F.Expr::Spread a _);
    }

pub tells_argument : (ts : List Token) (turn : Value) (l : Look) → is_there (group turn 0) ≡ false
    → Tells look (expr_at turn 1) l → Tells look (argument ts turn) l
tells_argument ts turn l e told =
    subst (λ (b : Bool). Tells look
    (option_map (argument_of b (span_of ts (first_of (part (group turn 0) 0)) (behind (part turn 1))))
    (expr_at turn 1)) l)
    (sym e) (go (expr_at turn 1) told)
  where
    go : (o : Option Expr) → Tells look o l
        → Tells look (option_map
        (argument_of false (span_of ts (first_of (part (group turn 0) 0)) (behind (part turn 1)))) o) l
    go None told = record { told = tt }
    go (Some a) told = record { told = told.told }

-- ---- calls by names
abbrev CallBy : Name → Option (List Expr) → Look → Type 0
CallBy c o l = Tells (λ args. call_of (named c) (map look args)) o l

call_first : (c : Name) (ls : List Look) → call_of (named c) ls ≡ call_by c (first_look ls)
call_first c [] = go (bytes_eq c (codes "require")) (bytes_eq c (codes "_interopRequireWildcard"))
  where
    go : (a b : Bool)
        → other ≡ (if a then required_by other else (if b then passed other else other))
    go true b = refl
    go false true = refl
    go false false = refl
call_first c (l ∷ ls) = refl

pub call_requires : (c : Name) (o : Option (List Expr)) (l : Look) → Tells (λ args. first_look (map look args)) o l
    → bytes_eq c (codes "require") ≡ true → CallBy c o (required_by l)
call_requires c None l told e = record { told = tt }
call_requires c (Some args) l told e = record {
  told = call_first c (map look args) ∙ (ap (λ (m : Look). call_by c m) told.told
      ∙ ap (λ (b : Bool). if b then required_by l
      else (if bytes_eq c (codes "_interopRequireWildcard") then passed l else other)) e);
}

pub call_passes : (c : Name) (o : Option (List Expr)) (l : Look) → Tells (λ args. first_look (map look args)) o l
    → bytes_eq c (codes "require") ≡ false → bytes_eq c (codes "_interopRequireWildcard") ≡ true
    → CallBy c o (passed l)
call_passes c None l told e f = record { told = tt }
call_passes c (Some args) l told e f = record {
  told = call_first c (map look args) ∙ (ap (λ (m : Look). call_by c m) told.told
      ∙ (ap (λ (b : Bool). if b then required_by l
      else (if bytes_eq c (codes "_interopRequireWildcard") then passed l else other)) e
      ∙ ap (λ (b : Bool). if b then passed l else other) f));
}

pub call_none : (c : Name) (o : Option (List Expr)) → bytes_eq c (codes "require") ≡ false
    → bytes_eq c (codes "_interopRequireWildcard") ≡ false → CallBy c o other
call_none c None e f = record { told = tt }
call_none c (Some args) e f = record {
  told = call_first c (map look args)
      ∙ (ap (λ (b : Bool). if b then required_by (first_look (map look args))
      else (if bytes_eq c (codes "_interopRequireWildcard") then passed (first_look (map look args)) else other)) e
      ∙ ap (λ (b : Bool). if b then passed (first_look (map look args)) else other) f);
}

-- ---- calls of what is no name
pub call_text : (x : List ℕ) (t : Option Token) (o : Option (List Expr))
    → Tells (λ args. call_of (text_of x t) (map look args)) o other
call_text x None None = record { told = tt }
call_text x None (Some args) = record { told = refl }
call_text x (Some t) None = record { told = tt }
call_text x (Some t) (Some args) = record { told = refl }

pub call_member : (object : Object) (key : Key) (o : Option (List Expr))
    → Tells (λ args. call_of (member object key) (map look args)) o other
call_member object key None = record { told = tt }
call_member object key (Some args) = record { told = refl }

pub call_required : (x : List ℕ) (t : Option Token) (o : Option (List Expr))
    → Tells (λ args. call_of (required_by (text_of x t)) (map look args)) o other
call_required x t None = record { told = tt }
call_required x None (Some args) = record { told = refl }
call_required x (Some t) (Some args) = go (str_of x t).lone
  where
    go : (b : Bool)
        → Tells (λ args. call_of (if b then other else requires (str_of x t).value) (map look args)) (Some args) other
    go true = record { told = refl }
    go false = record { told = refl }

pub call_nothing : (o : Option (List Expr)) → Tells (λ args. call_of other (map look args)) o other
call_nothing None = record { told = tt }
call_nothing (Some args) = record { told = refl }
