-- What is told of arguments.
use Rattle.std.specs.Prelude.{ℕ, Bool, true, false, List, Option, Some, None, is_some, option_map}
use Rattle.std.proofs.Common.{◌≡◌, sym, ap, subst, ◌∙◌}
use Rattle.es_token.specs.declared.token.Token.{Token}
use Rattle.es_ast.specs.declared.ast.Expr.{Expr, out-Expr, out-roll-Expr}
use Rattle.es_ast.specs.declared.ast.Expr.TheVariants as vExpr
use Rattle.es_ast.specs.declared.ast.Stmt.{Stmt}
use Rattle.es_ast.specs.declared.ast.ClassMember.TheOpen.{Expr-F}
use Rattle.es_lowering.specs.Value.{Value, absent, group, part, first_of, behind, is_there, turns, expr_at, prop_at}
use Rattle.es_lowering.specs.Texts.{span_of}
use Rattle.es_lowering.specs.Expressions.{argument, argument_of}
use Rattle.es_syntax.specs.declared.cursor.Siblings.{Siblings}
use Rattle.es_syntax.specs.Held.{held}
use Rattle.es_syntax.specs.Roles.{expr_in}
use Rattle.cjs_facts.specs.Looks.{Look}
use Rattle.cjs_facts.specs.Exports.{is_spread_in}
use Rattle.cjs_looks.specs.Odd.{All, Linked}
use Rattle.cjs_looks.specs.Kinds.{IsObject, IsParen, IsNumber, IsSequence, IsSpread, IsFunction, IsAssignment}
use Rattle.cjs_calls.specs.Calls.{HasProps}

module _ (x : List ℕ) (ts : List Token) where
  pub props_plain : (l : Look) (o : Option Expr) → All (Linked l) o → HasProps x ts (Some None) o
  props_plain l None a = record { has = tt }
  props_plain l (Some e) a = record { has = (a.all.1.spreads, a.all.1.holds) }

  pub props_object : (row : Siblings) (o : Option Expr)
      → All (IsObject (turns (λ turn. prop_at turn 0) (held x ts row.entries.now))) o
      → HasProps x ts (Some (Some row)) o
  props_object row None a = record { has = tt }
  props_object row (Some e) a = record { has = (a.all.spreads, (a.all.holds, ap is_some a.all.holds ∙ a.all.there)) }

  pub props_paren : (inner o : Option Expr) → All (IsParen inner) o → HasProps x ts (Some None) o
  props_paren inner None a = record { has = tt }
  props_paren inner (Some e) a = record { has = (a.all.spreads, a.all.holds) }

  pub props_number : (is : Bool) (o : Option Expr) → All (IsNumber is) o → HasProps x ts (Some None) o
  props_number is None a = record { has = tt }
  props_number is (Some e) a = record { has = (a.all.spreads, a.all.holds) }

  pub props_sequence : (first second : Option Expr) (others : Option (List Expr)) (o : Option Expr)
      → All (IsSequence first second others) o → HasProps x ts (Some None) o
  props_sequence first second others None a = record { has = tt }
  props_sequence first second others (Some e) a = record { has = (a.all.spreads, a.all.holds) }

  pub props_spread : (o : Option Expr) → All IsSpread o → HasProps x ts None o
  props_spread None a = record { has = tt }
  props_spread (Some e) a = record { has = a.all.spreads }

  pub props_function : (body : Option (Option Stmt)) (o : Option Expr) → All (IsFunction body) o
      → HasProps x ts (Some None) o
  props_function body None a = record { has = tt }
  props_function body (Some e) a = record { has = (a.all.spreads, a.all.holds) }

  pub props_assigned : (right o : Option Expr) → All (IsAssignment right) o → HasProps x ts (Some None) o
  props_assigned right None a = record { has = tt }
  props_assigned right (Some e) a = record { has = (a.all.spreads, a.all.holds) }

  -- ---- arguments
  pub described_spread : (turn : Value) → is_there (group turn 0) ≡ true → HasProps x ts None (argument ts turn)
  described_spread turn e =
      subst (λ (b : Bool). HasProps x ts None
      (option_map (argument_of b (span_of ts (first_of (part (group turn 0) 0)) (behind (part turn 1))))
      (expr_at turn 1)))
      (sym e) (go (expr_at turn 1))
    where
      go : (o : Option Expr)
          → HasProps x ts None (option_map
          (argument_of true (span_of ts (first_of (part (group turn 0) 0)) (behind (part turn 1)))) o)
      go None = record { has = tt }
      go (Some a) = record {
        has = ap is_spread_in (sym (ap out-Expr (vExpr.rolls-Spread a _)) ∙ out-roll-Expr (Expr-F.Expr::Spread a _));
      }

  pub described : (turn : Value) (told : Option (Option Siblings)) → is_there (group turn 0) ≡ false
      → HasProps x ts told (expr_at turn 1) → HasProps x ts told (argument ts turn)
  described turn told e is =
      subst (λ (b : Bool). HasProps x ts told
      (option_map (argument_of b (span_of ts (first_of (part (group turn 0) 0)) (behind (part turn 1))))
      (expr_at turn 1)))
      (sym e) (go (expr_at turn 1) is)
    where
      go : (o : Option Expr) → HasProps x ts told o
          → HasProps x ts told (option_map
          (argument_of false (span_of ts (first_of (part (group turn 0) 0)) (behind (part turn 1)))) o)
      go None is = record { has = tt }
      go (Some a) is = record { has = is.has }

  -- no expression
  pub described_absent : (turn : Value) (told : Option (Option Siblings)) → part turn 1 ≡ absent
      → HasProps x ts told (argument ts turn)
  described_absent turn told e = go (expr_at turn 1) (ap expr_in e)
    where
      go : (o : Option Expr) → o ≡ None
          → HasProps x ts told (option_map
          (argument_of (is_there (group turn 0)) (span_of ts (first_of (part (group turn 0) 0)) (behind (part turn 1))))
          o)
      go None e = record { has = tt }
      go (Some a) e = let bad : ⊥ = cc in absurd bad
