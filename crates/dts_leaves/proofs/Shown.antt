-- What literals show; what is written of them.
use Rattle.std.specs.Prelude.{ℕ, Bool, true, false, List, [], ◌∷◌, Option, Some, None}
use Rattle.std.proofs.Common.{◌≡◌, refl, sym, ap, ◌∙◌}
use Rattle.base.specs.declared.range.Range.{Range}
use Rattle.es_token.specs.declared.token.Token.{Token}
use Rattle.es_ast.specs.declared.ts.leaf.TplElement.{TplElement}
use Rattle.es_ast.specs.declared.ts.ts.TsType.{TsType}
use Rattle.es_ast.specs.declared.leaf.Lit.{Lit}
use Rattle.es_ast.specs.declared.ast.Expr.{Expr, roll-Expr}
use Rattle.es_ast.specs.declared.ast.Expr.TheVariants as vExpr
use Rattle.es_ast.specs.declared.ast.ClassMember.TheOpen.{Expr-F}
use Rattle.es_site.specs.Parts.{Whole}
use Rattle.es_lowering.specs.Value.{Value}
use Rattle.es_syntax.specs.Roles.{ts_type_in}
use Rattle.es_changed.specs.declared.entry.Word.{Word}
use Rattle.es_changed.specs.declared.entry.ChangedEntry.{ChangedEntry}
use Rattle.es_changed.specs.Formed.{word_type}
use Rattle.es_changed.specs.Changed.{type_node}
use Rattle.es_changed.specs.Shape.{Writes}
use Rattle.dts_rules.specs.Rules.{Env, Shown, State, by_const, lit_type, in_expr}
use Rattle.dts_rules.specs.Programs.{shown_expr}
use Rattle.dts_rules.proofs.Shown.{at_expr, beside_expr}
use Rattle.dts_draft.specs.Written.{IfThere, Puts, Gives}
use Rattle.dts_leaves.specs.Leaves.{HasType, OwnOrWide}

module _ (env : Env) where
  pub shown_by : (it : Expr) (w : Whole Expr-F) → roll-Expr w ≡ it → shown_expr env it ≡ in_expr env (beside_expr env w)
  shown_by it w rolls = ap (shown_expr env) (sym rolls) ∙ at_expr env w

  rule_by : (it : Expr) (w : Whole Expr-F) (c r : Bool) (s : State) → roll-Expr w ≡ it
      → (shown_expr env it).rule c r s ≡ (in_expr env (beside_expr env w)).rule c r s
  rule_by it w c r s rolls = ap (λ (k : Shown). k.rule c r s) (shown_by it w rolls)

  module _ (x : List ℕ) (ts : List Token) where
    -- a literal has its type
    pub lit_has : (c wrote : Bool) (old new : List ChangedEntry) (it : Lit)
        → Gives x ts ts_type_in old new wrote (lit_type it c) → HasType env x ts c wrote old new (vExpr.Lit it)
    lit_has c wrote old new it g = record {
      ty = lit_type it c;
      rule = λ r s. rule_by _ (Expr-F.Lit it) c r s (vExpr.rolls-Lit it);
      gives = g;
    }

    pub this_has : (c : Bool) (old : List ChangedEntry) (span : Range) → Writes x ts old old []
        → HasType env x ts c false old old (vExpr.This span)
    this_has c old span w = record {
      ty = None;
      rule = λ r s. rule_by _ (Expr-F.Expr::This span) c r s (vExpr.rolls-This span);
      gives = (refl, w);
    }

    pub template_by : (c : Bool) (old new : List ChangedEntry) (pieces : List TplElement) (holes : List Expr)
        (span : Range)
        (ty : TsType) → ((r : Bool) (s : State)
        → (in_expr env (beside_expr env (Expr-F.Tpl pieces holes span))).rule c r s
        ≡ (Some ty, s)) → Puts x ts ts_type_in old new ty
        → HasType env x ts c true old new (vExpr.Tpl pieces holes span)
    template_by c old new pieces holes span ty is p = record {
      ty = Some ty;
      rule = λ r s. rule_by _ (Expr-F.Tpl pieces holes span) c r s (vExpr.rolls-Tpl pieces holes span) ∙ is r s;
      gives = (refl, p);
    }

module _ (x : List ℕ) (ts : List Token) where
  -- what is written of it by whether it is its own type
  pub own_or_wide : (c : Bool) (old new : List ChangedEntry) (own : Value) (wide : Word) (ty : TsType)
      → ts_type_in own ≡ Some ty → OwnOrWide x ts c old new own wide
      → Puts x ts ts_type_in old new (by_const c ty (word_type wide))
  own_or_wide true old new own wide ty e w = record { value = own; writes = w; is = e }
  own_or_wide false old new own wide ty e w = record {
    value = type_node 0 0 (Some (word_type wide));
    writes = w;
    is = refl;
  }
