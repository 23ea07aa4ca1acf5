-- What each form of a pattern is in a type, from what its parts are.
use Rattle.std.specs.Prelude.{Bool, true, false, List, [], ◌∷◌, Option, Some, None, option_map, map}
use Rattle.std.proofs.Common.{◌≡◌, refl, sym, ap, ◌∙◌}
use Rattle.base.specs.declared.range.Range.{Range}
use Rattle.es_ast.specs.declared.ts.leaf.Ident.{Ident}
use Rattle.es_ast.specs.declared.ts.ts.TsParamPat.{TsParamPat}
use Rattle.es_ast.specs.declared.ts.ts.TsParamPat.TheVariants as vTsPat
use Rattle.es_ast.specs.declared.ts.ts.TsPart.{TsPart}
use Rattle.es_ast.specs.declared.ts.ts.TsPatProp.{TsPatProp}
use Rattle.es_ast.specs.declared.ts.ts.TsPatProp.TheVariants as vTsProp
use Rattle.es_ast.specs.declared.leaf.Lit.{Lit}
use Rattle.es_ast.specs.declared.ast.Expr.{Expr, roll-Expr, out-Expr, out-roll-Expr}
use Rattle.es_ast.specs.declared.ast.Expr.TheVariants as vExpr
use Rattle.es_ast.specs.declared.ast.ObjectPatProp.{ObjectPatProp, roll-ObjectPatProp}
use Rattle.es_ast.specs.declared.ast.ObjectPatProp.TheVariants as vProp
use Rattle.es_ast.specs.declared.ast.Pat.{Pat, roll-Pat}
use Rattle.es_ast.specs.declared.ast.Pat.TheVariants as vPat
use Rattle.es_ast.specs.declared.ast.ClassMember.TheOpen.{Expr-F, ObjectPatProp-F, Pat-F}
use Rattle.es_site.specs.Parts.{Whole}
use Rattle.dts_rules.specs.Rules.{Env, ShownPat, some, in_pat, in_pat_prop, pattern_key}
use Rattle.dts_rules.specs.Programs.{shown_pat, shown_pat_prop}
use Rattle.dts_rules.proofs.Shown.{at_pat, at_pat_prop, beside_pat, beside_pat_prop, with_pat, with_pat_prop}
use Rattle.dts_patterns.specs.Patterns.{pattern}

mapped_twice : {A B C : Type 0} (f : A → B) (g : B → C) (them : List A) → map g (map f them) ≡ map (λ a. g (f a)) them
mapped_twice f g [] = refl
mapped_twice f g (a ∷ them) = ap (λ rest. g (f a) ∷ rest) (mapped_twice f g them)

-- ---- expressions, by what they are rolled from
pub out_Ident : (it : Ident) → out-Expr (vExpr.Ident it) ≡ Expr-F.Expr::Ident it
out_Ident it = ap out-Expr (sym (vExpr.rolls-Ident it)) ∙ out-roll-Expr (Expr-F.Expr::Ident it)

pub out_Lit : (it : Lit) → out-Expr (vExpr.Lit it) ≡ Expr-F.Lit it
out_Lit it = ap out-Expr (sym (vExpr.rolls-Lit it)) ∙ out-roll-Expr (Expr-F.Lit it)

pub out_PrivateName : (it : Ident) → out-Expr (vExpr.PrivateName it) ≡ Expr-F.PrivateName it
out_PrivateName it = ap out-Expr (sym (vExpr.rolls-PrivateName it)) ∙ out-roll-Expr (Expr-F.PrivateName it)

module _ (env : Env) where
  pattern_by : (it : Pat) (w : Whole Pat-F) → roll-Pat w ≡ it → pattern env it ≡ (in_pat env (beside_pat env w)).pattern
  pattern_by it w rolls = ap (λ (s : ShownPat). s.pattern) (ap (shown_pat env) (sym rolls) ∙ at_pat env w)

  pub pattern_Ident : (id : Ident) (ty : Option TsPart) (span : Range)
      → pattern env (vPat.Ident id ty span) ≡ vTsPat.Ident id
  pattern_Ident id ty span = pattern_by _ (Pat-F.Pat::Ident id ty span) (vPat.rolls-Ident id ty span)

  pub pattern_Hole : (span : Range) → pattern env (vPat.Hole span) ≡ vTsPat.Hole span
  pattern_Hole span = pattern_by _ (Pat-F.Pat::Hole span) (vPat.rolls-Hole span)

  pub pattern_Array : (elems : List Pat) (mark : Bool) (ty : Option TsPart) (span : Range)
      → pattern env (vPat.Array elems mark ty span) ≡ vTsPat.Array (map (pattern env) elems) span
  pattern_Array elems mark ty span =
      pattern_by _ (Pat-F.Pat::Array elems mark ty span) (vPat.rolls-Array elems mark ty span)
      ∙ ap (λ ps. vTsPat.Array ps span) (mapped_twice (with_pat env) (λ (e : Pat × ShownPat). e.1.pattern) elems)

  pub pattern_Object : (props : List ObjectPatProp) (mark : Bool) (ty : Option TsPart) (span : Range)
      → pattern env (vPat.Object props mark ty span) ≡ vTsPat.Object (some (map (shown_pat_prop env) props)) span
  pattern_Object props mark ty span =
      pattern_by _ (Pat-F.Pat::Object props mark ty span) (vPat.rolls-Object props mark ty span)
      ∙ ap (λ ps. vTsPat.Object (some ps) span)
      (mapped_twice (with_pat_prop env) (λ (p : ObjectPatProp × Option TsPatProp). p.1) props)

  pub pattern_Rest : (arg : Pat) (ty : Option TsPart) (span : Range)
      → pattern env (vPat.Rest arg ty span) ≡ vTsPat.Rest (pattern env arg) span
  pattern_Rest arg ty span = pattern_by _ (Pat-F.Pat::Rest arg ty span) (vPat.rolls-Rest arg ty span)

  pub pattern_Assign : (left : Pat) (right : Expr) (span : Range)
      → pattern env (vPat.Assign left right span) ≡ pattern env left
  pattern_Assign left right span = pattern_by _ (Pat-F.Pat::Assign left right span) (vPat.rolls-Assign left right span)

  -- ---- properties
  prop_by : (it : ObjectPatProp) (w : Whole ObjectPatProp-F) → roll-ObjectPatProp w ≡ it
      → shown_pat_prop env it ≡ in_pat_prop env (beside_pat_prop env w)
  prop_by it w rolls = ap (shown_pat_prop env) (sym rolls) ∙ at_pat_prop env w

  pub prop_KeyValue : (computed : Bool) (key : Expr) (value : Pat) (span : Range)
      → shown_pat_prop env (vProp.KeyValue computed key value span)
      ≡ option_map (λ key. vTsProp.KeyValue key (pattern env value) span) (pattern_key env computed (out-Expr key))
  prop_KeyValue computed key value span =
      prop_by _ (ObjectPatProp-F.ObjectPatProp::KeyValue computed key value span)
      (vProp.rolls-KeyValue computed key value span)

  pub prop_Assign : (key : Ident) (value : Option Expr) (span : Range)
      → shown_pat_prop env (vProp.Assign key value span) ≡ Some (vTsProp.Shorthand key)
  prop_Assign key value span =
      prop_by _ (ObjectPatProp-F.ObjectPatProp::Assign key value span) (vProp.rolls-Assign key value span)

  pub prop_Rest : (arg : Pat) (span : Range)
      → shown_pat_prop env (vProp.Rest arg span) ≡ Some (vTsProp.Rest (pattern env arg) span)
  prop_Rest arg span = prop_by _ (ObjectPatProp-F.ObjectPatProp::Rest arg span) (vProp.rolls-Rest arg span)
