-- What left-associative chains are, by what was read of their operands and turns.
use Rattle.std.specs.Prelude.{ℕ, Bool, ◌&&◌, List, [], ◌∷◌}
use Rattle.std.proofs.Common.{◌≡◌, refl, sym, ap, subst, ◌∙◌}
use Rattle.es_token.specs.declared.token.Token.{Token}
use Rattle.es_lowering.specs.Value.{Value, absent, more, part, as_group, group}
use Rattle.es_lowering.specs.Texts.{span_of}
use Rattle.es_lowering.specs.Lowering.{build}
use Rattle.es_syntax.specs.declared.entry.Lean.{Lean}
use Rattle.es_syntax.specs.declared.entry.Lean.TheVariants as vLean
use Rattle.es_syntax.specs.Held.{Held, leaning, leaned, leant}
use Rattle.es_syntax.specs.Roles.{expr_in}
use Rattle.dts_rules.specs.Rules.{Env}
use Rattle.dts_enums.specs.Forms.{Starts, Turned, Leaned}
use Rattle.dts_enums.proofs.ValueLemmas as values

module _ (env : Env) (x : List ℕ) (ts : List Token) where
  pub leaning_typed : (from to : ℕ) (v turn g h : Value) (before after : Bool) → h ≡ group g 0 → g ≡ as_group turn
      → Starts env before (expr_in v) → Turned env ts before after h
      → Starts env after (expr_in (leaning x ts vLean.TypedBinary from v (to, turn)))
  unfolding build
  leaning_typed from to v turn g h before after e f left known =
      values.typed_binary env x ts from (span_of ts from to) (more v (as_group turn)) v h before after refl
      (e ∙ ap (λ (g : Value). group g 0) f) left known

  pub leaning_binary : (from to : ℕ) (v turn g w : Value) (a b c : Bool) → part g 1 ≡ w → g ≡ as_group turn
      → c ≡ (a && b) → Starts env a (expr_in v) → Starts env b (expr_in w)
      → Starts env c (expr_in (leaning x ts vLean.Binary from v (to, turn)))
  unfolding build
  leaning_binary from to v turn g w a b c e f both left right =
      values.binary_both env x ts from (span_of ts from to) (more v (as_group turn)) v w a b c refl
      (ap (λ (g : Value). part g 1) (sym f) ∙ e) both left right

  pub leaning_none : (from to : ℕ) (v turn g : Value) (c : Bool) → part g 1 ≡ absent → g ≡ as_group turn
      → Starts env c (expr_in (leaning x ts vLean.Binary from v (to, turn)))
  unfolding build
  leaning_none from to v turn g c e f =
      values.binary_no_right env x ts from (span_of ts from to) (more v (as_group turn)) c
      (ap (λ (g : Value). part g 1) (sym f) ∙ e)

  pub leaned_none : (lean : Lean) (ps : List Held) (b : Bool) → ps ≡ [] → Leaned env x ts lean b b ps
  unfolding leaned
  leaned_none lean ps b e =
      let P : List Held → Type 0 = λ ps. Leaned env x ts lean b b ps in subst P (sym e) (λ from v known. known)

  pub leaned_next : (lean : Lean) (all ps : List Held) (to : ℕ) (turn : Value) (before mid after : Bool)
      → all ≡ (to, turn) ∷ ps
      → ((from to : ℕ) (v : Value) → Starts env before (expr_in v)
      → Starts env mid (expr_in (leaning x ts lean from v (to, turn))))
      → Leaned env x ts lean mid after ps → Leaned env x ts lean before after all
  unfolding leaned
  leaned_next lean all ps to turn before mid after e step rest =
      let P : List Held → Type 0 = λ ps. Leaned env x ts lean before after ps in
      subst P (sym e) (λ from v known. rest from (leaning x ts lean from v (to, turn)) (step from to v known))

  pub no_first : (lean : Lean) (from : ℕ) (ps : List Held) (b : Bool) → ps ≡ []
      → Starts env b (expr_in (leant x ts lean from ps))
  no_first lean from ps b e =
      let P : List Held → Type 0 = λ ps. Starts env b (expr_in (leant x ts lean from ps)) in subst P (sym e) tt

  pub first_turns : (lean : Lean) (from to : ℕ) (all ps : List Held) (v : Value) (before after : Bool)
      → all ≡ (to, v) ∷ ps → Starts env before (expr_in v) → Leaned env x ts lean before after ps
      → Starts env after (expr_in (leant x ts lean from all))
  unfolding leaned
  first_turns lean from to all ps v before after e known turns =
      let P : List Held → Type 0 = λ ps. Starts env after (expr_in (leant x ts lean from ps)) in
      subst P (sym e) (go ps turns)
    where
      go : (ps : List Held) → Leaned env x ts lean before after ps
          → Starts env after (expr_in (leant x ts lean from ((to, v) ∷ ps)))
      go [] turns = tt
      go (q ∷ ps) turns = turns from v known
