-- The range of a chain: from where its node begins to where its last part ends.
use Rattle.std.specs.Prelude.{ℕ, List, ◌∷◌, Option, Some, None, IfSome}
use Rattle.std.proofs.Common.{◌≡◌, sym, subst}
use Rattle.base.specs.declared.range.Range.{Range}
use Rattle.es_ast.specs.declared.ast.Expr.{Expr}
use Rattle.es_lowering.specs.Value.{Value, absent, given, part, group, turns, expr_at, post_at}
use Rattle.es_lowering.specs.Expressions.{Post, chain, chained}
use Rattle.es_syntax.specs.Roles.{post_in}
use Rattle.es_expr_spans.specs.Spans.{expr_span, Ends, Moves}

spans : (r : Range) (mid end : ℕ) (base : Option Expr) (first : Option Post) (others : Option (List Post))
    → IfSome first (Ends mid)
    → IfSome others (λ posts. (start : ℕ) (obj : Expr) → expr_span obj ≡ record { start = start; end = mid }
    → expr_span (chained start obj posts) ≡ record { start = start; end = end })
    → IfSome (given base
    (λ base. given first (λ first. given others (λ others. Some (chained r.start base (first ∷ others))))))
    (λ e. record { start = r.start; end = end } ≡ expr_span e)
spans r mid end None first others ends moves = tt
spans r mid end (Some base) None others ends moves = tt
spans r mid end (Some base) (Some first) None ends moves = tt
spans r mid end (Some base) (Some first) (Some others) ends moves =
    sym (moves r.start (first r.start base) (ends r.start base))

pub chain_span : (r : Range) (p v row : Value) (mid end : ℕ) → part p 1 ≡ v → row ≡ group p 2
    → IfSome (post_in v) (Ends mid)
    → Moves row mid end → IfSome (chain r p) (λ e. record { start = r.start; end = end } ≡ expr_span e)
unfolding chain
chain_span r p v row mid end e g ends moves =
    let P : Value → Type 0 = λ v. IfSome (post_in v) (Ends mid) in
    let Q : Value → Type 0 = λ row. Moves row mid end in
    spans r mid end (expr_at p 0) (post_at p 1) (turns (λ turn. post_at turn 0) (group p 2)) (subst P (sym e) ends)
    (subst Q g moves)

pub no_chain : (r s : Range) (p : Value) → part p 1 ≡ absent → IfSome (chain r p) (λ e. s ≡ expr_span e)
unfolding chain
no_chain r s p e = none (expr_at p 0) (part p 1) e
  where
    none : (base : Option Expr) (v : Value) → v ≡ absent
        → IfSome (given base
        (λ base. given (post_in v) (λ first. given (turns (λ turn. post_at turn 0) (group p 2)) (λ others.
        Some (chained r.start base (first ∷ others)))))) (λ e. s ≡ expr_span e)
    none None v e = tt
    none (Some base) v e =
        let P : Value → Type 0 =
        λ v. IfSome (given (post_in v) (λ first. given (turns (λ turn. post_at turn 0) (group p 2)) (λ others.
        Some (chained r.start base (first ∷ others))))) (λ e. s ≡ expr_span e) in subst P (sym e) tt
