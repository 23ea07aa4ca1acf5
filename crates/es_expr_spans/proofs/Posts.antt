-- Where further parts of a chain end, and what they make.
use Rattle.std.specs.Prelude.{ℕ, List, ◌∷◌, Option, Some, None, IfSome}
use Rattle.std.proofs.Common.{◌≡◌, subst, sym}
use Rattle.base.specs.declared.range.Range.{Range}
use Rattle.es_token.specs.declared.token.Token.{Token}
use Rattle.es_ast.specs.declared.ast.Expr.{Expr}
use Rattle.es_lowering.specs.Value.{Value, absent, nil, more, given, part, as_group, turns, post_at}
use Rattle.es_lowering.specs.Texts.{span_of}
use Rattle.es_lowering.specs.Expressions.{Post, chained, from_byte}
use Rattle.es_syntax.specs.declared.cursor.Item.{Item}
use Rattle.es_syntax.specs.Held.{valued}
use Rattle.es_syntax.specs.Roles.{post_in}
use Rattle.es_expr_spans.specs.Spans.{expr_span, Ends, Moves}
use Rattle.es_expr_spans.proofs.PostForms.{EachPost, place_posts}
use Rattle.es_expr_spans.proofs.Spans.{span_Member, span_Index, span_Call, span_TaggedTpl, span_TsNonNull}

ends : (r : Range) → EachPost (Ends r.end) r
ends r = record {
  member = λ mark m start obj. span_Member obj mark m.0 m.1 (from_byte start r);
  index = λ mark e start obj. span_Index obj mark e (from_byte start r);
  call = λ mark type_args args start obj. span_Call obj mark type_args args (from_byte start r);
  tagged = λ type_args tpl start obj. span_TaggedTpl obj type_args tpl (from_byte start r);
  non_null = λ start obj. span_TsNonNull obj (from_byte start r);
}

module _ (x : List ℕ) (ts : List Token) where
  pub item_ends : (i : Item) → IfSome (post_in (valued x ts i)) (Ends (span_of ts i.from i.to).end)
  item_ends i = (place_posts (λ r. Ends r.end) x ts ends i.what i.from i.to i.parts.entries.now).is

  -- ---- in a turn
  pub turn_ends : (v : Value) (i : Item) (end : ℕ) → part v 0 ≡ valued x ts i
      → IfSome (post_in (valued x ts i)) (Ends end)
      → IfSome (post_at v 0) (Ends end)
  turn_ends v i end e known =
      let P : Value → Type 0 = λ w. IfSome (post_in w) (Ends end) in subst P (sym e) known

  pub no_turn : (v : Value) (end : ℕ) → part v 0 ≡ absent → IfSome (post_at v 0) (Ends end)
  no_turn v end e = let P : Value → Type 0 = λ w. IfSome (post_in w) (Ends end) in subst P (sym e) tt

-- ---- along a chain
pub moves_none : (row : Value) (end : ℕ) → row ≡ nil → Moves row end end
moves_none row end e = let P : Value → Type 0 = λ row. Moves row end end in subst P (sym e) (λ start obj same. same)

moved : (end result : ℕ) (post : Option Post) (posts : Option (List Post)) → IfSome post (Ends end)
    → IfSome posts (λ posts. (start : ℕ) (obj : Expr) → expr_span obj ≡ record { start = start; end = end }
    → expr_span (chained start obj posts) ≡ record { start = start; end = result })
    → (before : ℕ)
    → IfSome (given post (λ post. given posts (λ posts. Some (post ∷ posts)))) (λ posts. (start : ℕ) (obj : Expr)
    → expr_span obj ≡ record { start = start; end = before }
    → expr_span (chained start obj posts) ≡ record { start = start; end = result })
moved end result None posts ends moves before = tt
moved end result (Some post) None ends moves before = tt
moved end result (Some post) (Some posts) ends moves before =
    λ start obj same. moves start (post start obj) (ends start obj)

pub moves_next : (row v vs : Value) (before end result : ℕ) → row ≡ more v vs
    → IfSome (post_at (as_group v) 0) (Ends end)
    → Moves vs end result → Moves row before result
moves_next row v vs before end result e ends moves =
    let P : Value → Type 0 = λ row. Moves row before result in
    subst P (sym e) (moved end result (post_at (as_group v) 0) (turns (λ turn. post_at turn 0) vs) ends moves before)
