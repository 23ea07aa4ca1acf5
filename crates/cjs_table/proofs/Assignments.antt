-- What assignments tell: by another sign than `=`, nothing.
use Rattle.std.specs.Prelude.{ℕ, ◌-◌, ◌==◌, Bool, true, false, List, [], ◌∷◌, ◌++◌, Option, Some, None, option_map, slice_get, IfSome, if◌then◌else◌}
use Rattle.std.proofs.Common.{◌≡◌, refl, sym, ap, subst, ◌∙◌}
use denote.Enum.Bare.{same_true}
use Rattle.es_token.specs.contracts.token.TokenKind.{the_type}
use Rattle.es_token.specs.declared.token.Token.{Token}
use Rattle.es_token.specs.declared.token.TokenKind.{TokenKind}
use Rattle.es_token.specs.declared.token.TokenKind.TheVariants as k
use Rattle.grammar_theory.specs.Key.{same_kind}
use Rattle.es_ast.specs.declared.leaf.AssignOp.{AssignOp}
use Rattle.es_ast.specs.declared.leaf.AssignOp.TheVariants as vAssign
use Rattle.es_ast.specs.declared.ast.Expr.{Expr}
use Rattle.es_ast.specs.declared.ast.Pat.{Pat}
use Rattle.es_lowering.specs.Operators.{listed, assign_ops, greater_assign, assign_of, assign_between, is_kind}
use Rattle.cjs_facts.specs.Facts.{Facts, assigned_facts}
use Rattle.base.specs.declared.range.Range.{Range}
use Rattle.es_ast.specs.declared.ast.Expr.TheVariants as vExpr
use Rattle.es_ast.specs.declared.ast.Pat.TheVariants as vPat
use Rattle.es_lowering.specs.Value.{Value, given, part, typed, first_of, behind, expr_at, pat_at}
use Rattle.es_lowering.specs.Value as v
use Rattle.es_syntax.specs.Places.{place_of}
use Rattle.es_lowering.specs.Expressions as low
use Rattle.cjs_facts.specs.Facts.{Fact, Assigned, facts_of_expr, facts_of_pat}
use Rattle.cjs_facts.proofs.Equations as facts
use Rattle.cjs_table.specs.declared.shapes.Shape.TheVariants as sh
use Rattle.cjs_table.specs.Met.{Told, both, Met, one, met}
use Rattle.cjs_table.specs.Facts.{is_equal_by, is_equal, assigned_of, pattern_assigned_of}
use Rattle.cjs_table.proofs.Seen.{Sees, both_none, both_told}
use Rattle.cjs_table.proofs.Agrees.{nth, read}
use Rattle.cjs_table.proofs.Roles.{AgreeRow, expr, pat}

-- an assignment by it has no facts
abbrev IsSilent : AssignOp → Type 0
IsSilent op = (left : Pat) (right : Expr) (parts : Facts) → assigned_facts op left right parts ≡ []

record IsOther (op : Option AssignOp) : Type 0 where
  pub is : IfSome op IsSilent

abbrev AreSilent : List (TokenKind × AssignOp) → Type 0
AreSilent [] = Unit {0}
AreSilent (row ∷ rows) = IsSilent row.1 × AreSilent rows

either_other : (b : Bool) (op : AssignOp) (rest : Option AssignOp) → IsSilent op → IsOther rest
    → IsOther (if b then Some op else rest)
either_other true op rest is are = record { is = is }
either_other false op rest is are = are

listed_other : (rows : List (TokenKind × AssignOp)) (kind : TokenKind) → AreSilent rows → IsOther (listed rows kind)
listed_other [] kind are = record { is = tt }
listed_other (row ∷ rows) kind are =
    either_other (same_kind kind row.0) row.1 (listed rows kind) are.0 (listed_other rows kind are.1)

abbrev other_ops : List (TokenKind × AssignOp)
other_ops =
    (k.PlusEqual, vAssign.AddAssign) ∷ (k.MinusEqual, vAssign.SubAssign) ∷ (k.StarEqual, vAssign.MulAssign) ∷
    (k.SlashEqual, vAssign.DivAssign) ∷ (k.PercentEqual, vAssign.ModAssign) ∷
    (k.LessLessEqual, vAssign.LShiftAssign) ∷ (k.BarEqual, vAssign.BitOrAssign) ∷
    (k.CaretEqual, vAssign.BitXorAssign) ∷ (k.AmpersandEqual, vAssign.BitAndAssign) ∷
    (k.StarStarEqual, vAssign.ExpAssign) ∷ (k.AmpersandAmpersandEqual, vAssign.AndAssign) ∷
    (k.BarBarEqual, vAssign.OrAssign) ∷ (k.QuestionQuestionEqual, vAssign.NullishAssign) ∷ []

silent : AreSilent other_ops
silent = (
  λ a b p. refl,
  (
    λ a b p. refl,
    (
      λ a b p. refl,
      (
        λ a b p. refl,
        (
          λ a b p. refl,
          (
            λ a b p. refl,
            (
              λ a b p. refl,
              (
                λ a b p. refl,
                (
                  λ a b p. refl,
                  (λ a b p. refl, (λ a b p. refl, (λ a b p. refl, (λ a b p. refl, tt)))),
                ),
              ),
            ),
          ),
        ),
      ),
    ),
  ),
)

greater_by : (a b : Bool)
    → IsOther (if a then Some vAssign.RShiftAssign else (if b then Some vAssign.ZeroFillRShiftAssign else None))
greater_by true b = record { is = λ left right parts. refl }
greater_by false true = record { is = λ left right parts. refl }
greater_by false false = record { is = tt }

greater : (count : ℕ) → IsOther (greater_assign count)
unfolding greater_assign
greater count = greater_by (count == 3) (count == 4)

listed_there : (kind : TokenKind) (b : Bool) → b ≡ false
    → IsOther (if b then Some vAssign.Assign else listed other_ops kind)
listed_there kind b f =
    subst (λ (c : Bool). IsOther (if c then Some vAssign.Assign else listed other_ops kind)) (sym f)
    (listed_other other_ops kind silent)

sign_by : (kind : TokenKind) (from to : ℕ) (b : Bool) → same_kind kind k.Equal ≡ false
    → IsOther (if b then greater_assign (to - from) else listed assign_ops kind)
unfolding assign_ops
sign_by kind from to true e = greater (to - from)
sign_by kind from to false e = listed_there kind (same_kind kind k.Equal) e

not_equal : (kind : TokenKind) (from to : ℕ) → same_kind kind k.Equal ≡ false → IsOther (assign_of kind from to)
unfolding assign_of
not_equal kind from to e = sign_by kind from to (same_kind kind k.Greater) e

equal_by : (kind : TokenKind) (from to : ℕ) → same_kind kind k.Equal ≡ true
    → assign_of kind from to ≡ Some vAssign.Assign
unfolding assign_of assign_ops
equal_by kind from to is =
    subst (λ (kind : TokenKind). assign_of kind from to ≡ Some vAssign.Assign)
    (sym (same_true the_type tt kind k.Equal is)) refl

-- ---- assignments
-- a fact, and those of a target and a right side
acted : (m n : Told) (fact : Fact) (a b whole : Facts) → m ≡ Some a → n ≡ Some b → whole ≡ fact ∷ (a ++ b)
    → both (Some (fact ∷ [])) (both m (both n (Some []))) ≡ Some whole
acted m n fact a b whole e f same =
    ap (λ (z : Told). both (Some (fact ∷ [])) (both m z)) (both_none n)
    ∙ ap (both (Some (fact ∷ []))) (both_told m n a b e f) ∙ ap Some (sym same)

module _ (r : Range) (left right : Option Expr) (m n : Told) (s : Sees facts_of_expr left m)
    (t : Sees facts_of_expr right n) where
  abbrev assigned_by : Option AssignOp → Option Expr
  assigned_by op =
      given left (λ left. given op (λ op. given right (λ right. Some (vExpr.Assign op (vPat.Expr left) right r))))

  abbrev equal_told : Told
  equal_told =
      both (given left (λ left. given right (λ right. Some (Assigned (vPat.Expr left) right ∷ []))))
      (both m (both n (Some [])))

  equal_sees : Sees facts_of_expr (assigned_by (Some vAssign.Assign)) equal_told
  equal_sees = go left right s t
    where
      go : (left right : Option Expr) → Sees facts_of_expr left m → Sees facts_of_expr right n
          → Sees facts_of_expr (given left (λ left. given right (λ right.
          Some (vExpr.Assign vAssign.Assign (vPat.Expr left) right r))))
          (both (given left (λ left. given right (λ right. Some (Assigned (vPat.Expr left) right ∷ []))))
          (both m (both n (Some []))))
      go None right s t = record { sees = tt }
      go (Some left) None s t = record { sees = tt }
      go (Some left) (Some right) s t = record {
        sees = acted m n (Assigned (vPat.Expr left) right) (facts_of_expr left) (facts_of_expr right) _ s.sees t.sees
            (facts.expr_Assign [] vAssign.Assign (vPat.Expr left) right r
            ∙ ap (λ (z : Facts). Assigned (vPat.Expr left) right ∷ (z ++ facts_of_expr right))
            (facts.pat_Expr [] left));
      }

  other_sees : (op : Option AssignOp) → IsOther op → Sees facts_of_expr (assigned_by op) (Some [])
  other_sees op is = go left op right is
    where
      go : (left : Option Expr) (op : Option AssignOp) (right : Option Expr) → IsOther op
          → Sees facts_of_expr (given left (λ left. given op (λ op. given right (λ right.
          Some (vExpr.Assign op (vPat.Expr left) right r))))) (Some [])
      go None op right is = record { sees = tt }
      go (Some left) None right is = record { sees = tt }
      go (Some left) (Some op) None is = record { sees = tt }
      go (Some left) (Some op) (Some right) is = record {
        sees = ap Some (sym (facts.expr_Assign [] op (vPat.Expr left) right r ∙ is.is (vPat.Expr left) right _));
      }

  by_kind : (kind : TokenKind) (from to : ℕ) (b : Bool) → same_kind kind k.Equal ≡ b
      → Sees facts_of_expr (assigned_by (assign_of kind from to)) (if b then equal_told else Some [])
  by_kind kind from to true e =
      subst (λ (op : Option AssignOp). Sees facts_of_expr (assigned_by op) equal_told) (sym (equal_by kind from to e))
      equal_sees
  by_kind kind from to false e = other_sees (assign_of kind from to) (not_equal kind from to e)

  by_token : (o : Option Token) (from to : ℕ)
      → Sees facts_of_expr (assigned_by (given (option_map (λ t. t.kind) o) (λ kind. assign_of kind from to)))
      (if is_kind k.Equal o then equal_told else Some [])
  by_token None from to = other_sees None (record { is = tt })
  by_token (Some token) from to = by_kind token.kind from to (same_kind token.kind k.Equal) refl

pub assignment_form : (ts : List Token) (p : Value) (q : Met) → AgreeRow p q → (r : Range)
    → Sees facts_of_expr (low.assignment ts r p)
    (if is_equal ts p then both (assigned_of p) (read q (sh.Node ∷ sh.Skip ∷ sh.Node ∷ [])) else Some [])
unfolding low.assignment
assignment_form ts p q a r =
    by_place (part p 0) (expr_at p 2) (met (nth q 0) one) (met (nth q 2) one) (first_of (part p 2)) (expr p q a 0)
    (expr p q a 2)
  where
    by_place : (u : Value) (right : Option Expr) (m n : Told) (to : ℕ)
        → Sees facts_of_expr (given (typed u) (λ m. m.expr)) m → Sees facts_of_expr right n
        → Sees facts_of_expr (given (given (typed u) (λ m. m.expr)) (λ left.
        given (assign_between ts (behind u) to) (λ op.
        given right (λ right. Some (vExpr.Assign op (vPat.Expr left) right r)))))
        (if is_equal_by ts (place_of u) then both (given (given (typed u) (λ m. m.expr)) (λ left.
        given right (λ right. Some (Assigned (vPat.Expr left) right ∷ [])))) (both m (both n (Some []))) else Some [])
    by_place (v.node from to m) right n k at s t = by_token r m.expr right n k s t (slice_get ts to) to at
    by_place v.absent right m n at s t = record { sees = tt }
    by_place v.nil right m n at s t = record { sees = tt }
    by_place (v.token i) right m n at s t = record { sees = tt }
    by_place (v.more b bs) right m n at s t = record { sees = tt }

pattern_by : (r : Range) (left : Option Pat) (right : Option Expr) (m n : Told) → Sees facts_of_pat left m
    → Sees facts_of_expr right n
    → Sees facts_of_expr (given left (λ left. given right (λ right. Some (vExpr.Assign vAssign.Assign left right r))))
    (both (given left (λ left. given right (λ right. Some (Assigned left right ∷ [])))) (both m (both n (Some []))))
pattern_by r None right m n s t = record { sees = tt }
pattern_by r (Some left) None m n s t = record { sees = tt }
pattern_by r (Some left) (Some right) m n s t = record {
  sees = acted m n (Assigned left right) (facts_of_pat left) (facts_of_expr right) _ s.sees t.sees
      (facts.expr_Assign [] vAssign.Assign left right r);
}

pub pattern_assignment : (p : Value) (q : Met) → AgreeRow p q → (r : Range)
    → Sees facts_of_expr (low.pattern_assignment r p)
    (both (pattern_assigned_of p) (read q (sh.Node ∷ sh.Node ∷ [])))
unfolding low.pattern_assignment
pattern_assignment p q a r =
    pattern_by r (pat_at p 0) (expr_at p 1) (met (nth q 0) one) (met (nth q 1) one) (pat p q a 0) (expr p q a 1)
