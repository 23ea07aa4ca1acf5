-- Assignments, by `=` and by other signs.
use Rattle.std.specs.Prelude.{ℕ, ◌-◌, ◌==◌, Bool, true, false, List, [], ◌∷◌, Option, Some, None, option_map, slice_get, IfSome, if◌then◌else◌}
use Rattle.std.proofs.Common.{◌≡◌, refl, sym, ap, subst, ◌∙◌}
use Rattle.base.specs.declared.range.Range.{Range}
use Rattle.es_token.specs.declared.token.Token.{Token}
use denote.Enum.Bare.{same_true}
use Rattle.es_token.specs.contracts.token.TokenKind.{the_type}
use Rattle.es_token.specs.declared.token.TokenKind.{TokenKind}
use Rattle.es_token.specs.declared.token.TokenKind.TheVariants as k
use Rattle.grammar_theory.specs.Key.{same_kind}
use Rattle.es_ast.specs.declared.leaf.AssignOp.{AssignOp}
use Rattle.es_ast.specs.declared.leaf.AssignOp.TheVariants as vAssign
use Rattle.es_ast.specs.declared.ast.Expr.{Expr, roll-Expr, out-Expr, out-roll-Expr}
use Rattle.es_ast.specs.declared.ast.Expr.TheVariants as vExpr
use Rattle.es_ast.specs.declared.ast.Pat.{Pat}
use Rattle.es_ast.specs.declared.ast.Pat.TheVariants as vPat
use Rattle.es_ast.specs.declared.ast.ClassMember.TheOpen.{Expr-F}
use Rattle.es_site.specs.Parts.{ExprParts}
use Rattle.es_lowering.specs.Value.{Value, absent, nil, more, token, node, given, behind}
use Rattle.es_lowering.specs.Operators.{listed, assign_ops, greater_assign, assign_of, assign_between}
use Rattle.es_syntax.specs.Places.{place_of}
use Rattle.es_syntax.specs.Roles.{expr_in}
use Rattle.es_view_expressions.specs.operator.Operator as operator
use Rattle.cjs_facts.specs.Exports.{is_spread_in}
use Rattle.cjs_facts.specs.Looks.{other, look, props_in, props_of, behind_zero, is_zero, second_in, function_in, in_assigned, assigned_last, right_of}
use Rattle.cjs_facts.proofs.Rolls.{look_roll, assigned_parts, assigned_roll}
use Rattle.cjs_looks.specs.Odd.{All, Linked}
use Rattle.cjs_looks.specs.Kinds.{IsAssignment}
use Rattle.cjs_looks.proofs.Odd.{plain}

assignment_at : (left : Pat) (right : Expr) (r : Range)
    → IsAssignment (Some right) (vExpr.Assign vAssign.Assign left right r)
unfolding props_of right_of assigned_last
assignment_at left right r =
    let p : ExprParts = Expr-F.Expr::Assign vAssign.Assign left right r in
    let e : Expr = vExpr.Assign vAssign.Assign left right r in
    let rolls : roll-Expr p ≡ e = vExpr.rolls-Assign vAssign.Assign left right r in
    let is : out-Expr e ≡ p = sym (ap out-Expr rolls) ∙ out-roll-Expr p in
    record {
      holds = ap props_in is;
      looks = ap look (sym rolls) ∙ look_roll p;
      follows = ap behind_zero is;
      runs = ap function_in is;
      ends = ap assigned_last (sym rolls) ∙ assigned_roll p;
      zero = ap is_zero is;
      pairs = ap second_in is;
      spreads = ap is_spread_in is;
      there = refl;
    }

-- by another sign nothing is looked at
abbrev IsCompound : AssignOp → Type 0
IsCompound op =
    (left : Pat) (right : Expr) (r : Range)
    → in_assigned (assigned_parts (Expr-F.Expr::Assign op left right r)) ≡ None

compound : (op : AssignOp) (left : Pat) (right : Expr) (r : Range) → IsCompound op
    → Linked other (vExpr.Assign op left right r)
compound op left right r is =
    plain (Expr-F.Expr::Assign op left right r) _ _ (vExpr.rolls-Assign op left right r) refl refl refl refl
    (is left right r)

abbrev AreCompound : List (TokenKind × AssignOp) → Type 0
AreCompound [] = Unit {0}
AreCompound (row ∷ rows) = IsCompound row.1 × AreCompound rows

record IsOther (op : Option AssignOp) : Type 0 where
  pub is : IfSome op IsCompound

either_other : (b : Bool) (op : AssignOp) (rest : Option AssignOp) → IsCompound op → IsOther rest
    → IsOther (if b then Some op else rest)
either_other true op rest is are = record { is = is }
either_other false op rest is are = are

listed_other : (rows : List (TokenKind × AssignOp)) (kind : TokenKind) → AreCompound rows → IsOther (listed rows kind)
listed_other [] kind are = record { is = tt }
listed_other (row ∷ rows) kind are =
    either_other (same_kind kind row.0) row.1 (listed rows kind) are.0 (listed_other rows kind are.1)

abbrev other_ops : List (TokenKind × AssignOp)
other_ops =
    (k.PlusEqual, vAssign.AddAssign) ∷ (k.MinusEqual, vAssign.SubAssign) ∷ (k.StarEqual, vAssign.MulAssign) ∷
    (k.SlashEqual, vAssign.DivAssign) ∷ (k.PercentEqual, vAssign.ModAssign) ∷
    (k.LessLessEqual, vAssign.LShiftAssign) ∷ (k.BarEqual, vAssign.BitOrAssign) ∷
    (k.CaretEqual, vAssign.BitXorAssign) ∷ (k.AmpersandEqual, vAssign.BitAndAssign) ∷
    (k.StarStarEqual, vAssign.ExpAssign) ∷ (k.AmpersandAmpersandEqual, vAssign.AndAssign) ∷
    (k.BarBarEqual, vAssign.OrAssign) ∷ (k.QuestionQuestionEqual, vAssign.NullishAssign) ∷ []

others : AreCompound other_ops
others = (
  λ a b r. refl,
  (
    λ a b r. refl,
    (
      λ a b r. refl,
      (
        λ a b r. refl,
        (
          λ a b r. refl,
          (
            λ a b r. refl,
            (
              λ a b r. refl,
              (
                λ a b r. refl,
                (
                  λ a b r. refl,
                  (λ a b r. refl, (λ a b r. refl, (λ a b r. refl, (λ a b r. refl, tt)))),
                ),
              ),
            ),
          ),
        ),
      ),
    ),
  ),
)

greater : (count : ℕ) → IsOther (greater_assign count)
unfolding greater_assign
greater count = go (count == 3) (count == 4)
  where
    go : (a b : Bool)
        → IsOther (if a then Some vAssign.RShiftAssign else (if b then Some vAssign.ZeroFillRShiftAssign else None))
    go true b = record { is = λ left right r. refl }
    go false true = record { is = λ left right r. refl }
    go false false = record { is = tt }

-- the sign by its kind
not_equal : (kind : TokenKind) (from to : ℕ) → same_kind kind k.Equal ≡ false → IsOther (assign_of kind from to)
unfolding assign_of assign_ops
not_equal kind from to e = go (same_kind kind k.Greater)
  where
    listed_there : (b : Bool) → b ≡ false → IsOther (if b then Some vAssign.Assign else listed other_ops kind)
    listed_there b f =
        subst (λ (c : Bool). IsOther (if c then Some vAssign.Assign else listed other_ops kind)) (sym f)
        (listed_other other_ops kind others)

    go : (b : Bool) → IsOther (if b then greater_assign (to - from) else listed assign_ops kind)
    go true = greater (to - from)
    go false = listed_there (same_kind kind k.Equal) e

equal_by : (kind : TokenKind) (from to : ℕ) → same_kind kind k.Equal ≡ true
    → assign_of kind from to ≡ Some vAssign.Assign
unfolding assign_of assign_ops
equal_by kind from to is =
    subst (λ (kind : TokenKind). assign_of kind from to ≡ Some vAssign.Assign)
    (sym (same_true the_type tt kind k.Equal is))
    refl

module _ (x : List ℕ) (ts : List Token) (r : Range) where
  of_other : (op : Option AssignOp) (a b : Option Expr) → IsOther op
      → All (Linked other) (given a (λ a. given op (λ op. given b (λ b. Some (vExpr.Assign op (vPat.Expr a) b r)))))
  of_other op None b is = record { all = tt }
  of_other None (Some a) b is = record { all = tt }
  of_other (Some op) (Some a) None is = record { all = tt }
  of_other (Some op) (Some a) (Some b) is = record { all = compound op (vPat.Expr a) b r is.is }

  of_equal : (op : Option AssignOp) (a b : Option Expr) → op ≡ Some vAssign.Assign
      → All (IsAssignment b) (given a (λ a. given op (λ op. given b (λ b. Some (vExpr.Assign op (vPat.Expr a) b r)))))
  of_equal op a b e =
      subst (λ (op : Option AssignOp). All (IsAssignment b)
      (given a (λ a. given op (λ op. given b (λ b. Some (vExpr.Assign op (vPat.Expr a) b r))))))
      (sym e) (go a b)
    where
      go : (a b : Option Expr)
          → All (IsAssignment b) (given a (λ a. given b (λ b. Some (vExpr.Assign vAssign.Assign (vPat.Expr a) b r))))
      go None b = record { all = tt }
      go (Some a) None = record { all = tt }
      go (Some a) (Some b) = record { all = assignment_at (vPat.Expr a) b r }

  -- where a value stands, if it is a node
  abbrev Placed : Option (ℕ × ℕ) → Value → Type 0
  Placed None v = expr_in v ≡ None
  Placed (Some p) v = behind v ≡ p.1

  placed : (v : Value) → Placed (place_of v) v
  placed absent = refl
  placed nil = refl
  placed (token n) = refl
  placed (more v vs) = refl
  placed (node from to m) = refl

  stands : (v : Value) (place : Option (ℕ × ℕ)) → place_of v ≡ place → Placed place v
  stands v place e = subst (λ (o : Option (ℕ × ℕ)). Placed o v) e (placed v)

  sign_is : (v : Value) (from to start : ℕ) (t : Token) → place_of v ≡ Some (from, to) → slice_get ts to ≡ Some t
      → assign_between ts (behind v) start ≡ assign_of t.kind to start
  sign_is v from to start t e is =
      ap (λ (n : ℕ). assign_between ts n start) (stands v (Some (from, to)) e)
      ∙ ap (λ (o : Option Token). given (option_map (λ t. t.kind) o) (λ kind. assign_of kind to start)) is

  pub is_equal : (v : Value) (from to start : ℕ) (t : Token) (b : Option Expr) → place_of v ≡ Some (from, to)
      → Some t ≡ slice_get ts to → same_kind t.kind k.Equal ≡ true
      → All (IsAssignment b) (operator.assigned ts r (behind v) start (expr_in v) b)
  unfolding operator.assigned
  is_equal v from to start t b e is equal =
      of_equal (assign_between ts (behind v) start) (expr_in v) b
      (sign_is v from to start t e (sym is) ∙ equal_by t.kind to start equal)

  pub is_unequal : (v : Value) (from to start : ℕ) (t : Token) (b : Option Expr) → place_of v ≡ Some (from, to)
      → Some t ≡ slice_get ts to → same_kind t.kind k.Equal ≡ false
      → All (Linked other) (operator.assigned ts r (behind v) start (expr_in v) b)
  unfolding operator.assigned
  is_unequal v from to start t b e is f =
      of_other (assign_between ts (behind v) start) (expr_in v) b
      (subst IsOther (sym (sign_is v from to start t e (sym is))) (not_equal t.kind to start f))

  pub is_no_token : (v : Value) (from to start : ℕ) (b : Option Expr) → place_of v ≡ Some (from, to)
      → None ≡ slice_get ts to → All (Linked other) (operator.assigned ts r (behind v) start (expr_in v) b)
  unfolding operator.assigned
  is_no_token v from to start b e is =
      of_other (assign_between ts (behind v) start) (expr_in v) b
      (subst IsOther (sym (ap (λ (n : ℕ). assign_between ts n start) (stands v (Some (from, to)) e)
      ∙ ap (λ (o : Option Token). given (option_map (λ t. t.kind) o) (λ kind. assign_of kind to start)) (sym is)))
      (record { is = tt }))

  pub is_no_node : (v : Value) (from start : ℕ) (b : Option Expr) → place_of v ≡ None
      → All (Linked other) (operator.assigned ts r from start (expr_in v) b)
  unfolding operator.assigned
  is_no_node v from start b e =
      subst (λ (o : Option Expr). All (Linked other)
      (given o (λ a. given (assign_between ts from start)
      (λ op. given b (λ b. Some (vExpr.Assign op (vPat.Expr a) b r))))))
      (sym (stands v None e)) (record { all = tt })

  pub is_pattern : (a : Option Pat) (b : Option Expr) → All (IsAssignment b) (operator.pattern_assigned r a b)
  unfolding operator.pattern_assigned
  is_pattern None b = record { all = tt }
  is_pattern (Some a) None = record { all = tt }
  is_pattern (Some a) (Some b) = record { all = assignment_at a b r }
