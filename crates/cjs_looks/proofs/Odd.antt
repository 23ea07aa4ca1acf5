-- The forms that are none of those that are looked at.
use Rattle.std.specs.Prelude.{ℕ, Bool, true, false, List, Option, Some, None, option_map, if◌then◌else◌}
use Rattle.std.proofs.Common.{◌≡◌, refl, sym, ap, ◌∙◌}
use Rattle.base.specs.declared.range.Range.{Range}
use Rattle.es_token.specs.declared.token.Token.{Token}
use Rattle.es_token.specs.declared.token.TokenKind.{TokenKind}
use Rattle.es_token.specs.declared.token.TokenKind.TheVariants as k
use Rattle.grammar_theory.specs.Key.{same_kind}
use Rattle.es_ast.specs.declared.ts.ts.TsPart.TheVariants as vPart
use Rattle.es_ast.specs.declared.ast.Expr.{Expr, roll-Expr, out-Expr, out-roll-Expr}
use Rattle.es_ast.specs.declared.ast.Expr.TheVariants as vExpr
use Rattle.es_ast.specs.declared.ast.Function.{Function}
use Rattle.es_ast.specs.declared.ast.Pat.{Pat}
use Rattle.es_ast.specs.declared.ast.Pat.TheVariants as vPat
use Rattle.es_ast.specs.declared.ast.ClassMember.TheOpen.{Expr-F}
use Rattle.es_site.specs.Parts.{ExprParts}
use Rattle.es_lowering.specs.Value.{Value, absent, nil, more, token, node, given, part, expr_at}
use Rattle.es_lowering.specs.Texts.{kind_at, private_of}
use Rattle.es_lowering.specs.Operators.{listed, unary_ops, update_ops, binary_between, assign_between}
use Rattle.es_lowering.specs.Expressions.{yield_of}
use Rattle.es_lowering.specs.TypedExpressions.{turned_by, asserted_by}
use Rattle.es_view_expressions.specs.operator.Operator as operator
use Rattle.cjs_facts.specs.Exports.{is_spread_in}
use Rattle.cjs_facts.specs.Looks.{Look, other, look, in_look, is_harmless, in_harmless, props_in, props_of, behind_zero, is_zero, second_in, function_in, in_assigned, assigned_last}
use Rattle.cjs_facts.proofs.Rolls.{look_parts, look_roll, harmless_parts, harmless_roll, assigned_parts, assigned_roll}
use Rattle.cjs_looks.specs.Odd.{All, Linked, IsNothing, IsRunning, IsAssigning}
use Rattle.cjs_looks.proofs.Given.{all_given, all_map, all_one}

-- ---- by what an expression is
-- the function that it is, whether it is zero, what stands behind a zero, and whether it stands behind `...`
abbrev Odd : Type 0
Odd = Option Function × (Bool × (Option Expr × Bool))

abbrev odd_in : ExprParts → Odd
odd_in w = (function_in w, (is_zero w, (second_in w, is_spread_in w)))

-- nothing of these, but a zero perhaps
abbrev pub zero_odd : Bool → Odd
zero_odd is = (None, (is, (None, false)))

abbrev none_odd : Odd
none_odd = zero_odd false

pub plain : (w : ExprParts) (e : Expr) (l : Look) → roll-Expr w ≡ e → in_look (look_parts w) ≡ l → props_in w ≡ None
    → behind_zero w ≡ None → odd_in w ≡ none_odd → in_assigned (assigned_parts w) ≡ None → Linked l e
unfolding props_of
plain w e l rolls a b c d f =
    let is : out-Expr e ≡ w = sym (ap out-Expr rolls) ∙ out-roll-Expr w in (
      ap look (sym rolls) ∙ (look_roll w ∙ a),
      record {
        holds = ap props_in is ∙ b;
        follows = ap behind_zero is ∙ c;
        runs = ap function_in is ∙ ap (λ (o : Odd). o.0) d;
        ends = ap assigned_last (sym rolls) ∙ (assigned_roll w ∙ f);
        zero = ap is_zero is ∙ ap (λ (o : Odd). o.1.0) d;
        pairs = ap second_in is ∙ ap (λ (o : Odd). o.1.1.0) d;
        spreads = ap is_spread_in is ∙ ap (λ (o : Odd). o.1.1.1) d;
      },
    )

pub nothing : (w : ExprParts) (e : Expr) → roll-Expr w ≡ e → in_look (look_parts w) ≡ other → props_in w ≡ None
    → behind_zero w ≡ None → odd_in w ≡ none_odd → in_assigned (assigned_parts w) ≡ None
    → in_harmless (harmless_parts w) ≡ false → IsNothing e
nothing w e rolls a b c d f g =
    (plain w e other rolls a b c d f, ap is_harmless (sym rolls) ∙ (harmless_roll w ∙ g))

pub running : (w : ExprParts) (e : Expr) → roll-Expr w ≡ e → in_look (look_parts w) ≡ other → props_in w ≡ None
    → behind_zero w ≡ None → in_assigned (assigned_parts w) ≡ None → in_harmless (harmless_parts w) ≡ false
    → IsRunning e
unfolding props_of
running w e rolls a b c f g =
    let is : out-Expr e ≡ w = sym (ap out-Expr rolls) ∙ out-roll-Expr w in
    record {
      looks = ap look (sym rolls) ∙ (look_roll w ∙ a);
      harms = ap is_harmless (sym rolls) ∙ (harmless_roll w ∙ g);
      holds = ap props_in is ∙ b;
      follows = ap behind_zero is ∙ c;
      ends = ap assigned_last (sym rolls) ∙ (assigned_roll w ∙ f);
    }

pub assigning : (w : ExprParts) (e : Expr) → roll-Expr w ≡ e → in_look (look_parts w) ≡ other → props_in w ≡ None
    → behind_zero w ≡ None → function_in w ≡ None → in_harmless (harmless_parts w) ≡ false → IsAssigning e
unfolding props_of
assigning w e rolls a b c d g =
    let is : out-Expr e ≡ w = sym (ap out-Expr rolls) ∙ out-roll-Expr w in
    record {
      looks = ap look (sym rolls) ∙ (look_roll w ∙ a);
      harms = ap is_harmless (sym rolls) ∙ (harmless_roll w ∙ g);
      holds = ap props_in is ∙ b;
      follows = ap behind_zero is ∙ c;
      runs = ap function_in is ∙ d;
    }

abbrev N : Expr → Type 0
N = IsNothing

-- ---- operators
pub is_unary : (op : _) (arg : Expr) (r : Range) → IsNothing (vExpr.Unary op arg r)
is_unary op arg r =
    nothing (Expr-F.Unary op arg r) _ (vExpr.rolls-Unary op arg r) refl refl refl refl refl refl

is_update : (op : _) (prefix : Bool) (arg : Expr) (r : Range) → IsNothing (vExpr.Update op prefix arg r)
is_update op prefix arg r =
    nothing (Expr-F.Update op prefix arg r) _ (vExpr.rolls-Update op prefix arg r) refl refl refl refl refl refl

pub is_bin : (op : _) (a b : Expr) (r : Range) → IsNothing (vExpr.Bin op a b r)
is_bin op a b r = nothing (Expr-F.Bin op a b r) _ (vExpr.rolls-Bin op a b r) refl refl refl refl refl refl

asserted : (r : Range) (e : Expr) (kind : TokenKind) (v : Value) → All N (asserted_by r e kind v)
asserted r e kind (token n) =
    all_one N _
    (nothing (Expr-F.TsConstAssertion e r) _ (vExpr.rolls-TsConstAssertion e r) refl refl refl refl refl refl)
asserted r e kind (node from to m) = all_map N m.ts_type _ (λ ty. go ty (same_kind kind k.AsWord))
  where
    go : (ty : _) (b : Bool)
        → N (if b then vExpr.TsAs e (Some (vPart.TypeAnn ty)) r else vExpr.TsSatisfies e (Some (vPart.TypeAnn ty)) r)
    go ty true =
        nothing (Expr-F.TsAs e (Some (vPart.TypeAnn ty)) r) _ (vExpr.rolls-TsAs e (Some (vPart.TypeAnn ty)) r) refl
        refl refl refl refl refl
    go ty false =
        nothing (Expr-F.TsSatisfies e (Some (vPart.TypeAnn ty)) r) _
        (vExpr.rolls-TsSatisfies e (Some (vPart.TypeAnn ty)) r) refl refl refl refl refl refl
asserted r e kind absent = record { all = tt }
asserted r e kind nil = record { all = tt }
asserted r e kind (more v vs) = record { all = tt }

pub turned : (ts : List Token) (r : Range) (e : Expr) (from : ℕ) (g v : Value) → All N (turned_by ts r e from g v)
turned ts r e from g (more v vs) = all_given N (kind_at ts g 0) (λ kind. asserted r e kind v)
turned ts r e from g absent =
    all_given N (binary_between ts from 0)
    (λ op. all_given N (expr_at g 1) (λ right. all_one N _ (is_bin op e right r)))
turned ts r e from g nil =
    all_given N (binary_between ts from 0)
    (λ op. all_given N (expr_at g 1) (λ right. all_one N _ (is_bin op e right r)))
turned ts r e from g (token n) =
    all_given N (binary_between ts from n)
    (λ op. all_given N (expr_at g 1) (λ right. all_one N _ (is_bin op e right r)))
turned ts r e from g (node a b m) =
    all_given N (binary_between ts from a)
    (λ op. all_given N (expr_at g 1) (λ right. all_one N _ (is_bin op e right r)))

yielded : (r : Range) (v : Value) → All N (yield_of r v)
yielded r (more v vs) =
    all_map N (expr_at (more v vs) 1) _ (λ arg.
    nothing (Expr-F.Yield _ (Some arg) r) _ (vExpr.rolls-Yield _ (Some arg) r) refl refl refl refl refl refl)
yielded r absent =
    all_one N _ (nothing (Expr-F.Yield false None r) _ (vExpr.rolls-Yield false None r) refl refl refl refl refl refl)
yielded r nil =
    all_one N _ (nothing (Expr-F.Yield false None r) _ (vExpr.rolls-Yield false None r) refl refl refl refl refl refl)
yielded r (token n) =
    all_one N _ (nothing (Expr-F.Yield false None r) _ (vExpr.rolls-Yield false None r) refl refl refl refl refl refl)
yielded r (node from to m) =
    all_one N _ (nothing (Expr-F.Yield false None r) _ (vExpr.rolls-Yield false None r) refl refl refl refl refl refl)

module _ (x : List ℕ) (ts : List Token) (r : Range) where
  pub is_prefix : (sign : Option Token) (arg : Option Expr) → All N (operator.updated_prefix r sign arg)
  unfolding operator.updated_prefix
  is_prefix sign arg =
      all_given N (given (option_map (λ t. t.kind) sign) (listed update_ops)) (λ op.
      all_given N arg (λ arg. all_one N _ (is_update op _ arg r)))

  pub is_postfix : (sign : Option Token) (arg : Option Expr) → All N (operator.updated_postfix r arg sign)
  unfolding operator.updated_postfix
  is_postfix sign arg =
      all_given N arg (λ arg.
      all_given N (given (option_map (λ t. t.kind) sign) (listed update_ops)) (λ op.
      all_one N _ (is_update op _ arg r)))

  pub is_sign : (sign : Option Token) (arg : Option Expr) → All N (operator.unary r sign arg)
  unfolding operator.unary
  is_sign sign arg =
      all_given N (given (option_map (λ t. t.kind) sign) (listed unary_ops)) (λ op.
      all_given N arg (λ arg. all_one N _ (is_unary op arg r)))

  pub is_await : (arg : Option Expr) → All N (operator.awaited r arg)
  unfolding operator.awaited
  is_await arg =
      all_map N arg _ (λ arg.
      nothing (Expr-F.Await arg r) _ (vExpr.rolls-Await arg r) refl refl refl refl refl refl)

  pub is_joined : (from to : ℕ) (a b : Option Expr) → All N (operator.joined ts r from to a b)
  unfolding operator.joined
  is_joined from to a b =
      all_given N a (λ a. all_given N (binary_between ts from to) (λ op. all_given N b (λ b.
      all_one N _ (is_bin op a b r))))

  pub is_private_in : (name : Option Token) (b : Option Expr) → All N (operator.private_in x r name b)
  unfolding operator.private_in
  is_private_in name b =
      all_given N (given name (private_of x)) (λ name. all_given N b (λ b. all_one N _ (is_bin _ _ b r)))

  pub is_conditional : (a b c : Option Expr) → All N (operator.conditional r a b c)
  unfolding operator.conditional
  is_conditional a b c =
      all_given N a (λ a. all_given N b (λ b. all_given N c (λ c.
      all_one N _ (nothing (Expr-F.Cond a b c r) _ (vExpr.rolls-Cond a b c r) refl refl refl refl refl refl))))

  pub is_yield : (v : Value) → All N (operator.yielded r v)
  unfolding operator.yielded
  is_yield v = yielded r v

  pub is_turned : (from : ℕ) (a : Option Expr) (v : Value) → All N (operator.turned ts r from a v)
  unfolding operator.turned
  is_turned from a v = all_given N a (λ a. turned ts r a from v (part v 1))

  pub is_asserted : (type_ : Value) (a : Option Expr) → All N (operator.asserted r type_ a)
  unfolding operator.asserted
  is_asserted type_ a = all_given N a (λ a. asserted r a k.AsWord (part type_ 0))

  -- an assignment, by whatever operator
  pub is_assigned : (from to : ℕ) (a b : Option Expr) → All IsAssigning (operator.assigned ts r from to a b)
  unfolding operator.assigned
  is_assigned from to a b =
      all_given IsAssigning a (λ a. all_given IsAssigning (assign_between ts from to) (λ op.
      all_given IsAssigning b (λ b.
      all_one IsAssigning _
      (assigning (Expr-F.Expr::Assign op (vPat.Expr a) b r) _ (vExpr.rolls-Assign op (vPat.Expr a) b r) refl refl refl
      refl refl))))

  pub is_pattern_assigned : (a : Option Pat) (b : Option Expr) → All IsAssigning (operator.pattern_assigned r a b)
  unfolding operator.pattern_assigned
  is_pattern_assigned a b =
      all_given IsAssigning a (λ a. all_given IsAssigning b (λ b.
      all_one IsAssigning _
      (assigning (Expr-F.Expr::Assign _ a b r) _ (vExpr.rolls-Assign _ a b r) refl refl refl refl refl)))
