-- The forms that are plain.
use Rattle.std.specs.Prelude.{ℕ, Bool, List, [], ◌∷◌, Option, Some, None}
use Rattle.std.proofs.Common.{◌≡◌, refl, sym, ap, ◌∙◌}
use Rattle.base.specs.declared.range.Range.{Range}
use Rattle.es_token.specs.declared.token.Token.{Token}
use Rattle.es_ast.specs.declared.leaf.ImportPhase.{ImportPhase}
use Rattle.es_ast.specs.declared.ast.Expr.{Expr, roll-Expr, out-Expr, out-roll-Expr}
use Rattle.es_ast.specs.declared.ast.Expr.TheVariants as vExpr
use Rattle.es_ast.specs.declared.ast.Prop.{Prop}
use Rattle.es_ast.specs.declared.ast.Stmt.{Stmt}
use Rattle.es_ast.specs.declared.ast.ClassMember.TheOpen.{Expr-F}
use Rattle.es_site.specs.Parts.{ExprParts}
use Rattle.es_lowering.specs.Value.{Value, given, turns, expr_at}
use Rattle.es_view_expressions.specs.operator.Operator as operator
use Rattle.es_view_expressions.specs.call.Call as call
use Rattle.cjs_facts.specs.Exports.{is_spread_in}
use Rattle.cjs_facts.specs.Looks.{Look, other, look, props_in, props_of, behind_zero, is_zero, second_in, function_in, assigned_last}
use Rattle.cjs_facts.proofs.Rolls.{look_roll, assigned_roll}
use Rattle.cjs_looks.specs.Seen.{Tells}
use Rattle.cjs_looks.specs.Odd.{All, Linked}
use Rattle.cjs_looks.specs.Kinds.{IsObject, IsParen, IsNumber, IsSequence, IsSpread, pair_of, IsFunction, IsAssignment}
use Rattle.cjs_looks.proofs.Odd as odd
use Rattle.cjs_looks.proofs.Others as others

abbrev P : Expr → Type 0
P = Linked other

sequence_at : (a b : Expr) (others : List Expr) (r : Range)
    → second_in (Expr-F.Seq (a ∷ b ∷ others) r) ≡ pair_of (Some a) (Some b) (Some others)
    → IsSequence (Some a) (Some b) (Some others) (vExpr.Seq (a ∷ b ∷ others) r)
unfolding props_of
sequence_at a b others r pair =
    let w : ExprParts = Expr-F.Seq (a ∷ b ∷ others) r in
    let e : Expr = vExpr.Seq (a ∷ b ∷ others) r in
    let rolls : roll-Expr w ≡ e = vExpr.rolls-Seq (a ∷ b ∷ others) r in
    let is : out-Expr e ≡ w = sym (ap out-Expr rolls) ∙ out-roll-Expr w in
    record {
      there = refl;
      there_too = refl;
      holds = ap props_in is;
      looks = ap look (sym rolls) ∙ look_roll w;
      follows = ap behind_zero is;
      runs = ap function_in is;
      ends = ap assigned_last (sym rolls) ∙ assigned_roll w;
      zero = ap is_zero is;
      pairs = ap second_in is ∙ pair;
      spreads = ap is_spread_in is;
    }

module _ (x : List ℕ) (ts : List Token) (r : Range) where
  pub is_prefix : (sign : Option Token) (arg : Option Expr) → All P (operator.updated_prefix r sign arg)
  is_prefix sign arg = others.all_plain _ (odd.is_prefix x ts r sign arg)

  pub is_postfix : (sign : Option Token) (arg : Option Expr) → All P (operator.updated_postfix r arg sign)
  is_postfix sign arg = others.all_plain _ (odd.is_postfix x ts r sign arg)

  pub is_sign : (sign : Option Token) (arg : Option Expr) → All P (operator.unary r sign arg)
  is_sign sign arg = others.all_plain _ (odd.is_sign x ts r sign arg)

  pub is_await : (arg : Option Expr) → All P (operator.awaited r arg)
  is_await arg = others.all_plain _ (odd.is_await x ts r arg)

  pub is_joined : (from to : ℕ) (a b : Option Expr) → All P (operator.joined ts r from to a b)
  is_joined from to a b = others.all_plain _ (odd.is_joined x ts r from to a b)

  pub is_private_in : (name : Option Token) (b : Option Expr) → All P (operator.private_in x r name b)
  is_private_in name b = others.all_plain _ (odd.is_private_in x ts r name b)

  pub is_conditional : (a b c : Option Expr) → All P (operator.conditional r a b c)
  is_conditional a b c = others.all_plain _ (odd.is_conditional x ts r a b c)

  pub is_yield : (v : Value) → All P (operator.yielded r v)
  is_yield v = others.all_plain _ (odd.is_yield x ts r v)

  pub is_turned : (from : ℕ) (a : Option Expr) (v : Value) → All P (operator.turned ts r from a v)
  is_turned from a v = others.all_plain _ (odd.is_turned x ts r from a v)

  pub is_asserted : (type_ : Value) (a : Option Expr) → All P (operator.asserted r type_ a)
  is_asserted type_ a = others.all_plain _ (odd.is_asserted x ts r type_ a)

  pub is_sequence : (a b : Option Expr) (v : Value)
      → All (IsSequence a b (turns (λ turn. expr_at turn 0) v)) (operator.sequence r a b v)
  unfolding operator.sequence
  is_sequence None b v = record { all = tt }
  is_sequence (Some a) None v = record { all = tt }
  is_sequence (Some a) (Some b) v = go (turns (λ turn. expr_at turn 0) v)
    where
      go : (os : Option (List Expr))
          → All (IsSequence (Some a) (Some b) os) (given os (λ others. Some (vExpr.Seq (a ∷ b ∷ others) r)))
      go None = record { all = tt }
      go (Some []) = record { all = sequence_at a b [] r refl }
      go (Some (c ∷ cs)) = record { all = sequence_at a b (c ∷ cs) r refl }

module _ (r : Range) where
  pub is_super : All P (Some (vExpr.Super r))
  is_super = others.all_plain _ (others.is_super r)

  pub is_import_meta : All P (Some (vExpr.ImportMeta r))
  is_import_meta = others.all_plain _ (others.is_import_meta r)

  pub is_new_target : All P (Some (vExpr.NewTarget r))
  is_new_target = others.all_plain _ (others.is_new_target r)

  pub is_imported : (phase : ImportPhase) (first : Option Expr) (second : Value)
      → All P (call.imported r phase first second)
  is_imported phase first second = others.all_plain _ (others.is_imported r phase first second)

  pub is_newed : (callee : Option Expr) (args : Value) → All P (call.newed r callee args)
  is_newed callee args = others.all_plain _ (others.is_newed r callee args)

  pub is_typed_newed : (callee : Option Expr) (type_args args : Value)
      → All P (call.typed_newed r callee type_args args)
  is_typed_newed callee type_args args = others.all_plain _ (others.is_typed_newed r callee type_args args)

-- ---- what the kinds look like
pub look_plain : (l : Look) (o : Option Expr) → All (Linked l) o → Tells look o l
look_plain l None a = record { told = tt }
look_plain l (Some e) a = record { told = a.all.0 }

pub look_object : (props : Option (List Prop)) (o : Option Expr) → All (IsObject props) o → Tells look o other
look_object props None a = record { told = tt }
look_object props (Some e) a = record { told = a.all.looks }

pub look_paren : (inner : Option Expr) (o : Option Expr) → All (IsParen inner) o → Tells look o other
look_paren inner None a = record { told = tt }
look_paren inner (Some e) a = record { told = a.all.looks }

pub look_number : (is : Bool) (o : Option Expr) → All (IsNumber is) o → Tells look o other
look_number is None a = record { told = tt }
look_number is (Some e) a = record { told = a.all.looks }

pub look_sequence : (first second : Option Expr) (others : Option (List Expr)) (o : Option Expr)
    → All (IsSequence first second others) o → Tells look o other
look_sequence first second others None a = record { told = tt }
look_sequence first second others (Some e) a = record { told = a.all.looks }

pub look_spread : (o : Option Expr) → All IsSpread o → Tells look o other
look_spread None a = record { told = tt }
look_spread (Some e) a = record { told = a.all.looks }

pub look_function : (body : Option (Option Stmt)) (o : Option Expr) → All (IsFunction body) o → Tells look o other
look_function body None a = record { told = tt }
look_function body (Some e) a = record { told = a.all.looks }

pub look_assigned : (right : Option Expr) (o : Option Expr) → All (IsAssignment right) o → Tells look o other
look_assigned right None a = record { told = tt }
look_assigned right (Some e) a = record { told = a.all.looks }
