-- What primary expressions look like.
use Rattle.std.specs.Prelude.{ℕ, ◌+◌, Bool, true, false, List, [], ◌∷◌, ◌++◌, Option, Some, None, option_map, slice_range, bytes_eq, codes, if◌then◌else◌}
use Rattle.std.proofs.Common.{◌≡◌, refl, sym, ap, ◌∙◌}
use Rattle.base.specs.declared.range.Range.{Range}
use Rattle.es_token.specs.declared.token.Token.{Token}
use Rattle.es_token.specs.declared.token.TokenKind.TheVariants as k
use Rattle.grammar_theory.specs.Key.{same_kind}
use Rattle.es_ast.specs.declared.leaf.Lit.{Lit}
use Rattle.es_ast.specs.declared.leaf.Lit.TheVariants as vLit
use Rattle.es_ast.specs.declared.ast.Expr.{Expr, roll-Expr, out-Expr, out-roll-Expr}
use Rattle.es_ast.specs.declared.ast.Expr.TheVariants as vExpr
use Rattle.es_ast.specs.declared.ast.Prop.{Prop}
use Rattle.es_ast.specs.declared.ast.ClassMember.TheOpen.{Expr-F}
use Rattle.es_site.specs.Parts.{ExprParts}
use Rattle.es_lowering.specs.Value.{Value, given, turns, expr_at, prop_at}
use Rattle.es_lowering.specs.Texts.{ident_of, str_of, regex_of, numeric_of, piece_of, piece_there}
use Rattle.es_lowering.specs.Expressions.{word_of, elements}
use Rattle.es_view_expressions.specs.expr.Primary as primary
use Rattle.cjs_facts.specs.Exports.{is_spread_in}
use Rattle.cjs_facts.specs.Looks.{named, other, look, in_look, props_in, props_of, behind_zero, is_zero, second_in, function_in, assigned_last}
use Rattle.cjs_facts.proofs.Rolls.{look_parts, look_roll, assigned_roll}
use Rattle.cjs_looks.specs.Odd.{All, Linked}
use Rattle.cjs_looks.specs.Kinds.{IsObject, IsParen, IsNumber, IsSpread, number_zero}
use Rattle.cjs_looks.specs.Seen.{name_of, text_of}
use Rattle.cjs_looks.proofs.Given.{all_given, all_map, all_one}
use Rattle.cjs_looks.proofs.Odd.{plain, zero_odd}

object_at : (props : List Prop) (r : Range) → IsObject (Some props) (vExpr.Object props r)
unfolding props_of
object_at props r =
    let w : ExprParts = Expr-F.Expr::Object props r in
    let e : Expr = vExpr.Object props r in
    let rolls : roll-Expr w ≡ e = vExpr.rolls-Object props r in
    let is : out-Expr e ≡ w = sym (ap out-Expr rolls) ∙ out-roll-Expr w in
    record {
      holds = ap props_in is;
      looks = ap look (sym rolls) ∙ look_roll w;
      follows = ap behind_zero is;
      runs = ap function_in is;
      ends = ap assigned_last (sym rolls) ∙ assigned_roll w;
      zero = ap is_zero is;
      pairs = ap second_in is;
      spreads = ap is_spread_in is;
      there = refl;
    }

paren_at : (inner : Expr) (r : Range) → IsParen (Some inner) (vExpr.Paren inner r)
unfolding props_of
paren_at inner r =
    let w : ExprParts = Expr-F.Paren inner r in
    let e : Expr = vExpr.Paren inner r in
    let rolls : roll-Expr w ≡ e = vExpr.rolls-Paren inner r in
    let is : out-Expr e ≡ w = sym (ap out-Expr rolls) ∙ out-roll-Expr w in
    record {
      holds = ap props_in is;
      looks = ap look (sym rolls) ∙ look_roll w;
      follows = ap behind_zero is;
      runs = ap function_in is;
      ends = ap assigned_last (sym rolls) ∙ assigned_roll w;
      zero = ap is_zero is;
      pairs = ap second_in is;
      spreads = ap is_spread_in is;
      there = refl;
    }

number_at : (it : Lit) → in_look (look_parts (Expr-F.Lit it)) ≡ other
    → IsNumber (is_zero (Expr-F.Lit it)) (vExpr.Lit it)
unfolding props_of
number_at it looks =
    let w : ExprParts = Expr-F.Lit it in
    let e : Expr = vExpr.Lit it in
    let rolls : roll-Expr w ≡ e = vExpr.rolls-Lit it in
    let is : out-Expr e ≡ w = sym (ap out-Expr rolls) ∙ out-roll-Expr w in
    record {
      holds = ap props_in is;
      looks = ap look (sym rolls) ∙ (look_roll w ∙ looks);
      follows = ap behind_zero is;
      runs = ap function_in is;
      ends = ap assigned_last (sym rolls) ∙ assigned_roll w;
      zero = ap is_zero is;
      pairs = ap second_in is;
      spreads = ap is_spread_in is;
    }

spread_at : (inner : Expr) (r : Range) → IsSpread (vExpr.Spread inner r)
unfolding props_of
spread_at inner r =
    let w : ExprParts = Expr-F.Expr::Spread inner r in
    let e : Expr = vExpr.Spread inner r in
    let rolls : roll-Expr w ≡ e = vExpr.rolls-Spread inner r in
    let is : out-Expr e ≡ w = sym (ap out-Expr rolls) ∙ out-roll-Expr w in
    record {
      holds = ap props_in is;
      looks = ap look (sym rolls) ∙ look_roll w;
      follows = ap behind_zero is;
      runs = ap function_in is;
      ends = ap assigned_last (sym rolls) ∙ assigned_roll w;
      zero = ap is_zero is;
      pairs = ap second_in is;
      spreads = ap is_spread_in is;
    }

abbrev P : Expr → Type 0
P = Linked other

lit : (it : Lit) → in_look (look_parts (Expr-F.Lit it)) ≡ other → is_zero (Expr-F.Lit it) ≡ false
    → Linked other (vExpr.Lit it)
lit it a z =
    plain (Expr-F.Lit it) _ other (vExpr.rolls-Lit it) a refl refl
    (ap zero_odd z) refl

module _ (x : List ℕ) (ts : List Token) (r : Range) where
  pub is_ident : (o : Option Token) → All (Linked (named (name_of x o))) (primary.ident x o)
  unfolding primary.ident
  is_ident None = record { all = tt }
  is_ident (Some t) = record {
    all = plain (Expr-F.Expr::Ident (ident_of x t)) _ _ (vExpr.rolls-Ident (ident_of x t)) refl refl refl refl refl;
  }

  pub is_str : (o : Option Token) → All (Linked (text_of x o)) (primary.str x o)
  unfolding primary.str
  is_str None = record { all = tt }
  is_str (Some t) = record {
    all = plain (Expr-F.Lit (vLit.Str (str_of x t))) _ _ (vExpr.rolls-Lit (vLit.Str (str_of x t))) refl refl refl refl
        refl;
  }

  pub is_word : (o : Option Token) → All P (primary.word r o)
  unfolding primary.word word_of
  is_word None = record { all = tt }
  is_word (Some t) =
      go (same_kind t.kind k.ThisWord) (same_kind t.kind k.NullWord) (same_kind t.kind k.TrueWord)
      (same_kind t.kind k.FalseWord)
    where
      go : (a b c d : Bool)
          → All P (if a then Some (vExpr.This r)
          else (if b then Some (vExpr.Lit (vLit.Null r))
          else (if c then Some (vExpr.Lit (vLit.Bool true r))
          else (if d then Some (vExpr.Lit (vLit.Bool false r)) else None))))
      go true b c d = record {
        all = plain (Expr-F.Expr::This r) _ _ (vExpr.rolls-This r) refl refl refl refl refl;
      }
      go false true c d = record { all = lit (vLit.Null r) refl refl }
      go false false true d = record { all = lit (vLit.Bool true r) refl refl }
      go false false false true = record { all = lit (vLit.Bool false r) refl refl }
      go false false false false = record { all = tt }

  pub is_number : (o : Option Token) → All (IsNumber (number_zero x o)) (primary.number x o)
  unfolding primary.number numeric_of ident_of
  is_number None = record { all = tt }
  is_number (Some t) = go (same_kind t.kind k.Number) (same_kind t.kind k.BigInt)
    where
      go : (a b : Bool)
          → All (IsNumber (if a then bytes_eq (slice_range x t.range.start t.range.end) (codes "0") else false))
          (option_map vExpr.Lit
          (if a then Some (vLit.Num (record { raw = slice_range x t.range.start t.range.end; span = t.range }))
          else (if b then Some
          (vLit.BigInt (record { raw = slice_range x t.range.start t.range.end; span = t.range })) else
          None)))
      go true b = record {
        all =
            number_at (vLit.Num (record { raw = slice_range x t.range.start t.range.end; span = t.range })) refl;
      }
      go false true = record {
        all =
            number_at (vLit.BigInt (record { raw = slice_range x t.range.start t.range.end; span = t.range })) refl;
      }
      go false false = record { all = tt }

  pub is_regexp : (o : Option Token) → All P (primary.regexp x o)
  unfolding primary.regexp
  is_regexp None = record { all = tt }
  is_regexp (Some t) = record { all = lit (vLit.Regex (regex_of x t)) refl refl }

  pub is_template : (o : Option Token) → All P (primary.template x r o)
  unfolding primary.template
  is_template o =
      all_map P (given o (piece_of x)) (λ piece. vExpr.Tpl (piece ∷ []) [] r) (λ piece.
      plain (Expr-F.Tpl (piece ∷ []) [] r) _ _ (vExpr.rolls-Tpl (piece ∷ []) [] r) refl refl refl refl refl)

  pub is_template_parts : (head : Option Token) (first : Option Expr) (others : Value) (tail : Option Token)
      → All P (primary.template_parts x ts r head first others tail)
  unfolding primary.template_parts
  is_template_parts head first others tail =
      all_given P (given head (piece_of x)) (λ head.
      all_given P first (λ first.
      all_given P (turns (λ turn. piece_there x ts turn 0) others) (λ middles.
      all_given P (turns (λ turn. expr_at turn 1) others) (λ others.
      all_given P (given tail (piece_of x)) (λ tail.
      all_one P _
      (plain (Expr-F.Tpl (head ∷ (middles ++ tail ∷ [])) (first ∷ others) r) _ _
      (vExpr.rolls-Tpl (head ∷ (middles ++ tail ∷ [])) (first ∷ others) r) refl refl refl refl refl))))))

  pub is_array : (from : ℕ) (v : Value) → All P (primary.array ts r from v)
  unfolding primary.array
  is_array from v =
      all_map P (elements vExpr.Hole expr_at ts (from + 1) v) (λ elems. vExpr.Array elems r) (λ elems.
      plain (Expr-F.Expr::Array elems r) _ _ (vExpr.rolls-Array elems r) refl refl refl refl refl)

  pub is_spread : (o : Option Expr) → All IsSpread (primary.spread r o)
  unfolding primary.spread
  is_spread o = all_map IsSpread o (λ e. vExpr.Spread e r) (λ e. spread_at e r)

  -- ---- objects and brackets
  pub is_object : (v : Value) → All (IsObject (turns (λ turn. prop_at turn 0) v)) (primary.object r v)
  unfolding primary.object
  is_object v = go (turns (λ turn. prop_at turn 0) v)
    where
      go : (o : Option (List Prop)) → All (IsObject o) (option_map (λ props. vExpr.Object props r) o)
      go None = record { all = tt }
      go (Some props) = record { all = object_at props r }

  pub is_paren : (o : Option Expr) → All (IsParen o) (primary.paren r o)
  unfolding primary.paren
  is_paren None = record { all = tt }
  is_paren (Some e) = record { all = paren_at e r }
