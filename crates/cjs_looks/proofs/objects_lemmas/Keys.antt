-- What keys name.
use Rattle.std.specs.Prelude.{ℕ, Bool, true, false, List, Option, Some, None, option_map, slice_range, if◌then◌else◌}
use Rattle.std.proofs.Common.{◌≡◌, refl, sym, ap, ◌∙◌}
use Rattle.es_token.specs.declared.token.Token.{Token}
use Rattle.es_token.specs.declared.token.TokenKind.TheVariants as k
use Rattle.grammar_theory.specs.Key.{same_kind}
use Rattle.es_ast.specs.declared.leaf.Lit.{Lit}
use Rattle.es_ast.specs.declared.leaf.Lit.TheVariants as vLit
use Rattle.es_ast.specs.declared.ast.Expr.{Expr}
use Rattle.es_ast.specs.declared.ast.Expr.TheVariants as vExpr
use Rattle.es_ast.specs.declared.ast.ClassMember.TheOpen.{Expr-F}
use Rattle.es_lowering.specs.Value.{given}
use Rattle.es_lowering.specs.Texts.{ident_of, str_of, numeric_of, private_of}
use Rattle.es_view_expressions.specs.member.Key as key
use Rattle.cjs_facts.specs.Looks.{Look, named, text, other, name_by, look}
use Rattle.cjs_facts.proofs.Rolls.{look_roll}
use Rattle.cjs_looks.specs.Seen.{Tells, name_of, text_of}
use Rattle.cjs_looks.proofs.Given.{tells_map}
use Rattle.cjs_looks.specs.objects.Properties.{key_says}

-- what an expression that is a key looks like, and so names
says : (e : Expr) (l : Look) → look e ≡ l → key_says (false, e) ≡ name_by l
says e l is = ap name_by is

module _ (x : List ℕ) where
  pub says_word : (o : Option Token) → Tells key_says (key.word x o) (name_by (named (name_of x o)))
  unfolding key.word
  says_word None = record { told = tt }
  says_word (Some t) = record {
    told = says (vExpr.Ident (ident_of x t)) (named (ident_of x t).sym)
        (ap look (sym (vExpr.rolls-Ident (ident_of x t))) ∙ look_roll (Expr-F.Expr::Ident (ident_of x t)));
  }

  pub says_str : (o : Option Token) → Tells key_says (key.str x o) (name_by (text_of x o))
  unfolding key.str
  says_str None = record { told = tt }
  says_str (Some t) = record {
    told = says (vExpr.Lit (vLit.Str (str_of x t))) (text (str_of x t).lone (str_of x t).value)
        (ap look (sym (vExpr.rolls-Lit (vLit.Str (str_of x t)))) ∙ look_roll (Expr-F.Lit (vLit.Str (str_of x t))));
  }

  -- a number or a BigInt
  number : (t : Token) → Tells key_says (option_map (λ lit. (false, vExpr.Lit lit)) (numeric_of x t)) None
  unfolding numeric_of
  number t = go (same_kind t.kind k.Number) (same_kind t.kind k.BigInt)
    where
      lit : (it : Lit) → look (vExpr.Lit it) ≡ other → key_says (false, vExpr.Lit it) ≡ None
      lit it is = says (vExpr.Lit it) other is

      go : (a b : Bool)
          → Tells key_says (option_map (λ lit. (false, vExpr.Lit lit))
          (if a then Some (vLit.Num (record { raw = slice_range x t.range.start t.range.end; span = t.range }))
          else (if b then Some (vLit.BigInt (record { raw = slice_range x t.range.start t.range.end; span = t.range }))
          else None))) None
      go true b = record {
        told =
            lit (vLit.Num (record { raw = slice_range x t.range.start t.range.end; span = t.range }))
            (ap look (sym (vExpr.rolls-Lit
            (vLit.Num (record { raw = slice_range x t.range.start t.range.end; span = t.range }))))
            ∙ look_roll (Expr-F.Lit
            (vLit.Num (record { raw = slice_range x t.range.start t.range.end; span = t.range }))));
      }
      go false true = record {
        told = lit (vLit.BigInt (record { raw = slice_range x t.range.start t.range.end; span = t.range }))
            (ap look (sym (vExpr.rolls-Lit
            (vLit.BigInt (record { raw = slice_range x t.range.start t.range.end; span = t.range }))))
            ∙ look_roll (Expr-F.Lit
            (vLit.BigInt (record { raw = slice_range x t.range.start t.range.end; span = t.range }))));
      }
      go false false = record { told = tt }

  pub says_number : (o : Option Token) → Tells key_says (key.number x o) None
  unfolding key.number
  says_number None = record { told = tt }
  says_number (Some t) = number t

  pub says_private : (o : Option Token) → Tells key_says (key.private x o) None
  unfolding key.private
  says_private o =
      tells_map key_says None (given o (private_of x)) (λ name. (false, vExpr.PrivateName name)) (λ name.
      says (vExpr.PrivateName name) other
      (ap look (sym (vExpr.rolls-PrivateName name)) ∙ look_roll (Expr-F.PrivateName name)))

pub says_computed : (e : Option Expr) → Tells key_says (key.computed e) None
unfolding key.computed
says_computed e = tells_map key_says None e (λ e. (true, e)) (λ e. refl)
