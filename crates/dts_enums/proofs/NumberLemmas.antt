-- What types are number literals, by what was read of them.
use Rattle.std.specs.Prelude.{ℕ, Bool, true, false, List, Option, Some, None, option_map, if◌then◌else◌, IfSome}
use Rattle.std.proofs.Common.{◌≡◌, refl, sym, subst}
use Rattle.base.specs.declared.range.Range.{Range}
use Rattle.es_token.specs.declared.token.Token.{Token}
use Rattle.es_token.specs.declared.token.TokenKind.TheVariants as k
use Rattle.grammar_theory.specs.Key.{same_kind}
use Rattle.es_grammar.specs.declared.rows.NodeKind.{NodeKind}
use Rattle.es_grammar.specs.declared.rows.NodeKind.TheVariants as l
use Rattle.es_ast.specs.declared.ts.leaf.TsLit.{TsLit}
use Rattle.es_ast.specs.declared.ts.leaf.TsLit.TheVariants as vLit
use Rattle.es_ast.specs.declared.ts.ts.TsType.TheVariants as vType
use Rattle.es_ast.specs.declared.ts.ts.TsType.TheOpen.{TsType-F}
use Rattle.es_lowering.specs.Value.{Value, given, group, is_there}
use Rattle.es_lowering.specs.Texts.{token_at}
use Rattle.es_lowering.specs.Types.{number_type}
use Rattle.es_lowering.specs.TypeTexts.{numeric_lit, number_of, big_of}
use Rattle.es_lowering.specs.Lowering.{same_label, type_of}
use Rattle.es_syntax.specs.Held.{token_there}
use Rattle.es_syntax.specs.Views.{is_one_of}
use Rattle.dts_rules.specs.Rules.{is_number_by}
use Rattle.dts_enums.specs.Forms.{number_labels, NumberType, is_word}
use Rattle.dts_enums.proofs.NumberForms.{by_form, other_type}

module _ (x : List ℕ) (ts : List Token) (r : Range) where
  literal : (o : Option TsLit) (b : Bool) → IfSome o (λ it. is_number_by (TsType-F.Lit it) ≡ b)
      → NumberType b (option_map vType.Lit o)
  literal None b known = tt
  literal (Some it) b known = by_form (TsType-F.Lit it) b known (vType.rolls-Lit it)

  numeric : (minus : Bool) (t : Token)
      → IfSome (numeric_lit x minus r t) (λ it. is_number_by (TsType-F.Lit it) ≡ same_kind t.kind k.Number)
  unfolding numeric_lit
  numeric minus t = by (same_kind t.kind k.Number) (same_kind t.kind k.BigInt)
    where
      by : (a b : Bool) → IfSome (if a then Some (vLit.Number minus (number_of x t) r)
          else (if b then Some (vLit.BigInt minus (big_of x t) r) else None)) (λ it. is_number_by (TsType-F.Lit it) ≡ a)
      by true b = refl
      by false true = refl
      by false false = tt

  pub own_number : (p : Value) (o : Option ℕ) (b : Bool) → token_at ts p 1 ≡ token_there ts o
      → b ≡ is_word k.Number (token_there ts o) → NumberType b (type_of x ts l.NumberType r p)
  unfolding type_of number_type
  own_number p o b there is =
      let P : Option Token → Type 0 = λ t. b ≡ is_word k.Number t in
      literal (given (token_at ts p 1) (numeric_lit x (is_there (group p 0)) r)) b
      (go (token_at ts p 1) (subst P (sym there) is))
    where
      go : (t : Option Token) → b ≡ is_word k.Number t
          → IfSome (given t (numeric_lit x (is_there (group p 0)) r)) (λ it. is_number_by (TsType-F.Lit it) ≡ b)
      go None e = tt
      go (Some t) e =
          let Q : Bool → Type 0 =
          λ b. IfSome (numeric_lit x (is_there (group p 0)) r t) (λ it. is_number_by (TsType-F.Lit it) ≡ b) in
          subst Q (sym e) (numeric (is_there (group p 0)) t)

  only : (b : Bool) → (if b then true else false) ≡ false → b ≡ false
  only true e = let bad : ⊥ = cc in absurd bad
  only false e = refl

  pub other_number : (label : NodeKind) (p : Value) → is_one_of number_labels label ≡ false
      → NumberType false (type_of x ts label r p)
  other_number label p e = other_type x ts label r p (only (same_label label l.NumberType) e)
