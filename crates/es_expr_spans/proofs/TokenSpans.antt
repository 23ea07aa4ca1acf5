-- The range of a name or a literal is that of its token.
use Rattle.std.specs.Prelude.{ℕ, List, Option, Some, None, option_map, IfSome}
use Rattle.std.proofs.Common.{◌≡◌, refl, sym, ◌∙◌}
use Rattle.es_token.specs.declared.token.Token.{Token}
use Rattle.es_token.specs.declared.token.TokenKind.TheVariants as k
use Rattle.grammar_theory.specs.Key.{same_kind}
use Rattle.es_ast.specs.declared.leaf.Lit.{Lit}
use Rattle.es_ast.specs.declared.leaf.Lit.TheVariants as vLit
use Rattle.es_ast.specs.declared.ast.Expr.TheVariants as vExpr
use Rattle.es_lowering.specs.Value.{Value, given}
use Rattle.es_lowering.specs.Texts.{ident_of, str_of, regex_of, numeric_of, token_at}
use Rattle.es_lowering.specs.Expressions.{name, number, str, regexp}
use Rattle.es_expr_spans.specs.Spans.{lit_span, expr_span, token_range}
use Rattle.es_expr_spans.proofs.Given.{Of, one, none, of_if}
use Rattle.es_expr_spans.proofs.Spans.{span_Ident, span_Lit}

module _ (x : List ℕ) (ts : List Token) (p : Value) where
  names : (token : Option Token)
      → IfSome (option_map vExpr.Ident (option_map (ident_of x) token)) (λ e. token_range token ≡ expr_span e)
  unfolding ident_of
  names (Some t) = sym (span_Ident (ident_of x t))
  names None = tt

  pub name_span : IfSome (name x ts p) (λ e. token_range (token_at ts p 0) ≡ expr_span e)
  unfolding name
  name_span = names (token_at ts p 0)

  abbrev HasRange : Token → Lit → Type 0
  HasRange t lit = lit_span lit ≡ t.range

  numeric : (t : Token) → Of (HasRange t) (numeric_of x t)
  unfolding numeric_of
  numeric t =
      of_if (HasRange t) (same_kind t.kind k.Number) (one (HasRange t) refl)
      (of_if (HasRange t) (same_kind t.kind k.BigInt) (one (HasRange t) refl) (none (HasRange t)))

  literal : (t : Token) (lit : Option Lit) → IfSome lit (λ lit. lit_span lit ≡ t.range)
      → IfSome (option_map vExpr.Lit lit) (λ e. t.range ≡ expr_span e)
  literal t (Some lit) e = sym (span_Lit lit ∙ e)
  literal t None e = tt

  numbers : (token : Option Token)
      → IfSome (option_map vExpr.Lit (given token (numeric_of x))) (λ e. token_range token ≡ expr_span e)
  numbers (Some t) = literal t (numeric_of x t) (numeric t).is
  numbers None = tt

  pub number_span : IfSome (number x ts p) (λ e. token_range (token_at ts p 0) ≡ expr_span e)
  unfolding number
  number_span = numbers (token_at ts p 0)

  strs : (token : Option Token)
      → IfSome (option_map (λ s. vExpr.Lit (vLit.Str s)) (option_map (str_of x) token))
      (λ e. token_range token ≡ expr_span e)
  unfolding str_of
  strs (Some t) = sym (span_Lit (vLit.Str (str_of x t)))
  strs None = tt

  pub str_span : IfSome (str x ts p) (λ e. token_range (token_at ts p 0) ≡ expr_span e)
  unfolding str
  str_span = strs (token_at ts p 0)

  regexps : (token : Option Token)
      → IfSome (option_map (λ t. vExpr.Lit (vLit.Regex (regex_of x t))) token) (λ e. token_range token ≡ expr_span e)
  unfolding regex_of
  regexps (Some t) = sym (span_Lit (vLit.Regex (regex_of x t)))
  regexps None = tt

  pub regexp_span : IfSome (regexp x ts p) (λ e. token_range (token_at ts p 0) ≡ expr_span e)
  unfolding regexp
  regexp_span = regexps (token_at ts p 0)
