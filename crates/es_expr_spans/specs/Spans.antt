-- The range of an expression as it is typed: of a name or a literal that of its token, of a function or a class its own.
use Rattle.std.specs.Prelude.{◌≡◌, ℕ, Bool, true, false, List, [], ◌∷◌, Option, Some, None, IfSome}
use Rattle.base.specs.declared.range.Range.{Range}
use Rattle.es_grammar.specs.declared.rows.NodeKind.{NodeKind}
use Rattle.es_grammar.specs.declared.rows.NodeKind.TheVariants as l
use Rattle.es_ast.specs.declared.leaf.Lit.{Lit}
use Rattle.es_ast.specs.declared.leaf.Lit.TheVariants as vLit
use Rattle.es_ast.specs.declared.ast.Class.{out-Class}
use Rattle.es_ast.specs.declared.ast.Expr.{Expr, out-Expr}
use Rattle.es_ast.specs.declared.ast.Function.{out-Function}
use Rattle.es_ast.specs.declared.ast.ClassMember.TheOpen.{Expr-F}
use Rattle.es_site.specs.Parts.{Whole}
use Rattle.es_token.specs.declared.token.Token.{Token}
use Rattle.es_syntax.specs.declared.entry.What.{What}
use Rattle.es_syntax.specs.declared.entry.What.TheVariants as vWhat
use Rattle.es_lowering.specs.Value.{Value, turns, post_at}
use Rattle.es_lowering.specs.Expressions.{Post, chained}

abbrev pub lit_span : Lit → Range
lit_span (vLit.Null span) = span
lit_span (vLit.Bool value span) = span
lit_span (vLit.Num it) = it.span
lit_span (vLit.BigInt it) = it.span
lit_span (vLit.Str it) = it.span
lit_span (vLit.Regex it) = it.span

abbrev pub span_by : Whole Expr-F → Range
span_by (Expr-F.Expr::This span) = span
span_by (Expr-F.Super span) = span
span_by (Expr-F.Expr::Ident id) = id.span
span_by (Expr-F.PrivateName id) = id.span
span_by (Expr-F.Lit it) = lit_span it
span_by (Expr-F.Expr::Hole span) = span
span_by (Expr-F.Expr::Array elems span) = span
span_by (Expr-F.Expr::Spread expr span) = span
span_by (Expr-F.Expr::Object props span) = span
span_by (Expr-F.Expr::Fn it) = (out-Function it).span
span_by (Expr-F.Expr::Class it) = (out-Class it).span
span_by (Expr-F.Arrow it) = (out-Function it).span
span_by (Expr-F.Paren expr span) = span
span_by (Expr-F.Unary op arg span) = span
span_by (Expr-F.Update op prefix arg span) = span
span_by (Expr-F.Await arg span) = span
span_by (Expr-F.Yield delegate arg span) = span
span_by (Expr-F.Bin op left right span) = span
span_by (Expr-F.Expr::Assign op left right span) = span
span_by (Expr-F.Cond test cons alt span) = span
span_by (Expr-F.Seq exprs span) = span
span_by (Expr-F.Member obj mark hidden prop span) = span
span_by (Expr-F.Index obj mark prop span) = span
span_by (Expr-F.Call callee mark type_args args span) = span
span_by (Expr-F.New callee type_args has_args args span) = span
span_by (Expr-F.ImportCall phase args span) = span
span_by (Expr-F.ImportMeta span) = span
span_by (Expr-F.NewTarget span) = span
span_by (Expr-F.Tpl quasis exprs span) = span
span_by (Expr-F.TaggedTpl tag type_args tpl span) = span
span_by (Expr-F.TsNonNull expr span) = span
span_by (Expr-F.TsAs expr ty span) = span
span_by (Expr-F.TsConstAssertion expr span) = span
span_by (Expr-F.TsSatisfies expr ty span) = span

unfoldable pub expr_span : Expr → Range
expr_span e = span_by (out-Expr e)

-- alternatives that become expressions with a range of their own: that of a token, or that of a chain
abbrev pub own_ranges : List NodeKind
own_ranges = l.Name ∷ l.Number ∷ l.Str ∷ l.RegExp ∷ l.Chain ∷ []

-- the bytes of a token
abbrev pub token_range : Option Token → Range
token_range (Some t) = t.range
token_range None = record { start = 0; end = 0 }

-- what a further part of a chain makes ends there
abbrev pub Ends : ℕ → Post → Type 0
Ends end post = (start : ℕ) (obj : Expr) → expr_span (post start obj) ≡ record { start = start; end = end }

-- an expression that ends at the one byte ends at the other with all of these parts
abbrev pub Moves : Value → ℕ → ℕ → Type 0
Moves row before end =
    IfSome (turns (λ turn. post_at turn 0) row) (λ posts. (start : ℕ) (obj : Expr)
    → expr_span obj ≡ record { start = start; end = before }
    → expr_span (chained start obj posts) ≡ record { start = start; end = end })

-- nodes that lean left
abbrev pub is_lean : What → Bool
is_lean (vWhat.Lean lean) = true
is_lean _ = false
