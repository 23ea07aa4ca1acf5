-- Values of enums, by their alternatives.
use Rattle.std.specs.Prelude.{◌≡◌, ℕ, Bool, true, false, ◌&&◌, List, [], ◌∷◌, Option, Some, None, IfSome}
use Rattle.base.specs.declared.range.Range.{Range}
use Rattle.es_token.specs.declared.token.Token.{Token}
use Rattle.es_token.specs.declared.token.TokenKind.{TokenKind}
use Rattle.grammar_theory.specs.Key.{same_kind}
use Rattle.es_grammar.specs.declared.rows.NodeKind.{NodeKind}
use Rattle.es_grammar.specs.declared.rows.NodeKind.TheVariants as l
use Rattle.es_ast.specs.declared.ast.Expr.{Expr}
use Rattle.es_ast.specs.declared.ts.ts.TsType.{TsType}
use Rattle.es_lowering.specs.Value.{Value, part, turns, expr_at, post_at}
use Rattle.es_lowering.specs.Expressions.{Post, chained, optional_of}
use Rattle.es_lowering.specs.TypedExpressions.{turned_by, typed_optional_of}
use Rattle.es_syntax.specs.declared.entry.Lean.{Lean}
use Rattle.es_syntax.specs.Held.{Held, leaned}
use Rattle.es_syntax.specs.Roles.{expr_in}
use Rattle.dts_rules.specs.Rules.{Env, is_number_type}
use Rattle.dts_rules.specs.Programs.{shown_expr}

-- what an enum may keep; any other alternative it drops
abbrev pub value_labels : List NodeKind
value_labels =
    l.Name ∷ l.Number ∷ l.Str ∷ l.Template ∷ l.TemplateParts ∷ l.Parenthesized ∷ l.Chain ∷ l.Binary ∷ l.PrivateIn ∷
    l.TypedBinary ∷ l.TypeAssertion ∷ []

-- types that may be number literals
abbrev pub number_labels : List NodeKind
number_labels = l.NumberType ∷ []

-- further parts of chains that may be members
abbrev pub access_labels : List NodeKind
access_labels = l.MemberPost ∷ l.IndexPost ∷ l.OptionalPost ∷ l.TypedOptionalPost ∷ []

-- an enum keeps the value, where it is there, or not
abbrev pub Starts : Env → Bool → Option Expr → Type 0
Starts env b o = IfSome o (λ e. (shown_expr env e).starts_enum ≡ b)

-- the token is this word
abbrev pub is_word : TokenKind → Option Token → Bool
is_word word (Some t) = same_kind t.kind word
is_word word None = false

-- a type, where it is there, is that of a number literal or not
abbrev pub NumberType : Bool → Option TsType → Type 0
NumberType b o = IfSome o (λ ty. is_number_type (Some ty) ≡ b)

-- ---- chains
-- an enum keeps what a further part makes where this is so and it keeps what precedes it
abbrev pub Access : Env → Bool → Option Post → Type 0
Access env b o =
    IfSome o (λ post. (start : ℕ) (obj : Expr)
    → (shown_expr env (post start obj)).starts_enum ≡ (b && (shown_expr env obj).starts_enum))

-- the same of what is after `?.`, in JavaScript and in TypeScript
pub record Optional (env : Env) (x : List ℕ) (ts : List Token) (r : Range) (b : Bool) (v : Value) : Type 0 where
  pub plain : Access env b (optional_of x ts r v)
  pub typed : Access env b (typed_optional_of x ts r v)

-- what these further parts make, by what precedes them
abbrev pub Along : Env → Bool → Bool → Value → Type 0
Along env before after row =
    (start : ℕ) (obj : Expr) → (shown_expr env obj).starts_enum ≡ before
    → IfSome (turns (λ turn. post_at turn 0) row)
    (λ posts. (shown_expr env (chained start obj posts)).starts_enum ≡ after)

-- ---- expressions in a template
abbrev pub all_start : Env → List Expr → Bool
all_start env [] = true
all_start env (e ∷ es) = (shown_expr env e).starts_enum && all_start env es

-- these, and whether those before them are all kept
abbrev pub AllStart : Env → Bool → Bool → Value → Type 0
AllStart env before after row = IfSome (turns (λ turn. expr_at turn 1) row) (λ es. (before && all_start env es) ≡ after)

-- ---- operators and casts
-- a value with this turn after it is kept or not, by whether it was before
abbrev pub Turned : Env → List Token → Bool → Bool → Value → Type 0
Turned env ts before after g =
    (r : Range) (from : ℕ) (e : Expr) → (shown_expr env e).starts_enum ≡ before
    → Starts env after (turned_by ts r e from g (part g 1))

-- the same of all turns of a chain
abbrev pub Leaned : Env → List ℕ → List Token → Lean → Bool → Bool → List Held → Type 0
Leaned env x ts lean before after ps =
    (from : ℕ) (v : Value) → Starts env before (expr_in v) → Starts env after (expr_in (leaned x ts lean from v ps))
