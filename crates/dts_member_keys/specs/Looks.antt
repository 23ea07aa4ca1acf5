-- What keys in brackets are looked through to.
use Rattle.std.specs.Prelude.{◌≡◌, ◌<◌, ℕ, Bool, true, false, List, [], ◌∷◌, Option, None, length, slice_get}
use Rattle.base.specs.declared.range.Range.{Range}
use Rattle.es_token.specs.declared.token.Token.{Token}
use Rattle.es_ast.specs.declared.ast.Expr.{Expr}
use Rattle.es_grammar.specs.declared.rows.NodeKind.{NodeKind}
use Rattle.es_grammar.specs.declared.rows.NodeKind.TheVariants as l
use Rattle.es_lowering.specs.Value.{Value, part, post_at, turns}
use Rattle.es_lowering.specs.Functions.{Key}
use Rattle.es_lowering.specs.Expressions.{Post, chained}
use Rattle.es_lowering.specs.TypedExpressions.{turned_by}
use Rattle.es_syntax.specs.declared.entry.Lean.{Lean}
use Rattle.es_syntax.specs.Held.{Held, leaned, leaning, valued}
use Rattle.es_syntax.specs.Roles.{expr_in}
use Rattle.es_view_expressions.specs.call.Post as post_view
use Rattle.dts_rules.specs.Rules as rules
use Rattle.dts_rules.specs.Programs.{shown_expr}
use Rattle.dts_draft.specs.Written.{IfThere}
use Rattle.dts_names.specs.declared.env.Env.{Env}
use Rattle.dts_names.specs.Names.{Knows}
use Rattle.dts_member_keys.specs.declared.keys.MemberKey.{MemberKey}
use Rattle.dts_member_keys.specs.declared.further.Further.{Further}
use Rattle.dts_member_keys.specs.declared.further.Further.TheVariants as further
use Rattle.dts_member_keys.specs.declared.looks.Look.{Look}
use Rattle.dts_member_keys.specs.declared.looks.Look.TheVariants as look
use Rattle.dts_member_keys.specs.Keys.{Tells}

-- alternatives that may be a key in brackets; any other is none
abbrev pub keyed : List NodeKind
keyed = l.Name ∷ l.Number ∷ l.Str ∷ l.Parenthesized ∷ l.Chain ∷ l.TypedBinary ∷ l.TypeAssertion ∷ []

-- names
abbrev pub naming : List NodeKind
naming = l.Name ∷ []

-- a name after a dot
pub record IsDot (x : List ℕ) (ts : List Token) (at : ℕ) (o : Option Post) : Type 0 where
  pub range : Range
  pub is : o ≡ post_view.member x range (slice_get ts at)

-- the key, or none
abbrev pub kept : Bool → Option Key → Option Key
kept true k = k
kept false k = None

module _ (by : rules.Env) where
  -- the key that an expression in brackets is
  abbrev pub KeyIs : Option Key → Expr → Type 0
  KeyIs k e = (shown_expr by e).key ≡ k

  -- whatever key the inner expression is, the outer one is it too
  pub record Sees (inner outer : Option Expr) : Type 0 where
    pub leads : (k : Option Key) → IfThere (KeyIs k) inner → IfThere (KeyIs k) outer

  -- `Symbol`, or not
  abbrev pub IsSymbol : Bool → Expr → Type 0
  IsSymbol b e = (shown_expr by e).is_symbol ≡ b

  -- ---- casts: the key of what stands before one stays, or there is none
  abbrev pub Turned : List Token → Bool → Value → Type 0
  Turned ts cast g =
      (k : Option Key) (r : Range) (from : ℕ) (e : Expr) → KeyIs k e
      → IfThere (KeyIs (kept cast k)) (turned_by ts r e from g (part g 1))

  abbrev pub LeanTurned : List ℕ → List Token → Lean → Bool → Held → Type 0
  LeanTurned x ts lean cast turn =
      (k : Option Key) (from : ℕ) (v : Value) → IfThere (KeyIs k) (expr_in v)
      → IfThere (KeyIs (kept cast k)) (expr_in (leaning x ts lean from v turn))

  abbrev pub Leaned : List ℕ → List Token → Lean → Bool → Bool → List Held → Type 0
  Leaned x ts lean before after ps =
      (k : Option Key) (from : ℕ) (v : Value) → IfThere (KeyIs (kept before k)) (expr_in v)
      → IfThere (KeyIs (kept after k)) (expr_in (leaned x ts lean from v ps))

  -- ---- further parts of a chain: what isn't `Symbol` keeps its key before `!`, and has none before any other
  pub record At (k : Option Key) (e : Expr) : Type 0 where
    pub symbol : IsSymbol false e
    pub key : KeyIs k e

  -- what makes no key, whatever stands before it
  pub record Ends (post : Post) : Type 0 where
    pub symbol : (start : ℕ) (obj : Expr) → IsSymbol false (post start obj)
    pub key : (start : ℕ) (obj : Expr) → KeyIs None (post start obj)

  -- `!`
  pub record Bangs (post : Post) : Type 0 where
    pub symbol : (start : ℕ) (obj : Expr) → IsSymbol false (post start obj)
    pub key : (start : ℕ) (obj : Expr) → (shown_expr by (post start obj)).key ≡ (shown_expr by obj).key

  pub record Link (bang : Bool) (post : Post) : Type 0 where
    pub leads : (k : Option Key) (start : ℕ) (obj : Expr) → At k obj → At (kept bang k) (post start obj)

  abbrev pub Links : Bool → Bool → Value → Type 0
  Links before after row =
      (k : Option Key) (start : ℕ) (obj : Expr) → At (kept before k) obj
      → IfThere (λ posts. At (kept after k) (chained start obj posts)) (turns (λ turn. post_at turn 0) row)

  -- a further part: `!`, this name after a dot, or any other
  abbrev pub Makes : List ℕ → List Token → Further → Option Post → Type 0
  Makes x ts further.NonNull o = IfThere Bangs o
  Makes x ts (further.Dot at) o = IsDot x ts at o
  Makes x ts further.Other o = IfThere Ends o

  -- ---- what is told of an expression
  abbrev pub LookTells : List ℕ → List Token → Look → Option Expr → Type 0
  LookTells x ts (look.Inner i) o = Sees (expr_in (valued x ts i)) o
  LookTells x ts (look.Key it) o = IfThere (λ e. Tells x ts it (shown_expr by e).key) o

-- what is looked at next takes fewer entries
abbrev pub IsUnder : Look → ℕ → Type 0
IsUnder (look.Inner i) n = length i.parts.entries.now < n
IsUnder (look.Key it) n = Unit {0}

-- ---- by whatever the rules go
abbrev pub Looked : Env → Look → Option Expr → Type 0
Looked it found o = (by : rules.Env) → Knows it by → LookTells by it.text.now it.tokens.now found o

abbrev pub KeySeen : Env → MemberKey → Option Expr → Type 0
KeySeen it shown o =
    (by : rules.Env) → Knows it by
    → IfThere (λ e. Tells it.text.now it.tokens.now shown (shown_expr by e).key) o

abbrev pub SymbolBy : Env → Bool → Option Expr → Type 0
SymbolBy it found o = (by : rules.Env) → Knows it by → IfThere (IsSymbol by found) o
