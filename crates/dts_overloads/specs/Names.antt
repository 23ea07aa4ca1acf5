-- Names as code has them, and what a part is called.
use Rattle.std.specs.Prelude.{◌≡◌, ◌<◌, IsCharBoundary, ℕ, ◌+◌, Bool, true, false, List, [], ◌∷◌, Option, Some, None, option_map, slice_range, IfSome}
use Rattle.es_token.specs.declared.token.Token.{Token}
use Rattle.es_token.specs.declared.token.TokenKind.{TokenKind}
use Rattle.grammar_theory.specs.Key.{same_kind}
use Rattle.es_ast.specs.declared.ts.leaf.Ident.{Ident}
use Rattle.es_ast.specs.declared.ast.Expr.{Expr}
use Rattle.es_grammar.specs.declared.rows.NodeKind.{NodeKind}
use Rattle.es_grammar.specs.declared.rows.NodeKind.TheVariants as l
use Rattle.es_lowering.specs.Functions.{Key}
use Rattle.es_lowering.specs.Expressions.{Post, chained}
use Rattle.dts_rules.specs.Ranges.{Name, unnamed, text, private, number, path, function_name, seen_expr}
use Rattle.dts_overloads.specs.declared.names.Name.{Name as AName}
use Rattle.dts_overloads.specs.declared.names.Name.TheVariants as name

-- ---- names
abbrev pub name_of : AName → Name
name_of name.Unnamed = unnamed
name_of (name.Text t) = text t
name_of (name.Private t) = private t
name_of (name.Number t) = number t
name_of (name.Path ts) = path ts

abbrev pub named : Option AName → Option Name
named it = option_map name_of it

-- a token that cuts its text between characters
pub record Cuts (x : List ℕ) (t : Token) : Type 0 where
  pub ordered : t.range.start < t.range.end
  pub starts : IsCharBoundary x t.range.start
  pub ends : IsCharBoundary x t.range.end

-- how a token is spelled
abbrev pub spelling : List ℕ → Option Token → Option (List ℕ)
spelling x o = option_map (λ t. slice_range x t.range.start t.range.end) o

abbrev pub private_spelling : List ℕ → Option Token → Option (List ℕ)
private_spelling x o = option_map (λ t. slice_range x (t.range.start + 1) t.range.end) o

-- a token of this kind is there
abbrev pub is_kind : TokenKind → Option Token → Bool
is_kind kind (Some t) = same_kind t.kind kind
is_kind kind None = false

-- ---- alternatives that may be a name in brackets, and those that may begin a name with dots
abbrev pub keyed : List NodeKind
keyed = l.Name ∷ l.Word ∷ l.Number ∷ l.Str ∷ l.Chain ∷ []

abbrev pub beginning : List NodeKind
beginning = l.Name ∷ l.Word ∷ l.Chain ∷ []

abbrev pub NoPath : Expr → Type 0
NoPath e = (seen_expr e).path_of ≡ None

abbrev pub NoKey : Expr → Type 0
NoKey e = (seen_expr e).key true ≡ None

-- in brackets it is called by its name with dots
abbrev pub Dotted : Expr → Type 0
Dotted e = (seen_expr e).key true ≡ option_map path (seen_expr e).path_of

pub record IsDotted (part : Option Expr) : Type 0 where
  pub is : IfSome part Dotted

pub record IsNoPath (part : Option Expr) : Type 0 where
  pub is : IfSome part NoPath

pub record IsNoKey (part : Option Expr) : Type 0 where
  pub is : IfSome part NoKey

-- ---- what a part is called
-- a key
pub record Calls (it : Option AName) (part : Option Key) : Type 0 where
  pub calls : IfSome part (λ key. (seen_expr key.1).key key.0 ≡ named it)

-- a function, by its name
pub record CallsFunction (it : AName) (part : Option (Option Ident)) : Type 0 where
  pub calls : IfSome part (λ name. function_name name ≡ name_of it)

-- an expression in brackets
pub record CallsIn (it : Option AName) (part : Option Expr) : Type 0 where
  pub calls : IfSome part (λ e. (seen_expr e).key true ≡ named it)

-- a name with dots
pub record HasPath (names : Option (List (List ℕ))) (part : Option Expr) : Type 0 where
  pub has : IfSome part (λ e. (seen_expr e).path_of ≡ names)

-- a further part takes a name with dots on
abbrev pub Leads : Option (List (List ℕ)) → Option (List (List ℕ)) → Post → Type 0
Leads old new post =
    (start : ℕ) (e : Expr) → (seen_expr e).path_of ≡ old → (seen_expr (post start e)).path_of ≡ new

pub record Follows (old new : Option (List (List ℕ))) (part : Option Post) : Type 0 where
  pub follows : IfSome part (Leads old new)

abbrev pub LeadAll : Option (List (List ℕ)) → Option (List (List ℕ)) → List Post → Type 0
LeadAll old new posts =
    (start : ℕ) (e : Expr) → (seen_expr e).path_of ≡ old → (seen_expr (chained start e posts)).path_of ≡ new

pub record AllFollow (old new : Option (List (List ℕ))) (part : Option (List Post)) : Type 0 where
  pub follow : IfSome part (LeadAll old new)
