-- What is written of a key of an object: the key of a type that the rules have it to be; and of a name with dots.
use Rattle.std.specs.Prelude.{◌≡◌, ℕ, Bool, true, false, List, [], ◌∷◌, ◌++◌, Option, Some, None, option_map}
use Rattle.base.specs.declared.range.Range.{Range}
use Rattle.es_token.specs.declared.token.Token.{Token}
use Rattle.es_ast.specs.declared.ts.leaf.Ident.{Ident}
use Rattle.es_ast.specs.declared.ts.leaf.TsEntityName.{TsEntityName}
use Rattle.es_ast.specs.declared.ts.leaf.TsThisTypeOrIdent.{TsThisTypeOrIdent}
use Rattle.es_ast.specs.declared.ast.Expr.{Expr, out-Expr}
use Rattle.es_grammar.specs.declared.rows.NodeKind.{NodeKind}
use Rattle.es_grammar.specs.declared.rows.NodeKind.TheVariants as l
use Rattle.es_lowering.specs.Value.{Value, given}
use Rattle.es_lowering.specs.Texts.{end_before, ident_of, token_of}
use Rattle.es_lowering.specs.Functions.{Key}
use Rattle.es_lowering.specs.Expressions.{Post, chained}
use Rattle.es_syntax.specs.Roles.{type_key_in}
use Rattle.es_changed.specs.declared.entry.ChangedEntry.{ChangedEntry}
use Rattle.es_changed.specs.declared.entry.Form.{Form}
use Rattle.es_changed.specs.declared.entry.Form.TheVariants as form
use Rattle.dts_rules.specs.Rules.{Env, type_key, entity_key}
use Rattle.dts_rules.specs.Programs.{shown_expr}
use Rattle.dts_draft.specs.Written.{PutsAll, Gives}

-- alternatives that may be the key of a type in brackets, and those that may begin a name with dots
abbrev pub keyed : List NodeKind
keyed = l.Name ∷ l.Word ∷ l.Number ∷ l.Str ∷ l.Chain ∷ []

abbrev pub beginning : List NodeKind
beginning = l.Name ∷ l.Word ∷ l.Chain ∷ []

-- a path that begins with `this`, or with a name
abbrev pub path_form : Bool → Form
path_form true = form.ThisPath
path_form false = form.Path

-- a name of a type, of its first part and the names behind dots
abbrev pub entity_from : TsThisTypeOrIdent → List Ident → Range → TsEntityName
entity_from left rest span = record { left = left; rest = rest; span = span }

-- an expression is that key of a type which its name is
abbrev pub IsItsName : Env → Expr → Type 0
IsItsName env e = (shown_expr env e).type_key ≡ option_map (entity_key env) (shown_expr env e).entity

-- a first part and others, where all are there
abbrev pub posts_of : Option Post → Option (List Post) → Option (List Post)
posts_of first others = given first (λ first. given others (λ others. Some (first ∷ others)))

module _ (env : Env) (x : List ℕ) (ts : List Token) where
  -- the key that an expression in brackets is, where it is one
  abbrev pub IsInBrackets : List ChangedEntry → List ChangedEntry → Bool → Expr → Type 0
  IsInBrackets old new wrote e = Gives x ts type_key_in old new wrote (shown_expr env e).type_key

  abbrev pub IsTypeKey : List ChangedEntry → List ChangedEntry → Bool → Key → Type 0
  IsTypeKey old new wrote k = Gives x ts type_key_in old new wrote (type_key env k.0 (out-Expr k.1) (shown_expr env k.1))

  -- a token that is a name
  abbrev pub name_in : Value → Option Ident
  name_in v = option_map (ident_of x) (token_of ts v)

  -- an expression is this name of a type, over this range; or none
  abbrev pub IsName : TsThisTypeOrIdent → List Ident → Range → Expr → Type 0
  IsName left rest span e = (shown_expr env e).entity ≡ Some (entity_from left rest span)

  abbrev pub IsNone : Expr → Type 0
  IsNone e = (shown_expr env e).entity ≡ None

  abbrev pub IsAny : Bool → TsThisTypeOrIdent → List Ident → Range → Expr → Type 0
  IsAny true left rest span e = IsName left rest span e
  IsAny false left rest span e = IsNone e

  -- a name from this byte up to this token, or none
  abbrev pub Has : Option ℕ → TsThisTypeOrIdent → List Ident → ℕ → Expr → Type 0
  Has (Some n) left rest start e = IsName left rest (record { start = start; end = end_before ts n }) e
  Has None left rest start e = IsNone e

  -- a further part, behind a name or not: its own name is written, where what it makes is a name
  pub record Goes (named : Bool) (old new : List ChangedEntry) (end : Option ℕ) (post : Post) : Type 0 where
    pub names : List Ident
    pub puts : PutsAll x ts name_in old new names
    pub is : (start : ℕ) (left : TsThisTypeOrIdent) (rest : List Ident) (span : Range) (obj : Expr)
        → IsAny named left rest span obj → Has end left (rest ++ names) start (post start obj)
    pub key : (start : ℕ) (obj : Expr) → IsItsName env (post start obj)

  -- further parts
  pub record GoesOn (before : Option ℕ) (old new : List ChangedEntry) (end : Option ℕ) (posts : List Post) : Type 0 where
    pub names : List Ident
    pub puts : PutsAll x ts name_in old new names
    pub is : (start : ℕ) (left : TsThisTypeOrIdent) (rest : List Ident) (obj : Expr) → Has before left rest start obj
        → Has end left (rest ++ names) start (chained start obj posts)
    pub key : (start : ℕ) (obj : Expr) → IsItsName env obj → IsItsName env (chained start obj posts)

  -- a first part and others
  pub record Chained (named : Bool) (old new : List ChangedEntry) (end : Option ℕ) (posts : List Post) : Type 0 where
    pub names : List Ident
    pub puts : PutsAll x ts name_in old new names
    pub is : (start : ℕ) (left : TsThisTypeOrIdent) (rest : List Ident) (span : Range) (obj : Expr)
        → IsAny named left rest span obj → Has end left (rest ++ names) start (chained start obj posts)
    pub key : (start : ℕ) (obj : Expr) → IsItsName env (chained start obj posts)
