-- What is written of types after patterns.
use Rattle.std.specs.Prelude.{◌≡◌, ℕ, false, List, [], ◌∷◌, Option, Some, option_map}
use Rattle.es_token.specs.declared.token.Token.{Token}
use Rattle.es_ast.specs.declared.ts.ts.TsPart.{TsPart}
use Rattle.es_ast.specs.declared.ts.ts.TsPart.TheVariants as vPart
use Rattle.es_ast.specs.declared.ts.ts.TsType.{TsType}
use Rattle.es_ast.specs.declared.ast.Expr.{Expr}
use Rattle.es_lowering.specs.Value.{Value, as_group, optional, type_at}
use Rattle.es_lowering.specs.TypeNames.{behind_in}
use Rattle.es_changed.specs.declared.entry.ChangedEntry.{ChangedEntry}
use Rattle.es_changed.specs.Shape.{Writes}
use Rattle.dts_rules.specs.declared.found.FoundKind.TheVariants as kind
use Rattle.dts_rules.specs.Rules as rules
use Rattle.dts_rules.specs.Rules.{State, or_any, typed_by}
use Rattle.dts_rules.specs.Programs.{shown_expr}
use Rattle.dts_draft.specs.declared.draft.Draft.{Draft}
use Rattle.dts_draft.specs.Drafts.{state_of}

-- a type after `:`, or none
abbrev pub annotation_in : Value → Option (Option TsPart)
annotation_in v = option_map (λ ty. option_map vPart.TypeAnn ty) (optional type_at v)

module _ (x : List ℕ) (ts : List Token) where
  -- a group as it was
  pub record KeptGroup (old new : List ChangedEntry) (row : Value) : Type 0 where
    pub value : Value
    pub writes : Writes x ts old new (value ∷ [])
    pub is : as_group value ≡ row

  -- this type, which ends at this token
  pub record Annotated (old new : List ChangedEntry) (to : ℕ) (ty : TsType) : Type 0 where
    pub value : Value
    pub writes : Writes x ts old new (value ∷ [])
    pub is : annotation_in (as_group value) ≡ Some (Some (vPart.TypeAnn ty))
    pub ends : (n : ℕ) → behind_in (as_group value) n ≡ to

  -- the type of a default, or `any` with a diagnostic
  abbrev pub default_type : rules.Env → Expr → State → TsType × State
  default_type by e s =
      or_any kind.UnableToInferTypeFallbackAny (shown_expr by e).span ((shown_expr by e).rule false false s)

  pub record DefaultGroup (by : rules.Env) (old new : Draft) (to : ℕ) (e : Expr) : Type 0 where
    pub state : state_of new ≡ (default_type by e (state_of old)).1
    pub group : Annotated old.row new.row to (default_type by e (state_of old)).0

  -- the type of a pattern with a default: its own, in these parts, or that of the default
  pub record TypeGroup (by : rules.Env) (old new : Draft) (row : Value) (end : ℕ) (own : Option TsPart) (e : Expr)
      : Type 0 where
    pub value : Value
    pub writes : Writes x ts old.row new.row (value ∷ [])
    pub part : Option TsPart
    pub typed : typed_by by own (shown_expr by e) (state_of old) ≡ (part, state_of new)
    pub is : annotation_in (as_group value) ≡ Some part
    pub ends : (n : ℕ) → behind_in (as_group value) n ≡ behind_in row end
