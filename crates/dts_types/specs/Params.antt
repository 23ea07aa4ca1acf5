-- What is written of parts of parameters.
use Rattle.std.specs.Prelude.{◌≡◌, ℕ, Bool, true, false, List, [], ◌∷◌, Option, Some, None, option_map}
use Rattle.base.specs.declared.range.Range.{Range}
use Rattle.es_token.specs.declared.token.Token.{Token}
use Rattle.es_ast.specs.declared.ts.ts.TsType.{TsType}
use Rattle.es_ast.specs.declared.ast.Expr.{Expr}
use Rattle.es_ast.specs.declared.ast.Pat.{Pat}
use Rattle.es_lowering.specs.Value.{Value, as_group, is_there, optional, type_at}
use Rattle.es_changed.specs.declared.entry.ChangedEntry.{ChangedEntry}
use Rattle.es_changed.specs.Shape.{Writes}
use Rattle.dts_rules.specs.Rules as rules
use Rattle.dts_rules.specs.Rules.{State, fn_param}
use Rattle.dts_rules.specs.Programs.{shown_expr, shown_pat}
use Rattle.dts_draft.specs.declared.draft.Draft.{Draft}
use Rattle.dts_draft.specs.Drafts.{state_of}
use Rattle.dts_patterns.specs.Patterns.{pattern}
use Rattle.dts_types.specs.Types.{Something}

-- a pattern without a mark, a type and a default of its own
abbrev pub IsSimple : rules.Env → Pat → Type 0
IsSimple env pat =
    (place : Range) (s : State)
    → (shown_pat env pat).as_type place s ≡ (Some (fn_param false false place (pattern env pat) None), s)

module _ (x : List ℕ) (ts : List Token) where
  -- a type behind `:`, or none, as these parts have it
  pub record Annotates (old new : List ChangedEntry) (v : Value) : Type 0 where
    pub value : Value
    pub writes : Writes x ts old new (value ∷ [])
    pub is : optional type_at (as_group value) ≡ optional type_at v

  -- `?`, or none
  pub record Marks (old new : List ChangedEntry) (v : Value) : Type 0 where
    pub value : Value
    pub writes : Writes x ts old new (value ∷ [])
    pub is : is_there (as_group value) ≡ is_there v

  -- no mark and this type
  pub record Unmarked (old new : List ChangedEntry) (ty : TsType) : Type 0 where
    pub mark : Value
    pub annotation : Value
    pub writes : Writes x ts old new (mark ∷ annotation ∷ [])
    pub unmarked : is_there (as_group mark) ≡ false
    pub is : optional type_at (as_group annotation) ≡ Some (Some ty)

  abbrev pub Typed : Draft → Draft → Bool → Option TsType × State → Type 0
  Typed old new wrote (Some ty, s) = (wrote ≡ true) × (state_of new ≡ s) × Unmarked old.row new.row ty
  Typed old new wrote (None, s) = (wrote ≡ false) × (state_of new ≡ s) × Something x ts old.row new.row

-- the type of a default
abbrev pub DefaultTyped : rules.Env → List ℕ → List Token → Draft → Draft → Bool → Expr → Type 0
DefaultTyped env x ts old new wrote e = Typed x ts old new wrote ((shown_expr env e).rule false false (state_of old))
