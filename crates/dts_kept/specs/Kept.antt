-- What is written of a type of the text: it, or the type of the frozen value.
use Rattle.std.specs.Prelude.{◌≡◌, ℕ, Bool, true, false, List, [], ◌∷◌, Option, Some, None, IfSome}
use Rattle.es_token.specs.declared.token.Token.{Token}
use Rattle.es_grammar.specs.declared.rows.NodeKind.{NodeKind}
use Rattle.es_grammar.specs.declared.rows.NodeKind.TheVariants as l
use Rattle.es_ast.specs.declared.ts.ts.TsType.{TsType}
use Rattle.es_ast.specs.declared.ts.ts.TsTypeElement.{TsTypeElement, out-TsTypeElement}
use Rattle.es_lowering.specs.Value.{Value, as_group, type_member_at}
use Rattle.es_lowering.specs.Types.{indexes}
use Rattle.es_syntax.specs.Roles.{ts_type_in, type_member_in}
use Rattle.es_changed.specs.declared.entry.ChangedEntry.{ChangedEntry}
use Rattle.es_changed.specs.Shape.{Writes}
use Rattle.dts_rules.specs.Made.{frozen, frozen_member_by, if_true, readonly_type}
use Rattle.dts_draft.specs.Written.{Puts, PutsAll, Gives}

-- the alternatives that have a type where the value is frozen
abbrev pub frozen_labels : List NodeKind
frozen_labels =
    l.FunctionType ∷ l.ConstructorType ∷ l.ArrayTypes ∷ l.TypeOperator ∷ l.MembersType ∷ l.TupleType ∷ []

-- the alternatives of members that may be `readonly`
abbrev pub member_labels : List NodeKind
member_labels = l.IndexSignature ∷ l.PropertySignature ∷ l.ReadonlyProperty ∷ []

-- a type as it stands, or frozen
abbrev pub kept_of : Bool → TsType → Option TsType
kept_of true ty = frozen ty
kept_of false ty = Some ty

-- behind `readonly`, where it is an array
abbrev pub behind_readonly : Bool → TsType → Option TsType
behind_readonly true ty = Some (readonly_type ty)
behind_readonly false ty = None

abbrev pub FrozenArray : Bool → Option TsType → Type 0
FrozenArray b o = IfSome o (λ ty. frozen ty ≡ behind_readonly b ty)

-- a type with these brackets after it is an array or not, by whether it was one before
abbrev pub Indexes : List Token → Bool → Bool → Value → Type 0
Indexes ts before after row =
    (start at : ℕ) (ty : TsType) → frozen ty ≡ behind_readonly before ty
    → FrozenArray after (indexes ts start at ty row)

-- a type after an operator, which stays where that is `readonly`
abbrev pub FrozenOperator : Bool → Option TsType → Type 0
FrozenOperator b o = IfSome o (λ ty. frozen ty ≡ if_true b ty)

-- a member in its turn
abbrev pub in_turn : Value → Option TsTypeElement
in_turn v = type_member_at (as_group v) 0

abbrev pub frozen_member : TsTypeElement → Option TsTypeElement
frozen_member m = frozen_member_by (out-TsTypeElement m)

module _ (x : List ℕ) (ts : List Token) where
  abbrev pub IsFrozen : List ChangedEntry → List ChangedEntry → Bool → TsType → Type 0
  IsFrozen old new wrote ty = Gives x ts ts_type_in old new wrote (frozen ty)

  abbrev pub IsKept : List ChangedEntry → List ChangedEntry → Bool → Bool → TsType → Type 0
  IsKept old new wrote froze ty = Gives x ts ts_type_in old new wrote (kept_of froze ty)

  -- ---- members
  -- something is written
  pub record Something (old new : List ChangedEntry) : Type 0 where
    pub values : List Value
    pub writes : Writes x ts old new values

  abbrev pub IsMember : List ChangedEntry → List ChangedEntry → Bool → TsTypeElement → Type 0
  IsMember old new wrote m = Gives x ts type_member_in old new wrote (frozen_member m)

  -- in a turn: what is written where there is none is taken back later
  abbrev pub TurnGives : List ChangedEntry → List ChangedEntry → Bool → Option TsTypeElement → Type 0
  TurnGives old new wrote (Some m) = (wrote ≡ true) × Puts x ts in_turn old new m
  TurnGives old new wrote None = (wrote ≡ false) × Something old new

  abbrev pub IsTurn : List ChangedEntry → List ChangedEntry → Bool → TsTypeElement → Type 0
  IsTurn old new wrote m = TurnGives old new wrote (frozen_member m)

  abbrev pub AllGive : List ChangedEntry → List ChangedEntry → Bool → Option (List TsTypeElement) → Type 0
  AllGive old new wrote (Some ms) = (wrote ≡ true) × PutsAll x ts in_turn old new ms
  AllGive old new wrote None = (wrote ≡ false) × Something old new
