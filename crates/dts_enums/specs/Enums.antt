-- Enums as declarations have them.
use Rattle.std.specs.Prelude.{◌≡◌, ℕ, Bool, false, List, [], ◌∷◌, Option, Some, map}
use Rattle.base.specs.declared.range.Range.{Range}
use Rattle.es_token.specs.declared.token.Token.{Token}
use Rattle.es_ast.specs.declared.ast.TsEnumMember.{TsEnumMember}
use Rattle.es_lowering.specs.Value.{Value, nil, as_group, first_of, behind}
use Rattle.es_lowering.specs.Lowering.{packed}
use Rattle.es_lowering.specs.TypedStatements.{Declarable, enum_member}
use Rattle.es_syntax.specs.Roles.{declarable_in, decl_in, key_in}
use Rattle.es_changed.specs.declared.entry.ChangedEntry.{ChangedEntry}
use Rattle.es_changed.specs.Formed.{with_declare}
use Rattle.es_changed.specs.Shape.{Writes}
use Rattle.dts_rules.specs.Rules.{Env}
use Rattle.dts_rules.specs.Programs.{shown_decl, shown_enum_member}
use Rattle.dts_draft.specs.declared.draft.Draft.{Draft}
use Rattle.dts_draft.specs.Drafts.{state_of}
use Rattle.dts_draft.specs.Written.{Puts, PutsAll}

module _ (x : List ℕ) (ts : List Token) where
  -- parts are written as they were
  pub record Copies (old new : List ChangedEntry) (row : Value) : Type 0 where
    pub values : List Value
    pub writes : Writes x ts old new values
    pub are : packed values ≡ row

  -- some parts are written
  pub record Something (old new : List ChangedEntry) : Type 0 where
    pub values : List Value
    pub writes : Writes x ts old new values

  -- a key that is what it was, and ends here
  pub record KeyUpTo (old new : List ChangedEntry) (key : Value) (to : ℕ) : Type 0 where
    pub value : Value
    pub writes : Writes x ts old new (value ∷ [])
    pub is : key_in value ≡ key_in key
    pub from : first_of value ≡ first_of key
    pub ends : behind value ≡ to

  -- a group of such a key and no value
  pub record IsBare (old new : List ChangedEntry) (key : Value) (to : ℕ) : Type 0 where
    pub value : Value
    pub others : List Value
    pub writes : Writes x ts old new (packed (value ∷ nil ∷ others) ∷ [])
    pub is : key_in value ≡ key_in key
    pub from : first_of value ≡ first_of key
    pub ends : behind value ≡ to

  -- a member of an enum in a turn
  abbrev pub in_turn : Value → Option TsEnumMember
  in_turn v = enum_member ts (as_group v)

  -- the member is written, as the rules have it
  abbrev pub MemberPuts : Env → List ChangedEntry → List ChangedEntry → TsEnumMember → Type 0
  MemberPuts by old new it = Puts x ts in_turn old new (shown_enum_member by it)

  abbrev pub MembersPut : Env → List ChangedEntry → List ChangedEntry → List TsEnumMember → Type 0
  MembersPut by old new them = PutsAll x ts in_turn old new (map (shown_enum_member by) them)

  -- a declaration is written, as the rules have it on the top and elsewhere, after `declare` or not
  pub record Declares (by : Env) (old new : Draft) (span : Range) (before : Declarable) : Type 0 where
    pub value : Value
    pub writes : Writes x ts old.row new.row (value ∷ [])
    pub it : Declarable
    pub is : declarable_in value ≡ Some it
    pub decl : decl_in value ≡ Some (it false span)
    pub declared : (declare top : Bool) (r : Range)
        → (shown_decl by (before declare r)).declared top (state_of old) ≡ (Some (it top r), state_of new)
    pub defaulted : (declare : Bool) (r : Range)
        → (shown_decl by (before declare r)).defaulted (state_of old) ≡ (it declare r, state_of new)
    pub marked : (declare again : Bool) (r : Range) → with_declare again (it declare r) ≡ it again r
