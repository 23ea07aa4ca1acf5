-- Members of classes as declarations have them.
use Rattle.std.specs.Prelude.{◌≡◌, ℕ, Bool, List, Option}
use Rattle.base.specs.declared.range.Range.{Range}
use Rattle.es_token.specs.declared.token.Token.{Token}
use Rattle.es_ast.specs.declared.ast.ClassMember.{ClassMember}
use Rattle.es_lowering.specs.Value.{Value, as_group, member_at, option_list}
use Rattle.dts_rules.specs.Rules as rules
use Rattle.dts_rules.specs.Rules.{in_turn, some}
use Rattle.dts_rules.specs.Programs.{shown_member}
use Rattle.dts_draft.specs.declared.draft.Draft.{Draft}
use Rattle.dts_draft.specs.Drafts.{state_of}
use Rattle.dts_draft.specs.Written.{IfThere, PutsAll}
use Rattle.dts_names.specs.declared.env.Env.{Env}
use Rattle.dts_names.specs.Names.{Knows}
use Rattle.dts_fields.specs.Fields.{MemberMade}
use Rattle.dts_members.specs.Overloads.{Overloads}

module _ (x : List ℕ) (ts : List Token) where
  -- a member in a turn
  abbrev pub member_turn : Value → Option ClassMember
  member_turn v = member_at (as_group v) 0

  -- it is written where the declaration has it
  pub record TurnMade (by : rules.Env) (old new : Draft) (it : ClassMember) : Type 0 where
    pub state : state_of new ≡ (shown_member by it (state_of old)).1
    pub puts : PutsAll x ts member_turn old.row new.row (option_list (shown_member by it (state_of old)).0)

  -- those of these that the declaration has, one after the other
  pub record MembersMade (by : rules.Env) (old new : Draft) (them : List ClassMember) : Type 0 where
    pub state : state_of new ≡ (in_turn (shown_member by) them (state_of old)).1
    pub puts : PutsAll x ts member_turn old.row new.row (some (in_turn (shown_member by) them (state_of old)).0)

-- ---- by whatever the rules go
abbrev pub MemberBy : Env → List Range → Draft → Draft → Bool → Option ClassMember → Type 0
MemberBy it ranges old new wrote o =
    (by : rules.Env) → Knows it by → Overloads ranges by
    → IfThere (MemberMade it.text.now it.tokens.now by old new wrote) o

abbrev pub TurnBy : Env → List Range → Draft → Draft → Option ClassMember → Type 0
TurnBy it ranges old new o =
    (by : rules.Env) → Knows it by → Overloads ranges by
    → IfThere (TurnMade it.text.now it.tokens.now by old new) o

abbrev pub MembersBy : Env → List Range → Draft → Draft → Option (List ClassMember) → Type 0
MembersBy it ranges old new o =
    (by : rules.Env) → Knows it by → Overloads ranges by
    → IfThere (MembersMade it.text.now it.tokens.now by old new) o
