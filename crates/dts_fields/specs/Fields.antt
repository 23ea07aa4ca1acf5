-- Fields as declarations have them.
use Rattle.std.specs.Prelude.{◌≡◌, ℕ, Bool, false, List, [], ◌∷◌, ◌++◌, Option, Some, None, option_map, IfSome}
use Rattle.base.specs.declared.range.Range.{Range}
use Rattle.es_token.specs.declared.token.Token.{Token}
use Rattle.es_token.specs.declared.token.TokenKind.TheVariants as k
use Rattle.es_ast.specs.declared.ts.ts.TsPart.{TsPart}
use Rattle.es_ast.specs.declared.ts.ts.TsType.{TsType}
use Rattle.es_ast.specs.declared.leaf.Modifiers.{Modifiers}
use Rattle.es_ast.specs.declared.ast.ClassMember.{ClassMember}
use Rattle.es_ast.specs.declared.ast.ClassMember.TheVariants as vMember
use Rattle.es_ast.specs.declared.ast.Expr.{Expr}
use Rattle.es_lowering.specs.Value.{Value, as_group, more}
use Rattle.es_lowering.specs.Functions.{Key}
use Rattle.es_lowering.specs.Lowering.{packed}
use Rattle.es_lowering.specs.Texts.{kind_at}
use Rattle.es_lowering.specs.TypedFunctions.{is_mark}
use Rattle.es_lowering.specs.TypedParts.{modifiers_in}
use Rattle.es_syntax.specs.Roles.{member_in, ts_type_in}
use Rattle.es_changed.specs.declared.entry.ChangedEntry.{ChangedEntry}
use Rattle.es_changed.specs.Shape.{Writes}
use Rattle.dts_rules.specs.Made.{annotation}
use Rattle.dts_rules.specs.Rules as rules
use Rattle.dts_rules.specs.Rules.{State, undeclared}
use Rattle.dts_rules.specs.Programs.{any_silently, field_type, shown_expr, shown_member}
use Rattle.dts_draft.specs.declared.draft.Draft.{Draft}
use Rattle.dts_draft.specs.Drafts.{state_of}
use Rattle.dts_draft.specs.Written.{IfThere, Gives, Puts}
use Rattle.dts_names.specs.declared.env.Env.{Env}
use Rattle.dts_names.specs.Names.{Knows}
use Rattle.dts_parts.specs.Groups.{annotation_in}

-- the type of a field: its own, or that of its value, or none
abbrev pub type_rule : rules.Env → Option TsPart → Option Expr → State → Option TsPart × State
type_rule by own value = field_type own (option_map (λ (e : Expr). (e, shown_expr by e)) value)

module _ (x : List ℕ) (ts : List Token) where
  -- what the rules make of a member is written, where they make something of it
  pub record MemberMade (by : rules.Env) (old new : Draft) (wrote : Bool) (it : ClassMember) : Type 0 where
    pub state : state_of new ≡ (shown_member by it (state_of old)).1
    pub gives : Gives x ts member_in old.row new.row wrote (shown_member by it (state_of old)).0

  -- ---- parts of fields
  -- the type of a value, or `any` with nothing found
  pub record Silently (by : rules.Env) (old new : Draft) (e : Expr) : Type 0 where
    pub ty : TsType
    pub typed : any_silently ((shown_expr by e).rule false false (state_of old)) ≡ (annotation ty, state_of new)
    pub puts : Puts x ts ts_type_in old.row new.row ty

  -- the type of a field
  pub record FieldTyped (by : rules.Env) (old new : Draft) (own : Option TsPart) (value : Option Expr) : Type 0 where
    pub it : Value
    pub writes : Writes x ts old.row new.row (it ∷ [])
    pub part : Option TsPart
    pub typed : type_rule by own value (state_of old) ≡ (part, state_of new)
    pub is : annotation_in (as_group it) ≡ Some part

  -- `?` as it was; a `!` goes
  pub record Marks (old new : List ChangedEntry) (row : Value) : Type 0 where
    pub it : Value
    pub writes : Writes x ts old new (it ∷ [])
    pub question : is_mark k.Question (kind_at ts (as_group it) 0) ≡ is_mark k.Question (kind_at ts row 0)
    pub exclamation : is_mark k.Exclamation (kind_at ts (as_group it) 0) ≡ false

  -- these modifiers are those without `declare`
  abbrev pub AreUndeclared : Value → Value → Type 0
  AreUndeclared row after =
      (before : Modifiers)
      → IfSome (modifiers_in ts before row) (λ m. modifiers_in ts (undeclared before) after ≡ Some (undeclared m))

  pub record Undeclares (old new : List ChangedEntry) (row : Value) : Type 0 where
    pub values : List Value
    pub writes : Writes x ts old new values
    pub are : AreUndeclared row (packed values)

  -- the same of one modifier, before whatever stands behind it
  pub record TurnUndeclares (old new : List ChangedEntry) (turn : Value) : Type 0 where
    pub values : List Value
    pub writes : Writes x ts old new values
    pub are : (rest : Value) (others : List Value) → AreUndeclared rest (packed others)
        → AreUndeclared (more turn rest) (packed (values ++ others))

  pub record UndeclaredGroup (old new : List ChangedEntry) (row : Value) : Type 0 where
    pub it : Value
    pub writes : Writes x ts old new (it ∷ [])
    pub are : AreUndeclared row (as_group it)

  -- a field with this key, where there is one
  pub record FieldPut (by : rules.Env) (old new : Draft) (modifiers : Modifiers) (mark : Bool) (r : Range)
      (own : Option TsPart) (value : Option Expr) (o : Option Key) : Type 0 where
    pub key : Key
    pub is : o ≡ Some key
    pub part : Option TsPart
    pub typed : type_rule by own value (state_of old) ≡ (part, state_of new)
    pub puts : Puts x ts member_in old.row new.row (vMember.Prop modifiers key.0 key.1 mark false part None r)

-- ---- by whatever the rules go
abbrev pub MemberBy : Env → Draft → Draft → Bool → Option ClassMember → Type 0
MemberBy it old new wrote o =
    (by : rules.Env) → Knows it by → IfThere (MemberMade it.text.now it.tokens.now by old new wrote) o

abbrev pub SilentlyBy : Env → Draft → Draft → Option Expr → Type 0
SilentlyBy it old new o =
    (by : rules.Env) → Knows it by → IfThere (Silently it.text.now it.tokens.now by old new) o

abbrev pub ValueBy : Env → Draft → Draft → Option (Option Expr) → Type 0
ValueBy it old new value =
    (by : rules.Env) → Knows it by → IfThere (FieldTyped it.text.now it.tokens.now by old new None) value

abbrev pub TypedBy : Env → Draft → Draft → Option (Option TsPart) → Option (Option Expr) → Type 0
TypedBy it old new own value =
    (by : rules.Env) → Knows it by
    → IfThere (λ own. IfThere (FieldTyped it.text.now it.tokens.now by old new own) value) own
