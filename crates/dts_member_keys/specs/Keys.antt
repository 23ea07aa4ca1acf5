-- Keys of members of classes as declarations have them.
use Rattle.std.specs.Prelude.{◌≡◌, ℕ, Bool, true, false, List, [], ◌∷◌, Option, Some, None, slice_get}
use Rattle.es_token.specs.declared.token.Token.{Token}
use Rattle.es_lowering.specs.Value.{Value, nil}
use Rattle.es_lowering.specs.Texts.{span_of}
use Rattle.es_lowering.specs.Functions.{Key}
use Rattle.es_syntax.specs.declared.cursor.Item.{Item}
use Rattle.es_syntax.specs.Held.{valued}
use Rattle.es_syntax.specs.Roles.{expr_in, key_in, post_in}
use Rattle.es_changed.specs.declared.entry.ChangedEntry.{ChangedEntry}
use Rattle.es_changed.specs.Shape.{Writes}
use Rattle.es_view_expressions.specs.call.Call as call
use Rattle.es_view_expressions.specs.member.Key as key_view
use Rattle.dts_rules.specs.Rules as rules
use Rattle.dts_rules.specs.Programs.{member_key, shown_expr}
use Rattle.dts_draft.specs.Written.{IfThere, Puts}
use Rattle.dts_names.specs.declared.env.Env.{Env}
use Rattle.dts_names.specs.Names.{Knows}
use Rattle.dts_member_keys.specs.declared.keys.MemberKey.{MemberKey}
use Rattle.dts_member_keys.specs.declared.keys.MemberKey.TheVariants as shown

-- the key that the rules make of this one
abbrev pub key_rule : rules.Env → Key → Option Key
key_rule by key = member_key key.0 (key.1, shown_expr by key.1)

-- no key is left: the member isn't there
abbrev pub is_dropped : MemberKey → Bool
is_dropped shown.Dropped = true
is_dropped _ = false

-- both are this key
pub record SameKey (a b : Option Key) : Type 0 where
  pub key : Key
  pub there : a ≡ Some key
  pub is : b ≡ Some key

module _ (x : List ℕ) (ts : List Token) where
  -- the key that is written
  abbrev pub told : MemberKey → Option Key
  told (shown.Kept key) = key_in (valued x ts key)
  told (shown.Name name) = key_view.computed (expr_in (valued x ts name))
  told (shown.Symbol chain base first) =
      key_view.computed (call.chained_of (span_of ts chain.from chain.to) (expr_in (valued x ts base))
      (post_in (valued x ts first)) nil)
  told (shown.Str at) = key_view.str x (slice_get ts at)
  told (shown.Number at) = key_view.number x (slice_get ts at)
  told shown.Dropped = None
  told shown.Broken = None

  -- the key is this one, or there is none
  abbrev pub Tells : MemberKey → Option Key → Type 0
  Tells shown.Dropped o = o ≡ None
  Tells shown.Broken o = Unit {0}
  Tells it o = SameKey (told it) o

  -- this key is written
  pub record KeyPut (old new : List ChangedEntry) (o : Option Key) : Type 0 where
    pub key : Key
    pub is : o ≡ Some key
    pub puts : Puts x ts key_in old new key

  -- a chain of a base and one further part
  pub record IsSymbolChain (old new : List ChangedEntry) (chain base first : Item) : Type 0 where
    pub value : Value
    pub writes : Writes x ts old new (value ∷ [])
    pub is : expr_in value
        ≡ call.chained_of (span_of ts chain.from chain.to) (expr_in (valued x ts base)) (post_in (valued x ts first)) nil

-- by whatever the rules go
abbrev pub KeyTold : Env → MemberKey → Option Key → Type 0
KeyTold it shown o =
    (by : rules.Env) → Knows it by → IfThere (λ key. Tells it.text.now it.tokens.now shown (key_rule by key)) o
