-- Patterns of parameters.
use Rattle.std.specs.Prelude.{◌≡◌, ℕ, ◌+◌, Bool, false, ◌||◌, List, Option, Some, None, option_map, IfSome, slice_get}
use Rattle.base.specs.declared.range.Range.{Range}
use Rattle.es_token.specs.declared.token.Token.{Token}
use Rattle.es_token.specs.declared.token.TokenKind.TheVariants as k
use Rattle.grammar_theory.specs.Key.{same_kind}
use Rattle.es_ast.specs.declared.leaf.Modifiers.{Modifiers}
use Rattle.es_ast.specs.declared.ast.Pat.{Pat, out-Pat}
use Rattle.es_lowering.specs.Value.{Value, first_of, behind}
use Rattle.es_lowering.specs.Texts.{span_of, token_at}
use Rattle.es_lowering.specs.TypedParts.{modifiers_in}
use Rattle.es_syntax.specs.declared.cursor.Item.{Item}
use Rattle.es_syntax.specs.Held.{valued}
use Rattle.es_syntax.specs.Roles.{marked_in, pat_in}
use Rattle.dts_rules.specs.Rules as rules
use Rattle.dts_rules.specs.Rules.{Shown, State}

-- a pattern that may have a mark and a type is this one without them, over this range
abbrev pub Pairs : Range → Value → Type 0
Pairs r v = pat_in v ≡ option_map (λ m. m false None r) (marked_in v)

-- a node that is such a pattern over its own tokens
pub record Own (x : List ℕ) (ts : List Token) (i : Item) : Type 0 where
  pub pairs : Pairs (span_of ts i.from i.to) (valued x ts i)
  pub from : first_of (valued x ts i) ≡ i.from
  pub ends : behind (valued x ts i) ≡ i.to

-- a node whose name is the token that it spans
pub record OwnName (ts : List Token) (p : Value) (from to : ℕ) : Type 0 where
  pub token : token_at ts p 0 ≡ slice_get ts from
  pub ends : to ≡ from + 1

-- a pattern that stays as it is, with its default
abbrev pub IsOther : rules.Env → Pat → Type 0
IsOther by it =
    (whole : Pat) (e : Shown) (s : State) → rules.optional_by by whole (out-Pat it) e s ≡ (whole, s)

-- the words that make a parameter a property of its class
abbrev pub is_property_word : Option Token → Bool
is_property_word (Some t) =
    same_kind t.kind k.PublicWord || (same_kind t.kind k.ProtectedWord || (same_kind t.kind k.PrivateWord
    || (same_kind t.kind k.ReadonlyWord || same_kind t.kind k.OverrideWord)))
is_property_word None = false

-- whether modifiers make it one
abbrev pub Properties : rules.Env → List Token → Bool → Bool → Value → Type 0
Properties by ts before after row =
    (m : Modifiers) → rules.is_property by m ≡ before
    → IfSome (modifiers_in ts m row) (λ m. rules.is_property by m ≡ after)
