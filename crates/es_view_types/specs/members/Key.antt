-- What a view of a key of a member of a type tells.
use Rattle.std.specs.Prelude.{ℕ, List, [], ◌∷◌, Option, None, option_map, slice_get}
use Rattle.base.specs.declared.range.Range.{Range}
use Rattle.es_token.specs.declared.token.Token.{Token}
use Rattle.es_grammar.specs.declared.rows.NodeKind.{NodeKind}
use Rattle.es_grammar.specs.declared.rows.NodeKind.TheVariants as l
use Rattle.es_ast.specs.declared.ts.leaf.TsKey.{TsKey}
use Rattle.es_ast.specs.declared.ts.leaf.TsKey.TheVariants as vKey
use Rattle.es_lowering.specs.Value.{Value}
use Rattle.es_lowering.specs.Texts.{ident_of, str_of}
use Rattle.es_lowering.specs.TypeTexts.{number_of}
use Rattle.es_lowering.specs.TypeMembers.{bracket_key}
use Rattle.es_syntax.specs.declared.cursor.Siblings.{Siblings}
use Rattle.es_syntax.specs.Held.{held}
use Rattle.es_syntax.specs.Views.{Within}
use Rattle.es_view_types.specs.declared.members.key.TypeKey.{TypeKey}
use Rattle.es_view_types.specs.declared.members.key.TypeKey.TheVariants as view

-- the alternatives
abbrev pub keys : List NodeKind
keys =
    l.WordKeyOfType ∷ l.WordPatternKey ∷ l.StrKeyOfType ∷ l.StrPatternKey ∷ l.NumberKeyOfType ∷ l.NumberPatternKey ∷
    l.ComputedKeyOfType ∷ []

-- ---- each form, of what its parts are
unfoldable pub word : List ℕ → Option Token → Option TsKey
word x token = option_map vKey.Ident (option_map (ident_of x) token)

unfoldable pub str : List ℕ → Option Token → Option TsKey
str x token = option_map vKey.Str (option_map (str_of x) token)

unfoldable pub number : List ℕ → Option Token → Option TsKey
number x token = option_map vKey.Num (option_map (number_of x) token)

unfoldable pub computed : List ℕ → List Token → Range → Value → Option TsKey
computed x ts r inner = bracket_key x ts r inner

-- what a view tells
abbrev pub the_key : List ℕ → List Token → Range → TypeKey → Option TsKey
the_key x ts r (view.Word token) = word x (slice_get ts token)
the_key x ts r (view.Str token) = str x (slice_get ts token)
the_key x ts r (view.Number token) = number x (slice_get ts token)
the_key x ts r (view.Computed inner) = computed x ts r (held x ts inner.entries.now)
the_key x ts r view.Broken = None

-- the parts take fewer entries
abbrev pub IsBelow : Siblings → TypeKey → Type 0
IsBelow n (view.Word token) = Unit {0}
IsBelow n (view.Str token) = Unit {0}
IsBelow n (view.Number token) = Unit {0}
IsBelow n (view.Computed inner) = Within inner n
IsBelow n view.Broken = Unit {0}
