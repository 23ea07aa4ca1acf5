-- What a view of a property of a pattern of a parameter of a type tells.
use Rattle.std.specs.Prelude.{ℕ, List, [], ◌∷◌, Option, Some, None, option_map, slice_get}
use Rattle.base.specs.declared.range.Range.{Range}
use Rattle.es_token.specs.declared.token.Token.{Token}
use Rattle.es_grammar.specs.declared.rows.NodeKind.{NodeKind}
use Rattle.es_grammar.specs.declared.rows.NodeKind.TheVariants as l
use Rattle.es_ast.specs.declared.ts.ts.TsParamPat.{TsParamPat}
use Rattle.es_ast.specs.declared.ts.ts.TsPatProp.{TsPatProp}
use Rattle.es_ast.specs.declared.ts.ts.TsPatProp.TheVariants as vProp
use Rattle.es_ast.specs.declared.ts.leaf.TsKey.{TsKey}
use Rattle.es_lowering.specs.Value.{given}
use Rattle.es_lowering.specs.Texts.{ident_of}
use Rattle.es_syntax.specs.declared.cursor.Siblings.{Siblings}
use Rattle.es_syntax.specs.Held.{valued}
use Rattle.es_syntax.specs.Roles.{type_key_in, type_pat_in}
use Rattle.es_syntax.specs.Views.{Under}
use Rattle.es_view_types.specs.declared.members.prop.TypeProp.{TypeProp}
use Rattle.es_view_types.specs.declared.members.prop.TypeProp.TheVariants as view

-- the alternatives
abbrev pub props : List NodeKind
props = l.RestPropertyOfType ∷ l.KeyProperty ∷ l.NamePropertyOfType ∷ []

-- ---- each form, of what its parts are
unfoldable pub rest : Range → Option TsParamPat → Option TsPatProp
rest r arg = option_map (λ arg. vProp.Rest arg r) arg

unfoldable pub key_value : Range → Option TsKey → Option TsParamPat → Option TsPatProp
key_value r key value = given key (λ key. given value (λ value. Some (vProp.KeyValue key value r)))

unfoldable pub shorthand : List ℕ → Option Token → Option TsPatProp
shorthand x name = option_map vProp.Shorthand (option_map (ident_of x) name)

-- what a view tells
abbrev pub the_prop : List ℕ → List Token → Range → TypeProp → Option TsPatProp
the_prop x ts r (view.Rest arg) = rest r (type_pat_in (valued x ts arg))
the_prop x ts r (view.KeyValue key value) =
    key_value r (type_key_in (valued x ts key)) (type_pat_in (valued x ts value))
the_prop x ts r (view.Shorthand name) = shorthand x (slice_get ts name)
the_prop x ts r view.Broken = None

-- the parts take fewer entries
abbrev pub IsBelow : Siblings → TypeProp → Type 0
IsBelow n (view.Rest arg) = Under arg n
IsBelow n (view.KeyValue key value) = Under key n × Under value n
IsBelow n (view.Shorthand name) = Unit {0}
IsBelow n view.Broken = Unit {0}
