-- What a view of a property of an object pattern tells.
use Rattle.std.specs.Prelude.{ℕ, List, [], ◌∷◌, Option, Some, None, option_map, slice_get}
use Rattle.base.specs.declared.range.Range.{Range}
use Rattle.es_token.specs.declared.token.Token.{Token}
use Rattle.es_grammar.specs.declared.rows.NodeKind.{NodeKind}
use Rattle.es_grammar.specs.declared.rows.NodeKind.TheVariants as l
use Rattle.es_ast.specs.declared.ast.Pat.{Pat}
use Rattle.es_ast.specs.declared.ast.ObjectPatProp.{ObjectPatProp}
use Rattle.es_ast.specs.declared.ast.ObjectPatProp.TheVariants as vPatProp
use Rattle.es_lowering.specs.Value.{Value, given, part, first_of, behind, optional, expr_at}
use Rattle.es_lowering.specs.Texts.{span_of, ident_of}
use Rattle.es_lowering.specs.Functions.{Key}
use Rattle.es_lowering.specs.Patterns.{with_default}
use Rattle.es_syntax.specs.declared.cursor.Siblings.{Siblings}
use Rattle.es_syntax.specs.Held.{held, valued}
use Rattle.es_syntax.specs.Roles.{key_in, pat_in}
use Rattle.es_syntax.specs.Views.{Under, Within}
use Rattle.es_view_expressions.specs.declared.pattern.prop.PatProp.{PatProp}
use Rattle.es_view_expressions.specs.declared.pattern.prop.PatProp.TheVariants as view

-- the alternatives
abbrev pub pattern_props : List NodeKind
pattern_props = l.RestProperty ∷ l.KeyPattern ∷ l.NameProperty ∷ []

-- ---- each form, of what its parts are
unfoldable pub rest : Range → Option Pat → Option ObjectPatProp
rest r arg = option_map (λ arg. vPatProp.Rest arg r) arg

-- a pattern with its default stands over this range
unfoldable pub key_value : Range → Range → Option Key → Option Pat → Value → Option ObjectPatProp
key_value span r key pat value =
    given key (λ key.
    given pat (λ pat.
    given (optional expr_at value) (λ value. Some (vPatProp.KeyValue key.0 key.1 (with_default span pat value) r))))

unfoldable pub shorthand : List ℕ → Range → Option Token → Value → Option ObjectPatProp
shorthand x r name value =
    given (option_map (ident_of x) name) (λ key.
    given (optional expr_at value) (λ value. Some (vPatProp.Assign key value r)))

-- what a view tells
abbrev pub the_pat_prop : List ℕ → List Token → Range → PatProp → Option ObjectPatProp
the_pat_prop x ts r (view.Rest arg) = rest r (pat_in (valued x ts arg))
the_pat_prop x ts r (view.KeyValue key pat value) =
    key_value (span_of ts (first_of (valued x ts pat)) (behind (part (held x ts value.entries.now) 0))) r
    (key_in (valued x ts key)) (pat_in (valued x ts pat)) (held x ts value.entries.now)
the_pat_prop x ts r (view.Shorthand name value) = shorthand x r (slice_get ts name) (held x ts value.entries.now)
the_pat_prop x ts r view.Broken = None

-- the parts take fewer entries
abbrev pub IsBelow : Siblings → PatProp → Type 0
IsBelow n (view.Rest arg) = Under arg n
IsBelow n (view.KeyValue key pat value) = Under key n × Under pat n × Within value n
IsBelow n (view.Shorthand name value) = Within value n
IsBelow n view.Broken = Unit {0}
