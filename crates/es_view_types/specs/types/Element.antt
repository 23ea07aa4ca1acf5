-- What a view of an element of a tuple tells.
use Rattle.std.specs.Prelude.{ℕ, Bool, true, false, List, [], ◌∷◌, Option, Some, None, option_map, slice_get}
use Rattle.base.specs.declared.range.Range.{Range}
use Rattle.es_token.specs.declared.token.Token.{Token}
use Rattle.es_grammar.specs.declared.rows.NodeKind.{NodeKind}
use Rattle.es_grammar.specs.declared.rows.NodeKind.TheVariants as l
use Rattle.es_ast.specs.declared.ts.ts.TsTupleElement.{TsTupleElement}
use Rattle.es_ast.specs.declared.ts.ts.TsType.{TsType}
use Rattle.es_lowering.specs.Value.{Value, given, optional}
use Rattle.es_lowering.specs.Texts.{ident_of}
use Rattle.es_lowering.specs.TypeTexts.{marked}
use Rattle.es_lowering.specs.Types.{element_by, element_of, label_at}
use Rattle.es_syntax.specs.declared.cursor.Siblings.{Siblings}
use Rattle.es_syntax.specs.Held.{held, valued}
use Rattle.es_syntax.specs.Roles.{ts_type_in}
use Rattle.es_syntax.specs.Views.{Under, Within}
use Rattle.es_view_types.specs.declared.types.element.Element.{Element}
use Rattle.es_view_types.specs.declared.types.element.Element.TheVariants as view

-- the alternatives
abbrev pub elements : List NodeKind
elements =
    l.RestElement ∷ l.LabelledElement ∷ l.OptionalElement ∷ l.KeywordType ∷ l.ThisType ∷ l.WordType ∷ l.StrType ∷
    l.NumberType ∷ l.TemplateType ∷ l.TemplateTypes ∷ l.TypeQuery ∷ l.Reference ∷ l.ImportType ∷ l.EntityOfType ∷
    l.UnionType ∷ l.LeadingUnionType ∷ l.IntersectionType ∷ l.LeadingIntersectionType ∷ l.TypeOperator ∷ l.InferType
    ∷ l.ArrayTypes ∷ l.ConditionalType ∷ l.ParenthesizedType ∷ l.MembersType ∷ l.TupleType ∷ l.MappedType ∷
    l.FunctionType ∷ l.ConstructorType ∷ l.AssertsResult ∷ l.PredicateResult ∷ []

-- ---- each form, of what its parts are
unfoldable pub rest : List ℕ → List Token → Range → Value → Option TsType → Bool → Option TsTupleElement
rest x ts r label ty mark =
    given (optional (label_at x ts) label) (λ label.
    given ty (λ ty. Some (element_by true label mark r ty)))

unfoldable pub labelled : List ℕ → Range → Option Token → Bool → Option TsType → Bool → Option TsTupleElement
labelled x r label label_mark ty mark =
    given (option_map (marked label_mark) (option_map (ident_of x) label)) (λ label.
    given ty (λ ty. Some (element_by false (Some label) mark r ty)))

unfoldable pub optional_of : Range → Option TsType → Option TsTupleElement
optional_of r ty = option_map (element_by false None true r) ty

-- what a view tells
abbrev pub the_element : List ℕ → List Token → Range → Element → Option TsTupleElement
the_element x ts r (view.Rest label ty mark) =
    rest x ts r (held x ts label.entries.now) (ts_type_in (valued x ts ty)) mark
the_element x ts r (view.Labelled label label_mark ty mark) =
    labelled x r (slice_get ts label) label_mark (ts_type_in (valued x ts ty)) mark
the_element x ts r (view.Optional ty) = optional_of r (ts_type_in (valued x ts ty))
the_element x ts r (view.Type node) = option_map (element_of r) (ts_type_in (valued x ts node))
the_element x ts r view.Broken = None

-- the parts take fewer entries
abbrev pub IsBelow : Siblings → Element → Type 0
IsBelow n (view.Rest label ty mark) = Within label n × Under ty n
IsBelow n (view.Labelled label label_mark ty mark) = Under ty n
IsBelow n (view.Optional ty) = Under ty n
IsBelow n (view.Type node) = Within node.parts n
IsBelow n view.Broken = Unit {0}
