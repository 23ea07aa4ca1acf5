use Rattle.std.proofs.Common.{refl}
use Rattle.es_grammar.specs.declared.rows.NodeKind.TheVariants as l
use Rattle.es_syntax.proofs.Labels.{other}
use Rattle.es_view_types.proofs.types.element.element_at.Goals as goal

-- no other alternative is one of these
pub returns-in_default : goal.returns-in_default
returns-in_default c =
    let label = c.in-Node.label in
    record {
      form = λ x ts. tt;
      other = rw (
        c.in-Node.is,
        other label l.RestElement c.in_default.not-RestElement,
        other label l.LabelledElement c.in_default.not-LabelledElement,
        other label l.OptionalElement c.in_default.not-OptionalElement,
        other label l.KeywordType c.in_default.not-KeywordType,
        other label l.ThisType c.in_default.not-ThisType,
        other label l.WordType c.in_default.not-WordType,
        other label l.StrType c.in_default.not-StrType,
        other label l.NumberType c.in_default.not-NumberType,
        other label l.TemplateType c.in_default.not-TemplateType,
        other label l.TemplateTypes c.in_default.not-TemplateTypes,
        other label l.TypeQuery c.in_default.not-TypeQuery,
        other label l.Reference c.in_default.not-Reference,
        other label l.ImportType c.in_default.not-ImportType,
        other label l.EntityOfType c.in_default.not-EntityOfType,
        other label l.UnionType c.in_default.not-UnionType,
        other label l.LeadingUnionType c.in_default.not-LeadingUnionType,
        other label l.IntersectionType c.in_default.not-IntersectionType,
        other label l.LeadingIntersectionType c.in_default.not-LeadingIntersectionType,
        other label l.TypeOperator c.in_default.not-TypeOperator,
        other label l.InferType c.in_default.not-InferType,
        other label l.ArrayTypes c.in_default.not-ArrayTypes,
        other label l.ConditionalType c.in_default.not-ConditionalType,
        other label l.ParenthesizedType c.in_default.not-ParenthesizedType,
        other label l.MembersType c.in_default.not-MembersType,
        other label l.TupleType c.in_default.not-TupleType,
        other label l.MappedType c.in_default.not-MappedType,
        other label l.FunctionType c.in_default.not-FunctionType,
        other label l.ConstructorType c.in_default.not-ConstructorType,
        other label l.AssertsResult c.in_default.not-AssertsResult,
        other label l.PredicateResult c.in_default.not-PredicateResult,
      ) refl;
      below = tt;
    }
