use Rattle.std.proofs.Common.{refl}
use Rattle.es_grammar.specs.declared.rows.NodeKind.TheVariants as l
use Rattle.es_syntax.proofs.Labels.{other}
use Rattle.es_view_types.proofs.types.compound.compound_at.Goals as goal

-- no other alternative is one of these
pub returns-in_default : goal.returns-in_default
returns-in_default c =
    let label = c.in-Node.label in
    record {
      form = λ x ts. tt;
      other = rw (
        c.in-Node.is,
        other label l.UnionType c.in_default.not-UnionType,
        other label l.LeadingUnionType c.in_default.not-LeadingUnionType,
        other label l.IntersectionType c.in_default.not-IntersectionType,
        other label l.LeadingIntersectionType c.in_default.not-LeadingIntersectionType,
        other label l.TypeOperator c.in_default.not-TypeOperator,
        other label l.InferType c.in_default.not-InferType,
        other label l.ArrayTypes c.in_default.not-ArrayTypes,
        other label l.ConditionalType c.in_default.not-ConditionalType,
        other label l.ParenthesizedType c.in_default.not-ParenthesizedType,
        other label l.MembersType c.in_default.not-MembersType,
        other label l.TupleType c.in_default.not-TupleType,
        other label l.MappedType c.in_default.not-MappedType,
      ) refl;
      below = tt;
    }
