use Rattle.std.proofs.Common.{refl}
use Rattle.es_grammar.specs.declared.rows.NodeKind.TheVariants as l
use Rattle.es_syntax.proofs.Labels.{other}
use Rattle.es_view_types.proofs.types.simple.simple_at.Goals as goal

-- no other alternative is one of these
pub returns-in_default : goal.returns-in_default
returns-in_default c =
    let label = c.in-Node.label in
    record {
      form = λ x ts. tt;
      other = rw (
        c.in-Node.is,
        other label l.KeywordType c.in_default.not-KeywordType,
        other label l.ThisType c.in_default.not-ThisType,
        other label l.WordType c.in_default.not-WordType,
        other label l.StrType c.in_default.not-StrType,
        other label l.NumberType c.in_default.not-NumberType,
        other label l.TemplateType c.in_default.not-TemplateType,
        other label l.TemplateTypes c.in_default.not-TemplateTypes,
        other label l.TypeQuery c.in_default.not-TypeQuery,
        other label l.Reference c.in_default.not-Reference,
        other label l.ImportType c.in_default.not-ImportType,
        other label l.EntityOfType c.in_default.not-EntityOfType,
      ) refl;
      below = tt;
    }
