use Rattle.std.proofs.Common.{refl}
use Rattle.es_grammar.specs.declared.rows.NodeKind.TheVariants as l
use Rattle.es_syntax.proofs.Labels.{other}
use Rattle.es_view_expressions.proofs.call.post.post_at.Goals as goal

-- no other alternative is one of these
pub returns-in_default : goal.returns-in_default
returns-in_default c =
    let label = c.in-Node.label in
    record {
      form = λ x ts. tt;
      other = rw (
        c.in-Node.is,
        other label l.MemberPost c.in_default.not-MemberPost,
        other label l.IndexPost c.in_default.not-IndexPost,
        other label l.CallPost c.in_default.not-CallPost,
        other label l.TemplatePost c.in_default.not-TemplatePost,
        other label l.OptionalPost c.in_default.not-OptionalPost,
        other label l.TypedCallPost c.in_default.not-TypedCallPost,
        other label l.TypedTemplatePost c.in_default.not-TypedTemplatePost,
        other label l.TypedOptionalPost c.in_default.not-TypedOptionalPost,
        other label l.NonNullPost c.in_default.not-NonNullPost,
      ) refl;
      below = tt;
    }
