use Rattle.std.proofs.Common.{refl}
use Rattle.es_grammar.specs.declared.rows.NodeKind.TheVariants as l
use Rattle.es_syntax.proofs.Labels.{other}
use Rattle.es_view_expressions.proofs.expr.primary.primary_at.Goals as goal

-- no other alternative is one of these
pub returns-in_default : goal.returns-in_default
returns-in_default c =
    let label = c.in-Node.label in
    record {
      form = λ x ts. tt;
      other = rw (
        c.in-Node.is,
        other label l.Name c.in_default.not-Name,
        other label l.Word c.in_default.not-Word,
        other label l.Number c.in_default.not-Number,
        other label l.Str c.in_default.not-Str,
        other label l.RegExp c.in_default.not-RegExp,
        other label l.Template c.in_default.not-Template,
        other label l.TemplateParts c.in_default.not-TemplateParts,
        other label l.Parenthesized c.in_default.not-Parenthesized,
        other label l.ArrayLiteral c.in_default.not-ArrayLiteral,
        other label l.ObjectLiteral c.in_default.not-ObjectLiteral,
        other label l.Spread c.in_default.not-Spread,
      ) refl;
      below = tt;
    }
