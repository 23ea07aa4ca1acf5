use Rattle.std.proofs.Common.{refl}
use Rattle.es_grammar.specs.declared.rows.NodeKind.TheVariants as l
use Rattle.es_syntax.proofs.Labels.{other}
use Rattle.es_view_types.proofs.members.param.param_at.Goals as goal

-- no other alternative is one of these
pub returns-in_default : goal.returns-in_default
returns-in_default c =
    let label = c.in-Node.label in
    record {
      form = λ x ts. tt;
      other = rw (
        c.in-Node.is,
        other label l.ThisParameterOfType c.in_default.not-ThisParameterOfType,
        other label l.MarkedParameterOfType c.in_default.not-MarkedParameterOfType,
        other label l.NamePatternOfType c.in_default.not-NamePatternOfType,
        other label l.ArrayPatternOfType c.in_default.not-ArrayPatternOfType,
        other label l.ObjectPatternOfType c.in_default.not-ObjectPatternOfType,
        other label l.RestPatternOfType c.in_default.not-RestPatternOfType,
      ) refl;
      below = tt;
    }
