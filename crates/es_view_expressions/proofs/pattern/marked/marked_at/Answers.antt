use Rattle.std.proofs.Common.{refl}
use Rattle.es_grammar.specs.declared.rows.NodeKind.TheVariants as l
use Rattle.es_syntax.proofs.Labels.{other}
use Rattle.es_view_expressions.proofs.pattern.marked.marked_at.Goals as goal

-- no other alternative is one of these
pub returns-in_default : goal.returns-in_default
returns-in_default c =
    let label = c.in-Node.label in
    record {
      form = λ x ts. tt;
      other = rw (
        c.in-Node.is,
        other label l.NamePattern c.in_default.not-NamePattern,
        other label l.ArrayPattern c.in_default.not-ArrayPattern,
        other label l.ObjectPattern c.in_default.not-ObjectPattern,
      ) refl;
      below = tt;
    }
