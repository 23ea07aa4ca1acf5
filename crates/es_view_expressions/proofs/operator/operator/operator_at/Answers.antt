use Rattle.std.proofs.Common.{refl}
use Rattle.es_grammar.specs.declared.rows.NodeKind.TheVariants as l
use Rattle.es_syntax.proofs.Labels.{other}
use Rattle.es_view_expressions.proofs.operator.operator.operator_at.Goals as goal

-- no other alternative is one of these
pub returns-in_default : goal.returns-in_default
returns-in_default c =
    let label = c.in-Node.label in
    record {
      form = λ x ts. tt;
      other = rw (
        c.in-Node.is,
        other label l.UpdatePrefix c.in_default.not-UpdatePrefix,
        other label l.UpdatePostfix c.in_default.not-UpdatePostfix,
        other label l.UnaryExpression c.in_default.not-UnaryExpression,
        other label l.AwaitExpression c.in_default.not-AwaitExpression,
        other label l.Binary c.in_default.not-Binary,
        other label l.PrivateIn c.in_default.not-PrivateIn,
        other label l.Conditional c.in_default.not-Conditional,
        other label l.Assignment c.in_default.not-Assignment,
        other label l.PatternAssignment c.in_default.not-PatternAssignment,
        other label l.Yield c.in_default.not-Yield,
        other label l.TypedBinary c.in_default.not-TypedBinary,
        other label l.TypeAssertion c.in_default.not-TypeAssertion,
        other label l.Sequence c.in_default.not-Sequence,
      ) refl;
      below = tt;
    }
