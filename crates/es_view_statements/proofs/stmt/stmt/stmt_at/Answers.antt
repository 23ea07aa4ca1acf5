use Rattle.std.proofs.Common.{refl}
use Rattle.es_grammar.specs.declared.rows.NodeKind.TheVariants as l
use Rattle.es_syntax.proofs.Labels.{other}
use Rattle.es_view_statements.proofs.stmt.stmt.stmt_at.Goals as goal

-- no other alternative is one of these
pub returns-in_default : goal.returns-in_default
returns-in_default c =
    let label = c.in-Node.label in
    record {
      form = λ x ts. tt;
      other = rw (
        c.in-Node.is,
        other label l.Block c.in_default.not-Block,
        other label l.EmptyStatement c.in_default.not-EmptyStatement,
        other label l.DebuggerStatement c.in_default.not-DebuggerStatement,
        other label l.ExpressionStatement c.in_default.not-ExpressionStatement,
        other label l.LabelledStatement c.in_default.not-LabelledStatement,
        other label l.IfStatement c.in_default.not-IfStatement,
        other label l.ContinueStatement c.in_default.not-ContinueStatement,
        other label l.BreakStatement c.in_default.not-BreakStatement,
        other label l.ReturnStatement c.in_default.not-ReturnStatement,
        other label l.ThrowStatement c.in_default.not-ThrowStatement,
        other label l.WithStatement c.in_default.not-WithStatement,
      ) refl;
      below = tt;
    }
