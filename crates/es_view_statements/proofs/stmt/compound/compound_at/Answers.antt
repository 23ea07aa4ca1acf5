use Rattle.std.proofs.Common.{refl}
use Rattle.es_grammar.specs.declared.rows.NodeKind.TheVariants as l
use Rattle.es_syntax.proofs.Labels.{other}
use Rattle.es_view_statements.proofs.stmt.compound.compound_at.Goals as goal

-- no other alternative is one of these
pub returns-in_default : goal.returns-in_default
returns-in_default c =
    let label = c.in-Node.label in
    record {
      form = λ x ts. tt;
      other = rw (
        c.in-Node.is,
        other label l.ForStatement c.in_default.not-ForStatement,
        other label l.ForEachStatement c.in_default.not-ForEachStatement,
        other label l.ForAwaitStatement c.in_default.not-ForAwaitStatement,
        other label l.WhileStatement c.in_default.not-WhileStatement,
        other label l.DoStatement c.in_default.not-DoStatement,
        other label l.SwitchStatement c.in_default.not-SwitchStatement,
        other label l.TryStatement c.in_default.not-TryStatement,
        other label l.TypedTryStatement c.in_default.not-TypedTryStatement,
      ) refl;
      below = tt;
    }
