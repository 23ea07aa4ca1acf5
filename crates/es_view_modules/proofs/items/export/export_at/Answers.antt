use Rattle.std.proofs.Common.{refl}
use Rattle.es_grammar.specs.declared.rows.NodeKind.TheVariants as l
use Rattle.es_syntax.proofs.Labels.{other}
use Rattle.es_view_modules.proofs.items.export.export_at.Goals as goal

-- no other alternative is one of these
pub returns-in_default : goal.returns-in_default
returns-in_default c =
    let label = c.in-Node.label in
    record {
      form = λ x ts. tt;
      other = rw (
        c.in-Node.is,
        other label l.ExportAll c.in_default.not-ExportAll,
        other label l.ExportNames c.in_default.not-ExportNames,
        other label l.ExportNamespace c.in_default.not-ExportNamespace,
        other label l.ExportDefaultFunction c.in_default.not-ExportDefaultFunction,
        other label l.ExportDefaultClass c.in_default.not-ExportDefaultClass,
        other label l.ExportDefaultInterface c.in_default.not-ExportDefaultInterface,
        other label l.ExportDefaultExpression c.in_default.not-ExportDefaultExpression,
        other label l.ExportDeclaration c.in_default.not-ExportDeclaration,
        other label l.ExportAssignment c.in_default.not-ExportAssignment,
      ) refl;
      below = tt;
    }
