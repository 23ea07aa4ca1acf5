use Rattle.std.proofs.Common.{refl}
use Rattle.es_grammar.specs.declared.rows.NodeKind.TheVariants as l
use Rattle.es_syntax.proofs.Labels.{other}
use Rattle.es_program.proofs.items.reading.told_by_label.Goals as goal

-- no other alternative is one of these
pub returns-in_default : goal.returns-in_default
returns-in_default c =
    let label = c.args.label in
    rw (
      other label l.RequireImport c.in_default.not-RequireImport,
      other label l.EntityImport c.in_default.not-EntityImport,
      other label l.ExportedRequireImport c.in_default.not-ExportedRequireImport,
      other label l.ExportedEntityImport c.in_default.not-ExportedEntityImport,
      other label l.ExportAssignment c.in_default.not-ExportAssignment,
      other label l.ExportNamespace c.in_default.not-ExportNamespace,
    ) refl
