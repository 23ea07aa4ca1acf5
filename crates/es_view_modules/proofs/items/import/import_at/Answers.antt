use Rattle.std.proofs.Common.{refl}
use Rattle.es_grammar.specs.declared.rows.NodeKind.TheVariants as l
use Rattle.es_syntax.proofs.Labels.{other}
use Rattle.es_view_modules.proofs.items.import.import_at.Goals as goal

-- no other alternative is one of these
pub returns-in_default : goal.returns-in_default
returns-in_default c =
    let label = c.in-Node.label in
    record {
      form = λ x ts. tt;
      other = rw (
        c.in-Node.is,
        other label l.BareImport c.in_default.not-BareImport,
        other label l.FromImport c.in_default.not-FromImport,
        other label l.SourceImport c.in_default.not-SourceImport,
        other label l.DeferImport c.in_default.not-DeferImport,
        other label l.RequireImport c.in_default.not-RequireImport,
        other label l.ExportedRequireImport c.in_default.not-ExportedRequireImport,
        other label l.EntityImport c.in_default.not-EntityImport,
        other label l.ExportedEntityImport c.in_default.not-ExportedEntityImport,
      ) refl;
      below = tt;
    }
