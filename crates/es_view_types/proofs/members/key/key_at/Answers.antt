use Rattle.std.proofs.Common.{refl}
use Rattle.es_grammar.specs.declared.rows.NodeKind.TheVariants as l
use Rattle.es_syntax.proofs.Labels.{other}
use Rattle.es_view_types.proofs.members.key.key_at.Goals as goal

-- no other alternative is one of these
pub returns-in_default : goal.returns-in_default
returns-in_default c =
    let label = c.in-Node.label in
    record {
      form = λ x ts. tt;
      other = rw (
        c.in-Node.is,
        other label l.WordKeyOfType c.in_default.not-WordKeyOfType,
        other label l.WordPatternKey c.in_default.not-WordPatternKey,
        other label l.StrKeyOfType c.in_default.not-StrKeyOfType,
        other label l.StrPatternKey c.in_default.not-StrPatternKey,
        other label l.NumberKeyOfType c.in_default.not-NumberKeyOfType,
        other label l.NumberPatternKey c.in_default.not-NumberPatternKey,
        other label l.ComputedKeyOfType c.in_default.not-ComputedKeyOfType,
      ) refl;
      below = tt;
    }
