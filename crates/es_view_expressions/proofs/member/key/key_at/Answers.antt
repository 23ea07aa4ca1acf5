use Rattle.std.proofs.Common.{refl}
use Rattle.es_grammar.specs.declared.rows.NodeKind.TheVariants as l
use Rattle.es_syntax.proofs.Labels.{other}
use Rattle.es_view_expressions.proofs.member.key.key_at.Goals as goal

-- no other alternative is one of these
pub returns-in_default : goal.returns-in_default
returns-in_default c =
    let label = c.in-Node.label in
    record {
      form = λ x ts. tt;
      other = rw (
        c.in-Node.is,
        other label l.WordKey c.in_default.not-WordKey,
        other label l.StrKey c.in_default.not-StrKey,
        other label l.NumberKey c.in_default.not-NumberKey,
        other label l.ComputedKey c.in_default.not-ComputedKey,
        other label l.PrivateKey c.in_default.not-PrivateKey,
      ) refl;
      below = tt;
    }
