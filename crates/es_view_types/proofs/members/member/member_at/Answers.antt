use Rattle.std.proofs.Common.{refl}
use Rattle.es_grammar.specs.declared.rows.NodeKind.TheVariants as l
use Rattle.es_syntax.proofs.Labels.{other}
use Rattle.es_view_types.proofs.members.member.member_at.Goals as goal

-- no other alternative is one of these
pub returns-in_default : goal.returns-in_default
returns-in_default c =
    let label = c.in-Node.label in
    record {
      form = λ x ts. tt;
      other = rw (
        c.in-Node.is,
        other label l.CallSignature c.in_default.not-CallSignature,
        other label l.ConstructSignature c.in_default.not-ConstructSignature,
        other label l.IndexSignature c.in_default.not-IndexSignature,
        other label l.AccessorSignature c.in_default.not-AccessorSignature,
        other label l.MethodSignature c.in_default.not-MethodSignature,
        other label l.PropertySignature c.in_default.not-PropertySignature,
        other label l.ReadonlyProperty c.in_default.not-ReadonlyProperty,
      ) refl;
      below = tt;
    }
