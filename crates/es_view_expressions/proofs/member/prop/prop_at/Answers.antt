use Rattle.std.proofs.Common.{refl}
use Rattle.es_grammar.specs.declared.rows.NodeKind.TheVariants as l
use Rattle.es_syntax.proofs.Labels.{other}
use Rattle.es_view_expressions.proofs.member.prop.prop_at.Goals as goal

-- no other alternative is one of these
pub returns-in_default : goal.returns-in_default
returns-in_default c =
    let label = c.in-Node.label in
    record {
      form = λ x ts. tt;
      other = rw (
        c.in-Node.is,
        other label l.GeneratorProperty c.in_default.not-GeneratorProperty,
        other label l.MethodProperty c.in_default.not-MethodProperty,
        other label l.AsyncProperty c.in_default.not-AsyncProperty,
        other label l.AccessorProperty c.in_default.not-AccessorProperty,
        other label l.KeyValue c.in_default.not-KeyValue,
        other label l.Shorthand c.in_default.not-Shorthand,
        other label l.SpreadProperty c.in_default.not-SpreadProperty,
        other label l.TypedGeneratorProperty c.in_default.not-TypedGeneratorProperty,
        other label l.TypedMethodProperty c.in_default.not-TypedMethodProperty,
        other label l.TypedAsyncProperty c.in_default.not-TypedAsyncProperty,
        other label l.TypedAccessorProperty c.in_default.not-TypedAccessorProperty,
      ) refl;
      below = tt;
    }
