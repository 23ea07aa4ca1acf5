use Rattle.std.proofs.Common.{refl}
use Rattle.es_grammar.specs.declared.rows.NodeKind.TheVariants as l
use Rattle.es_syntax.proofs.Labels.{other}
use Rattle.es_view_types.proofs.types.function.function_at.Goals as goal

-- no other alternative is one of these
pub returns-in_default : goal.returns-in_default
returns-in_default c =
    let label = c.in-Node.label in
    record {
      form = λ x ts. tt;
      other = rw (
        c.in-Node.is,
        other label l.FunctionType c.in_default.not-FunctionType,
        other label l.ConstructorType c.in_default.not-ConstructorType,
        other label l.AssertsResult c.in_default.not-AssertsResult,
        other label l.PredicateResult c.in_default.not-PredicateResult,
      ) refl;
      below = tt;
    }
