use Rattle.std.proofs.Common.{refl}
use Rattle.es_grammar.specs.declared.rows.NodeKind.TheVariants as l
use Rattle.es_syntax.proofs.Labels.{other}
use Rattle.es_view_expressions.proofs.function.function.function_at.Goals as goal

-- no other alternative is one of these
pub returns-in_default : goal.returns-in_default
returns-in_default c =
    let label = c.in-Node.label in
    record {
      form = λ x ts. tt;
      other = rw (
        c.in-Node.is,
        other label l.Function c.in_default.not-Function,
        other label l.AsyncFunction c.in_default.not-AsyncFunction,
        other label l.TypedFunction c.in_default.not-TypedFunction,
        other label l.TypedAsyncFunction c.in_default.not-TypedAsyncFunction,
        other label l.Class c.in_default.not-Class,
        other label l.TypedClass c.in_default.not-TypedClass,
        other label l.AbstractClass c.in_default.not-AbstractClass,
        other label l.NameArrow c.in_default.not-NameArrow,
        other label l.AsyncNameArrow c.in_default.not-AsyncNameArrow,
        other label l.ParenthesizedArrow c.in_default.not-ParenthesizedArrow,
        other label l.AsyncParenthesizedArrow c.in_default.not-AsyncParenthesizedArrow,
        other label l.TypedParenthesizedArrow c.in_default.not-TypedParenthesizedArrow,
        other label l.TypedAsyncParenthesizedArrow c.in_default.not-TypedAsyncParenthesizedArrow,
      ) refl;
      below = tt;
    }
