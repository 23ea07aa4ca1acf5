use Rattle.std.specs.Prelude.{◌≡◌, false}
use Rattle.std.proofs.Common.{refl}
use Rattle.es_grammar.specs.declared.rows.NodeKind.TheVariants as l
use Rattle.es_syntax.proofs.Labels.{other}
use Rattle.dts_operands.proofs.labels.sort_of.Goals as goal

-- no other alternative is one of these
pub returns-in_default : goal.returns-in_default
returns-in_default c =
    let label = c.args.label in
    rw (
      other label l.Name c.in_default.not-Name,
      other label l.Word c.in_default.not-Word,
      other label l.Number c.in_default.not-Number,
      other label l.Str c.in_default.not-Str,
      other label l.RegExp c.in_default.not-RegExp,
      other label l.Template c.in_default.not-Template,
      other label l.TemplateParts c.in_default.not-TemplateParts,
      other label l.ArrayLiteral c.in_default.not-ArrayLiteral,
      other label l.ObjectLiteral c.in_default.not-ObjectLiteral,
      other label l.Function c.in_default.not-Function,
      other label l.AsyncFunction c.in_default.not-AsyncFunction,
      other label l.TypedFunction c.in_default.not-TypedFunction,
      other label l.TypedAsyncFunction c.in_default.not-TypedAsyncFunction,
      other label l.NameArrow c.in_default.not-NameArrow,
      other label l.ParenthesizedArrow c.in_default.not-ParenthesizedArrow,
      other label l.AsyncNameArrow c.in_default.not-AsyncNameArrow,
      other label l.AsyncParenthesizedArrow c.in_default.not-AsyncParenthesizedArrow,
      other label l.TypedParenthesizedArrow c.in_default.not-TypedParenthesizedArrow,
      other label l.TypedAsyncParenthesizedArrow c.in_default.not-TypedAsyncParenthesizedArrow,
      other label l.New c.in_default.not-New,
      other label l.TypedNew c.in_default.not-TypedNew,
      other label l.Chain c.in_default.not-Chain,
      other label l.UnaryExpression c.in_default.not-UnaryExpression,
      other label l.TypedBinary c.in_default.not-TypedBinary,
      other label l.TypeAssertion c.in_default.not-TypeAssertion,
    ) refl
