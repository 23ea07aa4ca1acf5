use Rattle.std.specs.Prelude.{◌≡◌, false}
use Rattle.std.proofs.Common.{refl}
use Rattle.es_grammar.specs.declared.rows.NodeKind.TheVariants as l
use Rattle.es_syntax.proofs.Labels.{other}
use Rattle.dts_operands.proofs.labels.behind_of.Goals as goal

-- no other alternative is one of these
pub returns-in_default : goal.returns-in_default
returns-in_default c =
    let label = c.args.label in
    rw (
      other label l.Name c.in_default.not-Name,
      other label l.ArrayLiteral c.in_default.not-ArrayLiteral,
      other label l.Spread c.in_default.not-Spread,
    ) refl
