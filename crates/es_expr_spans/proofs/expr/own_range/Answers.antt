use Rattle.std.specs.Prelude.{false}
use Rattle.std.proofs.Common.{◌≡◌, refl}
use Rattle.es_grammar.specs.declared.rows.NodeKind.TheVariants as l
use Rattle.es_syntax.specs.Views.{is_one_of}
use Rattle.es_syntax.proofs.Labels.{other}
use Rattle.es_expr_spans.specs.Spans.{own_ranges}
use Rattle.es_expr_spans.proofs.expr.own_range.Goals as goal

-- no other alternative is one of these
pub returns-in_default : goal.returns-in_default
returns-in_default c =
    let label = c.args.label in
    λ is x from.
    let not : is_one_of own_ranges label ≡ false =
    rw (
      other label l.Name c.in_default.not-Name,
      other label l.Number c.in_default.not-Number,
      other label l.Str c.in_default.not-Str,
      other label l.RegExp c.in_default.not-RegExp,
      other label l.Chain c.in_default.not-Chain,
    ) refl in
    let bad : ⊥ = cc in
    absurd bad
