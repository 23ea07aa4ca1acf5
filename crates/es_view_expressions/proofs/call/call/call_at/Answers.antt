use Rattle.std.proofs.Common.{refl}
use Rattle.es_grammar.specs.declared.rows.NodeKind.TheVariants as l
use Rattle.es_syntax.proofs.Labels.{other}
use Rattle.es_view_expressions.proofs.call.call.call_at.Goals as goal

-- no other alternative is one of these
pub returns-in_default : goal.returns-in_default
returns-in_default c =
    let label = c.in-Node.label in
    record {
      form = λ x ts. tt;
      other = rw (
        c.in-Node.is,
        other label l.Super c.in_default.not-Super,
        other label l.ImportMeta c.in_default.not-ImportMeta,
        other label l.NewTarget c.in_default.not-NewTarget,
        other label l.ImportCall c.in_default.not-ImportCall,
        other label l.SourceCall c.in_default.not-SourceCall,
        other label l.DeferCall c.in_default.not-DeferCall,
        other label l.New c.in_default.not-New,
        other label l.Chain c.in_default.not-Chain,
        other label l.TypedNew c.in_default.not-TypedNew,
      ) refl;
      below = tt;
    }
