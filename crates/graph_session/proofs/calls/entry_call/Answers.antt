use Rattle.std.proofs.Common.{rules, refl, subst, Some, None}
use Rattle.std.specs.Prelude.{Option}
use Rattle.graph_session.specs.declared.records.LaidEntry.{LaidEntry}
use Rattle.graph_session.specs.Calls.{is_laid, IsLaidAt}
use Rattle.graph_session.proofs.calls.entry_call.Goals as goal

-- there is an entry
pub returns-in-Ok-Some : goal.returns-in-Ok-Some
returns-in-Ok-Some g c =
    is_laid c.in-Some.graph (Some c.in-Ok-Some.laid) (search rules)
    (subst (λ (l : Option LaidEntry). IsLaidAt c.in-Some.graph c.args.number l) c.in-Ok-Some.field-0-is
    c.in-Ok-Some.ensures)
    c.put_laid.ensures

-- there is none
pub returns-in-Ok-None : goal.returns-in-Ok-None
returns-in-Ok-None g c =
    is_laid c.in-Some.graph None (search rules)
    (subst (λ (l : Option LaidEntry). IsLaidAt c.in-Some.graph c.args.number l) c.in-Ok-None.field-0-is
    c.in-Ok-None.ensures)
    (c.no_entry.ensures, refl, refl, refl)
