use Rattle.std.proofs.Common.{ap, ◌∙◌}
use Rattle.es_lowering.specs.Value.{Value}
use Rattle.es_lowering.specs.TypedParts.{behind_body}
use Rattle.es_syntax.specs.Held.{held}
use Rattle.dts_members.proofs.TypedLemmas.{row_body}
use Rattle.dts_members.proofs.typed_methods.end_of_body.Goals as goal

-- the end of a line
pub returns-in-Parts : goal.returns-in-Parts
returns-in-Parts c = λ x ts.
    ap (λ (v : Value). behind_body v c.args.before) (rw c.in-Parts.is at (c.in-Some.ensures.value x ts))
    ∙ row_body x ts c.in-Some.first.parts.entries.now (held x ts c.in-Some.field-0-1.entries.now) c.args.before
