use Rattle.es_syntax.specs.Held.{held}
use Rattle.dts_members.proofs.TypedLemmas.{front_alone, front_made}
use Rattle.dts_members.proofs.typed_methods.front.Goals as goal

pub returns-then-worded-clause-written : goal.returns-then-worded-clause-written
returns-then-worded-clause-written c = λ e x ts.
    front_made x ts c.args.worded _ _ _ (held x ts c.args.parts.now.entries.now) c.if-worded.true
    (c.keep_part.ensures.written (c.keep_part-then-worded.ensures.before e) x ts)
    (c.keep_part-then-worded.ensures.written e x ts)

pub returns-else-worded-clause-written : goal.returns-else-worded-clause-written
returns-else-worded-clause-written c = λ e x ts.
    front_alone x ts c.args.worded _ _ (held x ts c.args.parts.now.entries.now) c.if-worded.false
    (c.keep_part.ensures.written e x ts)
