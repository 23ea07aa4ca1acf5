use Rattle.graph_session.proofs.SessionLemmas.{answered_inside, answers_after}
use Rattle.graph_session.proofs.session.answer_in.Goals as goal

-- what the loader says beforehand is what the builder took
pub invariant_of-build : goal.invariant_of-build
invariant_of-build g c =
    answered_inside _ _ _ _ c.build.inside.loader c.give-given.new.self _ _ c.give-given.ensures.seen c.know.ensures
    c.build.invariant

-- nothing else changes
pub returns-clause-given : goal.returns-clause-given
returns-clause-given g c =
    rw (← c.build.view_is)
    (answers_after c.give-given.result c.args.number c.args.answer c.build.inside.following c.build.inside.roots
    c.build.inside.imports c.build.inside.progress c.build.inside.finished c.build.inside.loader c.give-given.new.self
    c.give-given.ensures.given c.give-given.ensures.seen)
