use Rattle.forms_build.proofs.GraphLemmas.{reread_new}
use Rattle.forms_build.proofs.build.reading.Goals as goal

-- nothing happened to its loader yet
pub returns-in-Ok-clause-new : goal.returns-in-Ok-clause-new
returns-in-Ok-clause-new g c =
    reread_new g.R.KindResolver.resolving_by_kind c.args.is_allowed c.args.resolver c.args.analyzer c.args.build.inner
    c.in-Ok.again.inner c.in-Ok.ensures c.requires
