use Rattle.std.proofs.Common.{refl}
use Rattle.graph_session.proofs.SessionLemmas.{own_asked, own_log}
use Rattle.graph_session.proofs.session.know.Goals as goal

-- by the view of a builder
pub returns : goal.returns
returns g c =
    rw (← c.build.view_is)
    record {
      kept = c.know.ensures;
      asked = λ fresh. own_asked _ _ fresh;
      log = λ fresh. own_log _ _ fresh;
      pending =
          refl;
    }
