use Rattle.std.proofs.Common.{◌∙◌}
use Rattle.graph_tables.proofs.pending_requests_lemmas.RequestLemmas.{index_waits}
use Rattle.graph_tables.proofs.pending_requests.requests.Requests.waits_for.Goals as goal

pub returns : goal.returns
returns c =
    rw (← c.self.view_is)
    (c.contains_key.ensures
    ∙ index_waits c.self.inside.marks.items c.self.inside.all.items c.self.inside.firsts.entries c.args.url.now
    c.self.invariant.index)
