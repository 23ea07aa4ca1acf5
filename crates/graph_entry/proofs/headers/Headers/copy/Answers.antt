use Rattle.std.proofs.Common.{◌∙◌}
use Rattle.graph_entry.proofs.HeadersLemmas.{headers_of-clone}
use Rattle.graph_entry.proofs.headers.Headers.copy.Goals as goal

pub returns : goal.returns
returns c = headers_of-clone _ _ c.in_ok-clone.ensures.cases ∙ c.self.view_is
