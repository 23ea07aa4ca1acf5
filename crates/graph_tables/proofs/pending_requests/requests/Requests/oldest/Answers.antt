use Rattle.std.proofs.Common.{◌∙◌, ap, List}
use Rattle.std.specs.Prelude.{slice_get}
use Rattle.url.specs.Parts.{Parts}
use Rattle.graph_tables.proofs.pending_requests_lemmas.RequestLemmas.{oldest_next}
use Rattle.graph_tables.proofs.pending_requests.requests.Requests.oldest.Goals as goal

pub returns : goal.returns
returns c =
    let held = c.self.invariant in
    rw (← c.self.view_is)
    (c.request_at.ensures ∙ ap (λ (us : List Parts). slice_get us c.self.inside.passed) c.as_slice.ensures.value
    ∙ oldest_next c.self.inside.passed c.self.inside.marks.items c.self.inside.all.items held.even held.passed
    held.next)
