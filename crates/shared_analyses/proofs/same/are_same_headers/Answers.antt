use Rattle.std.proofs.Common.{◌∙◌, sym}
use Rattle.shared_analyses.proofs.SameLemmas.{same_headers, equal_headers}
use Rattle.shared_analyses.proofs.same.are_same_headers.Goals as goal

pub returns : goal.returns
returns c = (
  λ yes. sym c.as_map.ensures
      ∙ same_headers c.as_map.result.now.entries c.as_map-2.result.now.entries (sym c.eq.ensures ∙ yes)
      ∙ c.as_map-2.ensures,
  λ same. c.eq.ensures
      ∙ equal_headers c.as_map.result.now.entries c.as_map-2.result.now.entries
      (c.as_map.ensures ∙ same ∙ sym c.as_map-2.ensures),
)
