use Rattle.es_required.proofs.required.Required.cut.Goals as goal

-- the two places cut the text
pub range-requires-clause-start_le_end : goal.range-requires-clause-start_le_end
range-requires-clause-start_le_end c = rw c.range-range.ensures c.requires.ordered

pub range-requires-clause-start_boundary : goal.range-requires-clause-start_boundary
range-requires-clause-start_boundary c = rw c.range-range.ensures (λ _. c.requires.starts)

pub range-requires-clause-end_boundary : goal.range-requires-clause-end_boundary
range-requires-clause-end_boundary c = rw c.range-range.ensures c.requires.ends
