use Rattle.es_lowering.specs.Texts.{span_of}
use Rattle.es_syntax.specs.Held.{held, valued}
use Rattle.dts_kept.proofs.KeptLemmas.{array_stands, array_none}
use Rattle.dts_kept.proofs.kept.frozen_array.Goals as goal

-- an array stands behind `readonly`
pub returns-then-is_array-clause-written : goal.returns-then-is_array-clause-written
returns-then-is_array-clause-written c = λ e x ts known.
    let ty = c.args.ty.now in
    array_stands x ts _ _ _ (valued x ts ty) (span_of ts ty.from ty.to) (held x ts ty.parts.entries.now)
    c.if-is_array.true (c.is_array.ensures x ts _) (c.behind_readonly.ensures.written e x ts) known

-- and what is taken out of one has no such type
pub returns-clause-written : goal.returns-clause-written
returns-clause-written c = λ e x ts known.
    let ty = c.args.ty.now in
    array_none x ts _ _ (valued x ts ty) (span_of ts ty.from ty.to) (held x ts ty.parts.entries.now)
    c.if-is_array.false (c.is_array.ensures x ts _) known
