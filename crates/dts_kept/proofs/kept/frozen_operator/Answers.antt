use Rattle.es_lowering.specs.Texts.{span_of}
use Rattle.es_syntax.specs.Held.{held, valued}
use Rattle.dts_kept.proofs.KeptLemmas.{operator_stands, operator_none}
use Rattle.dts_kept.proofs.kept.frozen_operator.Goals as goal

-- what stands behind `readonly` stays
pub returns-then-is_readonly-clause-written : goal.returns-then-is_readonly-clause-written
returns-then-is_readonly-clause-written c = λ e x known.
    let ty = c.args.ty.now in
    let ts = c.args.tokens.now in
    operator_stands x ts _ _ _ (valued x ts ty) (span_of ts ty.from ty.to) (held x ts ty.parts.entries.now)
    c.if-is_readonly.true (c.is_readonly.ensures x _) (c.keep.ensures.written e x ts) known

-- and what stands behind another word has no such type
pub returns-clause-written : goal.returns-clause-written
returns-clause-written c = λ e x known.
    let ty = c.args.ty.now in
    let ts = c.args.tokens.now in
    operator_none x ts _ _ (valued x ts ty) (span_of ts ty.from ty.to) (held x ts ty.parts.entries.now)
    c.if-is_readonly.false (c.is_readonly.ensures x _) known
