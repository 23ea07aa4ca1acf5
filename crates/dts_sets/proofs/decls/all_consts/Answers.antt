use Rattle.dts_sets.proofs.DeclLemmas.{adds_decls}
use Rattle.dts_sets.proofs.decls.all_consts.Goals as goal

-- the first, and the others after it
pub returns-clause-adds : goal.returns-clause-adds
returns-clause-adds c = λ e number numbered.
    adds_decls number _ _ _ _ _ (c.declarator_sets.ensures.adds (c.other_sets.ensures.before e) number numbered)
    (c.other_sets.ensures.adds e number numbered)
