use Rattle.es_bound_names.proofs.DeclForms.{adds_decls}
use Rattle.es_bound_names.proofs.decls.all_names.Goals as goal

-- the first, and the others behind it
pub returns-clause-adds : goal.returns-clause-adds
returns-clause-adds c = λ e.
    adds_decls _ _ _ _ _ (c.declarator_names.ensures.adds (c.other_names.ensures.before e))
    (c.other_names.ensures.adds e)
