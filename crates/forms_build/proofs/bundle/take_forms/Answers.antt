use Rattle.import_map.proofs.json_reading_lemmas.ReadingLemmas.{IfOk-map}
use Rattle.forms_build.proofs.BundleLemmas.{forms_unforced}
use Rattle.forms_build.proofs.bundle.take_forms.Goals as goal

-- no answer of a bundle that is read comes in any case
pub returns-clause-unforced : goal.returns-clause-unforced
returns-clause-unforced c =
    IfOk-map c.forms_taken.result _ _ (λ b says. forms_unforced _ _ says.2) c.forms_taken.ensures.bundle
