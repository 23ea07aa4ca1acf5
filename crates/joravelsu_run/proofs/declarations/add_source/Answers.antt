-- The lines of declarations, or that of a source that is no program.
use Rattle.import_map.proofs.json_reading_lemmas.ReadingLemmas.{IfOk-map}
use Rattle.joravelsu_run.proofs.DeclarationLemmas.{declared_added, undeclared_added}
use Rattle.joravelsu_run.proofs.declarations.add_source.Goals as goal

pub returns-in-Some : goal.returns-in-Some
returns-in-Some c =
    IfOk-map c.add_declared.result _ _
    (λ _ adds. declared_added _ _ c.args.specifier.now c.args.source.now _ c.in-Some.it c.in-Some.is
    c.in_ok-it.ensures adds)
    c.add_declared.ensures

pub returns-in-None : goal.returns-in-None
returns-in-None c =
    IfOk-map c.add_undeclared.result _ _
    (λ _ adds. undeclared_added _ _ c.args.specifier.now c.args.source.now _ c.in-None.is
    c.in_ok-it.ensures adds)
    c.add_undeclared.ensures
