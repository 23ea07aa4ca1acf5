use Rattle.es_lowering.specs.Texts.{span_of}
use Rattle.es_view_modules.specs.items.Program.{the_program}
use Rattle.dts_sets.proofs.Grown.{adds_by}
use Rattle.dts_module_sets.specs.Items.{program_sets}
use Rattle.dts_module_sets.proofs.ProgramForms.{adds_module, adds_script}
use Rattle.dts_module_sets.proofs.items.program_sets.Goals as goal

-- the items of a module
pub returns-in-Some-Module-clause-adds : goal.returns-in-Some-Module-clause-adds
returns-in-Some-Module-clause-adds c = λ e number numbered.
    let x = c.args.text.now in
    let ts = c.args.tokens.now in
    let r = span_of ts c.args.it.now.from c.args.it.now.to in
    adds_by (program_sets number) c.args.out.now c.body_sets.new.out _ (the_program x ts r) c.in-Some-Module.field-0 _
    (c.in-Some-Module.ensures.form x ts) c.in-Some-Module.field-0-is
    (adds_module x ts r number _ _ c.args.out.now c.body_sets.new.out (c.body_sets.ensures.adds e number numbered))

-- none of a script
pub returns-in-Some-Script-clause-adds : goal.returns-in-Some-Script-clause-adds
returns-in-Some-Script-clause-adds c = λ e number numbered.
    let x = c.args.text.now in
    let ts = c.args.tokens.now in
    let r = span_of ts c.args.it.now.from c.args.it.now.to in
    adds_by (program_sets number) c.args.out.now c.args.out.now _ (the_program x ts r) c.in-Some-Script.field-0 _
    (c.in-Some-Script.ensures.form x ts) c.in-Some-Script.field-0-is (adds_script x ts r number _ _ c.args.out.now)
