use Rattle.std.proofs.Common.{refl}
use Rattle.es_view_modules.specs.items.Export.{the_export}
use Rattle.dts_sets.specs.Known.{export_sets}
use Rattle.dts_sets.proofs.Grown.{adds_by}
use Rattle.dts_module_sets.proofs.ExportForms.{adds_decl, adds_default_decl}
use Rattle.dts_module_sets.proofs.items.export_sets.Goals as goal

-- what the declaration adds
pub returns-in-DefaultDecl-clause-adds : goal.returns-in-DefaultDecl-clause-adds
returns-in-DefaultDecl-clause-adds c = λ e r number numbered.
    let x = c.args.text.now in
    let ts = c.args.tokens.now in
    adds_by (export_sets number) c.args.out.now c.decl_sets.new.out _ (the_export x ts r) c.args.it.now _ refl
    c.in-DefaultDecl.is
    (adds_default_decl number r _ c.args.out.now c.decl_sets.new.out (c.decl_sets.ensures.adds e number numbered))

pub returns-in-Decl-clause-adds : goal.returns-in-Decl-clause-adds
returns-in-Decl-clause-adds c = λ e r number numbered.
    let x = c.args.text.now in
    let ts = c.args.tokens.now in
    adds_by (export_sets number) c.args.out.now c.decl_sets-in-Decl.new.out _ (the_export x ts r) c.args.it.now _ refl
    c.in-Decl.is
    (adds_decl number r _ c.args.out.now c.decl_sets-in-Decl.new.out
    (c.decl_sets-in-Decl.ensures.adds e number numbered))
