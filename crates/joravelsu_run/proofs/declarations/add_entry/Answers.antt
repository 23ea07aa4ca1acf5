-- The text of a module.
use Rattle.std.specs.Prelude.{OnOk}
use Rattle.std.proofs.Common.{sym, subst}
use Rattle.graph_entry.specs.declared.entry.Entry.{Entry}
use Rattle.joravelsu_run.specs.Declarations.{IsEntryText}
use Rattle.joravelsu_run.specs.Steps.{AddsOne}
use Rattle.joravelsu_run.proofs.declarations.add_entry.Goals as goal

pub returns-in-Module : goal.returns-in-Module
returns-in-Module c =
    subst (λ (e : Entry). OnOk c.add_module.result
    (AddsOne (IsEntryText c.args.specifier.now e) c.args.out.now c.add_module.new.out)) (sym c.in-Module.is)
    c.add_module.ensures
