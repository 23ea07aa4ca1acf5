-- The text of a module of JavaScript or TypeScript.
use Rattle.std.specs.Prelude.{OnOk}
use Rattle.std.proofs.Common.{sym, subst}
use Rattle.graph_entry.specs.declared.entry.Module.{Module}
use Rattle.joravelsu_run.specs.Declarations.{IsModuleText}
use Rattle.joravelsu_run.specs.Steps.{AddsOne}
use Rattle.joravelsu_run.proofs.declarations.add_module.Goals as goal

pub returns-in-Js : goal.returns-in-Js
returns-in-Js c =
    subst (λ (m : Module). OnOk c.add_source.result
    (AddsOne (IsModuleText c.args.specifier.now m) c.args.out.now c.add_source.new.out)) (sym c.in-Js.is)
    c.add_source.ensures
