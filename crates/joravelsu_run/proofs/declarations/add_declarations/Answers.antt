-- One entry after the other.
use Rattle.std.specs.Prelude.{[]}
use Rattle.joravelsu_run.specs.Declarations.{IsDeclarationsText, none}
use Rattle.joravelsu_run.proofs.DeclarationLemmas.{none_added, pair_added}
use Rattle.joravelsu_run.proofs.declarations.add_declarations.Goals as goal

pub loop-specifier-init : goal.loop-specifier-init
loop-specifier-init c = none_added (IsDeclarationsText []) _ none

pub loop-specifier-preserved : goal.loop-specifier-preserved
loop-specifier-preserved c =
    pair_added _ _ _ c.loop-specifier.yielded _ c.loop-specifier.invariant c.in_ok-add_entry.ensures
