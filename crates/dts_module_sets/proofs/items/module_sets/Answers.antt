use Rattle.dts_module_sets.proofs.ProgramForms.{knows}
use Rattle.dts_module_sets.proofs.items.module_sets.Goals as goal

-- from no names
pub returns : goal.returns
returns c = λ e number numbered.
    knows number _ c.new-known.result c.program_sets.new.out c.new-known.ensures.typeofs c.new-known.ensures.plain
    c.new-known.ensures.arrays (c.program_sets.ensures.adds e number numbered)
