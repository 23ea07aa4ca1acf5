use Rattle.sys_traits.specs.State.{refusal_of}
use Rattle.sys_traits.proofs.MemoryLemmas.{answered, opened}
use Rattle.sys_traits.proofs.in_memory.calls.InMemorySysFsOpen.fs_open.Goals as goal

pub returns-clause-tells : goal.returns-clause-tells
returns-clause-tells c =
    opened c.args.self.now c.run.new.self c.args.path.now c.args.mode (refusal_of c.run.result)
    (answered c.opening-drafted.result _ _ c.run.result c.args.self.now c.run.new.self c.opening-drafted.ensures
    c.run.ensures.ran)
