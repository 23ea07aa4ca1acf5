use Rattle.sys_traits.specs.State.{refusal_of}
use Rattle.sys_traits.proofs.MemoryLemmas.{answered, renamed}
use Rattle.sys_traits.proofs.in_memory.calls.InMemorySysFsRename.fs_rename.Goals as goal

pub returns-clause-tells : goal.returns-clause-tells
returns-clause-tells c =
    renamed c.args.self.now c.run.new.self c.args.from.now c.args.to.now (refusal_of c.run.result)
    (answered c.renaming-drafted.result _ _ c.run.result c.args.self.now c.run.new.self c.renaming-drafted.ensures
    c.run.ensures.ran)
