use Rattle.sys_traits.specs.State.{refusal_of}
use Rattle.sys_traits.proofs.MemoryLemmas.{answered, removed}
use Rattle.sys_traits.proofs.in_memory.calls.InMemorySysFsRemoveFile.fs_remove_file.Goals as goal

pub returns-clause-tells : goal.returns-clause-tells
returns-clause-tells c =
    removed c.args.self.now c.run.new.self c.args.path.now (refusal_of c.run.result)
    (answered c.removing-drafted.result _ _ c.run.result c.args.self.now c.run.new.self c.removing-drafted.ensures
    c.run.ensures.ran)
