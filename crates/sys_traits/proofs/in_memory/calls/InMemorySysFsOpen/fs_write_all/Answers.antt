use Rattle.std.proofs.Common.{subst}
use Rattle.sys_traits.specs.Paths.{Path}
use Rattle.sys_traits.specs.State.{refusal_of}
use Rattle.sys_traits.specs.Calls.{Written}
use Rattle.sys_traits.specs.Memory.{told_of}
use Rattle.sys_traits.proofs.MemoryLemmas.{answered, written}
use Rattle.sys_traits.proofs.in_memory.calls.InMemorySysFsOpen.fs_write_all.Goals as goal

pub returns-clause-tells : goal.returns-clause-tells
returns-clause-tells c =
    subst (λ (path : Path). Written path c.args.bytes.now (refusal_of c.run.result) (told_of c.args.self.now)
    (told_of c.run.new.self)) c.as_str.ensures
    (written c.args.self.now c.run.new.self c.as_str.result.now c.args.bytes.now (refusal_of c.run.result)
    (answered c.writing-drafted.result _ _ c.run.result c.args.self.now c.run.new.self c.writing-drafted.ensures
    c.run.ensures.ran))
