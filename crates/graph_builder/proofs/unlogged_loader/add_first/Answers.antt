use Rattle.std.proofs.Common.{sym}
use Rattle.graph_builder.proofs.MemoryLemmas.{firsts_there, firsts_new}
use Rattle.graph_builder.proofs.unlogged_loader.add_first.Goals as goal

pub returns-in-Some : goal.returns-in-Some
returns-in-Some c = λ modules. firsts_there modules c.args.firsts.now (c.args.url, c.args.answer) c.in-Some._number
    (sym c.in-Some.ensures.value)

pub returns-in_ok-add-in-None : goal.returns-in_ok-add-in-None
returns-in_ok-add-in-None c = λ modules. firsts_new modules c.args.firsts.now c.add.new.all (c.args.url, c.args.answer)
    c.in_ok-add-in-None.ensures.ok
