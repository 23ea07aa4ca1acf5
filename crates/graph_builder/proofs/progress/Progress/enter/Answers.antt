use Rattle.graph_builder.specs.Progress.{at}
use Rattle.graph_builder.proofs.ProgressLemmas.{only_asks_more}
use Rattle.graph_builder.proofs.HandLemmas.{too_many_before}
use Rattle.graph_builder.proofs.progress.Progress.enter.Goals as goal

pub returns-in-Ok-ask_all-clause-asks : goal.returns-in-Ok-ask_all-clause-asks
returns-in-Ok-ask_all-clause-asks g c = only_asks_more _ _ _ c.fill_all.ensures.asks c.ask_all.ensures.asks

pub returns-in-Err-TooMany-ask_all-clause-enters : goal.returns-in-Err-TooMany-ask_all-clause-enters
returns-in-Err-TooMany-ask_all-clause-enters g c =
    too_many_before (at (g.L.Loader.seen c.args.loader.now) c.args.self.now)
    (at (g.L.Loader.seen c.fill_all.new.loader) c.fill_all.new.self) c.in-Err-TooMany-ask_all.seen
    c.requires.held.1.holding.kept c.fill_all.ensures.asks
    (rw c.in-Err-TooMany-ask_all.field-0-is at c.in-Err-TooMany-ask_all.ensures.all)

pub returns-in-Err-TooMany-ask_all-clause-asks : goal.returns-in-Err-TooMany-ask_all-clause-asks
returns-in-Err-TooMany-ask_all-clause-asks g c = only_asks_more _ _ _ c.fill_all.ensures.asks c.ask_all.ensures.asks

pub returns-in-Err-OutOfMemory-ask_all-clause-asks : goal.returns-in-Err-OutOfMemory-ask_all-clause-asks
returns-in-Err-OutOfMemory-ask_all-clause-asks g c = only_asks_more _ _ _ c.fill_all.ensures.asks c.ask_all.ensures.asks
