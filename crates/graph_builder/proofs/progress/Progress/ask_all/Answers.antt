use Rattle.graph_builder.specs.Progress.{at}
use Rattle.graph_builder.proofs.ProgressLemmas.{only_asks_same, only_asks_more, asks_all_err}
use Rattle.graph_builder.proofs.progress.Progress.ask_all.Goals as goal

pub asking-init : goal.asking-init
asking-init g c = record
    { live = c.requires.live; asks = only_asks_same (at (g.L.Loader.seen c.args.loader.now) c.args.self.now) }

pub asking-preserved : goal.asking-preserved
asking-preserved g c =
    let next = rw c.in-Ok-true.field-0-test at c.in-Ok-true.ensures.next in record {
      live = next.live;
      asks = only_asks_more _ _ _ c.asking.invariant.asks c.ask_next.ensures.asks;
    }

pub returns-in-Ok-false-clause-asks : goal.returns-in-Ok-false-clause-asks
returns-in-Ok-false-clause-asks g c = only_asks_more _ _ _ c.asking.invariant.asks c.ask_next.ensures.asks

pub returns-in-Err-clause-asks : goal.returns-in-Err-clause-asks
returns-in-Err-clause-asks g c = only_asks_more _ _ _ c.asking.invariant.asks c.ask_next.ensures.asks

pub returns-in-Err-clause-all : goal.returns-in-Err-clause-all
returns-in-Err-clause-all g c =
    asks_all_err (at (g.L.Loader.seen c.args.loader.now) c.args.self.now)
    (at (g.L.Loader.seen c.asking.loader) c.asking.self)
    (at (g.L.Loader.seen c.ask_next.new.loader) c.ask_next.new.self) c.in-Err.error c.requires.live.kept
    c.asking.invariant.asks c.in-Err.ensures.next
