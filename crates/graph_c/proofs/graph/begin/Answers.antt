use Rattle.graph_c.proofs.GraphLemmas.{has_none, news_done, news_refused}
use Rattle.graph_c.proofs.graph.begin.Goals as goal

-- the handle has the session of the settings
pub returns-in-Ok : goal.returns-in-Ok
returns-in-Ok c = news_done _ _ _ _ c.in-Ok.held.value
    (has_none _ _ c.if-graph.false c.args.graph.now.agrees) c.holding.ensures c.in-Ok.ensures.new

-- the settings are refused
pub returns-in-Err : goal.returns-in-Err
returns-in-Err c = news_refused _ _ _ _ c.in-Err.fault _ _
    (has_none _ _ c.if-graph.false c.args.graph.now.agrees) c.in-Err.ensures.refused c.refuse.ensures
