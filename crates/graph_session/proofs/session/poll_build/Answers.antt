use Rattle.graph_session.proofs.SessionLemmas.{heard, takes, ends}
use Rattle.graph_session.proofs.session.poll_build.Goals as goal

-- by what the builder promises, and what both keep
pub returns : goal.returns
returns g c = record {
  history = c.poll-polled.ensures.history;
  ends = ends _ _ _ _ c.poll-polled.ensures.graph c.poll-polled.ensures.roots c.poll-polled.ensures.imports
      c.poll-polled.ensures.firsts c.poll-polled.ensures.orderly c.poll-polled.ensures.asked
      c.poll-polled.ensures.answered
      c.poll-polled.ensures.limit c.poll-polled.ensures.not_yet c.poll-polled.ensures.too_many
      c.poll-polled.ensures.fair
      c.poll-polled.ensures.finished c.poll-polled.ensures.idle;
  later = c.poll-polled.ensures.later;
  finished = c.poll-polled.ensures.finished;
  heard = λ fresh. heard _ _ fresh c.know.ensures c.know-2.ensures c.poll-polled.ensures.history
      c.poll-polled.ensures.asking.once c.poll-polled.ensures.telling;
  takes = λ fresh. takes _ _ fresh c.know.ensures c.know-2.ensures c.poll-polled.ensures.history _
      c.poll-polled.ensures.asking.once c.poll-polled.ensures.telling c.poll-polled.ensures.answered
      (λ e. ((c.poll-polled.ensures.not_yet e).counted, (c.poll-polled.ensures.not_yet e).outstanding));
}
