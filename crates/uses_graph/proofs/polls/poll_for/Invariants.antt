use Rattle.std.proofs.Common.{◌≡◌}
use Rattle.uses_graph.proofs.polls.poll_for.Given as goal

-- the builder keeps what it follows, and where it starts
abbrev pub invariant-loop : goal.invariant-loop
invariant-loop g l = record {
  following : l.build.inner.following ≡ l.initial.build.inner.following;
  starting : l.build.inner.starting ≡ l.initial.build.inner.starting;
}
