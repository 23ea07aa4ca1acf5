use Rattle.std.proofs.Common.{◌≡◌}
use Rattle.graph_builder.specs.Memory.{tells, data_of}
use Rattle.graph_run.specs.Steps.{IsNew, waits_left}
use Rattle.forms_build.proofs.build.poll_forms.Given as goal

-- the builder keeps what it follows, its roots, what places outside import, where it starts, its limit and what its loader tells, and goes on
abbrev pub invariant-polls : goal.invariant-polls
invariant-polls g l = record {
  new : IsNew (data_of l.build.inner.loader) l.build.inner;
  following : l.build.inner.following ≡ l.initial.build.inner.following;
  roots : l.build.inner.roots ≡ l.initial.build.inner.roots;
  imports : l.build.inner.imports ≡ l.initial.build.inner.imports;
  starting : l.build.inner.starting ≡ l.initial.build.inner.starting;
  limit : l.build.inner.limit ≡ l.initial.build.inner.limit;
  told : tells l.build.inner.loader.modules ≡ tells l.initial.build.inner.loader.modules;
}

-- each wait takes one of those that the loader tells
abbrev pub decreases-polls : goal.decreases-polls
decreases-polls g l = waits_left l.build.inner.patience
