-- The builder's clauses, over what its loader tells.
use Rattle.std.proofs.Common.{rules, ◌∙◌}
use Rattle.graph_entry.proofs.Theorems.{analysed_by_once}
use Rattle.graph_builder.specs.Builder.{starts}
use Rattle.graph_builder.specs.Memory.{tells}
use Rattle.forms_analyzer.specs.Laws.{reads_by_once}
use Rattle.forms_build.specs.Forms.{ways_of, rules_in}
use Rattle.forms_build.proofs.GraphLemmas.{graph_kept, large_kept}
use Rattle.graph_run.proofs.GraphLemmas.{built_graph, refused_large, settled_none}
use Rattle.forms_build.proofs.build.poll_forms.Goals as goal

pub returns-then-not-is_not_yet-clause-graph : goal.returns-then-not-is_not_yet-clause-graph
returns-then-not-is_not_yet-clause-graph g c =
    let by = g.R.KindResolver.resolving_by_kind in
    let polled = c.poll_batched-answer in
    let new = c.poll_batched-answer.new.self.inner in
    graph_kept by c.args.build.now.inner.following c.polls.build.inner.following polled.result
    (starts c.args.build.now.inner) (tells c.args.build.now.inner.loader.modules) c.polls.invariant.following
    (built_graph (rules_in by c.polls.build.inner.following)
    (analysed_by_once (ways_of by c.polls.build.inner.following)
    (reads_by_once c.polls.build.inner.following.analyzer.forms
    c.polls.build.inner.following.analyzer.all_forms)) polled.result (starts c.polls.build.inner)
    (starts c.args.build.now.inner) new.log
    new.loader.modules c.args.build.now.inner.loader.modules c.polls.invariant.starting
    (polled.ensures.telling ∙ c.polls.invariant.told) polled.ensures.told polled.ensures.graph)

pub returns-then-not-is_not_yet-clause-large : goal.returns-then-not-is_not_yet-clause-large
returns-then-not-is_not_yet-clause-large g c =
    let by = g.R.KindResolver.resolving_by_kind in
    let polled = c.poll_batched-answer in
    let new = c.poll_batched-answer.new.self.inner in
    let old = c.polls.invariant.new in
    large_kept by c.args.build.now.inner.following c.polls.build.inner.following polled.result
    (starts c.args.build.now.inner) (tells c.args.build.now.inner.loader.modules) c.args.build.now.inner.limit
    c.polls.invariant.following
    (refused_large (rules_in by c.polls.build.inner.following) polled.result (starts c.polls.build.inner)
    (starts c.args.build.now.inner) new.log
    new.loader.modules c.args.build.now.inner.loader.modules c.polls.build.inner.limit c.args.build.now.inner.limit
    c.polls.invariant.starting c.polls.invariant.limit (polled.ensures.telling ∙ c.polls.invariant.told)
    polled.ensures.told
    polled.ensures.too_many
    (λ is. let yes = c.is_not_yet.ensures.1 is in search rules)
    (polled.ensures.fair old.fair (settled_none c.polls.build.inner.events_before old.events))
    (λ is. let over = polled.ensures.finished.0 is in let goes = old.goes_on in absurd cc))
