-- The clauses of the poll, in terms of the builder that was given.
use Rattle.forms_build.proofs.GraphLemmas.{graph_again, roots_again, imports_again, within_again, large_again}
use Rattle.forms_build.proofs.build.graph_by.Goals as goal

pub returns-clause-graph : goal.returns-clause-graph
returns-clause-graph g c =
    graph_again g.R.KindResolver.resolving_by_kind c.args.is_allowed c.args.resolver c.args.analyzer c.args.build.inner
    c.in_ok-build.build.inner c.in_ok-build.ensures.again c.poll_forms.result c.poll_forms.ensures.graph

pub returns-clause-roots : goal.returns-clause-roots
returns-clause-roots g c =
    roots_again g.R.KindResolver.resolving_by_kind c.args.is_allowed c.args.resolver c.args.analyzer c.args.build.inner
    c.in_ok-build.build.inner c.in_ok-build.ensures.again c.poll_forms.result c.poll_forms.ensures.roots

pub returns-clause-imports : goal.returns-clause-imports
returns-clause-imports g c =
    imports_again g.R.KindResolver.resolving_by_kind c.args.is_allowed c.args.resolver c.args.analyzer c.args.build.inner
    c.in_ok-build.build.inner c.in_ok-build.ensures.again c.poll_forms.result c.poll_forms.ensures.imports

pub returns-clause-within : goal.returns-clause-within
returns-clause-within g c =
    within_again g.R.KindResolver.resolving_by_kind c.args.is_allowed c.args.resolver c.args.analyzer c.args.build.inner
    c.in_ok-build.build.inner c.in_ok-build.ensures.again c.poll_forms.result c.poll_forms.ensures.within

pub returns-clause-large : goal.returns-clause-large
returns-clause-large g c =
    large_again g.R.KindResolver.resolving_by_kind c.args.is_allowed c.args.resolver c.args.analyzer c.args.build.inner
    c.in_ok-build.build.inner c.in_ok-build.ensures.again c.poll_forms.result c.poll_forms.ensures.large
