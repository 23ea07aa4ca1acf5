-- The rules of a graph with a caller's own resolver and analyser.
use Rattle.graph_entry.specs.Referrer.{referrer_resolves}
use Rattle.graph_entry.specs.Resolution.{Resolves, KindResolving}
use Rattle.graph_entry.specs.Reading.{Reading}
use Rattle.graph_entry.specs.Ways.{kind_ways_by}
use Rattle.graph_entry.specs.Analysed.{AnalysedBy}
use Rattle.graph_builder.specs.declared.own.Own.{Own}
use Rattle.graph_builder.specs.Reach.{Rules}
use Rattle.graph_builder.specs.Rules.{rules_by}

-- what the specifiers that referrers import lead to
abbrev pub own_resolves : {R M : Type 0} → (R → KindResolving) → Own R M → Resolves
own_resolves resolving own = referrer_resolves (resolving own.resolver)

-- the answers mean what the analysis says by these two
abbrev pub own_rules : {R M : Type 0} → (R → KindResolving) → (M → Reading) → Own R M → Rules
own_rules resolving reading own =
    rules_by (AnalysedBy (kind_ways_by (resolving own.resolver) (reading own.analyzer))) own.following
