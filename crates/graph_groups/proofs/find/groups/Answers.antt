use Rattle.std.proofs.Common.{◌∙◌, ap, refl, map}
use Rattle.graph_builder.specs.Graph.{texts}
use Rattle.graph_order.specs.Names.{named, named_at}
use Rattle.graph_order.proofs.CheckLemmas.{IfOk-map}
use Rattle.graph_order.proofs.FoundLemmas.{within_at}
use Rattle.graph_groups.proofs.FoundLemmas.{members_at, groups_at}
use Rattle.graph_groups.proofs.find.groups.Goals as goal

pub components-requires : goal.components-requires
components-requires c =
    within_at c.args.graph.now.entries c.in_ok-names.ensures.ascending (named c.args.graph.now.entries) refl
    c.in_ok-links.links c.as_slice-targets.result.now c.in_ok-links.ensures c.as_slice-targets.ensures

pub named_groups-requires : goal.named_groups-requires
named_groups-requires c =
    members_at c.args.graph.now.entries c.in_ok-names.ensures.ascending c.as_slice-urls.result.now
    (ap named_at c.as_slice-urls.ensures.value ∙ c.in_ok-names.ensures.named) c.in_ok-links.links
    c.as_slice-targets.result.now c.in_ok-links.ensures c.as_slice-targets.ensures c.in_ok-found.found
    c.as_slice-numbered.result.now c.in_ok-found.ensures c.as_slice-numbered.ensures

pub returns : goal.returns
returns c =
    IfOk-map c.named_groups.result _ _
    (λ groups is.
    groups_at c.args.graph.now.entries c.in_ok-names.ensures.ascending c.as_slice-urls.result.now
    (ap named_at c.as_slice-urls.ensures.value ∙ c.in_ok-names.ensures.named) c.in_ok-links.links
    c.as_slice-targets.result.now c.in_ok-links.ensures c.as_slice-targets.ensures c.in_ok-found.found
    c.as_slice-numbered.result.now c.in_ok-found.ensures c.as_slice-numbered.ensures (map texts groups) is)
    c.named_groups.ensures
