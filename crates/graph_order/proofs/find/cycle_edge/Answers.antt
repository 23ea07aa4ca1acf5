-- The edge is the link's.
use Rattle.std.proofs.Common.{◌≡◌, ◌∙◌, ◌<◌, refl, sym, ap, subst, length, List, Some, None}
use Rattle.std.specs.Prelude.{option_map}
use Rattle.std.specs.Option.{option_copied}
use Rattle.std.specs.List.{filter_map}
use Rattle.graph_entry.specs.Specifier.{text_of}
use Rattle.graph_entry.specs.declared.entry.Dependency.{Dependency}
use Rattle.graph_order.specs.Order.{edge_of}
use Rattle.graph_order.specs.Names.{Names, named, name_of, sees, edge_at}
use Rattle.graph_order.proofs.FoundLemmas.{edge_found, edge_parts, same_edge, some_one}
use Rattle.graph_order.proofs.find.cycle_edge.Goals as goal

pub nth_static-dependency-requires-clause-nth : goal.nth_static-dependency-requires-clause-nth
nth_static-dependency-requires-clause-nth c =
    subst (λ (ds : List Dependency). c.args.link < length
    (filter_map (sees (named c.args.graph.now.entries) c.args.graph.now.entries) ds))
    (sym c.edges_at-all.ensures)
    (edge_found c.args.graph.now.entries c.requires.ascending (named c.args.graph.now.entries) refl c.args.node
    c.args.link
    c.requires.link (text_of c.in_ok-module.module) (ap text_of c.in_ok-module.ensures.cases ∙ c.url_of.ensures
    ∙ ap (λ (ns : Names). name_of ns c.args.node) c.requires.named)).low

pub unreachable-requires : goal.unreachable-requires
unreachable-requires c =
    let parts = edge_parts c.args.graph.now.entries c.requires.ascending (named c.args.graph.now.entries) refl
    c.args.node
    c.args.link c.requires.link (text_of c.in_ok-module.module)
    (ap text_of c.in_ok-module.ensures.cases ∙ c.url_of.ensures
    ∙ ap (λ (ns : Names). name_of ns c.args.node) c.requires.named) c.edges_at-all.result.now
    c.nth_static-dependency.result c.edges_at-all.ensures c.nth_static-dependency.ensures in
    let both : None ≡ Some (edge_at c.args.graph.now.entries (c.args.node, c.args.link)).to
    = ap (λ r. option_map text_of (option_copied r)) (sym c.in-None.is) ∙ c.target_of.ensures ∙ parts.0 in cc

pub returns : goal.returns
returns c =
    let parts = edge_parts c.args.graph.now.entries c.requires.ascending (named c.args.graph.now.entries) refl
    c.args.node
    c.args.link c.requires.link (text_of c.in_ok-module.module)
    (ap text_of c.in_ok-module.ensures.cases ∙ c.url_of.ensures
    ∙ ap (λ (ns : Names). name_of ns c.args.node) c.requires.named) c.edges_at-all.result.now
    c.nth_static-dependency.result c.edges_at-all.ensures c.nth_static-dependency.ensures in
    let to : Some (text_of c.in-Some.target.now) ≡ Some (edge_at c.args.graph.now.entries (c.args.node, c.args.link)).to
    = ap (λ r. option_map text_of (option_copied r)) (sym c.in-Some.is) ∙ c.target_of.ensures ∙ parts.0 in
    let edge = edge_at c.args.graph.now.entries (c.args.node, c.args.link) in
    let from : text_of c.in_ok-module.module ≡ edge.from
    = (edge_found c.args.graph.now.entries c.requires.ascending (named c.args.graph.now.entries) refl c.args.node
    c.args.link c.requires.link (text_of c.in_ok-module.module)
    (ap text_of c.in_ok-module.ensures.cases ∙ c.url_of.ensures
    ∙ ap (λ (ns : Names). name_of ns c.args.node) c.requires.named)).from in
    let copied : text_of c.in_ok-clone-in-Some.field-0 ≡ text_of c.in-Some.target.now
    = ap text_of c.in_ok-clone-in-Some.ensures.cases in
    same_edge (edge_of (record {
      «module» = c.in_ok-module.module;
      dependency = c.nth_static-dependency.result;
      target = c.in_ok-clone-in-Some.field-0;
    })) edge.from edge.place edge.to from parts.1
    (copied ∙ some_one (text_of c.in-Some.target.now) edge.to to)
