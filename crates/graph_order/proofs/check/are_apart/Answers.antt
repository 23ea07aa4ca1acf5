-- No module comes twice.
use Rattle.std.proofs.Common.{◌≡◌, ◌∙◌, ◌++◌, ◌∷◌, [], sym, ap, subst, take, drop, map, ◌+◌, false, List}
use Rattle.std.specs.Prelude.{is_some}
use Rattle.graph_builder.specs.Rules.{Specifier}
use Rattle.graph_builder.specs.Reach.{has}
use Rattle.graph_entry.specs.Specifier.{text_of}
use Rattle.graph_order.specs.Order.{modules, AreApart, edge_of}
use Rattle.graph_order.proofs.CheckLemmas.{has_number, apart_at, apart_push, edges_next, edges_split, modules-append, keys_next}
use Rattle.graph_order.proofs.check.are_apart.Goals as goal

pub returns-then-is_some : goal.returns-then-is_some
returns-then-is_some c = (
  λ e. absurd cc,
  λ apart. absurd
      (let split = ap modules (edges_split c.args.edges.now c.loop-edge.edge-index c.edge-item.result
      c.loop-edge-test.true c.edge-item.is)
      ∙ modules-append (map edge_of (take c.loop-edge.edge-index c.args.edges.now))
      (edge_of c.edge-item.result ∷ map edge_of (drop (c.loop-edge.edge-index + 1) c.args.edges.now)) in
      let new = apart_at (modules (map edge_of (take c.loop-edge.edge-index c.args.edges.now)))
      (text_of c.edge-item.result.module) _ (subst AreApart split apart) in
      let same = ap (λ (ts : List Specifier). has ts (text_of c.edge-item.result.module)) c.loop-edge.invariant.met in
      let among = has_number c.loop-edge.met (text_of c.edge-item.result.module) in
      let number = c.number.ensures.value in
      let there = sym c.is_some.ensures ∙ c.if-is_some.true in cc),
)

pub loop-edge-preserved : goal.loop-edge-preserved
loop-edge-preserved c =
    let next = ap modules (edges_next c.args.edges.now c.loop-edge.edge-index c.edge-item.result c.loop-edge-test.true
    c.edge-item.is)
    ∙ modules-append (map edge_of (take c.loop-edge.edge-index c.args.edges.now)) (edge_of c.edge-item.result ∷ []) in
    let none : has (modules (map edge_of (take c.loop-edge.edge-index c.args.edges.now)))
    (text_of c.edge-item.result.module) ≡ false
    = ap (λ (ts : List Specifier). has ts (text_of c.edge-item.result.module)) (sym c.loop-edge.invariant.met)
    ∙ has_number c.loop-edge.met (text_of c.edge-item.result.module) ∙ ap is_some (sym c.number.ensures.value)
    ∙ sym c.is_some.ensures ∙ c.if-is_some.false in
    record {
      met = keys_next _ _ c.edge-item.result.module c.in_ok-add_name.ensures
          ∙ ap (λ (ts : List Specifier). ts ++ text_of c.edge-item.result.module ∷ []) c.loop-edge.invariant.met
          ∙ sym next;
      apart = subst AreApart (sym next)
          (apart_push (modules (map edge_of (take c.loop-edge.edge-index c.args.edges.now)))
          (text_of c.edge-item.result.module) c.loop-edge.invariant.apart none);
    }
