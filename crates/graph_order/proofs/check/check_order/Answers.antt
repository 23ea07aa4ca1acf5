-- Each stands behind those before it.
use Rattle.std.proofs.Common.{◌≡◌, ◌∙◌, ◌++◌, ◌∷◌, [], sym, ap, subst, take, rules, true, List}
use Rattle.std.proofs.lemmas.List.{take_all}
use Rattle.graph_builder.specs.Rules.{Specifier}
use Rattle.graph_builder.specs.Reach.{has}
use Rattle.graph_builder.specs.Graph.{texts}
use Rattle.graph_entry.specs.Specifier.{text_of}
use Rattle.graph_order.specs.Order.{IsFree, EachBehind}
use Rattle.graph_order.proofs.CheckLemmas.{number_none, each_push, each_at, texts_next, texts_split, keys_next, IfOk-map, holds_all, all_holds}
use Rattle.graph_order.proofs.check.check_order.Goals as goal

pub returns-then-not-may_stand : goal.returns-then-not-may_stand
returns-then-not-may_stand c = (
  λ e. absurd cc,
  λ order. absurd
      (let split = texts_split c.args.list.now c.loop-url.url-index c.url-item.result c.loop-url-test.true
      c.url-item.is in
      let stands : IsFree c.args.graph.now.entries (texts (take c.loop-url.url-index c.args.list.now))
      (text_of c.url-item.result)
      = each_at (IsFree c.args.graph.now.entries) [] (texts (take c.loop-url.url-index c.args.list.now))
      (text_of c.url-item.result) _
      (subst (EachBehind (IsFree c.args.graph.now.entries) []) split order.each) in
      let yes : c.may_stand.result ≡ true
      = c.may_stand.ensures.1 (subst (λ (fs : List Specifier). IsFree c.args.graph.now.entries fs
      (text_of c.url-item.result)) (sym c.loop-url.invariant.placed) stands) in
      search rules),
)

pub add_name-requires : goal.add_name-requires
add_name-requires c =
    let yes : c.may_stand.result ≡ true = search rules in
    number_none _ _ (c.may_stand.ensures.0 yes).open_yet

pub loop-url-preserved : goal.loop-url-preserved
loop-url-preserved c =
    let yes : c.may_stand.result ≡ true = search rules in
    let next = texts_next c.args.list.now c.loop-url.url-index c.url-item.result c.loop-url-test.true c.url-item.is in
    let stands : IsFree c.args.graph.now.entries (texts (take c.loop-url.url-index c.args.list.now))
    (text_of c.url-item.result)
    = subst (λ (fs : List Specifier). IsFree c.args.graph.now.entries fs (text_of c.url-item.result))
    c.loop-url.invariant.placed (c.may_stand.ensures.0 yes) in
    record {
      placed = keys_next _ _ c.url-item.result c.in_ok-add_name.ensures
          ∙ ap (λ (ts : List Specifier). ts ++ text_of c.url-item.result ∷ []) c.loop-url.invariant.placed ∙ sym next;
      each = subst (EachBehind (IsFree c.args.graph.now.entries) []) (sym next)
          (each_push (IsFree c.args.graph.now.entries) [] (texts (take c.loop-url.url-index c.args.list.now))
          (text_of c.url-item.result) c.loop-url.invariant.each stands);
    }

pub returns : goal.returns
returns c =
    let whole = ap texts (take_all c.loop-url.url-index c.args.list.now c.loop-url-test.false) in
    let keys = c.loop-url.invariant.placed ∙ whole in
    IfOk-map c.has_all.result _ _
    (λ yes said. (
      λ is. record {
        all = λ s there. ap (λ (ts : List Specifier). has ts s) (sym keys)
            ∙ holds_all c.args.graph.now.entries c.has_all.ensures.ascending _ (said.0 is) s there;
        each = subst (EachBehind (IsFree c.args.graph.now.entries) []) whole c.loop-url.invariant.each;
      },
      λ order. said.1 (all_holds c.args.graph.now.entries c.has_all.ensures.ascending _
          (λ s there. ap (λ (ts : List Specifier). has ts s) keys ∙ order.all s there)),
    )) c.has_all.ensures.each
