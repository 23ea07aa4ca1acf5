use Rattle.std.proofs.Common.{rules, ◌≡◌, ◌∙◌, ap, subst, refl, true, false, Bool, List, slice_get, Some}
use Rattle.url.specs.Parts.{Parts}
use Rattle.graph_session.specs.contracts.loader.AskedLoader.{the_view}
use Rattle.graph_session.proofs.AskingLemmas.{item_at, kept_given, taken_for}
use Rattle.graph_session.proofs.loader.AskedLoader.give.Goals as goal

-- an open request is closed
pub invariant_of-self-in-Some-true : goal.invariant_of-self-in-Some-true
invariant_of-self-in-Some-true c =
    let mark : c.in-Some-true.field-0.now ≡ true = search rules in
    let is : slice_get c.self.inside.marks.items c.args.number ≡ Some true =
    subst (λ (marks : List Bool). slice_get marks c.args.number ≡ Some true) c.deref.ensures.value
    (item_at _ _ c.in-Some-true.field-0 c.in-Some-true.ensures.lookup ∙ ap Some mark) in
    let copied : c.in-Some.url.now ≡ c.in_ok-url-in-Some-true.url = search rules in
    let here : slice_get c.self.inside.asked.items c.args.number ≡ Some c.in_ok-url-in-Some-true.url =
    subst (λ (asked : List Parts). slice_get asked c.args.number ≡ Some c.in_ok-url-in-Some-true.url)
    c.deref-in-Some-true.ensures.value (item_at _ _ c.in-Some.url c.in-Some.ensures.lookup ∙ ap Some copied) in
    kept_given (the_view c.self.inside) _ c.args.number c.in_ok-url-in-Some-true.url c.args.answer c.self.invariant is
    here
    (rw (c.and-given.ensures, c.in-Ok.ensures.items, c.again-self-inside.ensures) refl)

pub returns-in-Ok-clause-given : goal.returns-in-Ok-clause-given
returns-in-Ok-clause-given c =
    let mark : c.in-Some-true.field-0.now ≡ true = search rules in
    let is : slice_get c.self.inside.marks.items c.args.number ≡ Some true =
    subst (λ (marks : List Bool). slice_get marks c.args.number ≡ Some true) c.deref.ensures.value
    (item_at _ _ c.in-Some-true.field-0 c.in-Some-true.ensures.lookup ∙ ap Some mark) in
    let copied : c.in-Some.url.now ≡ c.in_ok-url-in-Some-true.url = search rules in
    let here : slice_get c.self.inside.asked.items c.args.number ≡ Some c.in_ok-url-in-Some-true.url =
    subst (λ (asked : List Parts). slice_get asked c.args.number ≡ Some c.in_ok-url-in-Some-true.url)
    c.deref-in-Some-true.ensures.value (item_at _ _ c.in-Some.url c.in-Some.ensures.lookup ∙ ap Some copied) in
    rw (← c.self.view_is) (
      is,
      taken_for (the_view c.self.inside) _ c.args.number c.in_ok-url-in-Some-true.url c.args.answer here
          (rw (c.and-given.ensures, c.in-Ok.ensures.items, c.again-self-inside.ensures) refl),
    )

-- one that has an answer stays
pub returns-in-Some-false-clause-given : goal.returns-in-Some-false-clause-given
returns-in-Some-false-clause-given c =
    let mark : c.in-Some-false.field-0.now ≡ false = search rules in
    let is : slice_get c.self.inside.marks.items c.args.number ≡ Some false =
    subst (λ (marks : List Bool). slice_get marks c.args.number ≡ Some false) c.deref.ensures.value
    (item_at _ _ c.in-Some-false.field-0 c.in-Some-false.ensures.lookup ∙ ap Some mark) in
    rw (← c.self.view_is) (is, refl)
