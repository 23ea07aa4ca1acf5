use Rattle.std.proofs.Common.{rules, ◌≡◌, ◌≤◌, false, sym, ap, ap₂, subst, ◌∙◌, drop, length, List, Some, None, Ok, arith, refl}
use Rattle.std.specs.Option.{option_copied}
use Rattle.url.specs.Parts.{Parts}
use Rattle.graph_entry.specs.declared.answer.LoadAnswer.{LoadAnswer}
use Rattle.graph_builder.specs.declared.memory_loader.Arrival.{Arrival}
use Rattle.graph_builder.specs.declared.loader.LoaderPoll.TheVariants.{Pending, Answer}
use Rattle.graph_builder.specs.contracts.unlogged_loader.UnloggedLoader.{the_view}
use Rattle.graph_builder.specs.Loader.{last_count}
use Rattle.graph_builder.specs.Memory.{Memory, next_answered, noted, IsPolled}
use Rattle.graph_builder.proofs.MemoryLemmas.{kept_answer, noted_more, polled_answer, polled_pending, polled_view}
use Rattle.graph_builder.proofs.unlogged_loader.UnloggedLoaderLoader.poll.Goals as goal

pub returns-in_default-clause-exact : goal.returns-in_default-clause-exact
returns-in_default-clause-exact c =
    let none : (next_answered c.self.inside.requests.waiting (drop c.self.inside.next c.self.inside.arrival)).0 ≡ None =
    search rules in
    let rest : drop c.turn-after.result.1 c.self.inside.arrival
    ≡ (next_answered c.self.inside.requests.waiting (drop c.self.inside.next c.self.inside.arrival)).1 =
    subst (λ (a : List Arrival). drop c.turn-after.result.1 a
    ≡ (next_answered c.self.inside.requests.waiting (drop c.self.inside.next a)).1) c.as_slice.ensures
    c.turn-after.ensures.rest in
    rw (← c.self.view_is)
    (polled_pending (the_view c.self.inside) (drop c.turn-after.result.1 c.self.inside.arrival)
    c.saturating_add-self-inside.result
    (length (noted c.again-self-inside.result.items), length c.again-self-inside-in_default.result.items) none rest
    (search rules)
    (ap₂ (λ (us : List (Parts × Unit {0})) (ls : List (Parts × LoadAnswer)). (length (noted us), length ls))
    c.again-self-inside.ensures c.again-self-inside-in_default.ensures))

pub returns-in_default-clause-polled : goal.returns-in_default-clause-polled
returns-in_default-clause-polled c =
    let within : c.self.inside.pending ≤ last_count = omega arith in
    let later : Memory = (the_view record {
      firsts = c.self.inside.firsts;
      given = c.self.inside.given;
      arrival = c.self.inside.arrival;
      next = c.turn-after.result.1;
      requests = c.self.inside.requests;
      order = c.self.inside.order;
      asked = c.self.inside.asked;
      log = c.self.inside.log;
      pending = c.saturating_add-self-inside.result;
      stood_asked = c.again-self-inside.result;
      stood_log = c.again-self-inside-in_default.result;
    }) in
    rw (← c.self.view_is)
    (polled_view c.self.inside.given.items c.self.inside.firsts c.self.inside.arrival c.self.inside.next
    (the_view c.self.inside) later (Ok Pending) within
    c.self.invariant refl refl (subst (λ (m : Memory). IsPolled m (Ok Pending) later) (sym c.self.view_is)
    (returns-in_default-clause-exact c)))

pub invariant_of-self-2 : goal.invariant_of-self-2
invariant_of-self-2 c =
    let answered : option_copied c.turn-after.result.0
    ≡ (next_answered c.self.inside.requests.waiting (drop c.self.inside.next c.self.inside.arrival)).0 =
    subst (λ (a : List Arrival). option_copied c.turn-after.result.0
    ≡ (next_answered c.self.inside.requests.waiting (drop c.self.inside.next a)).0) c.as_slice.ensures
    c.turn-after.ensures.answered in
    kept_answer _ _ _ c.self.inside.next _ _ _ _ _ _ _ (c.in_ok-url.url, c.in_ok-answer.answer) c.in_ok-url.url
    c.self.invariant (noted_more _ _ false c.and-self-inside.ensures) c.and-self-inside-2.ensures refl c.settle.ensures
    (sym answered ∙ ap option_copied c.in-Some.is ∙ ap Some (sym c.in_ok-url.ensures.cases))

pub returns-clause-exact : goal.returns-clause-exact
returns-clause-exact c =
    let rest : drop c.turn-after.result.1 c.self.inside.arrival
    ≡ (next_answered c.self.inside.requests.waiting (drop c.self.inside.next c.self.inside.arrival)).1 =
    subst (λ (a : List Arrival). drop c.turn-after.result.1 a
    ≡ (next_answered c.self.inside.requests.waiting (drop c.self.inside.next a)).1) c.as_slice.ensures
    c.turn-after.ensures.rest in
    let answered : option_copied c.turn-after.result.0
    ≡ (next_answered c.self.inside.requests.waiting (drop c.self.inside.next c.self.inside.arrival)).0 =
    subst (λ (a : List Arrival). option_copied c.turn-after.result.0
    ≡ (next_answered c.self.inside.requests.waiting (drop c.self.inside.next a)).0) c.as_slice.ensures
    c.turn-after.ensures.answered in
    rw (← c.self.view_is)
    (polled_answer (the_view c.self.inside) c.self.inside.firsts c.in_ok-url.url c.in_ok-answer.answer
    (drop c.turn-after.result.1 c.self.inside.arrival) (noted c.and-self-inside.result.items)
    c.and-self-inside-2.result.items c.settle.new.requests.waiting
    (sym answered ∙ ap option_copied c.in-Some.is ∙ ap Some (sym c.in_ok-url.ensures.cases)) c.self.invariant.index
    c.in_ok-answer.ensures rest (noted_more _ _ false c.and-self-inside.ensures) c.and-self-inside-2.ensures
    c.settle.ensures)

pub returns-clause-polled : goal.returns-clause-polled
returns-clause-polled c =
    let within : c.self.inside.pending ≤ last_count = omega arith in
    let later : Memory = (the_view record {
      firsts = c.self.inside.firsts;
      given = c.self.inside.given;
      arrival = c.self.inside.arrival;
      next = c.turn-after.result.1;
      requests = c.settle.new.requests;
      order = c.and-self-inside.result;
      asked = c.self.inside.asked;
      log = c.and-self-inside-2.result;
      pending = c.self.inside.pending;
      stood_asked = c.self.inside.stood_asked;
      stood_log = c.self.inside.stood_log;
    }) in
    rw (← c.self.view_is)
    (polled_view c.self.inside.given.items c.self.inside.firsts c.self.inside.arrival c.self.inside.next
    (the_view c.self.inside) later
    (Ok (Answer c.in_ok-url.url c.in_ok-answer.answer)) within c.self.invariant refl refl
    (subst (λ (m : Memory). IsPolled m (Ok (Answer c.in_ok-url.url c.in_ok-answer.answer)) later) (sym c.self.view_is)
    (returns-clause-exact c)))
