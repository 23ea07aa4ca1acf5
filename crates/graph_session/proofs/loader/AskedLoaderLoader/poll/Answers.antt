use Rattle.std.proofs.Common.{◌≡◌, refl, subst, Ok}
use Rattle.graph_entry.specs.declared.answer.LoadAnswer.{LoadAnswer}
use Rattle.graph_builder.specs.declared.loader.LoaderPoll.TheVariants.{Answer}
use Rattle.graph_builder.specs.Loader.{HasPolled}
use Rattle.graph_session.specs.Asking.{data_of}
use Rattle.graph_session.specs.contracts.loader.AskedLoader.{the_view}
use Rattle.graph_session.proofs.AskingLemmas.{kept_taken, gave}
use Rattle.graph_session.proofs.loader.AskedLoaderLoader.poll.Goals as goal

-- the first of the answers is taken
pub invariant_of-self-2 : goal.invariant_of-self-2
invariant_of-self-2 c =
    kept_taken (the_view c.self.inside) _ c.in-Some.url c.in-Some.answer c.pop_front.new.self.items c.self.invariant
    c.in-Some.ensures.items (rw c.and-self-inside-2.ensures refl)

pub returns-clause-polled : goal.returns-clause-polled
returns-clause-polled c =
    let e = c.in-Some-given.is in
    let same : c.in-Some.answer ≡ c.in-Some-given.answer = cc in
    rw (← c.self.view_is)
    (subst (λ (a : LoadAnswer). HasPolled (data_of (the_view c.self.inside)) (data_of (the_view record {
      asked = c.self.inside.asked;
      marks = c.self.inside.marks;
      ready = c.pop_front.new.self;
      given = c.self.inside.given;
      noted = c.and-self-inside-2.result;
      stood = c.self.inside.stood;
      waits = c.self.inside.waits;
      since = c.self.inside.since;
    })) (Ok (Answer c.in-Some.url a))) same
    (gave (the_view c.self.inside) (the_view record {
      asked = c.self.inside.asked;
      marks = c.self.inside.marks;
      ready = c.pop_front.new.self;
      given = c.self.inside.given;
      noted = c.and-self-inside-2.result;
      stood = c.self.inside.stood;
      waits = c.self.inside.waits;
      since = c.self.inside.since;
    }) c.in-Some.url c.in-Some.answer c.pop_front.new.self.items c.self.invariant
    c.in-Some.ensures.items (rw c.and-self-inside-2.ensures refl)))
