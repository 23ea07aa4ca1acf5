use Rattle.std.proofs.Common.{rules, ◌≡◌, ◌++◌, ◌∷◌, [], true, subst, Ok}
use Rattle.graph_builder.specs.Graph.{texts}
use Rattle.graph_builder.specs.contracts.unlogged_loader.UnloggedLoader.{the_view}
use Rattle.graph_builder.specs.Memory.{Memory, text_log, noted, IsOrderOf}
use Rattle.graph_builder.proofs.MemoryLemmas.{kept_request, noted_more, started_data, started_exact}
use Rattle.graph_builder.proofs.unlogged_loader.UnloggedLoaderLoader.start.Goals as goal

pub invariant_of-self-2 : goal.invariant_of-self-2
invariant_of-self-2 c =
    let waiting : c.ask.new.self.waiting ≡ c.self.inside.requests.waiting ++ c.args.specifier.now ∷ [] = search rules in
    kept_request _ _ _ _ _ _ _ _ _ _ c.args.specifier.now c.self.invariant
    (noted_more _ _ true c.and-self-inside.ensures)
    (noted_more _ _ c.args.specifier.now c.and-self-inside-2.ensures) waiting

pub returns-clause-exact : goal.returns-clause-exact
returns-clause-exact c =
    let waiting : c.ask.new.self.waiting ≡ c.self.inside.requests.waiting ++ c.args.specifier.now ∷ [] = search rules in
    rw (← c.self.view_is)
    (started_exact (the_view c.self.inside) c.args.specifier.now (noted c.and-self-inside.result.items)
    (noted c.and-self-inside-2.result.items) c.ask.new.self.waiting (noted_more _ _ true c.and-self-inside.ensures)
    (noted_more _ _ c.args.specifier.now c.and-self-inside-2.ensures) waiting)

pub returns-clause-started : goal.returns-clause-started
returns-clause-started c =
    started_data c.args.self.now (the_view record {
      firsts = c.self.inside.firsts;
      given = c.self.inside.given;
      arrival = c.self.inside.arrival;
      next = c.self.inside.next;
      requests = c.ask.new.self;
      order = c.and-self-inside.result;
      asked = c.and-self-inside-2.result;
      log = c.self.inside.log;
      pending = c.self.inside.pending;
      stood_asked = c.self.inside.stood_asked;
      stood_log = c.self.inside.stood_log;
    }) c.args.specifier.now (Ok tt)
    (subst (λ (m : Memory). IsOrderOf m.order (texts m.asked) (text_log m.log)) c.self.view_is c.self.invariant.ordered)
    (returns-clause-exact c)
