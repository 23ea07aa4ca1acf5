use Rattle.std.proofs.Common.{sym, ◌∙◌, ap, Option}
use Rattle.std.specs.Prelude.{option_map}
use Rattle.graph_entry.specs.Specifier.{text_of}
use Rattle.graph_builder.specs.declared.links.Stop.{Stop}
use Rattle.graph_builder.proofs.SettlingLemmas.{resolved_on, resolved_ends, resolved_whole}
use Rattle.graph_builder.proofs.graph.resolve_in.Goals as goal

pub loop-preserved : goal.loop-preserved
loop-preserved c = record {
  to = resolved_on c.args.all.now 10 c.loop.counter (text_of c.loop.at.specifier.now)
      (text_of c.in-Some.next.specifier.now) _ c.loop-test.true
      (sym c.redirect_in.ensures.to
      ∙ ap (λ (r : Option Stop). option_map (λ next. text_of next.specifier.now) r) c.in-Some.is) c.loop.invariant.to;
  stop = c.in-Some.ensures.stop;
}

pub returns-in-None-clause-to : goal.returns-in-None-clause-to
returns-in-None-clause-to c =
    resolved_ends c.args.all.now 10 c.loop.counter (text_of c.loop.at.specifier.now) _ c.loop-test.true
    (sym c.redirect_in.ensures.to
    ∙ ap (λ (r : Option Stop). option_map (λ next. text_of next.specifier.now) r) c.in-None.is) c.loop.invariant.to

pub returns-clause-to : goal.returns-clause-to
returns-clause-to c =
    resolved_whole c.args.all.now 10 c.loop.counter (text_of c.loop.at.specifier.now) _ c.loop-test.false
    c.loop.invariant.to
