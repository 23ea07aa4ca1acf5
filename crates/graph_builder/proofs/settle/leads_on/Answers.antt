use Rattle.std.proofs.Common.{sym, ◌∙◌, ap, Option}
use Rattle.std.specs.Prelude.{is_some, option_map}
use Rattle.graph_entry.specs.Specifier.{text_of}
use Rattle.graph_builder.specs.declared.links.Stop.{Stop}
use Rattle.graph_builder.specs.Graph.{redirected}
use Rattle.graph_builder.proofs.SettlingLemmas.{led_on, led_ends, led_whole}
use Rattle.graph_builder.proofs.settle.leads_on.Goals as goal

pub loop-preserved : goal.loop-preserved
loop-preserved c = record {
  to = led_on (redirected c.args.firsts.now) 10 c.loop.counter (text_of c.loop.at.specifier.now)
      (text_of c.in-Some.next.specifier.now) _ c.loop-test.true
      (sym c.redirect_in.ensures.to
      ∙ ap (λ (r : Option Stop). option_map (λ next. text_of next.specifier.now) r) c.in-Some.is) c.loop.invariant.to;
  stop = c.in-Some.ensures.stop;
}

pub returns-in-None : goal.returns-in-None
returns-in-None c =
    sym (ap is_some (led_ends (redirected c.args.firsts.now) 10 c.loop.counter (text_of c.loop.at.specifier.now) _
    c.loop-test.true
    (sym c.redirect_in.ensures.to
    ∙ ap (λ (r : Option Stop). option_map (λ next. text_of next.specifier.now) r) c.in-None.is) c.loop.invariant.to))

pub returns : goal.returns
returns c =
    sym (ap is_some (led_whole (redirected c.args.firsts.now) 10 c.loop.counter (text_of c.loop.at.specifier.now) _
    c.loop-test.false c.loop.invariant.to))
