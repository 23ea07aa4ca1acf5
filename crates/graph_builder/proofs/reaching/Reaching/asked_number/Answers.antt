use Rattle.std.proofs.Common.{◌∙◌, sym}
use Rattle.graph_entry.specs.Specifier.{text_of}
use Rattle.graph_builder.proofs.NumberLemmas.{absent, key_of_number, value_there}
use Rattle.graph_builder.proofs.reaching.Reaching.asked_number.Goals as goal

pub returns-then-is_asked-clause-asked : goal.returns-then-is_asked-clause-asked
returns-then-is_asked-clause-asked c =
    let there = sym c.in-Some.ensures.value in (
      c.in-Some.ensures.within,
      key_of_number c.args.self.now.reached (text_of c.args.url.now) c.in-Some.number there,
      value_there c.args.self.now.reached (text_of c.args.url.now) c.in-Some.number there
          ∙ c.is_asked.ensures.0 c.if-is_asked.true,
    )

pub returns-else-is_asked-clause-none : goal.returns-else-is_asked-clause-none
returns-else-is_asked-clause-none c = λ none asked.
    let yes = c.is_asked.ensures.1
    (sym (value_there c.args.self.now.reached (text_of c.args.url.now) c.in-Some.number (sym c.in-Some.ensures.value))
    ∙ asked) in
    let no = c.if-is_asked.false in cc

pub returns-in-None-clause-none : goal.returns-in-None-clause-none
returns-in-None-clause-none c = λ none asked.
    let absent_here = absent c.args.self.now.reached (text_of c.args.url.now) (sym c.in-None.ensures.value) in cc
