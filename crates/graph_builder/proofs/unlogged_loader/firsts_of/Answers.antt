use Rattle.std.proofs.Common.{List, [], ◌∷◌, ◌++◌, ◌∙◌, ap}
use Rattle.url.specs.Parts.{Parts}
use Rattle.graph_entry.specs.declared.answer.LoadAnswer.{LoadAnswer}
use Rattle.graph_builder.proofs.unlogged_loader.firsts_of.Goals as goal

pub loop-url-preserved : goal.loop-url-preserved
loop-url-preserved c = record {
  firsts = c.in_ok-add_first.ensures c.loop-url.yielded c.loop-url.invariant.firsts;
  given = c.and-given.ensures
      ∙ ap (λ (l : List (Parts × LoadAnswer)). l ++ (c.in-Some.url, c.in-Some.answer) ∷ []) c.loop-url.invariant.given;
}
