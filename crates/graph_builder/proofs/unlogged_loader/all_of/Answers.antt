use Rattle.std.proofs.Common.{◌∙◌, ◌++◌, ◌∷◌, [], ap, sym, List}
use Rattle.url.specs.Parts.{Parts}
use Rattle.graph_entry.specs.declared.answer.LoadAnswer.{LoadAnswer}
use Rattle.graph_builder.proofs.MemoryLemmas.{take_pair}
use Rattle.graph_builder.proofs.unlogged_loader.all_of.Goals as goal

pub loop-number-preserved : goal.loop-number-preserved
loop-number-preserved c =
    c.and-all.ensures
    ∙ ap (λ (l : List (Parts × LoadAnswer)). l ++ (c.in-Some.url.now, c.in-Some-value.answer.now) ∷ [])
    c.loop-number.invariant
    ∙ sym (take_pair c.args.modules.now c.loop-number.number c.in-Some.url.now c.in-Some-value.answer.now
    c.in-Some.ensures c.in-Some-value.ensures)
