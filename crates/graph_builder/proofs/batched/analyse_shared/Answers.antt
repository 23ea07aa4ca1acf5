use Rattle.std.proofs.Common.{subst, arith, Some}
use Rattle.graph_entry.specs.Specifier.{text_of}
use Rattle.graph_entry.specs.declared.answer.LoadAnswer.{LoadAnswer}
use Rattle.graph_builder.specs.Batch.{IsMeant}
use Rattle.graph_builder.proofs.HandLemmas.{zip_more}
use Rattle.graph_builder.proofs.batched.analyse_shared.Goals as goal

pub loop-url-preserved : goal.loop-url-preserved
loop-url-preserved g c =
    let meant = subst
    (λ (a : LoadAnswer). g.W.Ways.means c.args.ways.now (text_of c.loop-url-item.result.0) (Some a) c.in_ok-entry.entry)
    c.in_ok-copy.ensures c.in_ok-entry.ensures in
    rw c.in_ok-push.ensures.items
    (zip_more (IsMeant (g.W.Ways.means c.args.ways.now)) c.args.answers.now c.loop-url.made.items c.loop-url.url-index
    c.loop-url-item.result (c.in_ok-clone.field-0, c.in_ok-entry.entry) c.loop-url.invariant
    (omega (arith, c.loop-url-test.true)) c.loop-url-item.is (c.in_ok-clone.ensures.cases, meant))
