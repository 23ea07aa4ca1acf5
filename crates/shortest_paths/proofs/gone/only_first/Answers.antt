use Rattle.std.proofs.Common.{◌∙◌, sym}
use Rattle.std.proofs.lemmas.Bool.{false≢true}
use Rattle.shortest_paths.proofs.PathLemmas.{marked_more, marked_less}
use Rattle.shortest_paths.proofs.gone.only_first.Goals as goal
use Rattle.shortest_paths.proofs.gone.only_first.Goals.{then-first-place+then-not-second-place+in_ok-push, else-first-place, else-first-place-via-then-first-place+else-not-second-place, else-first-place-via-else-first-place}

pub loop-place-preserved : goal.loop-place-preserved
loop-place-preserved c =
    elim c.if-first-place.branch [
      | then-first-place+then-not-second-place+in_ok-push w ↦
          rw (w.places-is, w.in_ok-push.ensures.ok)
          (marked_more c.args.first.now c.args.second.now c.loop-place.place c.loop-place.places c.loop-place.invariant
          w.if-first-place.true w.if-not-second-place.true)
      | else-first-place w ↦
          rw w.places-is
          (marked_less c.args.first.now c.args.second.now c.loop-place.place c.loop-place.places c.loop-place.invariant
          (λ one two.
          elim w.else-first-place.branch [
            | else-first-place-via-then-first-place+else-not-second-place w' ↦
                false≢true (sym two ∙ w'.if-not-second-place.false)
            | else-first-place-via-else-first-place w' ↦ false≢true (sym w'.if-first-place.false ∙ one)
          ]))
    ]
