use Rattle.std.proofs.Common.{◌∙◌, refl, sym, subst, List, ℕ}
use Rattle.graph_run.specs.Run.{IsDue}
use Rattle.graph_c.specs.Build.{written, no_room}
use Rattle.graph_c.proofs.build.build_report.Goals as goal

-- the text is longer than the room
pub returns-then-text-room : goal.returns-then-text-room
returns-then-text-room c =
    let due = c.in-Ok.due in
    no_room due.status c.as_bytes-text.result.now
    (subst (λ (t : List ℕ). IsDue c.args.bundle.now due.status t) (sym c.as_bytes-text.ensures.value) c.in-Ok.ensures)
    c.if-text-room.true refl refl (c.from-then-text-room.ensures ∙ c.code-then-text-room.ensures)

-- it fits
pub returns : goal.returns
returns c =
    let due = c.in-Ok.due in
    written due.status c.as_bytes-text.result.now
    (subst (λ (t : List ℕ). IsDue c.args.bundle.now due.status t) (sym c.as_bytes-text.ensures.value) c.in-Ok.ensures)
    c.if-text-room.false refl c.put.ensures (c.from-2.ensures ∙ c.code-2.ensures)
