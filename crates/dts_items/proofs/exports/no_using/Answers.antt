use Rattle.std.proofs.Common.{◌∙◌, ap, subst, sym, ◌≡◌}
use Rattle.es_changed.specs.Shape.{Writes}
use Rattle.dts_draft.specs.Drafts.{state_of}
use Rattle.dts_items.proofs.ExportLemmas.{noted_twice}
use Rattle.dts_items.proofs.exports.no_using.Goals as goal

pub returns-clause-written : goal.returns-clause-written
returns-clause-written c = λ e.
    let f = c.dropped.ensures.before e in
    let g = c.note-2.ensures.before f in
    noted_twice c.args.env.now c.args.out.now c.note.new.self c.note-2.new.self c.dropped.new.self _ _ _ _
    c.span_of.ensures c.span_of-2.ensures c.note.ensures.row (c.note.ensures.noted g) c.note-2.ensures.row
    (c.note-2.ensures.noted f) (c.dropped.ensures.written e c.args.env.now.text.now c.args.env.now.tokens.now)
    c.dropped.ensures.state
