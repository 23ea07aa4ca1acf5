use Rattle.std.proofs.Common.{◌+◌, sym, subst}
use Rattle.source_text.specs.Lines.{IsStart}
use Rattle.source_text.proofs.LinesLemmas.{stops_before, table_at, number_at}
use Rattle.source_text.proofs.info.SourceTextInfo.line_stop.Goals as goal

-- the line stops right before the start of the next one
pub returns-in-Some : goal.returns-in-Some
returns-in-Some c =
    let text = c.args.self.now in
    let starts = c.deref.result.now in
    let table = table_at c.self.inside.text text c.self.inside.line_starts.items starts c.self.invariant c.self.view_is
    c.deref.ensures.value in
    let next = number_at starts (c.args.line + 1) c.in-Some.next c.in-Some.ensures.lookup in
    stops_before text c.args.line c.in-Some.next.now
    (subst (IsStart text (c.args.line + 1)) (sym next.1) (table.each (c.args.line + 1) next.0))
