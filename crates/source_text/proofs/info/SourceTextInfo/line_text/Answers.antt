use Rattle.std.proofs.Common.{sym, subst}
use Rattle.source_text.specs.Lines.{IsStart}
use Rattle.source_text.proofs.LinesLemmas.{cuts_line, start_boundary}
use Rattle.source_text.proofs.info.SourceTextInfo.line_text.Goals as goal

pub range-requires-clause-start_le_end : goal.range-requires-clause-start_le_end
range-requires-clause-start_le_end c =
    (cuts_line c.args.self.now c.args.line c.line_start-start.result c.line_end-end.result c.line_start-start.ensures
    c.line_end-end.ensures).order

-- a line starts between characters
pub range-requires-clause-start_boundary : goal.range-requires-clause-start_boundary
range-requires-clause-start_boundary c =
    λ _. start_boundary c.text_str.result.now c.args.line c.line_start-start.result c.text_str.utf8
    (subst (λ text. IsStart text c.args.line c.line_start-start.result) (sym c.text_str.ensures)
    c.line_start-start.ensures)
