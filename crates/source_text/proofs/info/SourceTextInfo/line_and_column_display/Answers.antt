use Rattle.std.proofs.Common.{sym, subst}
use Rattle.source_text.specs.Lines.{IsStart}
use Rattle.source_text.proofs.LinesLemmas.{starts_first, start_boundary}
use Rattle.source_text.proofs.info.SourceTextInfo.line_and_column_display.Goals as goal

pub range-requires-clause-start_le_end : goal.range-requires-clause-start_le_end
range-requires-clause-start_le_end c =
    starts_first c.args.self.now c.line_index-line.result c.line_start-start.result c.args.pos
    c.line_start-start.ensures (sym c.line_index-line.ensures)

-- a line starts between characters
pub range-requires-clause-start_boundary : goal.range-requires-clause-start_boundary
range-requires-clause-start_boundary c =
    λ _. start_boundary c.text_str.result.now c.line_index-line.result c.line_start-start.result c.text_str.utf8
    (subst (λ text. IsStart text c.line_index-line.result c.line_start-start.result) (sym c.text_str.ensures)
    c.line_start-start.ensures)
