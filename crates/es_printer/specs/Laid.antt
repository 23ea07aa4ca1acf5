-- A page that grows as a sheet of pieces does: it has the lines of these pieces.
use Rattle.std.specs.Prelude.{◌≡◌}
use Rattle.std.specs.Option.{option_map}
use Rattle.es_printer.specs.declared.piece.Source.{Source}
use Rattle.es_printer.specs.declared.draft.Draft.{Draft}
use Rattle.es_printer.specs.Sheet.{Sheet}
use Rattle.es_printer.specs.Lines.{Page, laid, start}
use Rattle.es_printer.specs.Paper.{lines_of}

module _ (src : Source) where
  -- the page with the lines of a sheet
  abbrev pub page_of : Sheet → Page
  page_of s = laid src.text.now src.tokens.now (option_map (λ c. c.now) src.comments) start s.pieces

  -- a draft of this text is what a sheet is
  abbrev pub IsLaid : Sheet → Draft → Type 0
  IsLaid s d = (page_of s ≡ lines_of d.page) × (src.text.now ≡ d.page.ink.source) × (s.next ≡ d.next)

  -- whatever sheet a draft is, it has become that sheet with more on it
  unfoldable pub Grows : (Sheet → Sheet) → Draft → Draft → Type 0
  Grows more old new = (s : Sheet) → IsLaid s old → IsLaid (more s) new
