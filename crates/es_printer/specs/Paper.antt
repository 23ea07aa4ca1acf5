-- The lines of a page that is being written.
use Rattle.es_printer.specs.declared.page.Page.{Page as Paper}
use Rattle.es_printer.specs.Lines.{Page}

abbrev pub lines_of : Paper → Page
lines_of p = record { text = p.ink.text; depth = p.depth; last = p.last }
