use Rattle.std.proofs.Common.{◌≡◌, take}
use Rattle.std.specs.Prelude.{fold}
use Rattle.es_printer.specs.Lines.{comment_line}
use Rattle.es_printer.specs.Paper.{lines_of}
use Rattle.es_printer.proofs.page.Page.comments.Given as goal

-- the lines after the comments so far
abbrev pub invariant-loop-comment : goal.invariant-loop-comment
invariant-loop-comment l =
    (lines_of l.self ≡ fold comment_line (lines_of l.initial.self) (take l.comment-index l.comments))
    × l.self.ink.source ≡ l.initial.self.ink.source
