use Rattle.std.proofs.Common.{◌-◌}
use Rattle.es_printer.specs.declared.draft.Draft.{Draft}
use Rattle.es_printer.specs.Sheet.{put, tokens_from}
use Rattle.es_printer.specs.Laid.{Grows}
use Rattle.es_printer.proofs.sheet.push_tokens.Given as goal

-- with what is left to be printed it is the whole
abbrev pub invariant-loop-at : goal.invariant-loop-at
invariant-loop-at l =
    (new : Draft) → Grows l.source (put (tokens_from l.source.tokens.now l.own (l.to - l.at) l.at)) l.out new
    → Grows l.source (put (tokens_from l.source.tokens.now l.own (l.to - l.from) l.from)) l.initial.out new

abbrev pub decreases-loop-at : goal.decreases-loop-at
decreases-loop-at l = l.to - l.at
