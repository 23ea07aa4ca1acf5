use Rattle.std.proofs.Common.{◌-◌, arith}
use Rattle.es_printer.specs.Sheet.{put, tokens_from}
use Rattle.es_printer.proofs.LaidLemmas.{tokens_end}
use Rattle.es_printer.proofs.sheet.push_tokens.Goals as goal

pub returns : goal.returns
returns c =
    tokens_end c.args.source.now c.args.own
    (put (tokens_from c.args.source.now.tokens.now c.args.own (c.args.to - c.args.from) c.args.from)) c.args.out.now
    c.loop-at.out c.loop-at.at c.args.to (omega (arith, c.loop-at-test.false)) c.loop-at.invariant
