use Rattle.std.proofs.Common.{length, arith}
use Rattle.counted_io.proofs.TransferLemmas.{ReadAtMost-read}
use Rattle.counted_io.proofs.transfer.read_part.Goals as goal

pub returns-clause-stops : goal.returns-clause-stops
returns-clause-stops g c =
    let auto = c.read.auto in
    ReadAtMost-read _ _ _ c.read.result c.read.new.buffer (length c.args.buffer.now) c.read.ensures.bytes (omega arith)
