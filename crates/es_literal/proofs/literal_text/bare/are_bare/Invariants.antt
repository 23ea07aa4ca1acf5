-- Each byte so far is bare.
use Rattle.std.proofs.Common.{take}
use Rattle.es_literal.specs.literal_text.Bare.{AreBare}
use Rattle.es_literal.proofs.literal_text.bare.are_bare.Given as goal

abbrev pub invariant-loop-byte : goal.invariant-loop-byte
invariant-loop-byte l = AreBare (take l.byte-index l.bytes)
