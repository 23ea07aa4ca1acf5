-- What was read is written as escapes behind the first quote.
use Rattle.std.proofs.Common.{◌≡◌, ◌∷◌, string_bytes, encode_utf8_all, flat_map}
use Rattle.es_literal.specs.Quotes.{escaped}
use Rattle.es_literal.proofs.quotes.quoted.Given as goal

abbrev pub invariant-loop-c : goal.invariant-loop-c
invariant-loop-c l = string_bytes l.literal ≡ encode_utf8_all (34 ∷ flat_map escaped l.yielded)
