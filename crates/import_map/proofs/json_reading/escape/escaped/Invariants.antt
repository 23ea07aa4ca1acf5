-- What was read is written as parts of pointers write it.
use Rattle.std.proofs.Common.{◌≡◌, string_bytes, encode_utf8_all, flat_map}
use Rattle.import_map.specs.json_reading.Reading.{escaped_char}
use Rattle.import_map.proofs.json_reading.escape.escaped.Given as goal

abbrev pub invariant-loop-c : goal.invariant-loop-c
invariant-loop-c l = string_bytes l.part ≡ encode_utf8_all (flat_map escaped_char l.yielded)
