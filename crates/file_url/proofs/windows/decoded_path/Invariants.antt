-- The segments so far, decoded and joined.
use Rattle.std.proofs.Common.{◌≡◌, string_bytes, map, take}
use Rattle.lexical_path.specs.Paths.{texts, path_of}
use Rattle.file_url.specs.WindowsPaths.{decoded}
use Rattle.file_url.proofs.windows.decoded_path.Given as goal

abbrev pub invariant-loop-i : goal.invariant-loop-i
invariant-loop-i l = string_bytes l.path ≡ path_of l.absolute (map decoded (texts (take l.i l.segments)))
