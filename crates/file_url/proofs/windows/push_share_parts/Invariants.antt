-- The segments so far, each behind a backslash.
use Rattle.std.proofs.Common.{◌≡◌, ◌++◌, string_bytes, take}
use Rattle.std.specs.List.{flat_map}
use Rattle.lexical_path.specs.Paths.{texts}
use Rattle.file_url.specs.WindowsPaths.{share_part}
use Rattle.file_url.proofs.windows.push_share_parts.Given as goal

abbrev pub invariant-loop-segment : goal.invariant-loop-segment
invariant-loop-segment l =
    string_bytes l.path ≡ string_bytes l.initial.path ++ flat_map share_part (texts (take l.segment-index l.segments))
