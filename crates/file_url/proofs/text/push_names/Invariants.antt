-- The names so far, escaped.
use Rattle.std.proofs.Common.{◌≡◌, ◌++◌, string_bytes, take}
use Rattle.std.specs.List.{flat_map}
use Rattle.lexical_path.specs.Paths.{texts}
use Rattle.file_url.specs.FileUrls.{escaped}
use Rattle.file_url.proofs.text.push_names.Given as goal

abbrev pub invariant-loop-name : goal.invariant-loop-name
invariant-loop-name l =
    string_bytes l.text ≡ string_bytes l.initial.text ++ flat_map escaped (texts (take l.name-index l.names))
