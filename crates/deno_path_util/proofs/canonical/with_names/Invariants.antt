-- the names that are left go behind what is joined
use Rattle.std.proofs.Common.{◌≡◌, length, string_bytes}
use Rattle.lexical_path.specs.Paths.{texts}
use Rattle.deno_path_util.specs.Steps.{joined_names}
use Rattle.deno_path_util.proofs.canonical.with_names.Given as goal

abbrev pub invariant-names : goal.invariant-names
invariant-names l =
    joined_names (texts l.names.items) (string_bytes l.joined)
    ≡ joined_names (texts l.fn.names.items) (string_bytes l.fn.path)

abbrev pub decreases-names : goal.decreases-names
decreases-names l = length l.names.items
