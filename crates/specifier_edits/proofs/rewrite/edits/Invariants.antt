use Rattle.std.proofs.Common.{◌≡◌, map, take}
use Rattle.std.specs.Prelude.{string_bytes}
use Rattle.specifier_edits.specs.Edits.{edit}
use Rattle.specifier_edits.proofs.rewrite.edits.Given as goal

-- the changes so far
abbrev pub invariant-loop-number : goal.invariant-loop-number
invariant-loop-number l =
    l.edits.items ≡ map (λ change. edit l.sites change.0 (string_bytes change.1)) (take l.number-index l.changes)
