use Rattle.std.proofs.Common.{◌≡◌, map, drop}
use Rattle.media_type.specs.ContentTypes.{first_rule}
use Rattle.media_type.specs.Steps.{content_type_of}
use Rattle.media_type.proofs.content_types.first_rule.Given as goal

-- none of the rows so far is the content type's
abbrev pub invariant-loop-row : goal.invariant-loop-row
invariant-loop-row l =
    first_rule (map content_type_of l.rows) l.essence
    ≡ first_rule (map content_type_of (drop l.row-index l.rows)) l.essence
