use Rattle.std.proofs.Common.{◌≡◌, take}
use Rattle.std.specs.List.{flat_map}
use Rattle.es_references.specs.References.{first_token, sites_before}
use Rattle.es_references.proofs.sites.references.Given as goal

-- the sites of the comments so far
abbrev pub invariant-loop-comment : goal.invariant-loop-comment
invariant-loop-comment l =
    l.found ≡ flat_map (sites_before (first_token l.fn.tokens)) (take l.comment-index l.comments)
