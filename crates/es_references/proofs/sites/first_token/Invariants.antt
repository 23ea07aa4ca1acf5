use Rattle.std.proofs.Common.{◌≡◌, drop}
use Rattle.std.specs.Prelude.{not}
use Rattle.std.specs.List.{find}
use Rattle.es_references.specs.References.{is_shebang}
use Rattle.es_references.proofs.sites.first_token.Given as goal

-- no token so far is the first one
abbrev pub invariant-loop-token : goal.invariant-loop-token
invariant-loop-token l =
    find (λ t. not (is_shebang t.kind)) l.fn.tokens ≡ find (λ t. not (is_shebang t.kind)) (drop l.token-index l.tokens)
