use Rattle.std.proofs.Common.{◌≡◌, ◌∙◌, ap, ℕ, arith, rules}
use Rattle.package_ref.specs.Reference.{is_no_slash}
use Rattle.package_ref.specs.Steps as steps
use Rattle.package_ref.specs.Steps.{bytes_of, read_run}
use Rattle.package_ref.proofs.CombinatorLemmas.{char_at, maybe_tells, behind_tells, run_tells, no_slash_passes_high}
use Rattle.package_ref.proofs.grammar.read_requirement.Goals as goal

pub returns : goal.returns
returns c =
    let is : c.maybe.result.part.first.character ≡ 64
    = ap (λ m. m.part.first.character) c.maybe.ensures
    ∙ ap (λ m. m.character) (c.preceded.ensures.first ∙ c.ch.ensures) in
    maybe_tells bytes_of steps.read_requirement _
    (behind_tells (λ (x : ℕ). x) bytes_of (steps.read_char 64) (read_run is_no_slash) _ _
    (char_at 64 _ is (omega arith))
    (run_tells is_no_slash _ no_slash_passes_high (λ d b said. search rules))) _ _ c.parse.ensures
