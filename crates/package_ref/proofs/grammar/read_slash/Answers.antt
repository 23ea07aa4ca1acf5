use Rattle.std.proofs.Common.{◌≡◌, ◌∙◌, ap, ℕ, arith}
use Rattle.package_ref.specs.Steps as steps
use Rattle.package_ref.proofs.CombinatorLemmas.{char_at, maybe_tells}
use Rattle.package_ref.proofs.grammar.read_slash.Goals as goal

pub returns : goal.returns
returns c =
    let is : c.maybe.result.part.character ≡ 47 =
    ap (λ m. m.part.character) c.maybe.ensures ∙ ap (λ m. m.character) c.ch.ensures in
    maybe_tells (λ (x : ℕ). x) (steps.read_char 47) _ (char_at 47 _ is (omega arith)) _ _ c.parse.ensures
