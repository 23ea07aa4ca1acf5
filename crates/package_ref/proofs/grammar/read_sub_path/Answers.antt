use Rattle.std.proofs.Common.{◌≡◌, ◌∙◌, ap, ℕ, arith, rules, [], List}
use Rattle.std.specs.Prelude.{Some}
use Rattle.package_ref.specs.Steps as steps
use Rattle.package_ref.specs.Steps.{bytes_of, Read}
use Rattle.package_ref.proofs.CombinatorLemmas.{char_at, maybe_tells, behind_tells, rest_tells}
use Rattle.package_ref.proofs.grammar.read_sub_path.Goals as goal

pub returns : goal.returns
returns c =
    let is : c.maybe.result.part.first.character ≡ 47
    = ap (λ m. m.part.first.character) c.maybe.ensures
    ∙ ap (λ m. m.character) (c.preceded.ensures.first ∙ c.ch.ensures) in
    let rest : List ℕ → Read (List ℕ) = λ t. Some (t, []) in
    maybe_tells bytes_of steps.read_sub_path _
    (behind_tells (λ (x : ℕ). x) bytes_of (steps.read_char 47) rest _ _ (char_at 47 _ is (omega arith))
    (rest_tells _ (λ d b said. search rules))) _ _ c.parse.ensures
