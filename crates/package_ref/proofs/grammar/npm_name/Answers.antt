use Rattle.std.proofs.Common.{◌≡◌, ◌∙◌, ap, rules}
use Rattle.package_ref.specs.Reference.{is_of_part}
use Rattle.package_ref.specs.Steps.{bytes_of, read_scoped, read_part}
use Rattle.package_ref.proofs.CombinatorLemmas.{scoped_name_tells, run_tells, or_tells, part_passes_high}
use Rattle.package_ref.proofs.grammar.npm_name.Goals as goal

pub returns : goal.returns
returns c =
    let parts = c.substring.ensures ∙ c.pair.ensures in
    let at : c.or.result.first.part.first.first.character ≡ 64
    = ap (λ o. o.first.part.first.first.character) c.or.ensures
    ∙ ap (λ p. p.first.first.character) parts ∙ ap (λ m. m.character) (c.preceded-scope.ensures.first ∙ c.ch.ensures) in
    let slash : c.or.result.first.part.second.first.character ≡ 47
    = ap (λ o. o.first.part.second.first.character) c.or.ensures
    ∙ ap (λ p. p.second.first.character) parts
    ∙ ap (λ m. m.character) (c.preceded-part.ensures.first ∙ c.ch-2.ensures) in
    or_tells bytes_of read_scoped read_part _ _
    (scoped_name_tells _ _ _ _ at slash (λ d b said. search rules) (λ d b said. search rules))
    (run_tells is_of_part _ part_passes_high (λ d b said. search rules)) _ _ c.parse.ensures
