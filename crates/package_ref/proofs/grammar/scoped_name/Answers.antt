use Rattle.std.proofs.Common.{◌≡◌, ◌∙◌, ap, rules}
use Rattle.package_ref.proofs.CombinatorLemmas.{scoped_name_tells}
use Rattle.package_ref.proofs.grammar.scoped_name.Goals as goal

pub returns : goal.returns
returns c =
    let parts = c.substring.ensures ∙ c.pair.ensures in
    let at : c.substring.result.part.first.first.character ≡ 64
    = ap (λ p. p.first.first.character) parts ∙ ap (λ m. m.character) (c.preceded-scope.ensures.first ∙ c.ch.ensures) in
    let slash : c.substring.result.part.second.first.character ≡ 47
    = ap (λ p. p.second.first.character) parts
    ∙ ap (λ m. m.character) (c.preceded-behind.ensures.first ∙ c.ch-2.ensures) in
    scoped_name_tells _ _ _ _ at slash (λ d b said. search rules) (λ d b said. search rules) _ _ c.parse.ensures
