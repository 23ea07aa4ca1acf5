use Rattle.std.proofs.Common.{ap, ◌∙◌, sym, List, ℕ}
use Rattle.std.specs.Prelude.{◌++◌}
use Rattle.es_variables.specs.scope_numbers.Stacks.{copies}
use Rattle.es_variables.specs.scope_numbers.Spelt.{tops_in}
use Rattle.es_variables.specs.scope_numbers.Meets.{tokens_in}
use Rattle.es_variables.proofs.scope_numbers_lemmas.NameLemmas.{closed_some}
use Rattle.es_variables.proofs.scope_numbers.ids.Spellings.leave.Goals as goal

-- the names that it declares are those of its tokens
pub returns-in-Some : goal.returns-in-Some
returns-in-Some c =
    λ names around e are so. let x = c.args.self.now.text.now in
    let ts = c.args.self.now.tokens.now in
    closed_some x ts names c.in-Some.n (tokens_in c.args.declared.now) (tops_in c.args.tops.now)
    (tops_in c.pop_all.new.tops)
    (λ rest m was. c.pop_all.ensures rest m
    (λ q. was q ∙ ap (λ (tokens : List ℕ). rest q ++ copies x ts m tokens q) (sym c.tokens_of.ensures)))
    around (sym c.in-Some.is ∙ e) are so
