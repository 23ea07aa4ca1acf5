use Rattle.es_variables.specs.scope_numbers.Spelt.{tops_in}
use Rattle.es_variables.proofs.scope_numbers_lemmas.NameLemmas.{popped_some}
use Rattle.es_variables.proofs.scope_numbers.ids.Spellings.pop.Goals as goal

-- the name is taken away where it is spelled so
pub returns-in-Some : goal.returns-in-Some
returns-in-Some c =
    popped_some c.args.self.now.text.now c.args.self.now.tokens.now c.in-Some.name.now c.args.token
    (tops_in c.args.tops.now) (tops_in c.pop.new.tops) c.in-Some.ensures c.pop.ensures
