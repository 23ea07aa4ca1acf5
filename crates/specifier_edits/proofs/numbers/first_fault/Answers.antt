use Rattle.specifier_edits.proofs.FirstLemmas.{first_is}
use Rattle.specifier_edits.proofs.numbers.first_fault.Goals as goal

-- the first of them, or none
pub returns : goal.returns
returns c = first_is c.args.sites.now c.args.changes.now c.search.result c.search.ensures
