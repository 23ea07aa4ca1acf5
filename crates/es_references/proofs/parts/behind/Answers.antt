use Rattle.es_references.proofs.PartsLemmas.{behind_given}
use Rattle.es_references.proofs.parts.behind.Goals as goal

pub returns : goal.returns
returns c = behind_given c.args.text.now c.args.front.now c.strip_prefix.result c.strip_prefix.ensures.cases
