use Rattle.std.proofs.Common.{length}
use Rattle.grammar_theory.specs.Key.{keys_of}
use Rattle.es_type_rules.proofs.ends_lemmas.CloserLemmas.{none_right}
use Rattle.es_type_rules.proofs.ends.kept.unclosed.Goals as goal

pub returns : goal.returns
returns c = none_right (keys_of c.args.tokens.now.tokens.now) c.last_closed.result c.last_closed.ensures _
