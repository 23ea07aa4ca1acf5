use Rattle.grammar_theory.specs.Key.{keys_of}
use Rattle.es_type_rules.proofs.ends_lemmas.AnswerLemmas.{opens_where, opens_nowhere}
use Rattle.es_type_rules.proofs.ends.types.is_type_arguments.Goals as goal

pub returns-in-Some : goal.returns-in-Some
returns-in-Some c =
    opens_where c.args.in_extends (keys_of c.args.tokens.now) c.args.at c.follows_arguments.result c.in-Some.end
    c.follows_arguments.ensures c.in-Some.ensures.some c.in-Some.ensures.only

pub returns-in-None : goal.returns-in-None
returns-in-None c =
    opens_nowhere c.args.in_extends (keys_of c.args.tokens.now) c.args.at c.in-None.ensures.only
