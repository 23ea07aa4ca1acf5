use Rattle.std.proofs.Common.{◌≤◌, length, arith, sym, ap, ◌∙◌}
use Rattle.grammar_theory.specs.Key.{keys_of}
use Rattle.es_grammar.specs.declared.types.rows.TypeRow.TheVariants.{ArgumentsRow}
use Rattle.es_lookahead.proofs.TokenLemmas.{length-keys_of}
use Rattle.es_lookahead.proofs.EndLemmas.{known}
use Rattle.es_type_rules.specs.declared.ends.types.TypePart.TheVariants as parts
use Rattle.es_shared_rules.specs.predicates.Named.{holds_behind}
use Rattle.es_shared_rules.proofs.predicates_lemmas.EndLemmas.{behind}
use Rattle.es_shared_rules.proofs.predicates_lemmas.KnownLemmas.{known_behind}
use Rattle.es_shared_rules.proofs.predicates.arguments.arguments_end.Goals as goal

-- something is known of the place
pub returns-in-Some : goal.returns-in-Some
returns-in-Some c = λ g.
    let K = keys_of c.args.tokens.now.tokens.now in
    known_behind g K ArgumentsRow c.args.at c.in-Some.end
    (known K c.args.tokens.now.angles.now ArgumentsRow c.args.at c.in-Some.end c.args.tokens.now.right
    (sym c.in-Some.ensures))
    ∙ ap (holds_behind g K) (sym c.low_end.ensures)

-- nothing is
pub returns-in-None : goal.returns-in-None
returns-in-None c =
    let long = length-keys_of c.args.tokens.now.tokens.now in
    let within : c.args.at ≤ length (keys_of c.args.tokens.now.tokens.now) = omega arith in
    λ g. behind parts.TArgs (keys_of c.args.tokens.now.tokens.now) c.args.at within g
    c.type_arguments_end.result c.type_arguments_end.ensures.some c.type_arguments_end.ensures.only
