use Rattle.std.proofs.Common.{refl, sym, ◌∙◌}
use Rattle.grammar_theory.specs.Productions.{by_predicate, wrap}
use Rattle.es_grammar.specs.declared.rows.NodeKind.TheVariants.{Binary, TypedBinary}
use Rattle.es_grammar.specs.Expressions.{comparison_in, tight_in, asserted_or, opens_comparison}
use Rattle.es_rules.specs.Steps.{keys_in}
use Rattle.es_expression_rules.specs.Levels.{related}
use Rattle.es_expression_rules.proofs.Same.{read_as, related_plain, related_typed}
use Rattle.es_expression_rules.proofs.levels.ComparedReadsBehindRow.read.Goals as goal

pub returns-else-is_typed : goal.returns-else-is_typed
returns-else-is_typed g c =
    λ a base there read. read_as c.args.grammar.now.input.keeps (keys_in c.args.grammar.now.input)
    (g.T.Rows.below c.args.grammar.now.rows c.args.grammar.now.input)
    c.args.from.token c.args.from.token base base c.read-else-is_typed.new.cursor c.read-else-is_typed.result
    (wrap Binary a (by_predicate (opens_comparison c.args.self.now.0 c.args.self.now.1))
    (comparison_in c.args.self.now.1))
    (related c.args.self.now.0 c.args.self.now.1 a) refl refl
    (related_plain c.args.self.now.1 a c.args.self.now.0 (sym c.is_typed.ensures ∙ c.if-is_typed.false))
    (c.read-else-is_typed.ensures a base there read)

pub returns-then-is_typed : goal.returns-then-is_typed
returns-then-is_typed g c =
    λ a base there read. read_as c.args.grammar.now.input.keeps (keys_in c.args.grammar.now.input)
    (g.T.Rows.below c.args.grammar.now.rows c.args.grammar.now.input)
    c.args.from.token c.args.from.token base base c.read.new.cursor c.read.result
    (wrap TypedBinary a (by_predicate (opens_comparison c.args.self.now.0 c.args.self.now.1))
    (asserted_or (tight_in c.args.self.now.1)))
    (related c.args.self.now.0 c.args.self.now.1 a) refl refl
    (related_typed c.args.self.now.1 a c.args.self.now.0 (sym c.is_typed.ensures ∙ c.if-is_typed.true))
    (c.read.ensures a base there read)
