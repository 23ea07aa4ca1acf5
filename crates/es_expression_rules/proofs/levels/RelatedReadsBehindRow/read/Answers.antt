use Rattle.std.proofs.Common.{refl, sym, ◌∙◌}
use Rattle.es_rules.specs.Bounded.{rule_at}
use Rattle.es_rules.specs.Steps.{keys_in}
use Rattle.es_token.specs.declared.token.TokenKind.TheVariants as k
use Rattle.grammar_theory.specs.Key.{is}
use Rattle.grammar_theory.specs.Productions.{choose}
use Rattle.es_grammar.specs.Expressions.{private_in}
use Rattle.es_expression_rules.specs.Levels.{related}
use Rattle.es_expression_rules.proofs.Absent.{other_chosen, private_chosen}
use Rattle.es_expression_rules.proofs.Same.{read_as, read_keeps, back_there}
use Rattle.es_expression_rules.proofs.levels.RelatedReadsBehindRow.read.Goals as goal

-- a private name stands first: what was read of it is taken away
pub returns-then-sees : goal.returns-then-sees
returns-then-sees g c =
    λ a base there read. private_chosen c.args.grammar.now.input.keeps (keys_in c.args.grammar.now.input)
    (g.T.Rows.below c.args.grammar.now.rows c.args.grammar.now.input)
    c.args.from.token base c.read.new.cursor c.read.result c.args.self.now.0 c.args.self.now.1
    (private_in c.args.self.now.1) a (sym c.if-sees.ensures)
    (read_as c.args.grammar.now.input.keeps (keys_in c.args.grammar.now.input)
    (g.T.Rows.below c.args.grammar.now.rows c.args.grammar.now.input)
    c.back_to.new.self.at c.args.from.token c.back_to.new.self.row base c.read.new.cursor c.read.result
    (related c.args.self.now.0 c.args.self.now.1 (private_in c.args.self.now.1))
    (related c.args.self.now.0 c.args.self.now.1 (private_in c.args.self.now.1)) c.back_to.ensures.token
    (c.back_to.ensures.row ∙ back_there c.args.from.entry base c.args.cursor.now.row there
    (read_keeps c.args.grammar.now.input.keeps (rule_at (keys_in c.args.grammar.now.input)
    (g.T.Rows.below c.args.grammar.now.rows c.args.grammar.now.input)
    a c.args.from.token) base c.args.cursor.now c.args.operand read)) refl c.read.ensures)

-- another operand does
pub returns : goal.returns
returns g c =
    λ a base there read. c.read-2.ensures (choose (is k.PrivateName) (private_in c.args.self.now.1) a) base there
    (other_chosen c.args.grammar.now.input.keeps (keys_in c.args.grammar.now.input)
    (g.T.Rows.below c.args.grammar.now.rows c.args.grammar.now.input)
    c.args.from.token base c.args.cursor.now c.args.operand (private_in c.args.self.now.1) a (sym c.if-sees.ensures)
    read)
