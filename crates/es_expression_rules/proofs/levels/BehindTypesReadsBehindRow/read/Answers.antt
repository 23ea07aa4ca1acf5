use Rattle.std.proofs.Common.{refl, sym, ◌∙◌}
use Rattle.es_rules.specs.Steps.{keys_in}
use Rattle.es_expression_rules.specs.Levels.{shift_over, behind_types}
use Rattle.es_expression_rules.proofs.Same.{read_as, behind_plain, behind_typed}
use Rattle.es_expression_rules.proofs.levels.BehindTypesReadsBehindRow.read.Goals as goal

pub returns-else-is_typed : goal.returns-else-is_typed
returns-else-is_typed g c =
    λ a base there read. read_as c.args.grammar.now.input.keeps (keys_in c.args.grammar.now.input)
    (g.T.Rows.below c.args.grammar.now.rows c.args.grammar.now.input)
    c.args.from.token c.args.from.token base base c.args.cursor.now c.args.operand
    a (behind_types c.args.self.now.0 c.args.self.now.1 a) refl refl
    (behind_plain c.args.self.now.1 a c.args.self.now.0 (sym c.is_typed.ensures ∙ c.if-is_typed.false)) read

pub returns-then-is_typed : goal.returns-then-is_typed
returns-then-is_typed g c =
    λ a base there read. read_as c.args.grammar.now.input.keeps (keys_in c.args.grammar.now.input)
    (g.T.Rows.below c.args.grammar.now.rows c.args.grammar.now.input)
    c.args.from.token c.args.from.token base base c.read.new.cursor c.read.result
    (shift_over c.args.self.now.0 c.args.self.now.1 a) (behind_types c.args.self.now.0 c.args.self.now.1 a) refl refl
    (behind_typed c.args.self.now.1 a c.args.self.now.0 (sym c.is_typed.ensures ∙ c.if-is_typed.true))
    (c.read.ensures a base there read)
