use Rattle.std.proofs.Common.{sym, subst, ◌∙◌}
use Rattle.grammar_theory.specs.Productions.{Production}
use Rattle.es_grammar.specs.declared.rows.Row.{Row}
use Rattle.es_grammar.specs.declared.rows.NodeKind.{NodeKind}
use Rattle.es_rules.specs.Bounded.{rule_at}
use Rattle.es_rules.specs.Steps.{keys_in, IsRead}
use Rattle.es_member_rules.proofs.Members.{plain_member, typed_member}
use Rattle.es_member_rules.proofs.classes.ModifiedMemberReadsProductionRow.read.Goals as goal

pub returns-then-is_typed : goal.returns-then-is_typed
returns-then-is_typed g c =
    subst (λ (p : Production Row NodeKind). IsRead c.args.grammar.now.input.keeps
    (rule_at (keys_in c.args.grammar.now.input) (g.T.Rows.below c.args.grammar.now.rows c.args.grammar.now.input) p
    c.args.cursor.now.at) c.args.cursor.now.row c.read.new.cursor c.read.result)
    (sym (typed_member c.args.self.now.0 c.args.self.now.1 (sym c.is_typed.ensures ∙ c.if-is_typed.true)))
    c.read.ensures

pub returns-else-is_typed : goal.returns-else-is_typed
returns-else-is_typed g c =
    subst (λ (p : Production Row NodeKind). IsRead c.args.grammar.now.input.keeps
    (rule_at (keys_in c.args.grammar.now.input) (g.T.Rows.below c.args.grammar.now.rows c.args.grammar.now.input) p
    c.args.cursor.now.at) c.args.cursor.now.row c.read-else-is_typed.new.cursor c.read-else-is_typed.result)
    (sym (plain_member c.args.self.now.0 c.args.self.now.1 (sym c.is_typed.ensures ∙ c.if-is_typed.false)))
    c.read-else-is_typed.ensures
