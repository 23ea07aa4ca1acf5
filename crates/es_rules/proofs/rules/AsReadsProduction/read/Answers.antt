use Rattle.std.proofs.Common.{refl}
use Rattle.std.proofs.lemmas.Result.{err_from_is_err_and}
use Rattle.grammar_theory.specs.Reader.{changed}
use Rattle.es_rules.specs.Bounded.{makes, rule_at}
use Rattle.es_rules.specs.Steps.{keys_in}
use Rattle.es_rules.proofs.FormLemmas.{read_refused, role_read, role_refused}
use Rattle.es_rules.proofs.rules.AsReadsProduction.read.Goals as goal

pub returns-in_err-height : goal.returns-in_err-height
returns-in_err-height g c =
    let p = err_from_is_err_and c.from_residual-in_err-height.result c.from_residual-in_err-height.ensures.1 in
    let out = (rule_at (keys_in c.args.grammar.now.input)
    (g.T.Rows.below c.args.grammar.now.rows c.args.grammar.now.input)
    (g.A.ReadsProduction.rule c.args.self.now.1) c.args.cursor.now.at) in
    read_refused c.args.grammar.now.input.keeps (changed (makes.of_via c.args.self.now.0) out) c.args.cursor.now.row
    c.read.new.cursor
    c.from_residual-in_err-height.result p.0 c.in_err-height.field-0.0 p.1 p.2
    (role_refused c.args.grammar.now.input.keeps out c.args.self.now.0 c.args.cursor.now.row c.open.new.row
    c.read.new.cursor.row
    c.in_err-height.field-0.0 c.in_ok-opened.ensures.written c.in_err-height.ensures)

pub returns : goal.returns
returns g c =
    role_read c.args.grammar.now.input.keeps
    (rule_at (keys_in c.args.grammar.now.input) (g.T.Rows.below c.args.grammar.now.rows c.args.grammar.now.input)
    (g.A.ReadsProduction.rule c.args.self.now.1) c.args.cursor.now.at)
    c.args.self.now.0 c.args.cursor.now.row c.open.new.row c.in_ok-opened.opened c.in_ok-height.height
    c.read.new.cursor (record { at = c.read.new.cursor.at; row = c.close.new.row }) c.in_ok-opened.ensures.place
    c.in_ok-opened.ensures.written c.in_ok-height.ensures refl
    c.in_ok-close.ensures.written
