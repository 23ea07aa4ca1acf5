use Rattle.std.proofs.Common.{[]}
use Rattle.std.proofs.lemmas.Result.{IfOk-weaker}
use Rattle.grammar_theory.specs.Key.{keys_of}
use Rattle.forms_analyzer.proofs.TreeLemmas.{holds_first, given_only}
use Rattle.forms_analyzer.proofs.tree.only_tree.Goals as goal

pub returns-clause-made : goal.returns-clause-made
returns-clause-made c =
    IfOk-weaker c.read_program.result _ _
    (λ row holds. holds_first c.args.lang (keys_of c.args.tokens.now) c.args.mode [] row.items holds)
    c.read_program.ensures.kept

pub returns-clause-only : goal.returns-clause-only
returns-clause-only c = λ tree is.
    given_only c.args.lang (keys_of c.args.tokens.now) c.args.mode c.read_program.result tree
    c.read_program.ensures.only is
