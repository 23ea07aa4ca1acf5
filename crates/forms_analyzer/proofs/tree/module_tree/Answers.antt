use Rattle.std.proofs.lemmas.Result.{IfOk-weaker}
use Rattle.grammar_theory.specs.declared.error.Mode.TheVariants as mode
use Rattle.grammar_theory.specs.Key.{keys_of}
use Rattle.forms_analyzer.proofs.TreeLemmas.{holds_later, given_later}
use Rattle.forms_analyzer.proofs.tree.module_tree.Goals as goal

pub returns-clause-made : goal.returns-clause-made
returns-clause-made c =
    IfOk-weaker c.read_program.result _ _
    (λ row holds. holds_later c.args.lang (keys_of c.args.tokens.now) mode.Script mode.Module row.items c.requires
    holds)
    c.read_program.ensures.kept

pub returns-clause-only : goal.returns-clause-only
returns-clause-only c = λ tree is.
    given_later c.args.lang (keys_of c.args.tokens.now) mode.Script mode.Module c.read_program.result tree c.requires
    c.read_program.ensures.only is
