use Rattle.std.proofs.Common.{subst, Err, Ok, [], ◌∷◌}
use Rattle.grammar_theory.specs.declared.error.SyntaxError.{SyntaxError}
use Rattle.grammar_theory.specs.declared.error.Mode.TheVariants as mode
use Rattle.grammar_theory.specs.Key.{keys_of}
use Rattle.es_program_reader.specs.Derived.{GivesTree}
use Rattle.forms_analyzer.proofs.TreeLemmas.{holds_first, given_first}
use Rattle.forms_analyzer.proofs.tree.script_tree.Goals as goal

-- it is a script
pub returns-in-Ok-clause-made : goal.returns-in-Ok-clause-made
returns-in-Ok-clause-made c =
    holds_first c.args.lang (keys_of c.args.tokens.now) mode.Script (mode.Module ∷ []) c.in-Ok.row.items
    c.in-Ok.ensures.kept

pub returns-in-Ok-clause-only : goal.returns-in-Ok-clause-only
returns-in-Ok-clause-only c = λ tree is.
    given_first c.args.lang (keys_of c.args.tokens.now) mode.Script mode.Module (Ok c.in-Ok.row) c.in-Ok.row.items tree
    c.in-Ok.ensures.kept c.in-Ok.ensures.only is

-- it is none
pub module_tree-requires : goal.module_tree-requires
module_tree-requires c = λ tree is.
    subst (λ (e : SyntaxError). GivesTree (Err e) tree) c.in-Err-Syntax.field-0-is
    (c.in-Err-Syntax.ensures.only tree is)
