use Rattle.std.proofs.Common.{subst, Err, [], ◌∷◌}
use Rattle.grammar_theory.specs.declared.error.SyntaxError.{SyntaxError}
use Rattle.grammar_theory.specs.declared.error.SyntaxError.TheVariants.{Syntax}
use Rattle.grammar_theory.specs.declared.error.Mode.TheVariants as mode
use Rattle.source_sites.specs.Answers.{GivesSites}
use Rattle.source_reading.proofs.TreeLemmas.{is_first}
use Rattle.source_sites.proofs.SitesLemmas.{AreOf-weaker, first_sites, first_given}
use Rattle.source_sites.proofs.sites.script_sites.Goals as goal

-- it is a script
pub returns-in-Ok-clause-made : goal.returns-in-Ok-clause-made
returns-in-Ok-clause-made c =
    AreOf-weaker _ _
    (λ tree is. is_first c.args.lang c.args.text.now c.args.tokens.now mode.Script (mode.Module ∷ []) tree is)
    c.in-Ok.found c.in-Ok.ensures.made

pub returns-in-Ok-clause-only : goal.returns-in-Ok-clause-only
returns-in-Ok-clause-only c = λ tree is.
    first_sites c.args.lang c.args.text.now c.args.tokens.now (mode.Script ∷ mode.Module ∷ []) c.in-Ok.found tree
    (AreOf-weaker _ _
    (λ tree is. is_first c.args.lang c.args.text.now c.args.tokens.now mode.Script (mode.Module ∷ []) tree is)
    c.in-Ok.found c.in-Ok.ensures.made) is

-- it is neither
pub returns-in-Err-Syntax-clause-only : goal.returns-in-Err-Syntax-clause-only
returns-in-Err-Syntax-clause-only c = λ tree is.
    first_given c.args.lang c.args.text.now c.args.tokens.now mode.Script mode.Module (Err (Syntax c.args.token)) tree
    (λ tree script. subst (λ (e : SyntaxError). GivesSites (Err e) tree) c.in-Err-Syntax.field-0-is
    (c.in-Err-Syntax.ensures.only tree script))
    (λ tree as_module. absurd (c.requires.none tree as_module)) is
