use Rattle.std.proofs.Common.{subst, Err, [], ◌∷◌}
use Rattle.grammar_theory.specs.declared.error.SyntaxError.{SyntaxError}
use Rattle.grammar_theory.specs.declared.error.Mode.TheVariants as mode
use Rattle.source_sites.specs.Answers.{GivesSites}
use Rattle.source_sites.proofs.SitesLemmas.{module_sites, first_sites}
use Rattle.source_sites.proofs.sites.either_sites.Goals as goal

-- it is a module
pub returns-in-Ok-clause-made : goal.returns-in-Ok-clause-made
returns-in-Ok-clause-made c =
    module_sites c.args.lang c.args.text.now c.args.tokens.now c.in-Ok.found c.in-Ok.ensures.made

pub returns-in-Ok-clause-only : goal.returns-in-Ok-clause-only
returns-in-Ok-clause-only c = λ tree is.
    first_sites c.args.lang c.args.text.now c.args.tokens.now (mode.Script ∷ mode.Module ∷ []) c.in-Ok.found tree
    (module_sites c.args.lang c.args.text.now c.args.tokens.now c.in-Ok.found c.in-Ok.ensures.made) is

-- it is none
pub script_sites-requires-clause-none : goal.script_sites-requires-clause-none
script_sites-requires-clause-none c = λ tree is.
    subst (λ (e : SyntaxError). GivesSites (Err e) tree) c.in-Err-Syntax.field-0-is
    (c.in-Err-Syntax.ensures.only tree is)
