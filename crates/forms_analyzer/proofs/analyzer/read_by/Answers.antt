use Rattle.std.specs.Prelude.{IfOk}
use Rattle.std.proofs.Common.{sym, subst, ◌∙◌, Bool}
use Rattle.forms_analyzer.specs.Forms.{HasBy}
use Rattle.forms_analyzer.proofs.analyzer.read_by.Goals as goal

-- by the choice
pub returns-then-is_any-clause-found : goal.returns-then-is_any-clause-found
returns-then-is_any-clause-found c =
    subst (λ (b : Bool). IfOk c.read_forms.result (HasBy b c.args.chosen c.args.lang c.args.media_type c.args.text.now))
    (sym c.if-is_any.true ∙ c.is_any.ensures) c.read_forms.ensures.found

pub returns-clause-found : goal.returns-clause-found
returns-clause-found c =
    subst (λ (b : Bool). IfOk c.read_sites_in.result (HasBy b c.args.chosen c.args.lang c.args.media_type
    c.args.text.now)) (sym c.if-is_any.false ∙ c.is_any.ensures) c.read_sites_in.ensures.found
