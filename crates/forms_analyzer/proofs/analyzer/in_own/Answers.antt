use Rattle.std.specs.Prelude.{false}
use Rattle.std.proofs.Common.{sym, subst, ◌∙◌, Bool}
use Rattle.graph_entry.specs.Specifier.{text_of}
use Rattle.graph_entry.specs.Reading.{IsAnalysis}
use Rattle.forms_analyzer.specs.Forms.{ReadsWhere}
use Rattle.forms_analyzer.proofs.analyzer.in_own.Goals as goal

-- by the choice
pub returns-then-is_any : goal.returns-then-is_any
returns-then-is_any c =
    subst (λ (b : Bool). IsAnalysis (ReadsWhere b c.args.chosen false (text_of c.args.specifier.now) c.args.media_type
    c.args.text.now) c.with_more.result) (sym c.if-is_any.true ∙ c.is_any.ensures) c.with_more.ensures

pub returns : goal.returns
returns c =
    subst (λ (b : Bool). IsAnalysis (ReadsWhere b c.args.chosen false (text_of c.args.specifier.now) c.args.media_type
    c.args.text.now) c.own_sites.result) (sym c.if-is_any.false ∙ c.is_any.ensures) c.own_sites.ensures
