use Rattle.std.proofs.lemmas.Result.{IfOk-weaker}
use Rattle.forms_analyzer.proofs.FormsLemmas.{row_has_sites}
use Rattle.forms_analyzer.proofs.forms.sites_of_row.Goals as goal

-- those of its comments, and those of its tree
pub returns : goal.returns
returns c =
    IfOk-weaker c.with_sites.result _ _
    (λ all both.
    row_has_sites c.args.lang c.args.media_type c.args.text.now c.args.tokens.now c.args.comments.now c.requires.reads
    c.args.row.now c.requires.holds c.in_ok-references.references c.in_ok-found.found all c.in_ok-references.ensures
    c.in_ok-found.ensures both) c.with_sites.ensures
