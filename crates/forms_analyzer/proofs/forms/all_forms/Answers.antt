use Rattle.std.proofs.lemmas.Result.{IfOk-weaker}
use Rattle.forms_analyzer.proofs.FormsLemmas.{row_has_forms}
use Rattle.forms_analyzer.proofs.forms.all_forms.Goals as goal

-- the sites of the tree, and those of the forms
pub returns : goal.returns
returns c =
    IfOk-weaker c.with_sites.result _ _
    (λ all both.
    row_has_forms c.args.lang c.args.media_type c.args.text.now c.args.tokens.now c.args.comments.now c.requires.reads
    c.args.row.now c.requires.holds c.args.chosen c.in_ok-sites.sites c.in_ok-more.more all c.in_ok-sites.ensures
    c.in_ok-more.ensures both) c.with_sites.ensures
