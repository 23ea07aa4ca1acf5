use Rattle.std.proofs.Common.{string_bytes}
use Rattle.std.proofs.lemmas.Result.{IfOk-weaker}
use Rattle.specifier_edits.proofs.Theorems.{none_refused, is_changed, reads_moved, keeps_texts, cuts_specifiers, keeps_sites}
use Rattle.specifier_edits.proofs.rewrite.rewrite_sites.Goals as goal

-- none of the changes is faulty
pub applied-requires : goal.applied-requires
applied-requires c =
    λ fault refused. none_refused c.args.text.now c.args.sites.now c.args.changes.now c.in_ok-edits.edits.items fault
    c.utf8.text c.requires.sites c.requires.numbers c.in_ok-edits.ensures refused

pub returns-clause-text : goal.returns-clause-text
returns-clause-text c =
    IfOk-weaker c.applied.result _ _
    (λ new is. is_changed c.args.text.now c.args.sites.now c.args.changes.now c.in_ok-edits.edits.items
    (string_bytes new)
    c.requires.sites c.requires.numbers c.in_ok-edits.ensures is)
    c.applied.ensures

pub returns-clause-read : goal.returns-clause-read
returns-clause-read c =
    IfOk-weaker c.applied.result _ _
    (λ new is. reads_moved c.args.text.now c.args.sites.now c.args.changes.now (string_bytes new) c.requires.sites
    c.requires.numbers
    (is_changed c.args.text.now c.args.sites.now c.args.changes.now c.in_ok-edits.edits.items (string_bytes new)
    c.requires.sites c.requires.numbers c.in_ok-edits.ensures is))
    c.applied.ensures

pub returns-clause-texts : goal.returns-clause-texts
returns-clause-texts c =
    IfOk-weaker c.applied.result _ _
    (λ new is. keeps_texts c.args.text.now c.args.sites.now c.args.changes.now (string_bytes new) c.requires.sites
    c.requires.numbers
    (is_changed c.args.text.now c.args.sites.now c.args.changes.now c.in_ok-edits.edits.items (string_bytes new)
    c.requires.sites c.requires.numbers c.in_ok-edits.ensures is))
    c.applied.ensures

pub returns-clause-cuts : goal.returns-clause-cuts
returns-clause-cuts c =
    IfOk-weaker c.applied.result _ _
    (λ new is. cuts_specifiers c.args.text.now c.args.sites.now c.args.changes.now (string_bytes new) c.requires.sites
    c.requires.numbers
    (is_changed c.args.text.now c.args.sites.now c.args.changes.now c.in_ok-edits.edits.items (string_bytes new)
    c.requires.sites c.requires.numbers c.in_ok-edits.ensures is))
    c.applied.ensures

pub returns-clause-sites : goal.returns-clause-sites
returns-clause-sites c =
    IfOk-weaker c.applied.result _ _
    (λ new is. keeps_sites c.args.text.now c.args.sites.now c.args.changes.now (string_bytes new) c.requires.sites
    c.requires.numbers
    (is_changed c.args.text.now c.args.sites.now c.args.changes.now c.in_ok-edits.edits.items (string_bytes new)
    c.requires.sites c.requires.numbers c.in_ok-edits.ensures is))
    c.applied.ensures
