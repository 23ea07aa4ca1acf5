use Rattle.std.proofs.Common.{string_bytes}
use Rattle.std.proofs.lemmas.Result.{IfOk-weaker}
use Rattle.graph_vendor.proofs.FileLemmas.{text_sites, text_names, text_new}
use Rattle.graph_vendor.proofs.files.new_text.Goals as goal

pub rewrite_sites-requires-clause-sites : goal.rewrite_sites-requires-clause-sites
rewrite_sites-requires-clause-sites c =
    text_sites c.args.held.now c.as_str.result.now c.as_slice.result.now c.in_ok-sites.sites c.as_slice-3.result.now
    c.requires c.as_str.ensures c.as_slice.ensures c.in_ok-sites.ensures c.as_slice-3.ensures

pub rewrite_sites-requires-clause-numbers : goal.rewrite_sites-requires-clause-numbers
rewrite_sites-requires-clause-numbers c =
    text_names c.args.graph.now.entries c.args.names.now c.args.held.now c.as_slice.result.now c.as_slice-2.result.now
    c.in_ok-sites.sites c.as_slice-3.result.now c.in_ok-changes.changes.items c.as_slice-4.result.now c.requires
    c.as_slice.ensures c.in_ok-sites.ensures c.as_slice-3.ensures c.as_slice-2.ensures c.as_slice-4.ensures.value
    c.in_ok-changes.ensures

-- the new text has the new literals
pub returns : goal.returns
returns c =
    IfOk-weaker c.rewrite_sites.result _ _
    (λ new is. text_new c.args.graph.now.entries c.args.names.now c.args.held.now c.as_str.result.now
    c.as_slice.result.now c.as_slice-2.result.now c.in_ok-sites.sites c.as_slice-3.result.now
    c.in_ok-changes.changes.items c.as_slice-4.result.now (string_bytes new) c.requires c.as_str.ensures
    c.as_slice.ensures c.in_ok-sites.ensures c.as_slice-3.ensures c.as_slice-2.ensures c.as_slice-4.ensures.value
    c.in_ok-changes.ensures is)
    c.rewrite_sites.ensures.text
