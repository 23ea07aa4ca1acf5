use Rattle.std.proofs.Common.{◌≡◌, ◌∙◌, ℕ, List, IfOk, string_bytes}
use Rattle.es_site.specs.declared.site.Site.{Site}
use Rattle.deno_ast.specs.Parsed.{parsed_sites}
use Rattle.specifier_edits.specs.Edits.{edits, KeepsTexts, KeepsSites}
use Rattle.specifier_rewriting.proofs.Theorems.{carry}
use Rattle.specifier_rewriting.proofs.rewrite.rewrite_specifiers.Goals as goal

pub returns-clause-texts : goal.returns-clause-texts
returns-clause-texts c =
    let P : List ℕ → List Site → Type 0 = λ x ss.
    IfOk c.rewrite_sites.result (λ new. KeepsTexts x (edits ss c.args.changes.now) (string_bytes new)) in
    let text : c.as_str.result.now ≡ c.args.source.now.text = c.as_str.ensures ∙ c.text.ensures in
    let sites : c.as_slice.result.now ≡ parsed_sites c.args.source.now = c.as_slice.ensures ∙ c.in_ok-sites.ensures in
    carry P c.as_str.result.now c.args.source.now.text c.as_slice.result.now (parsed_sites c.args.source.now) text sites
    c.rewrite_sites.ensures.texts

pub returns-clause-sites : goal.returns-clause-sites
returns-clause-sites c =
    let P : List ℕ → List Site → Type 0 = λ x ss.
    IfOk c.rewrite_sites.result (λ new. KeepsSites x ss c.args.changes.now (string_bytes new)) in
    let text : c.as_str.result.now ≡ c.args.source.now.text = c.as_str.ensures ∙ c.text.ensures in
    let sites : c.as_slice.result.now ≡ parsed_sites c.args.source.now = c.as_slice.ensures ∙ c.in_ok-sites.ensures in
    carry P c.as_str.result.now c.args.source.now.text c.as_slice.result.now (parsed_sites c.args.source.now) text sites
    c.rewrite_sites.ensures.sites
