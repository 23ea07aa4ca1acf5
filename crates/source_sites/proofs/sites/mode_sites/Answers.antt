use Rattle.std.specs.Prelude.{List, IfOk}
use Rattle.std.specs.List.{flat_map}
use Rattle.std.proofs.Common.{◌≡◌, subst}
use Rattle.std.proofs.lemmas.Result.{IfOk-weaker}
use Rattle.es_syntax.specs.declared.entry.Entry.{Entry}
use Rattle.es_syntax.specs.Trees.{trees}
use Rattle.es_grammar.specs.cst.Slim.{tree_of}
use Rattle.es_law_sites.specs.plain.Own.{plain_sites}
use Rattle.source_sites.proofs.SitesLemmas.{kept_of, derived_sites, kept_given, refused}
use Rattle.source_sites.proofs.sites.mode_sites.Goals as goal

-- what is kept has a typed tree, with these sites
pub returns-in-Ok-clause-made : goal.returns-in-Ok-clause-made
returns-in-Ok-clause-made c =
    let x = c.args.text.now in
    let ts = c.args.tokens.now in
    IfOk-weaker c.kept_sites.result _ _
    (λ found same. derived_sites c.args.lang c.args.mode x ts c.in-Ok.row.items found c.in-Ok.ensures.kept same)
    (subst (λ (es : List Entry). IfOk c.kept_sites.result (λ found. found ≡ flat_map (plain_sites x ts) (trees es)))
    c.as_slice.ensures.value c.kept_sites.ensures.found)

-- and no other
pub returns-in-Ok-clause-only : goal.returns-in-Ok-clause-only
returns-in-Ok-clause-only c = λ tree derived.
    let x = c.args.text.now in
    let ts = c.args.tokens.now in
    kept_given c.args.lang c.args.mode x ts c.in-Ok.row.items c.kept_sites.result tree c.in-Ok.ensures.kept
    (subst (λ (es : List Entry). IfOk c.kept_sites.result (λ found. found ≡ flat_map (plain_sites x ts) (trees es)))
    c.as_slice.ensures.value c.kept_sites.ensures.found)
    c.kept_sites.ensures.memory derived

-- where nothing is kept, nothing is derived
pub returns-in-Err-clause-only : goal.returns-in-Err-clause-only
returns-in-Err-clause-only c = λ tree derived.
    refused c.in-Err.error tree (tree_of derived.plain)
    (c.in-Err.ensures.only (tree_of derived.plain)
    (kept_of c.args.lang c.args.mode c.args.text.now c.args.tokens.now tree derived))
