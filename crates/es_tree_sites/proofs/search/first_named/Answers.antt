use Rattle.std.proofs.Common.{rules, ◌≡◌, ◌∷◌, sym, ◌∙◌, false}
use Rattle.es_tree_sites.specs.Named.{may_name}
use Rattle.es_tree_sites.proofs.LeftLemmas.{searched_more, passed_here}
use Rattle.es_tree_sites.proofs.search.first_named.Goals as goal

-- so many entries were passed
pub returns-then-may_name : goal.returns-then-may_name
returns-then-may_name c =
    passed_here c.args.entries.now c.loop-entry.row.now c.loop-entry.invariant.1 c.loop-entry.invariant.2

-- one more
pub loop-entry-preserved : goal.loop-entry-preserved
loop-entry-preserved c =
    let first : c.loop-entry.row.now ≡ c.in-Some.entry.now ∷ c.in-Some.behind.now = search rules in
    let none : may_name c.in-Some.entry.now.what ≡ false = sym c.may_name.ensures ∙ c.if-may_name.false in
    searched_more c.args.entries.now c.loop-entry.row.now c.in-Some.behind.now c.in-Some.entry.now first none
    c.loop-entry.invariant.0 c.loop-entry.invariant.1 c.loop-entry.invariant.2
