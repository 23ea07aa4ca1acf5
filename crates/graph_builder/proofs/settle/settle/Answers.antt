-- Where nothing is to be judged the first entries are those of the graph.
use Rattle.std.proofs.Common.{◌≡◌, ◌∙◌, sym, ap, true}
use Rattle.std.proofs.lemmas.List.Folds.{list_all-map}
use Rattle.url.specs.Parts.{Parts}
use Rattle.graph_entry.specs.declared.entry.Entry.{Entry}
use Rattle.graph_builder.specs.Rules.{rules_of}
use Rattle.graph_builder.specs.Settling.{is_plain, all_plain, are_plain, all_kept}
use Rattle.graph_builder.proofs.PlainLemmas.{plain_finals}
use Rattle.graph_builder.proofs.SettlingLemmas.{kept_finals}
use Rattle.graph_builder.proofs.settle.settle.Goals as goal

pub returns-then-are_plain : goal.returns-then-are_plain
returns-then-are_plain c =
    let plain : are_plain c.args.firsts ≡ true =
    sym (list_all-map is_plain (λ (e : Parts × Entry). e.1) c.args.firsts) ∙ ap all_plain (sym c.values.ensures)
    ∙ sym c.are_plain.ensures ∙ c.if-are_plain.true in
    plain_finals (rules_of c.args.following) c.args.firsts plain

pub returns-then-are_kept : goal.returns-then-are_kept
returns-then-are_kept c =
    kept_finals (rules_of c.args.following) c.args.firsts c.in_ok-verdicts.verdicts c.in_ok-verdicts.ensures
    (ap all_kept (sym c.as_slice.ensures) ∙ sym c.are_kept.ensures ∙ c.if-are_kept.true)
