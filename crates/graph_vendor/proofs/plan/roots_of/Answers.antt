use Rattle.std.proofs.Common.{List, ◌∷◌, [], ◌++◌, ◌∙◌, ap, sym, take, append-nil, Option}
use Rattle.std.specs.Prelude.{option_map}
use Rattle.std.specs.Option.{option_copied}
use Rattle.std.specs.List.{filter_map, cons_option}
use Rattle.std.proofs.lemmas.List.{map-append}
use Rattle.url.specs.Parts.{Parts}
use Rattle.graph_entry.specs.Specifier.{text_of}
use Rattle.graph_builder.specs.Reach.{Specifier}
use Rattle.graph_builder.specs.Graph.{texts}
use Rattle.graph_vendor.specs.Names.{renamed}
use Rattle.graph_vendor.proofs.FileLemmas.{filter_next}
use Rattle.graph_vendor.proofs.plan.roots_of.Goals.{in-Some+in_ok-clone+in_ok-push, in_default}
use Rattle.graph_vendor.proofs.plan.roots_of.Goals as goal

-- the new name of one more root, where it has one
pub loop-root-preserved : goal.loop-root-preserved
loop-root-preserved c =
    let name = λ (r : Parts). renamed c.args.graph.now.entries c.args.names.now (text_of r) in
    let more = filter_next name c.roots-root-items.result.now c.loop-root.root-index c.root-item.result
    c.root-item.result
    c.loop-root-test.true c.root-item.is in
    let front = filter_map name (take c.loop-root.root-index c.roots-root-items.result.now) in
    elim c.match-renamed.branch [
      | in-Some+in_ok-clone+in_ok-push w ↦
          ap texts (w.roots-is ∙ w.in_ok-push.ensures.ok)
          ∙ map-append text_of c.loop-root.roots (w.in_ok-clone.field-0 ∷ [])
          ∙ ap (λ (ts : List Specifier). ts ++ text_of w.in_ok-clone.field-0 ∷ []) c.loop-root.invariant
          ∙ ap (λ (u : Parts). front ++ text_of u ∷ []) w.in_ok-clone.ensures.cases
          ∙ ap (λ (o : Option Specifier). front ++ cons_option o [])
          (sym (ap (λ r. option_map text_of (option_copied r)) w.in-Some.is) ∙ c.renamed.ensures) ∙ sym more
      | in_default w ↦
          ap texts w.roots-is ∙ c.loop-root.invariant ∙ sym (append-nil front)
          ∙ ap (λ (o : Option Specifier). front ++ cons_option o [])
          (sym (ap (λ r. option_map text_of (option_copied r)) w.in_default.is) ∙ c.renamed.ensures) ∙ sym more
    ]
