-- The next module is put behind those so far.
use Rattle.std.proofs.Common.{◌≡◌, ℕ, ◌+◌, sym, ◌∙◌, ap, List, [], ◌∷◌, ◌++◌, length, map, drop, Ok, decimal, arith, length-append}
use Rattle.std.proofs.lemmas.List.{drop_more}
use Rattle.url.specs.Parts.{Parts}
use Rattle.serde_json.specs.Data.{Data}
use Rattle.serde_json.specs.View.{view}
use Rattle.serde_json.specs.declared.value.Value.{Value}
use Rattle.graph_entry.specs.declared.answer.LoadAnswer.{LoadAnswer}
use Rattle.graph_entry.specs.Specifier.{text_of}
use Rattle.graph_builder.specs.ByText.{keys_at}
use Rattle.import_map.specs.json_reading.Reading.{under}
use Rattle.graph_bundle.specs.Bundle.{module_after, modules_from, specifiers}
use Rattle.import_map.proofs.json_reading_lemmas.ReadingLemmas.{prepend}
use Rattle.graph_bundle.proofs.BundleLemmas.{next_module, fresh, number_none}
use Rattle.graph_bundle.proofs.modules.each_module.Goals as goal

pub add-requires : goal.add-requires
add-requires c =
    number_none c.loop-value.modules (text_of c.in-Ok.module.0)
    (fresh (keys_at c.loop-value.modules) _ (view c.value-item.result) c.in-Ok.module
    (sym c.in_ok-module.ensures ∙ c.in-Ok.is))

pub loop-value-preserved : goal.loop-value-preserved
loop-value-preserved c =
    let modules = c.loop-value.modules in
    let i = c.loop-value.value-index in
    let m = c.in-Ok.module in
    let item = c.value-item.result in
    let values = c.args.values.now in
    let added : c.add.new.modules ≡ modules ++ m ∷ [] = c.in_ok-add-in-Ok.ensures in
    let longer : length c.add.new.modules ≡ length modules + 1 = ap length added ∙ length-append modules (m ∷ []) in
    let said : under (decimal i) (module_after (specifiers modules) (view item)) ≡ Ok m =
    ap (λ (n : ℕ). under (decimal n) (module_after (specifiers modules) (view item))) c.loop-value.invariant.counted
    ∙ sym c.in_ok-module.ensures ∙ c.in-Ok.is in
    let split : map view (drop i values) ≡ view item ∷ map view (drop (i + 1) values) =
    ap (map view) (drop_more values i item c.loop-value-test.true
    ∙ ap (λ (v : Value). v ∷ drop (i + 1) values) (sym c.value-item.is)) in
    record {
      rest = c.loop-value.invariant.rest
          ∙ ap (λ (ds : List Data). prepend modules (modules_from (specifiers modules) i ds)) split
          ∙ next_module modules i (view item) (map view (drop (i + 1) values)) m said
          ∙ ap (λ (ms : List (Parts × LoadAnswer)).
          prepend ms (modules_from (specifiers ms) (i + 1) (map view (drop (i + 1) values)))) (sym added);
      counted = omega (arith, c.loop-value.invariant.counted, longer);
    }
