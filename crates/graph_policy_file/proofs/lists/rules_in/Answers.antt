-- The items of the array are the values of its list.
use Rattle.std.proofs.Common.{◌≡◌, ◌∙◌, ap, List, Some}
use Rattle.serde_json.specs.Find.{as_array}
use Rattle.serde_json.specs.View.{view, items_view}
use Rattle.serde_json.specs.declared.value.Value.{Value}
use Rattle.import_map.proofs.json_reading_lemmas.ReadingLemmas.{each_array, IfOk-map}
use Rattle.graph_policy_file.proofs.lists.rules_in.Goals as goal

pub returns-in-Some : goal.returns-in-Some
returns-in-Some g c =
    let slice = c.as_slice.result.now in
    let items : Some (items_view c.in-Some.values.now.items) ≡ as_array (view c.args.value.now) =
    rw c.in-Some.is at c.as_array.ensures in
    let given : Some (items_view slice) ≡ as_array (view c.args.value.now) =
    ap (λ (vs : List Value). Some (items_view vs)) c.as_slice.ensures.value ∙ items in
    IfOk-map c.each.result _ _ (λ found is. is ∙ each_array g.R.Rule.says (view c.args.value.now) slice given)
    c.each.ensures
