-- No answer of such a bundle comes in any case.
use Rattle.std.specs.Prelude.{ℕ, Bool, false, List, Option, Some, None, Ok, Err, codes}
use Rattle.std.specs.List.{list_any}
use Rattle.std.proofs.Common.{◌≡◌, ap}
use Rattle.serde_json.specs.Data.{Data, Members}
use Rattle.serde_json.specs.Find.{as_object}
use Rattle.import_map.specs.ImportMap.{MapData}
use Rattle.import_map.specs.json_reading.Reading.{Reading, and_then, said}
use Rattle.graph_builder.specs.Memory.{is_forced}
use Rattle.graph_bundle.specs.declared.chosen.ChosenBundle.{ChosenBundle}
use Rattle.graph_bundle.specs.Bundle.{chosen_from_by}
use Rattle.graph_bundle.proofs.BundleLemmas.{members_unforced}
use Rattle.es_forms.specs.declared.chosen.Forms.{Forms}
use Rattle.forms_build.specs.declared.bundle.FormsBundle.{FormsBundle}
use Rattle.forms_build.specs.Bundle.{knows_forms, choice, choices_of, require_map_of, forms_from_by, forms_from, forms_of}

-- what choices and a bundle say together has the bundle
forms_chosen : (further : Reading Forms) (all : Reading Bool) (requires : Reading (Option MapData))
    (chosen : Reading ChosenBundle) (forms : FormsBundle)
    → and_then (λ c. and_then (λ a. and_then (λ r. and_then (λ b.
    Ok (record { chosen = b; forms = c; all_forms = a; require_map = r })) chosen) requires) all) further ≡ Ok forms
    → chosen ≡ Ok forms.chosen
forms_chosen (Err at) all requires chosen forms is = absurd (cc)
forms_chosen (Ok further) (Err at) requires chosen forms is = absurd (cc)
forms_chosen (Ok further) (Ok all) (Err at) chosen forms is = absurd (cc)
forms_chosen (Ok further) (Ok all) (Ok requires) (Err at) forms is = absurd (cc)
forms_chosen (Ok further) (Ok all) (Ok requires) (Ok chosen) forms is =
    let same : record { chosen = chosen; forms = further; all_forms = all; require_map = requires } ≡ forms = cc in
    ap (λ (f : FormsBundle). Ok f.chosen) same

pub members_free : (knows : List ℕ → Bool) (value : Data) (members : Members) (forms : FormsBundle)
    → forms_from_by knows value members ≡ Ok forms → list_any is_forced forms.chosen.bundle.arrival ≡ false
members_free knows value members forms is =
    members_unforced knows value members forms.chosen
    (forms_chosen (choices_of value) (choice (codes "allForms") value) (require_map_of value)
    (chosen_from_by knows value members) forms is)

pub forms_unforced : (value : Data) (forms : FormsBundle) → forms_of value ≡ Ok forms
    → list_any is_forced forms.chosen.bundle.arrival ≡ false
unfolding forms_of
forms_unforced value forms is = by (as_object value) is
  where
    by : (o : Option Members) → and_then (forms_from value) (said o) ≡ Ok forms
        → list_any is_forced forms.chosen.bundle.arrival ≡ false
    by None is = absurd (cc)
    by (Some members) is = members_free knows_forms value members forms is
