-- Bundles with choices, and with more: which further forms count, whether all forms are read, and where `require` leads.
use Rattle.std.specs.Prelude.{ℕ, Bool, false, ◌||◌, List, codes, bytes_eq, Option, None, Ok}
use Rattle.serde_json.specs.Data.{Data, Members}
use Rattle.import_map.specs.json_reading.Reading.{Reading, and_then, bool_of, object_of, optional}
use Rattle.graph_bundle.specs.declared.chosen.ChosenBundle.{ChosenBundle}
use Rattle.import_map.specs.ImportMap.{MapData}
use Rattle.graph_bundle.specs.Bundle.{knows_chosen, chosen_from_by, some_import_map}
use Rattle.es_forms.specs.declared.chosen.Forms.{Forms}
use Rattle.forms_build.specs.declared.bundle.FormsBundle.{FormsBundle}

-- the keys of the further forms
abbrev pub is_form : List ℕ → Bool
is_form key =
    bytes_eq key (codes "commonJs") || (bytes_eq key (codes "typeImports") || (bytes_eq key (codes "workers")
    || bytes_eq key (codes "addresses")))

-- the keys of a bundle with choices, these, and two more
abbrev pub knows_forms : List ℕ → Bool
knows_forms key =
    knows_chosen key || (is_form key || (bytes_eq key (codes "allForms") || bytes_eq key (codes "requireMap")))

-- whether an object chooses what this key says
abbrev pub choice : List ℕ → Data → Reading Bool
choice key value = optional bool_of false key value

-- the further forms that an object chooses
abbrev pub choices_of : Data → Reading Forms
choices_of value =
    and_then (λ commonjs. and_then (λ type_imports. and_then (λ workers. and_then (λ addresses. Ok (record {
      commonjs = commonjs;
      type_imports = type_imports;
      workers = workers;
      addresses = addresses;
    })) (choice (codes "addresses") value)) (choice (codes "workers") value)) (choice (codes "typeImports") value))
    (choice (codes "commonJs") value)

-- the import map of the edges of `require` that an object says, if it says one
abbrev pub require_map_of : Data → Reading (Option MapData)
require_map_of value = optional some_import_map None (codes "requireMap") value

-- the bundle that an object with these members says, of whose keys these are known
abbrev pub forms_from_by : (List ℕ → Bool) → Data → Members → Reading FormsBundle
forms_from_by knows value members =
    and_then (λ forms. and_then (λ all_forms. and_then (λ requires. and_then (λ chosen.
    Ok (record { chosen = chosen; forms = forms; all_forms = all_forms; require_map = requires }))
    (chosen_from_by knows value members))
    (require_map_of value))
    (choice (codes "allForms") value))
    (choices_of value)

abbrev pub forms_from : Data → Members → Reading FormsBundle
forms_from value members = forms_from_by knows_forms value members

-- the bundle that a JSON value says
unfoldable pub forms_of : Data → Reading FormsBundle
forms_of value = and_then (forms_from value) (object_of value)
