-- What an input says, by the form that asks for it (this project's profile).
use Rattle.std.specs.Prelude.{ℕ, Bool, ◌||◌, List, codes, bytes_eq, Ok}
use Rattle.serde_json.specs.Data.{Data, Members}
use Rattle.import_map.specs.json_reading.Reading.{Reading, and_then, url_of, object_of, required}
use Rattle.graph_builder.specs.declared.following.Following.{Following}
use Rattle.graph_builder.specs.Builder.{following_of, json_allowed}
use Rattle.forms_build.specs.declared.bundle.FormsBundle.{FormsBundle}
use Rattle.forms_build.specs.Bundle.{knows_forms, forms_from_by, forms_of}
use Rattle.graph_policy_file.specs.PolicyFile.{policy_of}
use Rattle.joravelsu_run.specs.declared.words.Form.{Form}
use Rattle.joravelsu_run.specs.declared.words.Form.TheVariants as form
use Rattle.joravelsu_run.specs.declared.asked.Telling.{Telling}
use Rattle.joravelsu_run.specs.declared.asked.Telling.TheVariants.{Report, Order, Groups, Faults, Way, Gone, Verdict, Declarations}
use Rattle.joravelsu_run.specs.declared.asked.Asked.{Asked}
use Rattle.joravelsu_run.specs.Without.{without_of}

-- a bundle with choices alone, of whose graph this is told
abbrev pub plain_of : Telling → Data → Reading Asked
plain_of telling value = and_then (λ forms. Ok (record { forms = forms; telling = telling })) (forms_of value)

-- the keys of a bundle with choices, and a further one
abbrev pub knows_way : List ℕ → Bool
knows_way key = knows_forms key || bytes_eq key (codes "why")

abbrev pub knows_gone : List ℕ → Bool
knows_gone key = knows_forms key || bytes_eq key (codes "without")

abbrev pub knows_ruled : List ℕ → Bool
knows_ruled key = knows_forms key || bytes_eq key (codes "policy")

-- which edges are followed, and whether an import without an attribute may be of JSON
abbrev pub following_in : FormsBundle → Following
following_in forms = json_allowed forms.chosen.json_without_attribute (following_of forms.chosen.bundle.options)

-- the bundle with choices that an object with these members says, and the specifier to which a way is told, which is looked at
-- first
abbrev pub way_from : Data → Members → Reading Asked
way_from value members =
    and_then (λ to. and_then (λ forms. Ok (record { forms = forms; telling = Way (following_in forms) to }))
    (forms_from_by knows_way value members))
    (required url_of (codes "why") value)

unfoldable pub way_of : Data → Reading Asked
way_of value = and_then (way_from value) (object_of value)

-- the same, and what is left out of its graph, which is looked at first
abbrev pub gone_from : Data → Members → Reading Asked
gone_from value members =
    and_then (λ without. and_then (λ forms. Ok (record { forms = forms; telling = Gone (following_in forms) without }))
    (forms_from_by knows_gone value members))
    (required without_of (codes "without") value)

unfoldable pub gone_of : Data → Reading Asked
gone_of value = and_then (gone_from value) (object_of value)

-- the bundle with choices that an object with these members says, and the rules on its graph, which are looked at first
abbrev pub ruled_from : Data → Members → Reading Asked
ruled_from value members =
    and_then (λ rules. and_then (λ forms. Ok (record { forms = forms; telling = Verdict rules }))
    (forms_from_by knows_ruled value members))
    (required policy_of (codes "policy") value)

unfoldable pub ruled_of : Data → Reading Asked
ruled_of value = and_then (ruled_from value) (object_of value)

-- by the form
abbrev pub asked_of : Form → Data → Reading Asked
asked_of form.Build value = plain_of Report value
asked_of form.Order value = plain_of Order value
asked_of form.Groups value = plain_of Groups value
asked_of form.Faults value = plain_of Faults value
asked_of form.Why value = way_of value
asked_of form.Gone value = gone_of value
asked_of form.Policy value = ruled_of value
asked_of form.Declarations value = plain_of Declarations value
