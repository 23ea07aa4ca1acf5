-- What inputs say.
use Rattle.std.proofs.Common.{◌≡◌, sym, ap, List, ℕ, Option, Some, None, Result, Ok, Err}
use Rattle.std.specs.Prelude.{codes}
use Rattle.serde_json.specs.Data.{Data, Members}
use Rattle.serde_json.specs.Find.{as_object}
use Rattle.import_map.specs.json_reading.Reading.{Reading, and_then, said, url_of, required}
use Rattle.graph_policy.specs.declared.rule.Policy.{Policy}
use Rattle.graph_policy_file.specs.PolicyFile.{policy_of}
use Rattle.forms_build.specs.declared.bundle.FormsBundle.{FormsBundle}
use Rattle.forms_build.specs.Bundle.{forms_of, forms_from_by}
use Rattle.forms_build.proofs.BundleLemmas.{forms_unforced, members_free as members_unforced}
use Rattle.joravelsu_run.specs.declared.words.Form.{Form}
use Rattle.joravelsu_run.specs.declared.words.Form.TheVariants as form
use Rattle.joravelsu_run.specs.declared.asked.Telling.{Telling}
use Rattle.joravelsu_run.specs.declared.asked.Telling.TheVariants.{Report, Order, Groups, Faults, Way, Gone, Verdict, Declarations}
use Rattle.joravelsu_run.specs.declared.asked.Asked.{Asked}
use Rattle.joravelsu_run.specs.Without.{without_of}
use Rattle.joravelsu_run.specs.Asked.{following_in, knows_way, way_from, way_of, knows_gone, gone_from, gone_of, knows_ruled, ruled_from, ruled_of, asked_of}
use Rattle.joravelsu_run.specs.Steps.{IsFree}

-- a bundle with choices alone
pub plain_is : (telling : Telling) (r : Reading FormsBundle) (asked : Asked)
    → and_then (λ forms. Ok (record { forms = forms; telling = telling })) r ≡ Ok asked
    → (r ≡ Ok asked.forms) × (asked.telling ≡ telling)
plain_is telling (Err at) asked is = absurd (cc)
plain_is telling (Ok forms) asked is =
    let same : record { forms = forms; telling = telling } ≡ asked = cc in
    (ap (λ (a : Asked). Ok a.forms) same, ap (λ (a : Asked). a.telling) (sym same))

-- one with something else, which is looked at first
keyed_is : {A : Type 0} (key : Reading A) (tells : FormsBundle → A → Telling) (r : Reading FormsBundle)
    (asked : Asked)
    → and_then (λ a. and_then (λ forms. Ok (record { forms = forms; telling = tells forms a })) r) key ≡ Ok asked
    → r ≡ Ok asked.forms
keyed_is (Err at) tells r asked is = absurd (cc)
keyed_is (Ok a) tells (Err at) asked is = absurd (cc)
keyed_is (Ok a) tells (Ok forms) asked is =
    let same : record { forms = forms; telling = tells forms a } ≡ asked = cc in
    ap (λ (b : Asked). Ok b.forms) same

-- no answer of a bundle that is read comes in any case
members_free : (value : Data) (o : Option Members) (asked : Asked)
    → and_then (ruled_from value) (said o) ≡ Ok asked → IsFree asked
members_free value None asked is = absurd (cc)
members_free value (Some members) asked is =
    members_unforced knows_ruled value members asked.forms
    (keyed_is (required policy_of (codes "policy") value) (λ forms policy. Verdict policy)
    (forms_from_by knows_ruled value members) asked is)

ruled_free : (value : Data) (asked : Asked) → ruled_of value ≡ Ok asked → IsFree asked
unfolding ruled_of
ruled_free value asked is = members_free value (as_object value) asked is

way_members_free : (value : Data) (o : Option Members) (asked : Asked)
    → and_then (way_from value) (said o) ≡ Ok asked → IsFree asked
way_members_free value None asked is = absurd (cc)
way_members_free value (Some members) asked is =
    members_unforced knows_way value members asked.forms
    (keyed_is (required url_of (codes "why") value) (λ forms to. Way (following_in forms) to)
    (forms_from_by knows_way value members) asked is)

way_free : (value : Data) (asked : Asked) → way_of value ≡ Ok asked → IsFree asked
unfolding way_of
way_free value asked is = way_members_free value (as_object value) asked is

gone_members_free : (value : Data) (o : Option Members) (asked : Asked)
    → and_then (gone_from value) (said o) ≡ Ok asked → IsFree asked
gone_members_free value None asked is = absurd (cc)
gone_members_free value (Some members) asked is =
    members_unforced knows_gone value members asked.forms
    (keyed_is (required without_of (codes "without") value) (λ forms without. Gone (following_in forms) without)
    (forms_from_by knows_gone value members) asked is)

gone_free : (value : Data) (asked : Asked) → gone_of value ≡ Ok asked → IsFree asked
unfolding gone_of
gone_free value asked is = gone_members_free value (as_object value) asked is

pub asked_free : (f : Form) (value : Data) (asked : Asked) → asked_of f value ≡ Ok asked → IsFree asked
asked_free form.Build value asked is =
    forms_unforced value asked.forms (plain_is Report (forms_of value) asked is).0
asked_free form.Order value asked is =
    forms_unforced value asked.forms (plain_is Order (forms_of value) asked is).0
asked_free form.Groups value asked is =
    forms_unforced value asked.forms (plain_is Groups (forms_of value) asked is).0
asked_free form.Faults value asked is =
    forms_unforced value asked.forms (plain_is Faults (forms_of value) asked is).0
asked_free form.Why value asked is = way_free value asked is
asked_free form.Gone value asked is = gone_free value asked is
asked_free form.Policy value asked is = ruled_free value asked is
asked_free form.Declarations value asked is =
    forms_unforced value asked.forms (plain_is Declarations (forms_of value) asked is).0
