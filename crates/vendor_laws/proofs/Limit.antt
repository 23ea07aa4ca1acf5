-- The limit of a bundle is within its bounds.
use Rattle.std.proofs.Common.{◌≡◌, ◌∙◌, refl, sym, ap, subst, ℕ, ◌≤◌, ◌<◌, Bool, true, false, ◌||◌, List, [], Option, Some, None, Result, Ok, Err, arith}
use Rattle.std.specs.Prelude.{codes, nat_lt, option_and_then, if◌then◌else◌}
use Rattle.std.proofs.lemmas.Bool.{ltb-false}
use Rattle.std.proofs.lemmas.Option.{none-some, same_Some}
use Rattle.serde_json.specs.Data.{Data}
use Rattle.serde_json.specs.Find.{get, as_number, as_u64}
use Rattle.import_map.specs.json_reading.Reading.{Reading, and_then, said, under, url_of, bool_of, object_of, each_of, required, optional, or_default, only}
use Rattle.graph_entry.specs.declared.kind.GraphKind.TheVariants.{All}
use Rattle.graph_builder.specs.declared.options.BuildOptions.{BuildOptions}
use Rattle.graph_bundle.specs.declared.bundle.Bundle.{Bundle}
use Rattle.graph_bundle.specs.Bundle.{kind_of, default_limit, highest_limit, within_bounds, limit_in, limit_of, limit_at, place_of, options_of, modules_of, arrival_of, some_import_map, knows_bundle, bundle_from, bundle_of}

abbrev held : {A : Type 0} → A → Reading A → A
held {A} x (Ok y) = y
held {A} x (Err at) = x

-- what comes first was said, too
then_ok : {A B : Type 0} (f : A → Reading B) (r : Reading A) (y : B) → and_then f r ≡ Ok y
    → (x : A) × (r ≡ Ok x) × (f x ≡ Ok y)
then_ok {A} {B} f (Ok x) y e = (x, refl, e)
then_ok {A} {B} f (Err at) y e = absurd (let bad : ⊥ = cc in bad)

under_ok : {A : Type 0} (part : List ℕ) (r : Reading A) (y : A) → under part r ≡ Ok y → r ≡ Ok y
under_ok {A} part (Ok x) y e = e
under_ok {A} part (Err at) y e = absurd (let bad : ⊥ = cc in bad)

said_ok : {A : Type 0} (o : Option A) (y : A) → said o ≡ Ok y → o ≡ Some y
said_ok {A} (Some x) y e = ap (λ (r : Reading A). Some (held x r)) e
said_ok {A} None y e = absurd (let bad : ⊥ = cc in bad)

abbrev IsWithin : ℕ → Type 0
IsWithin n = (1 ≤ n) × (n ≤ highest_limit)

bounded : (n m : ℕ) → within_bounds n ≡ Some m → IsWithin m
bounded n m e = by (nat_lt n 1) (nat_lt highest_limit n) refl refl e
  where
    by : (a b : Bool) → nat_lt n 1 ≡ a → nat_lt highest_limit n ≡ b
        → (if a || b then None else Some n) ≡ Some m → IsWithin m
    by true b less more h = absurd (none-some m h)
    by false true less more h = absurd (none-some m h)
    by false false less more h =
        let same = same_Some n m h in
        let x = ltb-false n 1 less in
        let y = ltb-false highest_limit n more in
        (omega (arith, same, x), omega (arith, same, y))

limited_in : (o : Option ℕ) (m : ℕ) → option_and_then within_bounds o ≡ Some m → IsWithin m
limited_in (Some n) m e = bounded n m e
limited_in None m e = absurd (none-some m e)

limited_by : (o : Option Data) (m : ℕ) → or_default limit_of default_limit o ≡ Ok m → IsWithin m
limited_by (Some value) m e =
    limited_in (option_and_then as_u64 (as_number value)) m (said_ok (limit_in value) m e)
limited_by None m e =
    let same : default_limit ≡ m = ap (λ (r : Reading ℕ). held default_limit r) e in
    (omega (arith, same), omega (arith, same))

options_limited : (value : Data) (options : BuildOptions) → options_of value ≡ Ok options → IsWithin options.limit
options_limited value options e =
    let a = then_ok _ (optional kind_of All (codes "kind") value) options e in
    let b = then_ok _ (limit_at value) options a.2 in
    let c = then_ok _ (optional bool_of false (codes "skipDynamicDeps") value) options b.2 in
    let d = then_ok _ (optional (each_of place_of) [] (codes "imports") value) options c.2 in
    let same : b.0 ≡ options.limit = ap (λ (r : Reading BuildOptions). (held options r).limit) d.2 in
    subst IsWithin same
    (limited_by (get (codes "limit") value) b.0
    (under_ok (codes "limit") (or_default limit_of default_limit (get (codes "limit") value)) b.0 b.1))

pub limited : (value : Data) (bundle : Bundle) → bundle_of value ≡ Ok bundle → IsWithin bundle.options.limit
unfolding bundle_of
limited value bundle e =
    let a = then_ok (bundle_from value) (object_of value) bundle e in
    let b = then_ok _ (required (each_of url_of) (codes "roots") value) bundle a.2 in
    let c = then_ok _ (options_of value) bundle b.2 in
    let d = then_ok _ (required modules_of (codes "modules") value) bundle c.2 in
    let f = then_ok _ (optional (each_of arrival_of) [] (codes "arrival") value) bundle d.2 in
    let g = then_ok _ (optional some_import_map None (codes "importMap") value) bundle f.2 in
    let h = then_ok _ (only knows_bundle a.0) bundle g.2 in
    let same : c.0 ≡ bundle.options = ap (λ (r : Reading Bundle). (held bundle r).options) h.2 in
    subst (λ (o : BuildOptions). IsWithin o.limit) same (options_limited value c.0 c.1)
