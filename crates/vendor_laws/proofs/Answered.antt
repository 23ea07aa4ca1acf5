-- A plan's bundle answers what the plan answers.
use Rattle.std.proofs.Common.{◌≡◌, ◌∙◌, refl, sym, ap, Bool, true, false, cond, List, [], ◌∷◌, ◌++◌, Option, Some, None}
use Rattle.std.specs.Prelude.{bytes_eq, ◌||◌, map, unwrap_or, if◌then◌else◌}
use Rattle.std.specs.Option.{option_or}
use Rattle.std.proofs.lemmas.Option.{none-some}
use Rattle.url.specs.Parts.{Parts}
use Rattle.graph_entry.specs.declared.answer.LoadAnswer.{LoadAnswer}
use Rattle.graph_entry.specs.declared.answer.LoadAnswer.TheVariants.{Absent, External}
use Rattle.graph_entry.specs.Specifier.{text_of}
use Rattle.graph_builder.specs.Reach.{Specifier, has}
use Rattle.graph_builder.specs.Graph.{texts}
use Rattle.graph_builder.specs.ByText.{value_at}
use Rattle.graph_builder.specs.Memory.{tells}
use Rattle.graph_vendor.specs.declared.plan.VendorPlan.{VendorPlan}
use Rattle.graph_vendor.specs.vendored.Vendored.{content_of, external_at, vendored_answers}
use Rattle.vendor_laws.specs.Bundle.{outside_at, modules_at}

front : {V : Type 0} (xs ys : List (Parts × V)) (s : Specifier) (v : V) → value_at xs s ≡ Some v
    → value_at (xs ++ ys) s ≡ Some v
front {V} [] ys s v e = absurd (none-some v e)
front {V} (x ∷ xs) ys s v e = by (bytes_eq s (text_of x.0)) (front xs ys s v) e
  where
    by : (b : Bool) → (value_at xs s ≡ Some v → value_at (xs ++ ys) s ≡ Some v)
        → cond b (Some x.1) (value_at xs s) ≡ Some v → cond b (Some x.1) (value_at (xs ++ ys) s) ≡ Some v
    by true later h = h
    by false later h = later h

behind : {V : Type 0} (xs ys : List (Parts × V)) (s : Specifier) → value_at xs s ≡ None
    → value_at (xs ++ ys) s ≡ value_at ys s
behind {V} [] ys s e = refl
behind {V} (x ∷ xs) ys s e = by (bytes_eq s (text_of x.0)) (behind xs ys s) e
  where
    by : (b : Bool) → (value_at xs s ≡ None → value_at (xs ++ ys) s ≡ value_at ys s)
        → cond b (Some x.1) (value_at xs s) ≡ None → cond b (Some x.1) (value_at (xs ++ ys) s) ≡ value_at ys s
    by true later h = absurd (none-some x.1 (sym h))
    by false later h = later h

outside : (urls : List Parts) (s : Specifier) → value_at (map outside_at urls) s ≡ external_at urls s
outside [] s = refl
outside (url ∷ urls) s = by (bytes_eq s (text_of url)) (outside urls s)
  where
    by : (b : Bool) → value_at (map outside_at urls) s ≡ external_at urls s
        → cond b (Some External) (value_at (map outside_at urls) s)
        ≡ (if b || has (texts urls) s then Some External else None)
    by true later = refl
    by false later = later

pub answers : (plan : VendorPlan) (s : Specifier) (a : LoadAnswer) → vendored_answers plan s ≡ Some a
    → tells (modules_at plan) s ≡ Some a
answers plan s a e =
    ap (λ (o : Option LoadAnswer). Some (unwrap_or o Absent)) (by (value_at (map content_of plan.files) s) refl e)
  where
    by : (o : Option LoadAnswer) → value_at (map content_of plan.files) s ≡ o
        → option_or o (external_at plan.externals s) ≡ Some a → value_at (modules_at plan) s ≡ Some a
    by (Some x) is h = front (map content_of plan.files) (map outside_at plan.externals) s a (is ∙ h)
    by None is h =
        behind (map content_of plan.files) (map outside_at plan.externals) s is ∙ outside plan.externals s ∙ h
