-- What is behind a call.
use Rattle.std.specs.Prelude.{Bool, true, false}
use Rattle.std.proofs.Common.{◌≡◌, refl, sym, subst, ◌∙◌}
use Rattle.cjs_facts.specs.Looks.{Name, Key, Object, Look, named, text, requires, other, member, odd_object, object_of, required_by, passed}
use Rattle.cjs_looks.specs.Behind.{IsBehind}

pub behind_other : IsBehind other
behind_other = record { object = refl; defines = refl; stars = refl }

requires_behind : (name : Name) → IsBehind (requires name)
requires_behind name = record { object = refl; defines = refl; stars = refl }

by_value : (lone : Bool) (value : Name) → IsBehind (required_by (text lone value))
by_value true value = behind_other
by_value false value = requires_behind value

by_required : (l : Look) → IsBehind (required_by l)
by_required (text lone value) = by_value lone value
by_required (named name) = behind_other
by_required (member object key) = behind_other
by_required (requires name) = behind_other
by_required other = behind_other

by_passed : (l : Look) → IsBehind (passed l)
by_passed (requires name) = requires_behind name
by_passed (text lone value) = behind_other
by_passed (named name) = behind_other
by_passed (member object key) = behind_other
by_passed other = behind_other

-- a call that requires a module, and one that hands such a call on
pub behind_required : (l made : Look) → made ≡ required_by l → IsBehind made
behind_required l made e = subst (λ (m : Look). IsBehind m) (sym e) (by_required l)

pub behind_passed : (l made : Look) → made ≡ passed l → IsBehind made
behind_passed l made e = subst (λ (m : Look). IsBehind m) (sym e) (by_passed l)

-- a member
of_odd : (key : Key) → IsBehind (member odd_object key)
of_odd key = record { object = refl; defines = refl; stars = refl }

pub behind_member : (l : Look) (object : Object) (key : Key) → object ≡ object_of l → IsBehind l
    → IsBehind (member object key)
behind_member l object key e is =
    subst (λ (o : Object). IsBehind (member o key)) (sym (e ∙ is.object)) (of_odd key)
