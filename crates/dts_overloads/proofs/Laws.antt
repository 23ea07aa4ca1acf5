-- Laws of ranges among others.
use Rattle.std.specs.Prelude.{Bool, true, false, ◌||◌, List, [], ◌∷◌, ◌++◌, Option, Some, None, map}
use Rattle.std.proofs.Common.{◌≡◌, refl, sym, ap, ◌∙◌}
use Rattle.std.proofs.Math.Path.{fun_ext}
use Rattle.base.specs.declared.range.Range.{Range}
use Rattle.es_ast.specs.declared.ast.ClassMember.{ClassMember}
use Rattle.es_ast.specs.declared.ast.ModuleItem.{ModuleItem}
use Rattle.es_ast.specs.declared.ast.Stmt.{Stmt}
use Rattle.dts_rules.specs.Ranges.{Ranges, Head, Listed, Seen, implements, in_list, all, each, same_range, has_range, listed_stmt, listed_item, listed_member}
use Rattle.dts_overloads.specs.Among.{Among, none, ◌∪◌, all_of, bodies, of_class_member, of_module_item, of_stmt, of_stmts, of_items, of_members, own_stmts, own_items, own_members}

-- ---- of truth values
false_after : (a : Bool) → (a || false) ≡ a
false_after true = refl
false_after false = refl

either_assoc : (a b c : Bool) → ((a || b) || c) ≡ (a || (b || c))
either_assoc true b c = refl
either_assoc false b c = refl

either_same : (a b : Bool) → (a || b) ≡ (b || a)
either_same true true = refl
either_same true false = refl
either_same false true = refl
either_same false false = refl

-- ---- of any ranges
pub or_none : (a : Among) → a ∪ none ≡ a
or_none a = fun_ext (λ r. false_after (a r))

pub or_assoc : (a b c : Among) → (a ∪ b) ∪ c ≡ a ∪ (b ∪ c)
or_assoc a b c = fun_ext (λ r. either_assoc (a r) (b r) (c r))

pub or_same : (a b : Among) → a ∪ b ≡ b ∪ a
or_same a b = fun_ext (λ r. either_same (a r) (b r))

pub swapped : (a b c : Among) → a ∪ (b ∪ c) ≡ b ∪ (a ∪ c)
swapped a b c = sym (or_assoc a b c) ∙ ap (λ (z : Among). z ∪ c) (or_same a b) ∙ or_assoc b a c

-- ---- of lists of ranges
has_with : (r : Range) (a : Range) (a0 : Ranges) (b : Ranges) (same : Bool) → same_range a r ≡ same
    → has_range (a0 ++ b) r ≡ (has_range a0 r || has_range b r)
    → has_range ((a ∷ a0) ++ b) r ≡ (has_range (a ∷ a0) r || has_range b r)
has_with r a a0 b true e f = rw e refl
has_with r a a0 b false e f = rw e f

has_either : (r : Range) (a b : Ranges) → has_range (a ++ b) r ≡ (has_range a r || has_range b r)
has_either r [] b = refl
has_either r (a ∷ a0) b = has_with r a a0 b (same_range a r) refl (has_either r a0 b)

pub has_both : (a b : Ranges) → has_range (a ++ b) ≡ has_range a ∪ has_range b
has_both a b = fun_ext (λ r. has_either r a b)

pub two : (a b : Ranges) {p q : Among} → has_range a ≡ p → has_range b ≡ q → has_range (a ++ b) ≡ p ∪ q
two a b {p = p} {q = q} e f =
    has_both a b ∙ ap (λ (z : Among). z ∪ has_range b) e ∙ ap (λ (z : Among). p ∪ z) f

pub has_each : {A : Type 0} (f : A → Seen) (xs : List A)
    → has_range (each (map f xs)) ≡ all_of (λ x. has_range (f x).within) xs
has_each f [] = refl
has_each f (x ∷ xs) = two _ _ refl (has_each f xs)

pub has_all : {A : Type 0} (f : A → Ranges) (xs : List A)
    → has_range (all (map f xs)) ≡ all_of (λ x. has_range (f x)) xs
has_all f [] = refl
has_all f (x ∷ xs) = two _ _ refl (has_all f xs)

-- ---- of lists of items: the bodies of the list itself, and those in its items
pub crossed : (a b c d : Among) → (a ∪ b) ∪ (c ∪ d) ≡ (a ∪ c) ∪ (b ∪ d)
crossed a b c d =
    or_assoc a b (c ∪ d)
    ∙ ap (λ (z : Among). a ∪ z)
    (sym (or_assoc b c d) ∙ ap (λ (z : Among). z ∪ d) (or_same b c) ∙ or_assoc c b d)
    ∙ sym (or_assoc a c (b ∪ d))

pub list_law : {A : Type 0} (f : A → Listed) (before : Option Head) (xs : List A)
    → has_range (in_list before (map f xs))
    ≡ has_range (bodies before (map (λ x. (f x).head) xs)) ∪ all_of (λ x. has_range (f x).within) xs
list_law f before [] = refl
list_law f before (x ∷ xs) =
    two _ _ (two _ _ refl refl) (list_law f (f x).head xs)
    ∙ crossed (has_range (implements before (f x).head)) (has_range (f x).within)
    (has_range (bodies (f x).head (map (λ x. (f x).head) xs))) (all_of (λ x. has_range (f x).within) xs)
    ∙ ap (λ (z : Among). z ∪ (has_range (f x).within ∪ all_of (λ x. has_range (f x).within) xs))
    (sym (two _ _ refl refl))

pub stmts_law : (xs : List Stmt) → of_stmts xs ≡ own_stmts xs ∪ all_of of_stmt xs
unfolding of_stmts own_stmts of_stmt
stmts_law xs = list_law listed_stmt None xs

pub items_law : (xs : List ModuleItem) → of_items xs ≡ own_items xs ∪ all_of of_module_item xs
unfolding of_items own_items of_module_item
items_law xs = list_law listed_item None xs

pub members_law : (xs : List ClassMember) → of_members xs ≡ own_members xs ∪ all_of of_class_member xs
unfolding of_members own_members of_class_member
members_law xs = list_law listed_member None xs
