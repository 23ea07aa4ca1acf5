-- The comments of maps, one by one.
use Rattle.std.proofs.Common.{◌≡◌, ℕ, List, [], ◌∷◌, ◌++◌, map, refl, sym, ap, ◌∙◌, Vec, Global, Option, Some, None, is_some}
use Rattle.std.specs.Borrow.{Bor}
use Rattle.std.specs.Option.{option_map, option_copied}
use Rattle.std.specs.List.{flat_map}
use Rattle.std.specs.BTreeMap.{BTreeMap, get, values}
use Rattle.std.specs.Ordering.{nat_cmp}
use Rattle.es_token.specs.declared.token.Comment.{Comment}
use Rattle.es_comments.specs.declared.maps.SingleThreadedComments.{SingleThreadedComments}
use Rattle.es_comments.specs.Placed.{Placed, placed_in, places_of, comments_at, listed, all_of}
use Rattle.es_comments.specs.Iterators.{joined}
use Rattle.es_comments.proofs.MapLemmas.{at_in_map}

-- the lists of a map's values are those of its places
pub joined_values : {A : Type 0} (m : BTreeMap ℕ (Vec Comment A)) → joined (values m) ≡ listed (places_of m)
joined_values {A} m = each m.entries
  where
    each : (es : List (ℕ × Vec Comment A))
        → flat_map (λ v. v.items) (map (λ e. e.1) es)
        ≡ flat_map (λ e. e.1) (map {B = ℕ × List Comment} (λ e. (e.0, e.1.items)) es)
    each [] = refl
    each (e ∷ es) = ap (λ (t : List Comment). e.1.items ++ t) (each es)

-- what a look-up lends
pub lent_items : {A : Type 0} (r : Option (Bor (Vec Comment A)))
    → option_map (λ v. v.now.items) r ≡ option_map (λ v. v.items) (option_copied r)
lent_items None = refl
lent_items (Some v) = refl

pub some_items : {A : Type 0} (r : Option (Vec Comment A)) → is_some (option_map (λ v. v.items) r) ≡ is_some r
some_items None = refl
some_items (Some v) = refl

-- all comments are left to an iterator over both maps
pub all_left : (v m n : SingleThreadedComments) (p : Placed) (now : List Comment)
    (leading trailing : List (Vec Comment Global)) → now ≡ [] → leading ≡ values m.leading
    → trailing ≡ values n.trailing → m ≡ v → n ≡ v → placed_in v ≡ p
    → now ++ (joined leading ++ joined trailing) ≡ all_of p
all_left v m n p now leading trailing none l t mv nv is =
    ap (λ (xs : List Comment). xs ++ (joined leading ++ joined trailing)) none
    ∙ ap (λ xs. joined xs ++ joined trailing) l ∙ ap (λ xs. joined (values m.leading) ++ joined xs) t
    ∙ ap (λ (xs : List Comment). xs ++ joined (values n.trailing)) (joined_values m.leading)
    ∙ ap (λ (xs : List Comment). listed (places_of m.leading) ++ xs) (joined_values n.trailing)
    ∙ ap (λ (x : SingleThreadedComments). listed (places_of x.leading) ++ listed (places_of n.trailing)) mv
    ∙ ap (λ (x : SingleThreadedComments). listed (places_of v.leading) ++ listed (places_of x.trailing)) nv
    ∙ ap all_of is

-- a look-up among the leading ones, or the trailing ones
pub looked_up : {A : Type 0} (m : BTreeMap ℕ (Vec Comment A)) (q : ℕ) (r : Option (Bor (Vec Comment A)))
    → option_copied r ≡ get nat_cmp m q → option_map (λ v. v.now.items) r ≡ comments_at (places_of m) q
looked_up m q r h = lent_items r ∙ ap (option_map (λ v. v.items)) h ∙ sym (at_in_map m q)

pub has_some : {A : Type 0} (m : BTreeMap ℕ (Vec Comment A)) (q : ℕ)
    → is_some (get nat_cmp m q) ≡ is_some (comments_at (places_of m) q)
has_some m q = sym (ap is_some (at_in_map m q) ∙ some_items (get nat_cmp m q))
