-- Comments by their places, as contracts see them.
use Rattle.std.specs.Prelude.{ℕ, List, ◌++◌, map, Vec, Option}
use Rattle.std.specs.List.{flat_map}
use Rattle.std.specs.Ordering.{nat_cmp}
use Rattle.std.specs.BTreeMap.{BTreeMap, is_at}
use Rattle.std.specs.Map.{lookup, keys_of}
use Rattle.std.specs.List.Sorted.{IsStrictlySortedBy}
use Rattle.es_token.specs.declared.token.Comment.{Comment}
use Rattle.es_comments.specs.declared.maps.SingleThreadedComments.{SingleThreadedComments}

-- places with the comments that stand there
abbrev pub Places : Type 0
Places = List (ℕ × List Comment)

-- the comments before the tokens that start at the places, and those behind the tokens that end at them
pub record Placed : Type 0 where
  pub leading : Places
  pub trailing : Places

-- the places of a map
abbrev pub places_of : {A : Type 0} → BTreeMap ℕ (Vec Comment A) → Places
places_of comments = map (λ e. (e.0, e.1.items)) comments.entries

-- both maps
abbrev pub placed_in : SingleThreadedComments → Placed
placed_in comments = record { leading = places_of comments.leading; trailing = places_of comments.trailing }

-- the comments at a place, where there are any
abbrev pub comments_at : Places → ℕ → Option (List Comment)
comments_at places place = lookup (is_at (nat_cmp place)) places

-- the places ascend
abbrev pub Ascend : Places → Type 0
Ascend places = IsStrictlySortedBy nat_cmp (keys_of places)

-- the comments of all places, in their order
abbrev pub listed : Places → List Comment
listed places = flat_map (λ e. e.1) places

-- all comments: those that lead, and then those that trail
abbrev pub all_of : Placed → List Comment
all_of placed = listed placed.leading ++ listed placed.trailing
