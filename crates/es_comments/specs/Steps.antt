-- What the functions inside the crate promise each other.
use Rattle.std.specs.Prelude.{◌≡◌, ℕ, ◌==◌, List, [], ◌∷◌, ◌++◌, Vec, unwrap_or, Option, Some, if◌then◌else◌}
use Rattle.std.specs.Option.{option_map}
use Rattle.std.specs.Ordering.{nat_cmp}
use Rattle.std.specs.BTreeMap.{BTreeMap, get, IsOrdered}
use Rattle.es_token.specs.declared.token.Token.{Token}
use Rattle.es_token.specs.declared.token.Comment.{Comment}
use Rattle.es_comments.specs.declared.maps.SingleThreadedComments.{SingleThreadedComments}
use Rattle.es_comments.specs.declared.place.Stand.{Stand}
use Rattle.es_comments.specs.declared.place.Stand.TheVariants.{Leading, Trailing}
use Rattle.es_comments.specs.declared.place.Past.{Past}
use Rattle.es_comments.specs.Standing.{count_before, last_of, line_behind}

-- the comments at a place in a map
abbrev pub in_map : {A : Type 0} → BTreeMap ℕ (Vec Comment A) → ℕ → Option (List Comment)
in_map m place = option_map (λ v. v.items) (get nat_cmp m place)

-- one more comment stands behind those at a place
pub record Adds {A : Type 0} (m n : BTreeMap ℕ (Vec Comment A)) (place : ℕ) (comment : Comment) : Type 0 where
  pub at_each : (q : ℕ)
      → in_map n q ≡ (if q == place then Some (unwrap_or (in_map m q) [] ++ comment ∷ []) else in_map m q)
  pub ordered : IsOrdered nat_cmp n

-- a comment was put where it stands
abbrev pub Puts : SingleThreadedComments → SingleThreadedComments → Stand → Comment → Type 0
Puts old new (Leading place) comment = Adds old.leading new.leading place comment × (new.trailing ≡ old.trailing)
Puts old new (Trailing place) comment = Adds old.trailing new.trailing place comment × (new.leading ≡ old.leading)

-- so much of the text was gone through
pub record IsPast (text : List ℕ) (tokens : List Token) (past : Past) : Type 0 where
  pub passed : past.passed ≡ count_before tokens past.place
  pub line : past.line ≡ line_behind text (last_of tokens past.passed) past.place
