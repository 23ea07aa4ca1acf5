-- Which tokens are gone, as a list of bits.
use Rattle.std.specs.Prelude.{◌≡◌, ℕ, Bool, true, false, not, List, slice_get}
use Rattle.std.specs.Option.{unwrap_or}
use Rattle.es_scopes.specs.declared.steps.Mark.{Mark}
use Rattle.es_scopes.specs.declared.steps.Mark.TheVariants as mark
use Rattle.es_mentions.specs.declared.listed.Event.{Event}
use Rattle.es_mentions.specs.Mentions.{is_gone_token}

-- the bit at a place; false after the last
abbrev pub bit_in : List Bool → ℕ → Bool
bit_in bits n = unwrap_or (slice_get bits n) false

abbrev pub AreGone : List Bool → List Event → Type 0
AreGone bits events = (n : ℕ) → bit_in bits n ≡ is_gone_token events n

-- a scope, or a name whose bit isn't set
abbrev pub lives_by : List Bool → Mark → Bool
lives_by bits (mark.Name place token) = not (bit_in bits token)
lives_by bits (mark.Open hoists) = true
lives_by bits mark.Close = true
