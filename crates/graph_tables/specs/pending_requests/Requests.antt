-- Requests for URLs, in the order in which they came. An answer settles the oldest open request for its URL (this project's profile).
use Rattle.std.specs.Prelude.{ℕ, Bool, List, [], ◌∷◌, bytes_eq, Option, Some, None, if◌then◌else◌}
use Rattle.std.specs.List.{list_any}
use Rattle.url.specs.Parts.{Parts}

-- all requests, and those of them that are open, the oldest first
pub record Asked : Type 0 where
  pub all : List Parts
  pub waiting : List Parts

module _ (text : Parts → List ℕ) where
  -- a request for the URL is open; `text` tells the text of a URL
  abbrev pub waits_for : List Parts → Parts → Bool
  waits_for waiting url = list_any (λ w. bytes_eq (text w) (text url)) waiting

  -- without the oldest request for the URL
  abbrev pub settled : List Parts → Parts → List Parts
  settled [] url = []
  settled (w ∷ waiting) url = if bytes_eq (text w) (text url) then waiting else w ∷ settled waiting url

-- the oldest request
abbrev pub oldest : List Parts → Option Parts
oldest [] = None
oldest (w ∷ waiting) = Some w
