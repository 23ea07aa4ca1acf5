-- Where a node stands.
use Rattle.std.specs.Prelude.{ℕ, List, [], ◌∷◌, Option, Some, None}
use Rattle.es_lowering.specs.Value.{Value, node}
use Rattle.es_syntax.specs.Held.{Held}

-- its first token, and the token behind its last one
abbrev pub place_of : Value → Option (ℕ × ℕ)
place_of (node from to m) = Some (from, to)
place_of _ = None

-- the token behind the last of these parts; this one where there is none
unfoldable pub last_of : ℕ → List Held → ℕ
last_of to [] = to
last_of to (p ∷ ps) = last_of p.0 ps
