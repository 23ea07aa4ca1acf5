-- Where a node stands, by what it is.
use Rattle.std.specs.Prelude.{None, Option, Some}
use Rattle.std.proofs.Common.{◌≡◌, ℕ, List, [], ◌∷◌, refl}
use Rattle.es_token.specs.declared.token.Token.{Token}
use Rattle.es_lowering.specs.Value.{Value, absent, nil, more, token, node}
use Rattle.es_lowering.specs.Lowering.{as_target}
use Rattle.es_syntax.specs.declared.entry.Lean.{Lean}
use Rattle.es_syntax.specs.declared.entry.Entry.{Entry}
use Rattle.es_syntax.specs.Held.{Held, leaning, leaned, leant, row_of, parts_of, held}
use Rattle.es_syntax.specs.Places.{place_of, last_of}

-- the last part
pub last_none : (to : ℕ) → last_of to [] ≡ to
unfolding last_of
last_none to = refl

pub last_some : (to : ℕ) (p : Held) (ps : List Held) → last_of to (p ∷ ps) ≡ last_of p.0 ps
unfolding last_of
last_some to p ps = refl

module _ (x : List ℕ) (ts : List Token) where
  -- a node in another role stands where it stands
  pub place_role : (v : Value) → place_of (as_target x ts v) ≡ place_of v
  place_role absent = refl
  place_role nil = refl
  place_role (more v vs) = refl
  place_role (token n) = refl
  place_role (node from to m) = refl

  -- parts in a row are no node
  pub place_row : (ps : List Held) → place_of (row_of x ts ps) ≡ None
  place_row [] = refl
  place_row (p ∷ ps) = refl

  pub place_held : (es : List Entry) → place_of (held x ts es) ≡ None
  unfolding held
  place_held es = place_row (parts_of x ts es)

  -- nodes that lean left stand up to the last turn
  pub place_leaned : (lean : Lean) (from to : ℕ) (v : Value) (ps : List Held) → place_of v ≡ Some (from, to)
      → place_of (leaned x ts lean from v ps) ≡ Some (from, last_of to ps)
  unfolding leaned last_of
  place_leaned lean from to v [] e = e
  place_leaned lean from to v (p ∷ ps) e = place_leaned lean from p.0 (leaning x ts lean from v p) ps refl
