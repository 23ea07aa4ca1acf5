-- What is told over the turns of a list, turn by turn.
use Rattle.std.specs.Prelude.{ℕ, Bool, ◌&&◌, List, Option}
use Rattle.std.proofs.Common.{◌≡◌, refl}
use Rattle.es_ast.specs.declared.ts.leaf.Str.{Str}
use Rattle.es_token.specs.declared.token.Token.{Token}
use Rattle.es_law_sites.specs.plain.Part.{Part, nil, more}
use Rattle.es_law_sites.specs.plain.Own.{last_type, are_plain, last_given}
use Rattle.es_tree_sites.specs.Given.{type_turn, plain_turn, given_turn}

module _ (x : List ℕ) (ts : List Token) where
  pub type_none : (last : Option Str) → last_type x ts last nil ≡ last
  type_none last = refl

  pub type_more : (last : Option Str) (turn vs : Part)
      → last_type x ts last (more turn vs) ≡ last_type x ts (type_turn x ts last turn) vs
  unfolding type_turn
  type_more last turn vs = refl

  pub plain_none : (so : Bool) → are_plain x ts so nil ≡ so
  plain_none so = refl

  pub plain_more : (so : Bool) (turn vs : Part)
      → are_plain x ts so (more turn vs) ≡ are_plain x ts (so && plain_turn x ts turn) vs
  unfolding plain_turn
  plain_more so turn vs = refl

  pub given_none : (word : List ℕ) (last : Option Part) → last_given x ts word last nil ≡ last
  given_none word last = refl

  pub given_more : (word : List ℕ) (last : Option Part) (turn vs : Part)
      → last_given x ts word last (more turn vs) ≡ last_given x ts word (given_turn x ts word last turn) vs
  unfolding given_turn
  given_more word last turn vs = refl
