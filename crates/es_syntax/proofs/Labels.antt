-- Labels that differ; and a node with no role at a place that is no node.
use Rattle.std.specs.Prelude.{Bool, true, false, List, [], ◌∷◌, Option, None}
use Rattle.std.proofs.Common.{◌≡◌, ℕ, refl}
use denote.Enum.Bare.{sameb, same_true}
use Rattle.es_token.specs.declared.token.Token.{Token}
use Rattle.es_grammar.specs.contracts.rows.NodeKind.{the_type}
use Rattle.es_grammar.specs.declared.rows.NodeKind.{NodeKind}

pub other : (a b : NodeKind) → (a ≡ b → ⊥) → sameb the_type a b ≡ false
other a b ne = go (sameb the_type a b) refl
  where
    go : (t : Bool) → sameb the_type a b ≡ t → sameb the_type a b ≡ false
    go true e = absurd (ne (same_true the_type tt a b e))
    go false e = e
