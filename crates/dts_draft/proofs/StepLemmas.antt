-- Several steps as one.
use Rattle.std.proofs.Common.{◌≡◌, ℕ, ◌+◌, List, [], ◌∷◌, ◌++◌, length}
use Rattle.es_token.specs.declared.token.Token.{Token}
use Rattle.es_grammar.specs.declared.rows.NodeKind.{NodeKind}
use Rattle.es_lowering.specs.Value.{Value, token}
use Rattle.es_lowering.specs.Lowering.{packed}
use Rattle.es_syntax.specs.declared.entry.What.TheVariants as what
use Rattle.es_syntax.specs.Held.{node_of}
use Rattle.es_changed.specs.declared.entry.Change.TheVariants as change
use Rattle.es_changed.specs.declared.entry.Form.{Form}
use Rattle.es_changed.specs.declared.entry.ChangedEntry.{ChangedEntry}
use Rattle.es_changed.specs.Formed.{formed}
use Rattle.es_changed.specs.Shape.{closed, opened, Writes}
use Rattle.es_changed.proofs.Written.{both_written, form_written, node_written}

module _ (x : List ℕ) (ts : List Token) where
  -- what is kept after what is gone
  pub kept_written : (a b c : List ChangedEntry) (v : Value) → Writes x ts a b [] → Writes x ts b c (v ∷ [])
      → Writes x ts a c (v ∷ [])
  kept_written a b c v gone keeps = both_written x ts a b c [] (v ∷ []) gone keeps

  -- a node over its token
  pub token_written : (label : NodeKind) (at from to place : ℕ) (old begun mid new : List ChangedEntry)
      → begun ≡ old ++ opened → place ≡ length old → Writes x ts begun mid (token at ∷ [])
      → new ≡ closed (change.Old (what.Node label)) from to place mid
      → Writes x ts old new (node_of x ts label from to (packed (token at ∷ [])) ∷ [])
  token_written label at from to place old begun mid new eo ep w e =
      node_written x ts label from to place old begun mid new (token at ∷ []) eo ep w e

  -- a form over its token
  pub token_formed : (f : Form) (at to place : ℕ) (old begun mid new : List ChangedEntry) → begun ≡ old ++ opened
      → place ≡ length old → Writes x ts begun mid (token at ∷ []) → new ≡ closed (change.Form f) at to place mid
      → Writes x ts old new (formed x ts f at to (packed (token at ∷ [])) ∷ [])
  token_formed f at to place old begun mid new eo ep w e =
      form_written x ts f at to place old begun mid new (token at ∷ []) eo ep w e
