-- What is left while a walk is on its way, and the steps that it takes.
use Rattle.std.specs.Prelude.{ℕ, ◌+◌, Bool, List, [], ◌∷◌, ◌++◌}
use Rattle.std.proofs.Common.{◌≡◌, refl, sym, ap, ◌∙◌, arith}
use Rattle.std.proofs.lemmas.List.{append-nil, append_assoc}
use Rattle.es_token.specs.declared.token.Token.{Token}
use Rattle.es_grammar.specs.declared.cst.tree.Cst.{Cst}
use Rattle.es_mentions.specs.declared.nodes.Frame.{Frame}
use Rattle.es_walk.specs.Rows.{group_of}
use Rattle.es_mentions.specs.Left.{events_in, events_of, events_of_turns, events_of_lean, frame_events, ahead, frame_weight, weight}

pub weight_more : (fs : List Frame) (f : Frame) → weight (fs ++ f ∷ []) ≡ weight fs + frame_weight f
unfolding weight
weight_more [] f = omega arith
weight_more (k ∷ fs) f = let more = weight_more fs f in omega (arith, more)

module _ (x : List ℕ) (ts : List Token) (script strict : Bool) where
  pub ahead_none : ahead x ts script strict [] ≡ []
  unfolding ahead
  ahead_none = refl

  pub ahead_more : (fs : List Frame) (f : Frame)
      → ahead x ts script strict (fs ++ f ∷ []) ≡ frame_events x ts script strict f ++ ahead x ts script strict fs
  unfolding ahead
  ahead_more [] f = sym (append-nil (frame_events x ts script strict f))
  ahead_more (k ∷ fs) f =
      ap (λ s. s ++ frame_events x ts script strict k) (ahead_more fs f)
      ∙ append_assoc (frame_events x ts script strict f) (ahead x ts script strict fs)
      (frame_events x ts script strict k)

  pub rest_none : (us : List Cst) → us ≡ [] → events_of x ts script strict us ≡ []
  rest_none us e = ap (events_of x ts script strict) e

  pub rest_some : (us vs : List Cst) (t : Cst) → us ≡ t ∷ vs
      → events_of x ts script strict us ≡ events_in x ts script strict t ++ events_of x ts script strict vs
  rest_some us vs t e = ap (events_of x ts script strict) e

  pub turns_none : (us : List Cst) → us ≡ [] → events_of_turns x ts script strict us ≡ []
  turns_none us e = ap (events_of_turns x ts script strict) e

  pub turns_some : (us vs : List Cst) (t : Cst) → us ≡ t ∷ vs
      → events_of_turns x ts script strict us
      ≡ events_of x ts script strict (group_of t) ++ events_of_turns x ts script strict vs
  turns_some us vs t e = ap (events_of_turns x ts script strict) e

  pub lean_none : (us : List Cst) → us ≡ [] → events_of_lean x ts script strict us ≡ []
  lean_none us e = ap (events_of_lean x ts script strict) e

  pub lean_one : (us vs : List Cst) (t : Cst) → us ≡ t ∷ vs → vs ≡ [] → events_of_lean x ts script strict us ≡ []
  lean_one us vs t e f = ap (events_of_lean x ts script strict) (e ∙ ap (λ ws. t ∷ ws) f)

  pub lean_both : (us vs ws : List Cst) (t u : Cst) → us ≡ t ∷ vs → vs ≡ u ∷ ws
      → events_of_lean x ts script strict us
      ≡ events_in x ts script strict t ++ events_of_turns x ts script strict vs
  lean_both us vs ws t u e f =
      ap (events_of_lean x ts script strict) (e ∙ ap (λ k. t ∷ k) f)
      ∙ ap (λ k. events_in x ts script strict t ++ events_of_turns x ts script strict k) (sym f)
