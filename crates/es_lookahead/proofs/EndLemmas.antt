-- What is known of angles is so wherever it is looked up.
use Rattle.std.specs.Prelude.{◌/◌, ltb, Bool, true, false, List, [], ◌∷◌, ◌++◌, length, get_or, take, drop, slice_get, Option, Some, None, if◌then◌else◌}
use Rattle.std.proofs.Common.{◌≡◌, ℕ, zero, suc, refl, sym, ◌-◌, ◌<◌, ◌≤◌, ap, ◌∙◌, subst, ltb-true, ltb-false, lt-ltb, le-ltb, arith}
use Rattle.std.proofs.lemmas.Option.{slice_get_read, slice_get_past}
use Rattle.grammar_theory.specs.Key.{Key}
use Rattle.es_grammar.specs.declared.types.rows.TypeRow.{TypeRow}
use Rattle.es_grammar.specs.declared.types.rows.TypeRow.TheVariants as rows
use Rattle.es_lookahead.specs.declared.ends.End.{End}
use Rattle.es_lookahead.specs.declared.ends.Angle.{Angle}
use Rattle.es_lookahead.specs.Ends.{row_end, IsRight, AreRight, at_half, angle_at, end_by, end_in}

none_some : {A : Type 0} {X : Type 0} (x : X) → None ≡ Some x → A
none_some x e = absurd (let bad : ⊥ = cc in bad)

same_angle : (a b : Angle) → Some a ≡ Some b → a ≡ b
same_angle a b e = cc

same_end : (a b : Option End) → Some a ≡ Some b → a ≡ b
same_end a b e = cc

-- the same, one by one
EachRight : List Key → List Angle → Type 0
EachRight K [] = Unit {0}
EachRight K (angle ∷ angles) = IsRight K angle × EachRight K angles

module _ (K : List Key) where
  rights_take : (n : ℕ) (angles : List Angle) → EachRight K angles → EachRight K (take n angles)
  unfolding EachRight
  rights_take zero angles rights = tt
  rights_take (suc n) [] rights = tt
  rights_take (suc n) (a ∷ angles) rights = (rights.0, rights_take n angles rights.1)

  rights_drop : (n : ℕ) (angles : List Angle) → EachRight K angles → EachRight K (drop n angles)
  unfolding EachRight
  rights_drop zero angles rights = rights
  rights_drop (suc n) [] rights = tt
  rights_drop (suc n) (a ∷ angles) rights = rights_drop n angles rights.1

  rights_get : (angles : List Angle) → EachRight K angles → AreRight K angles
  unfolding EachRight
  rights_get [] rights i a e = none_some a e
  rights_get (b ∷ angles) rights zero a e = subst (IsRight K) (same_angle b a e) rights.0
  rights_get (b ∷ angles) rights (suc i) a e = rights_get angles rights.1 i a e

  rights_each : (angles : List Angle) → AreRight K angles → EachRight K angles
  unfolding EachRight
  rights_each [] rights = tt
  rights_each (a ∷ angles) rights = (rights 0 a refl, rights_each angles (λ i b e. rights (suc i) b e))

  push_each : (angles : List Angle) (a : Angle) → EachRight K angles → IsRight K a → EachRight K (angles ++ a ∷ [])
  unfolding EachRight
  push_each [] a rights right = (right, tt)
  push_each (b ∷ angles) a rights right = (rights.0, push_each angles a rights.1 right)

  pop_each : (angles : List Angle) (a : Angle) → EachRight K (angles ++ a ∷ []) → EachRight K angles × IsRight K a
  unfolding EachRight
  pop_each [] a rights = (tt, rights.0)
  pop_each (b ∷ angles) a rights = let rest = pop_each angles a rights.1 in ((rights.0, rest.0), rest.1)

  -- nothing is known yet
  pub rights_none : AreRight K []
  rights_none i a e = none_some a e

  -- one more
  pub rights_push : (angles : List Angle) (a : Angle) → AreRight K angles → IsRight K a → AreRight K (angles ++ a ∷ [])
  rights_push angles a rights right =
      rights_get (angles ++ a ∷ []) (push_each angles a (rights_each angles rights) right)

  -- one less
  pub rights_pop : (angles : List Angle) (a : Angle) → AreRight K (angles ++ a ∷ []) → AreRight K angles × IsRight K a
  rights_pop angles a rights =
      let each = pop_each angles a (rights_each (angles ++ a ∷ []) rights) in (rights_get angles each.0, each.1)

  -- what is found by halves
  found : (n : ℕ) (angles : List Angle) (at : ℕ) (a : Angle) → EachRight K angles → angle_at n angles at ≡ Some a
      → IsRight K a × (a.first ≤ at) × (at ≤ a.at)
  unfolding angle_at
  found zero angles at a rights e = none_some a e
  found (suc n) angles at a rights e =
      here (found n (drop (length angles / 2) angles) at a (rights_drop (length angles / 2) angles rights))
      (found n (take (length angles / 2) angles) at a (rights_take (length angles / 2) angles rights))
      (slice_get angles (length angles / 2)) refl e
    where
      split : (angle_at n (drop (length angles / 2) angles) at ≡ Some a → IsRight K a × (a.first ≤ at) × (at ≤ a.at))
          → (angle_at n (take (length angles / 2) angles) at ≡ Some a → IsRight K a × (a.first ≤ at) × (at ≤ a.at))
          → (b : Angle) (x y : Bool) → ltb at b.first ≡ x → ltb b.at at ≡ y → IsRight K b
          → (if x then angle_at n (drop (length angles / 2) angles) at
          else (if y then angle_at n (take (length angles / 2) angles) at else Some b)) ≡ Some a
          → IsRight K a × (a.first ≤ at) × (at ≤ a.at)
      split behind front b true y one other right e = behind e
      split behind front b false true one other right e = front e
      split behind front b false false one other right e =
          subst (λ (c : Angle). IsRight K c × (c.first ≤ at) × (at ≤ c.at)) (same_angle b a e)
          (right, ltb-false at b.first one, ltb-false b.at at other)

      here : (angle_at n (drop (length angles / 2) angles) at ≡ Some a → IsRight K a × (a.first ≤ at) × (at ≤ a.at))
          → (angle_at n (take (length angles / 2) angles) at ≡ Some a → IsRight K a × (a.first ≤ at) × (at ≤ a.at))
          → (o : Option Angle) → slice_get angles (length angles / 2) ≡ o
          → at_half at o (angle_at n (drop (length angles / 2) angles) at)
          (angle_at n (take (length angles / 2) angles) at)
          ≡ Some a
          → IsRight K a × (a.first ≤ at) × (at ≤ a.at)
      here behind front None there e = none_some a e
      here behind front (Some b) there e =
          split behind front b (ltb at b.first) (ltb b.at at) refl refl
          (rights_get angles rights (length angles / 2) b there) e

  -- what is known of a row there is so
  pub known : (angles : List Angle) (r : TypeRow) (at : ℕ) (e : Option End) → AreRight K angles
      → end_in angles r at ≡ Some e → row_end r K at ≡ e
  known angles r at e rights there = by_row r (angle_at 64 angles at) refl there
    where
      right : (a : Angle) → angle_at 64 angles at ≡ Some a
          → (row_end rows.ArgumentsRow K at ≡ a.arguments) × (row_end rows.TypeParametersRow K at ≡ a.parameters)
      right a there = let so = found 64 angles at a (rights_each angles rights) there in so.0 at so.1 so.2

      by_row : (r : TypeRow) (o : Option Angle) → angle_at 64 angles at ≡ o → end_by r o ≡ Some e → row_end r K at ≡ e
      by_row rows.ArgumentsRow (Some a) there same =
          (right a there).0 ∙ same_end a.arguments e same
      by_row rows.ArgumentsRow None there same = none_some e same
      by_row rows.TypeParametersRow (Some a) there same =
          (right a there).1 ∙ same_end a.parameters e same
      by_row rows.TypeParametersRow None there same = none_some e same
      by_row (rows.TypeRow may) o there same = none_some e same
      by_row rows.IntersectionRow o there same = none_some e same
      by_row rows.OperandRow o there same = none_some e same
      by_row rows.ReferenceRow o there same = none_some e same
      by_row rows.EntityRow o there same = none_some e same
      by_row rows.ImportRow o there same = none_some e same
      by_row rows.OpenedFunctionRow o there same = none_some e same
      by_row rows.OpenedParametersRow o there same = none_some e same
      by_row rows.ElementRow o there same = none_some e same
      by_row rows.MemberRow o there same = none_some e same
      by_row rows.KeyRow o there same = none_some e same
      by_row (rows.ResultRow may) o there same = none_some e same
      by_row rows.ParametersRow o there same = none_some e same
      by_row rows.ParameterRow o there same = none_some e same
      by_row rows.PatternRow o there same = none_some e same
      by_row rows.PatternElementRow o there same = none_some e same
      by_row rows.PatternPropertyRow o there same = none_some e same
      by_row rows.PatternKeyRow o there same = none_some e same

-- ---- the search itself

-- an item that was asked for stands there
pub item_at : (angles : List Angle) (i : ℕ) (a : Angle) → true ≡ ltb i (length angles) → a ≡ get_or angles i a
    → slice_get angles i ≡ Some a
item_at angles i a within same =
    slice_get_read angles (length angles) i a refl (ltb-true i (length angles) (sym within)) same

-- no item is in the middle
pub half_none : (n : ℕ) (angles : List Angle) (at : ℕ) → false ≡ ltb (length angles / 2) (length angles)
    → None ≡ angle_at n angles at
unfolding angle_at
half_none zero angles at past = refl
half_none (suc n) angles at past =
    sym (ap (λ o. at_half at o (angle_at n (drop (length angles / 2) angles) at)
    (angle_at n (take (length angles / 2) angles) at))
    (slice_get_past angles (length angles / 2) (ltb-false (length angles / 2) (length angles) (sym past))))

-- no step is left
pub none_left : (n : ℕ) (angles : List Angle) (at : ℕ) → n ≤ 0 → None ≡ angle_at n angles at
unfolding angle_at
none_left zero angles at none = refl
none_left (suc n) angles at none = absurd (let bad : ⊥ = omega arith in bad)

module _ (n : ℕ) (angles : List Angle) (at : ℕ) (b : Angle) (o : Option Angle) (some : 0 < n)
    (there : slice_get angles (length angles / 2) ≡ Some b) where
  by_middle : (m : ℕ) → n ≡ suc m → (x y : Bool) → ltb at b.first ≡ x → ltb b.at at ≡ y
      → angle_at n angles at
      ≡ (if x then angle_at m (drop (length angles / 2) angles) at
      else (if y then angle_at m (take (length angles / 2) angles) at else Some b))
  unfolding angle_at
  by_middle m e x y before past =
      let behind = angle_at m (drop (length angles / 2) angles) at in
      let front = angle_at m (take (length angles / 2) angles) at in
      ap (λ k. angle_at k angles at) e
      ∙ (ap (λ o. at_half at o behind front) there
      ∙ (ap (λ x. if x then behind else (if ltb b.at at then front else Some b)) before
      ∙ ap (λ y. if x then behind else (if y then front else Some b)) past))

  one_less : n ≡ suc (n - 1)
  one_less = omega arith

  -- a place before those in the middle stands behind them
  pub half_behind : at < b.first → o ≡ angle_at (n - 1) (drop (length angles / 2) angles) at → o ≡ angle_at n angles at
  half_behind before same =
      same ∙ sym (by_middle (n - 1) one_less true (ltb b.at at) (lt-ltb at b.first before) refl)

  pub half_before : b.first ≤ at → b.at < at → o ≡ angle_at (n - 1) (take (length angles / 2) angles) at
      → o ≡ angle_at n angles at
  half_before behind past same =
      same ∙ sym (by_middle (n - 1) one_less false true (le-ltb at b.first behind) (lt-ltb b.at at past))

  -- it is one of those
  pub half_there : b.first ≤ at → at ≤ b.at → Some b ≡ angle_at n angles at
  half_there behind before =
      sym (by_middle (n - 1) one_less false false (le-ltb at b.first behind) (le-ltb b.at at before))
