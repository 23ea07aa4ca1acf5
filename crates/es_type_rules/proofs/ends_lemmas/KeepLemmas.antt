-- What is known of neighbours of which nothing opens is known of all of them together.
use Rattle.std.specs.Prelude.{List, Option, Some, None, Bool, false, true, ◌||◌, leb, ltb}
use Rattle.std.proofs.Common.{◌≡◌, ℕ, zero, suc, ◌<◌, ◌≤◌, refl, sym, ◌∙◌, ◌-◌, subst, ltb-true, ltb-false, inl, inr, arith}
use Rattle.es_token.specs.declared.token.TokenKind.TheVariants as k
use Rattle.grammar_theory.specs.Key.{Key, seen, is}
use Rattle.grammar_theory.specs.Plain.{Plain, plain}
use Rattle.grammar_theory.specs.Fits.{chosen, Under, most_nodes}
use Rattle.grammar_theory.specs.Reader.{Out, nothing, gives, read_row}
use Rattle.grammar_theory.proofs.OutLemmas.{clash}
use Rattle.grammar_theory.proofs.ReaderLemmas.{row_fits}
use Rattle.es_grammar.specs.declared.types.rows.TypeRow.TheVariants.{ArgumentsRow, TypeParametersRow}
use Rattle.es_grammar.specs.types.TypeRows.{NodeKind}
use Rattle.es_grammar.specs.types.TypeNames.{begins_angle, arguments, type_parameters}
use Rattle.es_grammar.specs.types.TypeTable.{type_rule}
use Rattle.es_lookahead.specs.declared.ends.Angle.{Angle}
use Rattle.es_lookahead.specs.Ends.{end_of, row_end, IsRight}

one_true : (a b : Bool) → a ≡ true → a || b ≡ true
one_true true b e = refl
one_true false b e = clash e

other_true : (a b : Bool) → b ≡ true → a || b ≡ true
other_true true b e = refl
other_true false b e = e

module _ (K : List Key) (room : ℕ) (p : Plain NodeKind) (from to : ℕ) where
  -- both rows begin with `<` or `<<`
  arguments_begin : Under chosen K type_rule room ArgumentsRow p from to → begins_angle (seen K from) ≡ true
  unfolding Under type_rule arguments begins_angle
  arguments_begin under = go room under
    where
      go : (n : ℕ) → Under chosen K type_rule n ArgumentsRow p from to
          → (is k.Less (seen K from) || is k.LessLess (seen K from)) ≡ true
      go zero under = absurd under
      go (suc n) under = elim under [
        | inl one ↦ other_true (is k.Less (seen K from)) (is k.LessLess (seen K from)) one.0
        | inr other ↦ one_true (is k.Less (seen K from)) (is k.LessLess (seen K from)) other.1.2.2
      ]

  parameters_begin : Under chosen K type_rule room TypeParametersRow p from to → begins_angle (seen K from) ≡ true
  unfolding Under type_rule type_parameters begins_angle
  parameters_begin under = go room under
    where
      go : (n : ℕ) → Under chosen K type_rule n TypeParametersRow p from to
          → (is k.Less (seen K from) || is k.LessLess (seen K from)) ≡ true
      go zero under = absurd under
      go (suc n) under = one_true (is k.Less (seen K from)) (is k.LessLess (seen K from)) under.2.2

-- where neither is, nothing begins
module _ (K : List Key) (at : ℕ) (other : begins_angle (seen K at) ≡ false) where
  no_arguments : row_end ArgumentsRow K at ≡ None
  unfolding row_end
  no_arguments = go (read_row plain K type_rule most_nodes ArgumentsRow at) refl
    where
      go : (o : Out (Plain NodeKind)) → read_row plain K type_rule most_nodes ArgumentsRow at ≡ o → end_of o ≡ None
      go nothing e = refl
      go (gives p to) e =
          clash (sym other ∙ arguments_begin K most_nodes p at to
          (row_fits K type_rule most_nodes ArgumentsRow at p to e))

  no_parameters : row_end TypeParametersRow K at ≡ None
  unfolding row_end
  no_parameters = go (read_row plain K type_rule most_nodes TypeParametersRow at) refl
    where
      go : (o : Out (Plain NodeKind)) → read_row plain K type_rule most_nodes TypeParametersRow at ≡ o
          → end_of o ≡ None
      go nothing e = refl
      go (gives p to) e =
          clash (sym other
          ∙ parameters_begin K most_nodes p at to (row_fits K type_rule most_nodes TypeParametersRow at p to e))

-- nothing opens at the one nor at the others, and nothing begins between them
pub joined_right : (K : List Key) (last angle : Angle) (low : ℕ) → IsRight K last → IsRight K angle → last.first ≤ low
    → ((q : ℕ) → angle.at < q → q < low → begins_angle (seen K q) ≡ false)
    → (last.arguments ≡ None) × (last.parameters ≡ None) → (angle.arguments ≡ None) × (angle.parameters ≡ None)
    → IsRight K (record { first = angle.first; at = last.at; arguments = last.arguments; parameters = last.parameters })
joined_right K last angle low ahead right place between last_none angle_none q behind before =
    go (ltb angle.at q) refl (ltb q low) refl
  where
    go : (x : Bool) → ltb angle.at q ≡ x → (y : Bool) → ltb q low ≡ y
        → (row_end ArgumentsRow K q ≡ last.arguments) × (row_end TypeParametersRow K q ≡ last.parameters)
    go false e y f =
        let so = right q behind (ltb-false angle.at q e) in
        (so.0 ∙ angle_none.0 ∙ sym last_none.0, so.1 ∙ angle_none.1 ∙ sym last_none.1)
    go true e true f =
        let free = between q (ltb-true angle.at q e) (ltb-true q low f) in
        (no_arguments K q free ∙ sym last_none.0, no_parameters K q free ∙ sym last_none.1)
    go true e false f = let past : low ≤ q = ltb-false q low f in ahead q (omega arith) before

-- ---- the tokens from one on, up to the last item

-- there are none
pub bare_none : (K : List Key) (at : ℕ) (q : ℕ) → at ≤ q → q < at → begins_angle (seen K q) ≡ false
bare_none K at q behind before = absurd (let bad : ⊥ = omega arith in bad)

-- one more, at which nothing begins
pub bare_more : (K : List Key) (left low : ℕ) → 0 < left
    → ((q : ℕ) → left ≤ q → q < low → begins_angle (seen K q) ≡ false) → begins_angle (seen K (left - 1)) ≡ false
    → (q : ℕ) → left - 1 ≤ q → q < low → begins_angle (seen K q) ≡ false
bare_more K left low some bare here q behind before = go (ltb q left) refl
  where
    go : (b : Bool) → ltb q left ≡ b → begins_angle (seen K q) ≡ false
    go true e =
        let less : q < left = ltb-true q left e in
        let same : left - 1 ≡ q = omega arith in
        subst (λ n. begins_angle (seen K n) ≡ false) same here
    go false e = bare q (ltb-false q left e) before

-- those behind an angle
pub bare_behind : (K : List Key) (left low at : ℕ) → 0 < left → at ≡ left - 1
    → ((q : ℕ) → left ≤ q → q < low → begins_angle (seen K q) ≡ false)
    → (q : ℕ) → at < q → q < low → begins_angle (seen K q) ≡ false
bare_behind K left low at some same bare q behind before =
    let past : left ≤ q = omega (arith, same) in bare q past before
