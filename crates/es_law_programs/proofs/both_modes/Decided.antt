-- Whether keys have a tree, in a language and a mode, is decided: the reader of the table tells.
use Rattle.std.specs.Prelude.{List, Bool, true, false, ◌⊎◌}
use Rattle.std.proofs.Common.{◌≡◌, ℕ, ◌≤◌, ◌<◌, length, refl, sym, ap, ◌∙◌, inl, inr, arith}
use Rattle.std.proofs.Math.Nat.{eq-or-lt_of_le}
use Rattle.std.proofs.lemmas.Bool.Decides.{leb_tells}
use Rattle.grammar_theory.specs.declared.error.Lang.{Lang}
use Rattle.grammar_theory.specs.declared.error.Mode.{Mode}
use Rattle.grammar_theory.specs.Key.{Key}
use Rattle.grammar_theory.specs.Plain.{Plain, plain, tall}
use Rattle.grammar_theory.specs.Fits.{chosen, most_nodes, Shape}
use Rattle.grammar_theory.specs.Reader.{Out, nothing, gives, read_row}
use Rattle.grammar_theory.proofs.OutLemmas.{clash, gives_same, nothing_gives}
use Rattle.grammar_theory.proofs.Progress.{under_ahead}
use Rattle.grammar_theory.proofs.ReaderLemmas.{row_fits, row_reads}
use Rattle.es_grammar.specs.declared.rows.NodeKind.{NodeKind}
use Rattle.es_grammar.specs.Table.{rule}
use Rattle.es_grammar.specs.Conditions.{IsProgram, is_sound, leans, program_row}
use Rattle.es_grammar.proofs.Sets.{solid}
use Rattle.es_grammar.proofs.Theorems.{programs, chosen_is_free, free_is_chosen}

module _ (l : Lang) (m : Mode) (K : List Key) where
  -- what is read from the first key on
  abbrev read : Out (Plain NodeKind)
  read = read_row plain K (rule l) most_nodes (program_row m) 0

  -- a program is what is read
  program_read : (p : Plain NodeKind) → IsProgram l m K p → read ≡ gives p (length K)
  unfolding Shape
  program_read p program =
      row_reads K (rule l) solid (programs l m).told.steady most_nodes (program_row m) p 0 (length K) (omega arith)
      (free_is_chosen l m K p program.shaped).0

  abbrev Decided : Type 0
  Decided = ((p : Plain NodeKind) × IsProgram l m K p) ⊎ ((p : Plain NodeKind) → ¬ IsProgram l m K p)

  -- what is read is a program, where it reaches the end and is no taller than a program may be, and holds what it may
  whole : (p : Plain NodeKind) → read ≡ gives p (length K) → tall leans p ≤ most_nodes → is_sound p ≡ true
      → IsProgram l m K p
  unfolding Shape
  whole p is low sound = record {
    shaped = chosen_is_free l m K p
        (row_fits K (rule l) most_nodes (program_row m) 0 p (length K) is, low);
    sound = sound;
  }

  same_tree : (p q : Plain NodeKind) (to : ℕ) → read ≡ gives p to → IsProgram l m K q → (p ≡ q) × (to ≡ length K)
  same_tree p q to is program = gives_same p q to (length K) (sym is ∙ program_read q program)

  low_or_not : (q : Plain NodeKind) → IsProgram l m K q → tall leans q ≤ most_nodes
  unfolding Shape
  low_or_not q program = program.shaped.1

  told : (out : Out (Plain NodeKind)) → read ≡ out → Decided
  told nothing is = inr (λ q program. nothing_gives q (length K) (sym is ∙ program_read q program))
  told (gives p to) is =
      elim (eq-or-lt_of_le
      ((under_ahead chosen K (rule l) solid (programs l m).told.steady most_nodes (program_row m) p 0
      to (row_fits K (rule l) most_nodes (program_row m) 0 p to is)).within (omega arith))) [
        | inl end ↦ at_end (is ∙ ap (gives p) end)
        | inr short ↦ inr (λ q program. absurd (let same : to ≡ length K = (same_tree p q to is program).1 in
            let bad : ⊥ = omega (arith, same, short) in bad))
      ]
    where
      sound_or_not : (b : Bool) → is_sound p ≡ b → read ≡ gives p (length K) → tall leans p ≤ most_nodes → Decided
      sound_or_not true sound here low = inl (p, whole p here low sound)
      sound_or_not false sound here low = inr (λ q program.
          clash (sym sound ∙ ap is_sound (same_tree p q (length K) here program).0 ∙ program.sound))

      at_end : read ≡ gives p (length K) → Decided
      at_end here =
          elim (leb_tells (tall leans p) most_nodes) [
            | inl low ↦ sound_or_not (is_sound p) refl here low.1
            | inr high ↦ inr (λ q program. absurd (
                let same : tall leans p ≡ tall leans q
                = ap (tall leans) (same_tree p q (length K) here program).0 in
                let low : tall leans q ≤ most_nodes = low_or_not q program in
                let more : most_nodes < tall leans p = high.1 in
                let bad : ⊥ = omega (arith, same, low, more) in bad))
          ]

  -- keys have a tree, or none
  pub decided : ((p : Plain NodeKind) × IsProgram l m K p) ⊎ ((p : Plain NodeKind) → ¬ IsProgram l m K p)
  decided = told read refl
