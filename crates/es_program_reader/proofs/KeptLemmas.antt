-- What the answer for the shape alone tells of programs.
use Rattle.std.specs.Prelude.{List, [], ◌∷◌, Bool, true, false, ◌&&◌}
use Rattle.std.proofs.Common.{◌≡◌, refl, sym, ap, ◌∙◌}
use Rattle.grammar_theory.specs.declared.error.Lang.{Lang}
use Rattle.grammar_theory.specs.declared.error.Mode.{Mode}
use Rattle.grammar_theory.specs.Key.{Key}
use Rattle.es_grammar.specs.declared.cst.tree.Cst.{Cst}
use Rattle.es_syntax.specs.declared.entry.Entry.{Entry}
use Rattle.es_syntax.specs.Trees.{trees}
use Rattle.es_program_reader.specs.Derived.{IsRowOf, IsShaped, HoldsShaped}
use Rattle.es_program_reader.specs.Sound.{is_sound, are_sound}
use Rattle.es_program_reader.specs.Program.{IsKept, HoldsKept}
use Rattle.es_program_reader.proofs.RowLemmas.{are_none, are_some}
use Rattle.es_program_reader.proofs.SoundTheorems.{sound_of, program_of}

-- one tree alone is sound where it is
are_alone : (t : Cst) → are_sound (t ∷ []) ≡ is_sound t
are_alone t = are_some t [] ∙ (ap (λ b. is_sound t && b) are_none ∙ last (is_sound t))
  where
    last : (b : Bool) → (b && true) ≡ b
    last true = refl
    last false = refl

clash : true ≡ false → ⊥
clash e = let bad : ⊥ = cc in bad

module _ (l : Lang) (m : Mode) (K : List Key) where
  -- what is kept of a program is of its shape
  pub shaped_of : (tree : Cst) → IsKept l m K tree → IsShaped l m K tree
  shaped_of tree of = record { plain = of.plain; shaped = of.program.shaped; kept = of.kept }

  -- what is of a program's shape, and sound, is kept of a program
  pub kept_of : (tree : Cst) → IsShaped l m K tree → is_sound tree ≡ true → IsKept l m K tree
  kept_of tree of sound = program_of l m K of.plain tree of.shaped of.kept sound

  -- so is the row of it
  pub holds_kept : (es : List Entry) → HoldsShaped l m K es → true ≡ are_sound (trees es) → HoldsKept l m K es
  holds_kept es held sound = record {
    tree = held.tree;
    row = held.row;
    kept = kept_of held.tree held.shaped
        (sym (are_alone held.tree) ∙ (ap are_sound (sym held.row) ∙ sym sound));
  }

  -- where what is read isn't sound, nothing is kept of a program
  pub none_kept : {A : Type 0} (es : List Entry) (tree : Cst) → IsRowOf tree es → false ≡ are_sound (trees es)
      → IsKept l m K tree → A
  none_kept es tree row off of =
      absurd (clash (sym (sound_of l m K tree of) ∙ (sym (are_alone tree) ∙ (ap are_sound (sym row) ∙ sym off))))
