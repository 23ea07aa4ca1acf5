-- What the reader's answer tells of the plain trees of a program, and the other way round.
use Rattle.std.specs.Prelude.{Bool, List, [], ◌∷◌, ◌++◌, Result, Err, true}
use Rattle.std.specs.Global.{Vec}
use Rattle.std.proofs.Common.{◌≡◌, ◌≢◌, ℕ, length, refl, sym, ap, ◌∙◌, subst, arith, leb-true, le-leb}
use Rattle.es_token.specs.declared.token.Token.{Token}
use Rattle.grammar_theory.specs.declared.error.Lang.{Lang}
use Rattle.grammar_theory.specs.declared.error.Mode.{Mode}
use Rattle.grammar_theory.specs.declared.error.SyntaxError.{SyntaxError}
use Rattle.grammar_theory.specs.declared.error.SyntaxError.TheVariants.{Syntax, OutOfMemory}
use Rattle.grammar_theory.specs.Key.{Key, keys_of}
use Rattle.grammar_theory.specs.Plain.{Plain, plain, made, tall}
use Rattle.grammar_theory.specs.Fits.{Shape, most_nodes}
use Rattle.grammar_theory.specs.Reader.{Out, nothing, gives, only_if, read_row}
use Rattle.grammar_theory.proofs.OutLemmas.{nothing_gives, gives_same, only_if-gives}
use Rattle.grammar_theory.proofs.ReaderLemmas.{row_fits, row_reads}
use Rattle.grammar_theory.proofs.FreeLemmas as Free
use Rattle.es_lookahead.proofs.TokenLemmas.{length-keys_of}
use Rattle.es_grammar.specs.declared.rows.NodeKind.{NodeKind}
use Rattle.es_grammar.specs.Table.{rule}
use Rattle.es_grammar.specs.Conditions.{leans, program_row}
use Rattle.es_grammar.proofs.Sets.{sets}
use Rattle.es_grammar.proofs.Theorems.{programs, free_is_chosen}
use Rattle.es_grammar.specs.declared.cst.tree.Cst.{Cst}
use Rattle.es_grammar.specs.cst.Slim.{slim, one, tree_in}
use Rattle.es_rules.specs.Bounded.{Read, row_at}
use Rattle.es_rules.specs.declared.cursor.Cursor.{Cursor}
use Rattle.es_rules.specs.Steps.{single, Writes, IsRead}
use Rattle.es_syntax.specs.declared.entry.Entry.{Entry}
use Rattle.es_syntax.specs.Trees.{trees}
use Rattle.es_syntax.specs.Forest.{entries_of}
use Rattle.es_syntax.proofs.Forests.{trees_forest}
use Rattle.es_program_reader.specs.Derived.{IsRowOf, IsWritten, IsShaped, HoldsShaped, GivesTree}
use Rattle.es_program_reader.proofs.LowLemmas.{low, is_low, read_of, row_low}

low-gives : (o : Out (Plain NodeKind)) (v : Read) (to : ℕ) → low o ≡ gives v to
    → (p : Plain NodeKind) × (o ≡ gives p to) × (is_low p ≡ true) × (read_of p ≡ v)
low-gives nothing v to e = nothing_gives v to e
low-gives (gives p at) v to e =
    let held = only_if-gives (is_low p) (gives (read_of p) at) v to e in
    let same = gives_same (read_of p) v at to held.1 in
    (p, ap (gives p) same.1, held.0, same.0)

-- what is read where entries are kept
pub kept_read : (keeps : Bool) (out : Out Read) (old : List Entry) (new : Cursor) (r : Result ℕ SyntaxError)
    → keeps ≡ true → IsRead keeps out old new r → IsRead true out old new r
kept_read keeps out old new r e read = subst (λ keeps. IsRead keeps out old new r) e read

-- a tree that was written behind nothing is all that was written
pub alone : (old new es : List Entry) (t : Cst) → old ≡ [] → es ≡ new → Writes true old new (t ∷ []) → IsRowOf t es
alone old new es t none same w =
    ap trees (same ∙ (w.1 ∙ ap (λ us. us ++ entries_of w.0) none)) ∙ (trees_forest w.0 ∙ w.2)

pub alone_written : (old new es : List Entry) (ts : List Cst) → old ≡ [] → es ≡ new → Writes true old new ts
    → IsWritten es
alone_written old new es ts none same w = record {
  forest = w.0;
  row = same ∙ (w.1 ∙ ap (λ us. us ++ entries_of w.0) none);
}

module _ (l : Lang) (m : Mode) (ts : List Token) where
  -- what is read up to the end is shaped
  read_shaped : (room : ℕ) (t : Cst) (h to : ℕ) → room ≡ most_nodes
      → row_at (rule l) (keys_of ts) room (program_row m) 0 ≡ gives (single t h) to → to ≡ length ts
      → IsShaped l m (keys_of ts) t
  unfolding Shape
  read_shaped room t h to most read ends =
      let K : List Key = keys_of ts in
      let answer : low (read_row plain K (rule l) most_nodes (program_row m) 0) ≡ gives (single t h) (length K) =
      sym (row_low l K most_nodes (program_row m) 0) ∙ ap (λ n. row_at (rule l) K n (program_row m) 0) (sym most) ∙ read
      ∙ ap (gives (single t h)) (ends ∙ sym (length-keys_of ts)) in
      let found = low-gives (read_row plain K (rule l) most_nodes (program_row m) 0) (single t h) (length K) answer in
      let under = Free.chosen_is_free K (rule l) most_nodes (program_row m) found.0 0 (length K)
      (row_fits K (rule l) most_nodes (program_row m) 0 found.0 (length K) found.1) in
      let value : made slim found.0 ≡ one t = ap (λ v. v.value) found.3 in
      record {
        plain = found.0;
        shaped = (under, leb-true (tall leans found.0) most_nodes found.2);
        kept = ap tree_in value;
      }

  -- what is shaped is read, up to the end
  pub shaped_read : (room : ℕ) (tree : Cst) → room ≡ most_nodes → IsShaped l m (keys_of ts) tree
      → (v : Read) × (row_at (rule l) (keys_of ts) room (program_row m) 0 ≡ gives v (length ts))
      × (tree_in v.value ≡ tree)
  unfolding Shape
  shaped_read room tree most shaped =
      let K : List Key = keys_of ts in
      let p = shaped.plain in
      let read : read_row plain K (rule l) most_nodes (program_row m) 0 ≡ gives p (length K) =
      row_reads K (rule l) (sets l).solid (programs l m).told.steady most_nodes (program_row m) p 0 (length K)
      (omega arith) (free_is_chosen l m K p shaped.shaped).0 in
      let small : is_low p ≡ true = le-leb (tall leans p) most_nodes shaped.shaped.1 in (
        read_of p,
        ap (λ n. row_at (rule l) K n (program_row m) 0) most ∙ row_low l K most_nodes (program_row m) 0 ∙ ap low read
            ∙ ap (λ b. only_if b (gives (read_of p) (length K))) small
            ∙ ap (gives (read_of p)) (length-keys_of ts),
        shaped.kept,
      )

  pub row_shaped : (room : ℕ) (es : List Entry) (t : Cst) (h to : ℕ) → room ≡ most_nodes → IsRowOf t es
      → row_at (rule l) (keys_of ts) room (program_row m) 0 ≡ gives (single t h) to → to ≡ length ts
      → HoldsShaped l m (keys_of ts) es
  row_shaped room es t h to most written read ends = record {
    tree = t;
    row = written;
    shaped = read_shaped room t h to most read ends;
  }

  -- an answer is the row of what is shaped
  pub answer_only : (room : ℕ) (es : List Entry) (t tree : Cst) (h to : ℕ) → room ≡ most_nodes → IsRowOf t es
      → row_at (rule l) (keys_of ts) room (program_row m) 0 ≡ gives (single t h) to → IsShaped l m (keys_of ts) tree
      → IsRowOf tree es × (to ≡ length ts)
  answer_only room es t tree h to most written read shaped =
      let other = shaped_read room tree most shaped in
      let same = gives_same (single t h) other.0 to (length ts) (sym read ∙ other.1) in
      (written ∙ ap (λ u. u ∷ []) (ap (λ v. tree_in v.value) same.0 ∙ other.2), same.1)

  -- where something is shaped, only "out of memory" refuses
  pub refused_only : (room : ℕ) (r : Result (Vec Entry) SyntaxError) (y e : SyntaxError) (tree : Cst)
      → room ≡ most_nodes
      → r ≡ Err y → y ≡ e → (e ≢ OutOfMemory → row_at (rule l) (keys_of ts) room (program_row m) 0 ≡ nothing)
      → IsShaped l m (keys_of ts) tree → GivesTree r tree
  refused_only room r y e tree most is_err same told shaped =
      let P : Result (Vec Entry) SyntaxError → Type 0 = λ r. GivesTree r tree in
      subst P (sym (is_err ∙ ap Err same)) (at_error e told)
    where
      at_error : (e : SyntaxError) → (e ≢ OutOfMemory → row_at (rule l) (keys_of ts) room (program_row m) 0 ≡ nothing)
          → GivesTree (Err e) tree
      at_error OutOfMemory told = tt
      at_error (Syntax token) told =
          let other = shaped_read room tree most shaped in
          nothing_gives other.0 (length ts) (sym (told (λ eq. let bad : ⊥ = cc in bad)) ∙ other.1)

-- the bound of the code
pub most : 501 ≡ most_nodes
unfolding most_nodes
most = refl
