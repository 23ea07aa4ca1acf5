-- What a changed row holds, by its first entry; and what is read of the entries of trees.
use Rattle.std.proofs.Common.{◌≡◌, ℕ, zero, suc, ◌≤◌, List, [], ◌∷◌, ◌++◌, length, length-append, take, drop, refl, arith, length-drop, min, map, ap, ◌∙◌}
use Rattle.std.proofs.Math.Seq.{take-append_seam, drop-append_seam}
use Rattle.std.proofs.lemmas.List.{length-take, take_min, drop_min}
use Rattle.es_token.specs.declared.token.Token.{Token}
use Rattle.es_lowering.specs.Value.{nil}
use Rattle.es_syntax.specs.declared.entry.Entry.{Entry}
use Rattle.es_syntax.specs.Held.{Held, row_of}
use Rattle.es_syntax.specs.Held as old
use Rattle.es_changed.specs.declared.entry.Change.{Change}
use Rattle.es_changed.specs.declared.entry.Change.TheVariants as change
use Rattle.es_changed.specs.declared.entry.ChangedEntry.{ChangedEntry}
use Rattle.es_changed.specs.Changed.{with_part, changed, read, parts_in, held_in, before_others}
use Rattle.es_changed.specs.Shape.{Shape, none, node, kept, headed, old_entry, entries_of, held_of}

-- ---- lists of entries of the program's row
pub take_map : (n : ℕ) (es : List Entry) → take n (map old_entry es) ≡ map old_entry (take n es)
take_map zero es = refl
take_map (suc n) [] = refl
take_map (suc n) (e ∷ es) = ap (λ (fs : List ChangedEntry). old_entry e ∷ fs) (take_map n es)

pub drop_map : (n : ℕ) (es : List Entry) → drop n (map old_entry es) ≡ map old_entry (drop n es)
drop_map zero es = refl
drop_map (suc n) [] = refl
drop_map (suc n) (e ∷ es) = drop_map n es

pub length_map : (es : List Entry) → length (map old_entry es) ≡ length es
length_map [] = refl
length_map (e ∷ es) = ap suc (length_map es)

module _ (x : List ℕ) (ts : List Token) where
  -- further steps read nothing else
  read_same : (n m : ℕ) (es : List ChangedEntry) → length es ≤ n → length es ≤ m → read x ts n es ≡ read x ts m es
  read_same zero zero es p q = refl
  read_same zero (suc m) [] p q = refl
  read_same zero (suc m) (e ∷ es) p q = absurd (omega arith)
  read_same (suc n) zero [] p q = refl
  read_same (suc n) zero (e ∷ es) p q = absurd (omega arith)
  read_same (suc n) (suc m) [] p q = refl
  read_same (suc n) (suc m) (e ∷ es) p q =
      let a = read_same n m (take e.size es) (omega (arith, length-take {A = ChangedEntry}))
      (omega (arith, length-take {A = ChangedEntry})) in
      let b = read_same n m (drop e.size es) (omega (arith, length-drop {A = ChangedEntry}))
      (omega (arith, length-drop {A = ChangedEntry})) in
      cc

  -- a part before others, as the parts of a node
  row_with : (c : Change) (p : Held) (ps : List Held)
      → row_of x ts (with_part c p ps) ≡ before_others c p.1 (row_of x ts ps)
  row_with (change.Old what) p ps = refl
  row_with (change.Form f) p ps = refl
  row_with (change.Word w) p ps = refl
  row_with change.Gone p ps = refl

  pub held_none : (es : List ChangedEntry) → length es ≡ 0 → held_in x ts es ≡ nil
  unfolding held_in parts_in
  held_none [] e = refl
  held_none (y ∷ es) e = absurd (omega arith)

  -- the first entry, its parts, and what stands behind them
  pub held_some : (e : ChangedEntry) (es : List ChangedEntry) (n : ℕ) → n ≡ min e.size (length es)
      → held_in x ts (e ∷ es)
      ≡ before_others e.change
      (changed x ts e.change e.from e.to (held_in x ts (take n es)) (parts_in x ts (take n es)))
      (held_in x ts (drop n es))
  unfolding held_in parts_in
  held_some e es n is =
      row_with e.change (
        e.to,
        changed x ts e.change e.from e.to (row_of x ts (read x ts (length es) (take e.size es)))
            (read x ts (length es) (take e.size es)),
      ) (read x ts (length es) (drop e.size es))
      ∙ rw (is, take_min, drop_min) (
      let a = read_same (length es) (length (take e.size es)) (take e.size es)
      (omega (arith, length-take {A = ChangedEntry})) (omega arith) in
      let b = read_same (length es) (length (drop e.size es)) (drop e.size es)
      (omega (arith, length-drop {A = ChangedEntry})) (omega arith) in
      cc)

  -- an entry with its parts, before others
  headed_parts : (c : Change) (f t : ℕ) (ps rest : List ChangedEntry)
      → parts_in x ts (headed c f t ps ++ rest)
      ≡ with_part c (t, changed x ts c f t (row_of x ts (parts_in x ts ps)) (parts_in x ts ps)) (parts_in x ts rest)
  unfolding parts_in
  headed_parts c f t ps rest =
      rw (take-append_seam ps rest, drop-append_seam ps rest) (
      let a = read_same (length (ps ++ rest)) (length ps) ps (omega (arith, length-append ps rest)) (omega arith) in
      let b = read_same (length (ps ++ rest)) (length rest) rest (omega (arith, length-append ps rest)) (omega arith) in
      cc)

  -- entries of the program's row are read as they are there
  read_old : (n : ℕ) (es : List Entry) → read x ts n (map old_entry es) ≡ old.read x ts n es
  read_old zero es = refl
  read_old (suc n) [] = refl
  read_old (suc n) (e ∷ es) =
      let a = ap (read x ts n) (take_map e.size es) in
      let b = ap (read x ts n) (drop_map e.size es) in
      let c = read_old n (take e.size es) in
      let d = read_old n (drop e.size es) in
      cc

  pub parts_old : (es : List Entry) → parts_in x ts (map old_entry es) ≡ old.parts_of x ts es
  unfolding parts_in old.parts_of
  parts_old es = ap (λ (n : ℕ). read x ts n (map old_entry es)) (length_map es) ∙ read_old (length es) es

  -- what is read of the entries of trees are the trees
  pub parts_shape : (s : Shape) → parts_in x ts (entries_of s) ≡ held_of x ts s
  unfolding parts_in entries_of held_of old.held
  parts_shape none = refl
  parts_shape (kept what f t parts rest) =
      let a = headed_parts (change.Old what) f t (map old_entry parts) (entries_of rest) in
      let b = parts_old parts in
      let d = parts_shape rest in
      cc
  parts_shape (node c f t parts rest) =
      let a = headed_parts c f t (entries_of parts) (entries_of rest) in
      let b = parts_shape parts in
      let d = parts_shape rest in
      cc
