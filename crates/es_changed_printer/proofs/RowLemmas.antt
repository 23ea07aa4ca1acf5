-- The parts in a changed row, by its first entry.
use Rattle.std.specs.Prelude.{ℕ, zero, suc, ◌≤◌, List, [], ◌∷◌, length, take, drop, min}
use Rattle.std.proofs.Common.{◌≡◌, refl, arith, length-drop}
use Rattle.std.proofs.lemmas.List.{length-take, take_min, drop_min}
use Rattle.es_token.specs.declared.token.Token.{Token}
use Rattle.es_changed.specs.declared.entry.ChangedEntry.{ChangedEntry}
use Rattle.es_changed_printer.specs.Pieces.{part_by, read, parts}

module _ (ts : List Token) where
  -- further steps read nothing else
  read_same : (n m : ℕ) (es : List ChangedEntry) → length es ≤ n → length es ≤ m → read ts n es ≡ read ts m es
  read_same zero zero es p q = refl
  read_same zero (suc m) [] p q = refl
  read_same zero (suc m) (e ∷ es) p q = absurd (omega arith)
  read_same (suc n) zero [] p q = refl
  read_same (suc n) zero (e ∷ es) p q = absurd (omega arith)
  read_same (suc n) (suc m) [] p q = refl
  read_same (suc n) (suc m) (e ∷ es) p q =
      let a = read_same n m (take e.size es) (omega (arith, length-take {A = ChangedEntry}))
      (omega (arith, length-take {A = ChangedEntry})) in
      let b = read_same n m (drop e.size es) (omega (arith, length-drop {A = ChangedEntry}))
      (omega (arith, length-drop {A = ChangedEntry})) in
      cc

  -- no entries are no parts
  pub parts_none : (es : List ChangedEntry) → length es ≡ 0 → parts ts es ≡ []
  unfolding parts
  parts_none [] e = refl
  parts_none (y ∷ es) e = absurd (omega arith)

  -- the first entry with its parts, and what stands behind them
  pub parts_some : (y : ChangedEntry) (es : List ChangedEntry)
      → parts ts (y ∷ es)
      ≡ part_by ts y.change y.from y.to (parts ts (take (min y.size (length es)) es))
      ∷ parts ts (drop (min y.size (length es)) es)
  unfolding parts
  parts_some y es =
      rw (take_min, drop_min)
      (let a = read_same (length es) (length (take y.size es)) (take y.size es)
      (omega (arith, length-take {A = ChangedEntry})) (omega arith) in
      let b = read_same (length es) (length (drop y.size es)) (drop y.size es)
      (omega (arith, length-drop {A = ChangedEntry})) (omega arith) in
      cc)
