-- The trees that a row of entries is, by its first entry.
use Rattle.std.specs.Prelude.{ℕ, zero, suc, ◌≤◌, List, [], ◌∷◌, ◌++◌, length, take, drop, min}
use Rattle.std.proofs.Common.{◌≡◌, refl, arith, length-drop}
use Rattle.std.proofs.lemmas.List.{length-take, take_min, drop_min}
use Rattle.es_syntax.specs.declared.entry.Entry.{Entry}
use Rattle.es_syntax.specs.Trees.{trees_in, tree_by, kept_by, trees}
use Rattle.es_tree_sites.specs.Parts.{kept}

-- further steps read nothing else
kept_same : (n m : ℕ) (es : List Entry) → length es ≤ n → length es ≤ m → kept_by n es ≡ kept_by m es
kept_same zero zero es p q = refl
kept_same zero (suc m) [] p q = refl
kept_same zero (suc m) (e ∷ es) p q = absurd (omega arith)
kept_same (suc n) zero [] p q = refl
kept_same (suc n) zero (e ∷ es) p q = absurd (omega arith)
kept_same (suc n) (suc m) [] p q = refl
kept_same (suc n) (suc m) (e ∷ es) p q =
    let a = kept_same n m (take e.size es) (omega (arith, length-take {A = Entry}))
    (omega (arith, length-take {A = Entry})) in
    let b = kept_same n m (drop e.size es) (omega (arith, length-drop {A = Entry}))
    (omega (arith, length-drop {A = Entry})) in
    cc

kept_some : (y : Entry) (es : List Entry)
    → kept (y ∷ es)
    ≡ (y.to, tree_by y.what y.from y.to (kept (take (min y.size (length es)) es)))
    ∷ kept (drop (min y.size (length es)) es)
unfolding kept
kept_some y es =
    rw (take_min, drop_min)
    (let a = kept_same (length es) (length (take y.size es)) (take y.size es)
    (omega (arith, length-take {A = Entry})) (omega arith) in
    let b = kept_same (length es) (length (drop y.size es)) (drop y.size es) (omega (arith, length-drop {A = Entry}))
    (omega arith) in
    cc)

pub trees_kept : (es : List Entry) → trees es ≡ trees_in (kept es)
unfolding trees kept
trees_kept es = refl

-- no entries are no trees
pub trees_none : (es : List Entry) → length es ≡ 0 → trees es ≡ []
unfolding trees
trees_none [] e = refl
trees_none (y ∷ es) e = absurd (omega arith)

-- the first entry with its parts, and those behind it
pub trees_some : (y : Entry) (es : List Entry)
    → trees (y ∷ es)
    ≡ tree_by y.what y.from y.to (kept (take (min y.size (length es)) es)) ∷ trees (drop (min y.size (length es)) es)
trees_some y es =
    rw (trees_kept (y ∷ es), trees_kept (drop (min y.size (length es)) es), kept_some y es) refl
