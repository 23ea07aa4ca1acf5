-- The trees that a row of entries is, by its first entry.
use Rattle.std.specs.Prelude.{ℕ, zero, suc, ◌≤◌, List, [], ◌∷◌, length, take, drop, min}
use Rattle.std.proofs.Common.{◌≡◌, refl, ap, ◌∙◌, arith, length-drop}
use Rattle.std.proofs.lemmas.List.{length-take, take_min, drop_min}
use Rattle.es_syntax.specs.declared.entry.Entry.{Entry}
use Rattle.es_grammar.specs.declared.cst.tree.Cst.TheVariants as vCst
use Rattle.es_token.specs.declared.token.Token.{Token}
use Rattle.es_syntax.specs.Trees.{Kept, trees_in, tree_by, kept_by, trees}
use Rattle.es_printer.specs.declared.style.Style.{Style}
use Rattle.es_printer.specs.Sheet.{Sheet}
use Rattle.es_printer.specs.Rows.{kept, all}
use Rattle.es_printer.proofs.Equations.{shown_leaf}

-- further steps read nothing else
kept_same : (n m : ℕ) (es : List Entry) → length es ≤ n → length es ≤ m → kept_by n es ≡ kept_by m es
kept_same zero zero es p q = refl
kept_same zero (suc m) [] p q = refl
kept_same zero (suc m) (e ∷ es) p q = absurd (omega arith)
kept_same (suc n) zero [] p q = refl
kept_same (suc n) zero (e ∷ es) p q = absurd (omega arith)
kept_same (suc n) (suc m) [] p q = refl
kept_same (suc n) (suc m) (e ∷ es) p q =
    let a = kept_same n m (take e.size es) (omega (arith, length-take {A = Entry}))
    (omega (arith, length-take {A = Entry})) in
    let b = kept_same n m (drop e.size es) (omega (arith, length-drop {A = Entry}))
    (omega (arith, length-drop {A = Entry})) in
    cc

-- the first entry with its parts, and those behind it
pub kept_some : (y : Entry) (es : List Entry)
    → kept (y ∷ es)
    ≡ (y.to, tree_by y.what y.from y.to (kept (take (min y.size (length es)) es)))
    ∷ kept (drop (min y.size (length es)) es)
unfolding kept
kept_some y es =
    rw (take_min, drop_min)
    (let a = kept_same (length es) (length (take y.size es)) (take y.size es)
    (omega (arith, length-take {A = Entry})) (omega arith) in
    let b = kept_same (length es) (length (drop y.size es)) (drop y.size es) (omega (arith, length-drop {A = Entry}))
    (omega arith) in
    cc)

-- no entries are no trees
pub kept_none : (es : List Entry) → length es ≡ 0 → kept es ≡ []
unfolding kept
kept_none [] e = refl
kept_none (y ∷ es) e = absurd (omega arith)

pub none_kept : trees_in (kept []) ≡ []
unfolding kept
none_kept = refl

pub trees_kept : (es : List Entry) → trees es ≡ trees_in (kept es)
unfolding trees kept
trees_kept es = refl

-- ---- parts of which nothing is printed
pub bare_none : (us : List Kept) (ts : List Token) (own : Style) (s : Sheet) → us ≡ []
    → all ts (trees_in us) own s ≡ s
unfolding all
bare_none us ts own s e = ap (λ vs. all ts (trees_in vs) own s) e

pub bare_leaf : (us : List Kept) (es : List Entry) (to at : ℕ) (ts : List Token) (own : Style) (s : Sheet)
    → us ≡ (to, vCst.Leaf at) ∷ kept es → length es ≡ 0 → all ts (trees_in us) own s ≡ s
unfolding all
bare_leaf us es to at ts own s e none =
    ap (λ vs. all ts (trees_in vs) own s) (e ∙ ap (λ vs. (to, vCst.Leaf at) ∷ vs) (kept_none es none))
    ∙ shown_leaf ts at own s
