-- Trees side by side are what the row of their entries is.
use Rattle.std.proofs.Common.{◌≡◌, ℕ, zero, suc, ◌+◌, ◌<◌, ◌≤◌, List, [], ◌∷◌, ◌++◌, length, length-append, length-take, length-drop, take, drop, map, refl, sym, ap, subst, ◌∙◌, arith, append_assoc}
use Rattle.std.proofs.Math.Seq.{take-append_seam, drop-append_seam}
use Rattle.std.proofs.lemmas.List.{append-nil, take_all, take-append-drop}
use Rattle.es_grammar.specs.declared.cst.tree.Cst.{Cst}
use Rattle.es_syntax.specs.declared.entry.What.{What}
use Rattle.es_syntax.specs.declared.entry.Entry.{Entry}
use Rattle.es_syntax.specs.Trees.{Kept, trees_in, tree_by, kept_by, trees}
use Rattle.es_syntax.specs.Written.{headed}
use Rattle.es_syntax.specs.Forest.{Forest, none, node, entries_of, kept_of, beside, Keeps}

-- further steps read nothing else
kept_same : (n m : ℕ) (es : List Entry) → length es ≤ n → length es ≤ m → kept_by n es ≡ kept_by m es
kept_same zero zero es p q = refl
kept_same zero (suc m) [] p q = refl
kept_same zero (suc m) (e ∷ es) p q = absurd (omega arith)
kept_same (suc n) zero [] p q = refl
kept_same (suc n) zero (e ∷ es) p q = absurd (omega arith)
kept_same (suc n) (suc m) [] p q = refl
kept_same (suc n) (suc m) (e ∷ es) p q =
    let a = kept_same n m (take e.size es) (omega (arith, length-take {A = Entry}))
    (omega (arith, length-take {A = Entry})) in
    let b = kept_same n m (drop e.size es) (omega (arith, length-drop {A = Entry}))
    (omega (arith, length-drop {A = Entry})) in
    cc

kept_in : List Entry → List Kept
kept_in es = kept_by (length es) es

-- an entry with its parts before others
kept_headed : (w : What) (f t : ℕ) (ps rest : List Entry)
    → kept_in (headed w f t ps ++ rest) ≡ (t, tree_by w f t (kept_in ps)) ∷ kept_in rest
unfolding kept_in
kept_headed w f t ps rest =
    rw (take-append_seam ps rest, drop-append_seam ps rest) (
    let a = kept_same (length (ps ++ rest)) (length ps) ps (omega (arith, length-append ps rest)) (omega arith) in
    let b = kept_same (length (ps ++ rest)) (length rest) rest (omega (arith, length-append ps rest)) (omega arith) in
    cc)

kept_forest : (s : Forest) → kept_in (entries_of s) ≡ kept_of s
unfolding kept_in entries_of kept_of
kept_forest none = refl
kept_forest (node w f t parts rest) =
    let a = kept_headed w f t (entries_of parts) (entries_of rest) in
    let b = kept_forest parts in
    let c = kept_forest rest in
    cc

pub trees_forest : (s : Forest) → trees (entries_of s) ≡ trees_in (kept_of s)
unfolding trees kept_in
trees_forest s = ap trees_in (kept_forest s)

-- ---- one behind the other
pub entries_beside : (a b : Forest) → entries_of (beside a b) ≡ entries_of a ++ entries_of b
unfolding entries_of beside
entries_beside none b = refl
entries_beside (node w f t parts rest) b =
    rw (entries_beside rest b) (simp append_assoc)

pub kept_beside : (a b : Forest) → kept_of (beside a b) ≡ kept_of a ++ kept_of b
unfolding kept_of beside
kept_beside none b = refl
kept_beside (node w f t parts rest) b = ap (λ (ks : List Kept). (t, tree_by w f t (kept_of parts)) ∷ ks) (kept_beside rest b)

pub trees_beside : (a b : Forest) → trees_in (kept_of (beside a b)) ≡ trees_in (kept_of a) ++ trees_in (kept_of b)
trees_beside a b = ap trees_in (kept_beside a b) ∙ both (kept_of a) (kept_of b)
  where
    both : (xs ys : List Kept) → trees_in (xs ++ ys) ≡ trees_in xs ++ trees_in ys
    both [] ys = refl
    both (x ∷ xs) ys = ap (λ (ts : List Cst). x.1 ∷ ts) (both xs ys)

-- ---- what stood there stands there still
pub keeps_all : (es : List Entry) → Keeps es es
keeps_all es = take_all (length es) es (omega arith)

pub keeps_before : (a b : List Entry) → Keeps a (a ++ b)
keeps_before a b = take-append_seam a b

pub keeps_less : (a b c : List Entry) → Keeps (a ++ b) c → Keeps a c
keeps_less a b c e =
    let d = drop (length (a ++ b)) c in
    let same : a ++ (b ++ d) ≡ c =
    sym (append_assoc a b d) ∙ (ap (λ (es : List Entry). es ++ d) (sym e) ∙ take-append-drop (length (a ++ b)) c) in
    subst (λ (es : List Entry). Keeps a es) same (keeps_before a (b ++ d))

pub keeps_then : (a b c : List Entry) → Keeps a b → Keeps b c → Keeps a c
keeps_then a b c e f =
    let d = drop (length a) b in
    let same : b ≡ a ++ d = sym (take-append-drop (length a) b) ∙ ap (λ (es : List Entry). es ++ d) e in
    keeps_less a d c (subst (λ (es : List Entry). Keeps es c) same f)
