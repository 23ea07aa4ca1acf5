-- Words have one form at most.
use Rattle.std.proofs.Common.{◌≡◌, ℕ, ◌≤◌, List, [], ◌∷◌, get_or, refl, sym, ◌∙◌, ap, arith}
use Rattle.std.specs.Prelude.{codes}
use Rattle.std.proofs.lemmas.Fmt.{decimal_injective}
use Rattle.graph_run.specs.declared.words.words.Form.{Form}
use Rattle.graph_run.specs.declared.words.words.Form.TheVariants.{Build, Order, Make, Sum}
use Rattle.graph_run.specs.words.Words.{IsForm, IsCounted, IsCount, IsBuild, plain, batched}

-- the first letter of the first word
abbrev letter : List (List ℕ) → ℕ
letter words = get_or (get_or words 0 []) 0 0

-- a word is one number in decimal digits
one_count : (most m n : ℕ) (word : List ℕ) → most ≤ 1000000 → IsCount most m word → IsCount most n word → m ≡ n
one_count most m n word low (at_m, _, low_m) (at_n, _, low_n) =
    decimal_injective m n (omega (arith, low, low_m)) (omega (arith, low, low_n)) (sym at_m ∙ at_n)

-- one name has one number
one_number : (name : List ℕ) (m n : ℕ) (words : List (List ℕ)) → IsCounted name m words → IsCounted name n words → m ≡ n
one_number name m n words a b =
    let both : name ∷ a.0 ∷ [] ≡ name ∷ b.0 ∷ [] = sym a.1 ∙ b.1 in
    let same : a.0 ≡ b.0 = cc in
    one_count 100000 m n b.0 (omega arith) (rw same at a.2) b.2

-- one batch too
one_batch : (m n : ℕ) (words : List (List ℕ)) → IsBuild m words → IsBuild n words → m ≡ n
one_batch m n words (plain _ is) (plain _ so) = is ∙ sym so
one_batch m n words (plain is _) (batched word so _) =
    let both : codes "build" ∷ [] ≡ codes "build" ∷ codes "--batch" ∷ word ∷ [] = sym is ∙ so in absurd cc
one_batch m n words (batched word is _) (plain so _) =
    let both : codes "build" ∷ codes "--batch" ∷ word ∷ [] ≡ codes "build" ∷ [] = sym is ∙ so in absurd cc
one_batch m n words (batched word is count) (batched other so also) =
    let both : codes "build" ∷ codes "--batch" ∷ word ∷ [] ≡ codes "build" ∷ codes "--batch" ∷ other ∷ [] =
    sym is ∙ so in
    let same : word ≡ other = cc in
    one_count 1000000 m n other (omega arith) (rw same at count) also

-- each form begins with a letter of its own
build_letter : (n : ℕ) (words : List (List ℕ)) → IsBuild n words → letter words ≡ 98
build_letter n words (plain is _) = ap letter is
build_letter n words (batched word is _) = ap letter is

order_letter : (words : List (List ℕ)) → IsForm Order words → letter words ≡ 111
order_letter words is = ap letter is

make_letter : (n : ℕ) (words : List (List ℕ)) → IsForm (Make n) words → letter words ≡ 109
make_letter n words counted = ap letter counted.1

sum_letter : (n : ℕ) (words : List (List ℕ)) → IsForm (Sum n) words → letter words ≡ 115
sum_letter n words counted = ap letter counted.1

pub one_form : (f g : Form) (words : List (List ℕ)) → IsForm f words → IsForm g words → f ≡ g
one_form (Build m) (Build n) words a b = ap Build (one_batch m n words a b)
one_form (Build m) Order words a b = absurd (omega (arith, build_letter m words a, order_letter words b))
one_form (Build m) (Make n) words a b = absurd (omega (arith, build_letter m words a, make_letter n words b))
one_form (Build m) (Sum n) words a b = absurd (omega (arith, build_letter m words a, sum_letter n words b))
one_form Order (Build n) words a b = absurd (omega (arith, order_letter words a, build_letter n words b))
one_form Order Order words a b = refl
one_form Order (Make n) words a b = absurd (omega (arith, order_letter words a, make_letter n words b))
one_form Order (Sum n) words a b = absurd (omega (arith, order_letter words a, sum_letter n words b))
one_form (Make m) (Build n) words a b = absurd (omega (arith, make_letter m words a, build_letter n words b))
one_form (Make m) Order words a b = absurd (omega (arith, make_letter m words a, order_letter words b))
one_form (Make m) (Make n) words a b = ap Make (one_number (codes "make") m n words a b)
one_form (Make m) (Sum n) words a b = absurd (omega (arith, make_letter m words a, sum_letter n words b))
one_form (Sum m) (Build n) words a b = absurd (omega (arith, sum_letter m words a, build_letter n words b))
one_form (Sum m) Order words a b = absurd (omega (arith, sum_letter m words a, order_letter words b))
one_form (Sum m) (Make n) words a b = absurd (omega (arith, sum_letter m words a, make_letter n words b))
one_form (Sum m) (Sum n) words a b = ap Sum (one_number (codes "sum") m n words a b)
