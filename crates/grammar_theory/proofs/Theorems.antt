-- The laws of a grammar whose tests tell, for whatever table of rows.
use Rattle.std.specs.Prelude.{List, None, Bool, true}
use Rattle.std.proofs.Common.{◌≡◌, ◌≤◌, length, sym, ap, ◌∙◌, arith}
use Rattle.std.proofs.lemmas.Option.{slice_get_past}
use Rattle.grammar_theory.specs.Key.{Key, seen, seen_of}
use Rattle.grammar_theory.specs.Productions.{Production}
use Rattle.grammar_theory.specs.Plain.{Plain, Makes, made, plain, tall}
use Rattle.grammar_theory.specs.Fits.{free, chosen, Under, Shape, most_nodes}
use Rattle.grammar_theory.specs.Reader.{gives, changed, read_row}
use Rattle.grammar_theory.specs.Checks.{is_flat}
use Rattle.grammar_theory.specs.Tells.{Sets, IsTold}
use Rattle.grammar_theory.proofs.OutLemmas.{gives_same, changed-gives}
use Rattle.grammar_theory.proofs.ReaderLemmas.{row_fits, row_reads}
use Rattle.grammar_theory.proofs.FreeLemmas as Free
use Rattle.grammar_theory.proofs.MadeLemmas.{row_made}
use Rattle.grammar_theory.proofs.TallLemmas.{under_tall}

-- a grammar whose tests tell, and a row of it that may stand before the end
pub record IsGrammar {Row NodeKind : Type 0} (rule : Row → Production Row NodeKind) (s : Sets Row) (start : Row) : Type
    0 where
  pub told : IsTold rule s
  pub ends : s.follow start None ≡ true

-- nothing is seen behind the last token
pub seen-length : (K : List Key) → seen K (length K) ≡ None
seen-length K = ap seen_of (slice_get_past K (length K) (omega arith))

module _ {Row NodeKind : Type 0} (leans : NodeKind → Bool) (rule : Row → Production Row NodeKind) (s : Sets Row)
    (start : Row) (grammar : IsGrammar rule s start) where
  -- no test bars a reading: what the grammar derives obeys them
  pub free_is_chosen : (K : List Key) (p : Plain NodeKind) → Shape leans free rule start K p
      → Shape leans chosen rule start K p
  unfolding Shape
  free_is_chosen K p shaped = (
    Free.free_is_chosen K rule s grammar.told most_nodes start p 0 (length K) shaped.0
        (ap (s.follow start) (seen-length K) ∙ grammar.ends),
    shaped.1,
  )

  -- and the other way round
  pub chosen_is_free : (K : List Key) (p : Plain NodeKind) → Shape leans chosen rule start K p
      → Shape leans free rule start K p
  unfolding Shape
  chosen_is_free K p shaped = (Free.chosen_is_free K rule most_nodes start p 0 (length K) shaped.0, shaped.1)

  -- what the reader answers at the end is made of a tree that fits
  read_fits : {Made : Type 0} (m : Makes NodeKind Made) (K : List Key) (v : Made)
      → read_row m K rule most_nodes start 0 ≡ gives v (length K)
      → (p : Plain NodeKind) × Under free K rule most_nodes start p 0 (length K) × (made m p ≡ v)
  read_fits m K v read =
      let tree = changed-gives (made m) (read_row plain K rule most_nodes start 0) v (length K)
      (sym (row_made m K rule most_nodes start 0) ∙ read) in (
        tree.0,
        Free.chosen_is_free K rule most_nodes start tree.0 0 (length K)
            (row_fits K rule most_nodes start 0 tree.0 (length K) tree.1),
        tree.2,
      )

  -- a tree of the grammar, where no path of it has too many nodes
  pub low_is_derived : {Made : Type 0} (m : Makes NodeKind Made) (K : List Key) (v : Made)
      → read_row m K rule most_nodes start 0 ≡ gives v (length K)
      → (p : Plain NodeKind) × (tall leans p ≤ most_nodes → Shape leans free rule start K p) × (made m p ≡ v)
  unfolding Shape
  low_is_derived m K v read =
      let tree = read_fits m K v read in (tree.0, (λ low. (tree.1, low)), tree.2)

  -- where no rule has turns behind an operand, it is made of a tree of the grammar
  pub read_is_derived : ((r : Row) → is_flat (rule r) ≡ true)
      → {Made : Type 0} (m : Makes NodeKind Made) (K : List Key) (v : Made)
      → read_row m K rule most_nodes start 0 ≡ gives v (length K)
      → (p : Plain NodeKind) × Shape leans free rule start K p × (made m p ≡ v)
  unfolding Shape
  read_is_derived flat m K v read =
      let tree = read_fits m K v read in
      (tree.0, (tree.1, under_tall leans free K rule flat most_nodes start tree.0 0 (length K) tree.1), tree.2)

  -- what is made of a tree of the grammar is what the reader answers, at the end
  pub derived_is_read : {Made : Type 0} (m : Makes NodeKind Made) (K : List Key) (p : Plain NodeKind)
      → Shape leans free rule start K p → read_row m K rule most_nodes start 0 ≡ gives (made m p) (length K)
  unfolding Shape
  derived_is_read m K p shaped =
      row_made m K rule most_nodes start 0
      ∙ ap (changed (made m))
      (row_reads K rule s.solid grammar.told.steady most_nodes start p 0 (length K) (omega arith)
      (free_is_chosen K p shaped).0)

  -- the keys of tokens have at most one tree
  pub one_shape : (K : List Key) (p q : Plain NodeKind) → Shape leans free rule start K p
      → Shape leans free rule start K q → p ≡ q
  unfolding Shape
  one_shape K p q one other =
      let first = row_reads K rule s.solid grammar.told.steady most_nodes start p 0 (length K) (omega arith)
      (free_is_chosen K p one).0 in
      let second = row_reads K rule s.solid grammar.told.steady most_nodes start q 0 (length K) (omega arith)
      (free_is_chosen K q other).0 in
      (gives_same p q (length K) (length K) (sym first ∙ second)).0
