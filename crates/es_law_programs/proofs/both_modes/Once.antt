-- Items of a program are read one way: two lists of items from one place to the end are the same.
use Rattle.std.specs.Prelude.{List, true}
use Rattle.std.proofs.Common.{◌≡◌, ℕ, ◌<◌, ◌≤◌, length, refl, sym, ap, subst, ◌∙◌, arith}
use Rattle.grammar_theory.specs.declared.error.Lang.{Lang}
use Rattle.grammar_theory.specs.declared.error.Mode.TheVariants as mode
use Rattle.grammar_theory.specs.Key.{Key}
use Rattle.grammar_theory.specs.Productions.{Predict, done, row}
use Rattle.grammar_theory.specs.Plain.{Plain, node, leaf, nil, cons, mark, turn, via, plain}
use Rattle.grammar_theory.specs.Fits.{free, Turns, Fits, Under}
use Rattle.grammar_theory.specs.Reader.{gives, read_row}
use Rattle.grammar_theory.proofs.OutLemmas.{gives_same}
use Rattle.grammar_theory.proofs.Progress.{IsAhead, turns_ahead, under_ahead}
use Rattle.grammar_theory.proofs.ReaderLemmas.{row_reads}
use Rattle.grammar_theory.proofs.FreeLemmas.{free_is_chosen}
use Rattle.es_grammar.specs.declared.rows.Context.{Context}
use Rattle.es_grammar.specs.declared.rows.Row.TheVariants.{ItemRow}
use Rattle.es_grammar.specs.declared.rows.NodeKind.{NodeKind}
use Rattle.es_grammar.specs.Table.{rule}
use Rattle.es_grammar.proofs.Sets.{solid, sets}
use Rattle.es_grammar.proofs.Theorems.{programs}

-- ---- a list each of whose turns takes a token, and is one alone

module _ (K : List Key) (c : Predict) (n : ℕ) (One : Plain NodeKind → ℕ → ℕ → Type 0)
    (ahead : (q : Plain NodeKind) (from mid : ℕ) → One q from mid → IsAhead n true from mid)
    (once : (q p : Plain NodeKind) (from a b : ℕ) → from ≤ n → One q from a → One p from b → (q ≡ p) × (a ≡ b)) where
  -- no turn stands at the end
  none_behind : (ps : Plain NodeKind) (q : Plain NodeKind) (from mid : ℕ) → from ≡ n → One q from mid
      → Turns free K c One ps mid n → ⊥
  none_behind ps q from mid here one more =
      let turn_on : from < mid = (ahead q from mid one).strictly refl in
      let rest : mid ≤ n = (turns_ahead free K c One true n ahead ps mid n more).forward in
      omega (arith, turn_on, rest, here)

  pub list_once : (ps qs : Plain NodeKind) (from : ℕ) → Turns free K c One ps from n → Turns free K c One qs from n
      → ps ≡ qs
  list_once nil nil from one other = refl
  list_once nil (turn q qs) from one other = absurd (none_behind qs q from other.0 one.1 other.2 other.3)
  list_once (turn p ps) nil from one other = absurd (none_behind ps p from one.0 other.1 one.2 one.3)
  list_once (turn p ps) (turn q qs) from one other =
      let on : from ≤ one.0 = (ahead p from one.0 one.2).forward in
      let rest : one.0 ≤ n = (turns_ahead free K c One true n ahead ps one.0 n one.3).forward in
      let same = once p q from one.0 other.0 (omega (arith, on, rest)) one.2 other.2 in
      let more : Turns free K c One qs one.0 n =
      subst (λ (at : ℕ). Turns free K c One qs at n) (sym same.1) other.3 in
      ap (λ x. turn x ps) same.0 ∙ ap (turn q) (list_once ps qs one.0 one.3 more)
  list_once (node l f t p) qs from one other = absurd one
  list_once (leaf s m) qs from one other = absurd one
  list_once (cons p ps) qs from one other = absurd one
  list_once (mark m p) qs from one other = absurd one
  list_once (via w p) qs from one other = absurd one
  list_once nil (node l f t p) from one other = absurd other
  list_once nil (leaf s m) from one other = absurd other
  list_once nil (cons p ps) from one other = absurd other
  list_once nil (mark m p) from one other = absurd other
  list_once nil (via w p) from one other = absurd other
  list_once (turn p ps) (node l f t q) from one other = absurd other
  list_once (turn p ps) (leaf s m) from one other = absurd other
  list_once (turn p ps) (cons q qs) from one other = absurd other
  list_once (turn p ps) (mark m q) from one other = absurd other
  list_once (turn p ps) (via w q) from one other = absurd other

-- ---- items

module _ (l : Lang) (K : List Key) (room : ℕ) (c : Context) where
  -- from one place on there is one item
  item_once : (p q : Plain NodeKind) (from a b : ℕ) → from ≤ length K → Under free K (rule l) room (ItemRow c) p from a
      → Under free K (rule l) room (ItemRow c) q from b → (p ≡ q) × (a ≡ b)
  item_once p q from a b within one other =
      let told = (programs l mode.Module).told in
      let first : read_row plain K (rule l) room (ItemRow c) from ≡ gives p a =
      row_reads K (rule l) solid told.steady room (ItemRow c) p from a within
      (free_is_chosen K (rule l) (sets l) told room (ItemRow c) p from a one refl) in
      let second : read_row plain K (rule l) room (ItemRow c) from ≡ gives q b =
      row_reads K (rule l) solid told.steady room (ItemRow c) q from b within
      (free_is_chosen K (rule l) (sets l) told room (ItemRow c) q from b other refl) in
      gives_same p q a b (sym first ∙ second)

  -- one turn of a list of items
  abbrev pub IsTurn : Plain NodeKind → ℕ → ℕ → Type 0
  IsTurn = Fits free K (Under free K (rule l) room) (row (ItemRow c) done)

  turn_ahead : (q : Plain NodeKind) (from mid : ℕ) → IsTurn q from mid → IsAhead (length K) true from mid
  turn_ahead q from mid fit =
      let item = under_ahead free K (rule l) solid (programs l mode.Module).told.steady room (ItemRow c) fit.0 from
      fit.2
      fit.4 in
      subst (λ (at : ℕ). IsAhead (length K) true from at) fit.5.1 item

  turn_once : (q p : Plain NodeKind) (from a b : ℕ) → from ≤ length K → IsTurn q from a → IsTurn p from b
      → (q ≡ p) × (a ≡ b)
  turn_once q p from a b within one other =
      let same = item_once one.0 other.0 from one.2 other.2 within one.4 other.4 in (
        one.3 ∙ ap (cons one.0) one.5.0 ∙ ap (λ x. cons x nil) same.0 ∙ ap (cons other.0) (sym other.5.0) ∙ sym other.3,
        sym one.5.1 ∙ same.1 ∙ other.5.1,
      )

  -- two lists of items up to the end are the same
  pub items_once : (h : Predict) (ps qs : Plain NodeKind) (from : ℕ)
      → Turns free K h (Fits free K (Under free K (rule l) room) (row (ItemRow c) done)) ps from (length K)
      → Turns free K h (Fits free K (Under free K (rule l) room) (row (ItemRow c) done)) qs from (length K) → ps ≡ qs
  items_once h = list_once K h (length K) IsTurn turn_ahead turn_once
