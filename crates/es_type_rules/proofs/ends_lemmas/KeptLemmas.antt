-- A reading to which the answers behind its place are kept answers as one that reads all anew: room beyond the most
-- nodes on a path reads nothing else.
use Rattle.std.specs.Prelude.{List, Bool, true, false}
use Rattle.std.proofs.Common.{◌≡◌, ℕ, zero, suc, ◌+◌, ◌-◌, ◌≤◌, length, refl, sym, ap, subst, arith}
use Rattle.grammar_theory.specs.Key.{Key}
use Rattle.grammar_theory.specs.Plain.{none_leans}
use Rattle.grammar_theory.specs.Fits.{most_nodes}
use Rattle.grammar_theory.specs.Reader.{Out, gives, either}
use Rattle.grammar_theory.proofs.OutLemmas.{nothing_gives}
use Rattle.es_grammar.specs.declared.types.rows.TypeRow.{TypeRow}
use Rattle.es_grammar.specs.types.TypeTable.{type_rule}
use Rattle.es_grammar.specs.TypeNames.{label_name}
use Rattle.es_grammar.proofs.LeanClaims.{types_stand}
use Rattle.es_rules.specs.Bounded.{Read, row_at}
use Rattle.es_rules.proofs.LowLemmas as rows
use Rattle.es_rules.proofs.RoomLemmas.{Extends, same_answers, rule_more, row_more}
use Rattle.es_type_rules.specs.ends.Derived.{named_rule}
use Rattle.es_type_rules.specs.ends.Kept.{kept_at}
use Rattle.es_type_rules.proofs.ends_lemmas.Claims.{solid, table_told}
use Rattle.es_type_rules.proofs.ends_lemmas.LowLemmas.{none_lean}

-- so much room, written as more than another
most_by : (room : ℕ) → room ≤ most_nodes → room + (most_nodes - room) ≡ most_nodes
most_by room h = omega arith

suc_before : (a b : ℕ) → suc (a + b) ≡ suc a + b
suc_before a b = omega arith

turned_round : (a b : ℕ) → a + b ≡ b + a
turned_round a b = omega arith

module _ (K : List Key) (is_kept : TypeRow → ℕ → Bool) where
  -- what the ring below answers
  abbrev ring : ℕ → TypeRow → ℕ → Out Read
  ring room q mid = either (is_kept q mid) (row_at named_rule K most_nodes q mid) (kept_at K is_kept room q mid)

  -- a row behind, kept or not
  kept_behind : (room : ℕ) → room ≤ most_nodes → (q : TypeRow) (mid : ℕ) (b : Bool)
      → Extends (row_at named_rule K room q mid) (kept_at K is_kept room q mid)
      → Extends (row_at named_rule K room q mid)
      (either b (row_at named_rule K most_nodes q mid) (kept_at K is_kept room q mid))
  kept_behind room within q mid true e =
      let P : ℕ → Type 0 = λ n. Extends (row_at named_rule K room q mid) (row_at named_rule K n q mid) in
      subst P (most_by room within) (row_more named_rule K room (most_nodes - room) q mid)
  kept_behind room within q mid false e = e

  anew_behind : (room : ℕ) (q : TypeRow) (mid : ℕ) (b : Bool)
      → Extends (kept_at K is_kept room q mid) (row_at named_rule K (room + most_nodes) q mid)
      → Extends (either b (row_at named_rule K most_nodes q mid) (kept_at K is_kept room q mid))
      (row_at named_rule K (room + most_nodes) q mid)
  anew_behind room q mid true e =
      let P : ℕ → Type 0 = λ n. Extends (row_at named_rule K most_nodes q mid) (row_at named_rule K n q mid) in
      subst P (turned_round most_nodes room) (row_more named_rule K most_nodes room q mid)
  anew_behind room q mid false e = e

  -- it answers all that is read anew
  anew_kept : (room : ℕ) → room ≤ most_nodes → (r : TypeRow) (at : ℕ)
      → Extends (row_at named_rule K room r at) (kept_at K is_kept room r at)
  unfolding row_at kept_at
  anew_kept zero within r at = λ v to h. nothing_gives v to h
  anew_kept (suc room) within r at =
      let less : room ≤ most_nodes = omega (arith, within) in
      rule_more K (row_at named_rule K room) (ring room)
      (λ q mid. kept_behind room less q mid (is_kept q mid) (anew_kept room less q mid)) (named_rule r) at

  -- and nothing but what is read anew in more room
  kept_anew : (room : ℕ) (r : TypeRow) (at : ℕ)
      → Extends (kept_at K is_kept room r at) (row_at named_rule K (room + most_nodes) r at)
  unfolding row_at kept_at
  kept_anew zero r at = λ v to h. nothing_gives v to h
  kept_anew (suc room) r at =
      let P : ℕ → Type 0 = λ n. Extends (kept_at K is_kept (suc room) r at) (row_at named_rule K n r at) in
      subst P (suc_before room most_nodes)
      (rule_more K (ring room) (row_at named_rule K (room + most_nodes))
      (λ q mid. anew_behind room q mid (is_kept q mid) (kept_anew room q mid)) (named_rule r) at)

-- so whichever are kept, a row is read as by itself
pub kept_same : (K : List Key) (is_kept : TypeRow → ℕ → Bool) (r : TypeRow) (at : ℕ) → at ≤ length K
    → kept_at K is_kept most_nodes r at ≡ row_at named_rule K most_nodes r at
kept_same K is_kept r at place =
    same_answers (kept_at K is_kept most_nodes r at) (row_at named_rule K most_nodes r at)
    (λ v to h. rows.row_within label_name none_leans types_stand named_rule type_rule (λ r. refl)
    (λ r. none_lean (type_rule r)) solid table_told.steady K (most_nodes + most_nodes) r at v to place
    (kept_anew K is_kept most_nodes r at v to h)) (anew_kept K is_kept most_nodes (omega arith) r at)
