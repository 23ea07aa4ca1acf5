-- Where a row of types ends, as a predicate asks.
use Rattle.std.specs.Prelude.{ℕ, leb, Bool, true, false, ◌&&◌, List, Option, Some, None, if◌then◌else◌}
use Rattle.std.proofs.Common.{◌≡◌, ◌<◌, refl, sym, ap, ◌∙◌, subst, leb-false, arith}
use Rattle.std.proofs.lemmas.Bool.{lt-leb}
use Rattle.grammar_theory.specs.Key.{Key}
use Rattle.grammar_theory.specs.Productions.{Predicate}
use Rattle.grammar_theory.specs.Plain.{Plain, plain, none_leans, tall}
use Rattle.grammar_theory.specs.Fits.{most_nodes}
use Rattle.grammar_theory.specs.Reader.{Out, nothing, gives, read_row}
use Rattle.es_grammar.specs.declared.types.rows.TypeRow.{TypeRow}
use Rattle.es_grammar.specs.types.TypeRows.{NodeKind}
use Rattle.es_grammar.specs.types.TypeTable.{type_rule}
use Rattle.es_lookahead.specs.declared.ends.End.{End}
use Rattle.es_lookahead.specs.Ends.{end_of, row_end}
use Rattle.es_grammar.specs.Embedding.{ends_before, reads_before}
use Rattle.es_shared_rules.specs.predicates.Named.{holds_behind, low_end}

abbrev pub end_at : ℕ → ℕ → End
end_at to height = record { to = to; height = height }

-- more than the most nodes are more than 500
many : (n : ℕ) → leb n most_nodes ≡ false → leb n 500 ≡ false
unfolding most_nodes
many n e = let high : most_nodes < n = leb-false n most_nodes e in lt-leb n 500 (omega arith)

module _ (g : Predicate) (K : List Key) where
  low_behind : (to h : ℕ) (b : Bool) → leb h 500 ≡ b
      → (leb h 500 && g K to) ≡ holds_behind g K (low_end (Some (end_at to h)))
  low_behind to h b e =
      ap (λ b. b && g K to) e ∙ (by b ∙ sym (ap (λ b. holds_behind g K (if b then Some to else None)) e))
    where
      by : (b : Bool) → (b && g K to) ≡ holds_behind g K (if b then Some to else None)
      by true = refl
      by false = refl

  by_answer : (o : Out (Plain NodeKind)) → ends_before g K o ≡ holds_behind g K (low_end (end_of o))
  by_answer nothing = refl
  by_answer (gives p to) = go (leb (tall none_leans p) most_nodes) refl
    where
      go : (b : Bool) → leb (tall none_leans p) most_nodes ≡ b
          → (leb (tall none_leans p) 500 && g K to) ≡ holds_behind g K (low_end (end_of (gives p to)))
      go true small =
          low_behind to (tall none_leans p) (leb (tall none_leans p) 500) refl
          ∙ sym (ap (λ b. holds_behind g K (low_end (if b then Some (end_at to (tall none_leans p)) else None))) small)
      go false high =
          ap (λ b. b && g K to) (many (tall none_leans p) high)
          ∙ sym (ap (λ b. holds_behind g K (low_end (if b then Some (end_at to (tall none_leans p)) else None))) high)

  -- a predicate holds behind a row exactly where it does behind its end
  pub known_behind : (r : TypeRow) (at : ℕ) (e : Option End) → row_end r K at ≡ e
      → reads_before r g K at ≡ holds_behind g K (low_end e)
  unfolding row_end
  known_behind r at e same =
      by_answer (read_row plain K type_rule most_nodes r at) ∙ ap (λ e. holds_behind g K (low_end e)) same
