-- Where type arguments and type parameters end, as a predicate asks of the table of types.
use Rattle.std.specs.Prelude.{ℕ, leb, Bool, true, false, ◌&&◌, List, Option, Some, None, IfSome}
use Rattle.std.proofs.Common.{◌≡◌, ◌≤◌, refl, sym, ap, ◌∙◌, length, leb-true, le-leb, subst, arith}
use Rattle.grammar_theory.specs.Key.{Key, Seen, seen}
use Rattle.grammar_theory.specs.Productions.{Predicate}
use Rattle.grammar_theory.specs.Plain.{Plain, plain, none_leans, tall}
use Rattle.grammar_theory.specs.Fits.{most_nodes}
use Rattle.grammar_theory.specs.Reader.{Out, nothing, gives, read_row}
use Rattle.grammar_theory.proofs.OutLemmas.{nothing_gives, gives_same}
use Rattle.grammar_theory.proofs.ReaderLemmas.{row_fits, row_reads}
use Rattle.grammar_theory.proofs.FreeLemmas as Free
use Rattle.es_grammar.specs.types.TypeRows.{NodeKind}
use Rattle.es_grammar.specs.types.TypeTable.{type_rule}
use Rattle.es_type_rules.specs.declared.ends.types.TypePart.{TypePart}
use Rattle.es_type_rules.specs.declared.ends.types.TypePart.TheVariants as parts
use Rattle.es_type_rules.specs.ends.Derived.{part_row, Reaches}
use Rattle.es_type_rules.proofs.ends_lemmas.Claims.{sets, follow, solid, table_told}
use Rattle.es_grammar.specs.Embedding.{ends_before}
use Rattle.es_shared_rules.specs.predicates.Named.{holds_behind}

-- anything may follow a part
follows_any : (which : TypePart) (x : Option Seen) → follow (part_row which) x ≡ true
follows_any parts.Whole x = refl
follows_any parts.Ret x = refl
follows_any parts.TParams x = refl
follows_any parts.TArgs x = refl

-- what holds of the end holds of the number that it is
if_some_of : (P : ℕ → Type 0) (end : Option ℕ) (n : ℕ) → IfSome end P → end ≡ Some n → P n
if_some_of P None n h e = absurd (let bad : ⊥ = cc in bad)
if_some_of P (Some m) n h e = let same : m ≡ n = cc in subst P same h

module _ (which : TypePart) (K : List Key) (at : ℕ) (within : at ≤ length K) where
  -- what is read with few enough nodes reaches
  reaches_of : (p : Plain NodeKind) (to : ℕ) → read_row plain K type_rule most_nodes (part_row which) at ≡ gives p to
      → leb (tall none_leans p) 500 ≡ true → Reaches which K 500 at to
  reaches_of p to e low = record {
    plain = p;
    stands = record {
      derived = Free.chosen_is_free K type_rule most_nodes (part_row which) p at to
          (row_fits K type_rule most_nodes (part_row which) at p to e);
      low = leb-true (tall none_leans p) 500 low;
    };
  }

  -- what reaches is read
  read_of : (to : ℕ) (of : Reaches which K 500 at to)
      → read_row plain K type_rule most_nodes (part_row which) at ≡ gives of.plain to
  read_of to of =
      row_reads K type_rule solid table_told.steady most_nodes (part_row which) of.plain at to within
      (Free.free_is_chosen K type_rule sets table_told most_nodes (part_row which) of.plain at to of.stands.derived
      (follows_any which (seen K to)))

  module _ (g : Predicate) (end : Option ℕ) (some : IfSome end (λ to. Reaches which K 500 at to))
      (only : (to : ℕ) → Reaches which K 500 at to → end ≡ Some to) where
    -- a tree was read, of few enough nodes or not
    at_tree : (p : Plain NodeKind) (to : ℕ) → read_row plain K type_rule most_nodes (part_row which) at ≡ gives p to
        → (b : Bool) → leb (tall none_leans p) 500 ≡ b → (o : Option ℕ) → end ≡ o → (b && g K to) ≡ holds_behind g K o
    at_tree p to e true low o is_end =
        ap (holds_behind g K) (sym (only to (reaches_of p to e low)) ∙ is_end)
    at_tree p to e false high None is_end = refl
    at_tree p to e false high (Some n) is_end =
        let of : Reaches which K 500 at n = if_some_of (λ to. Reaches which K 500 at to) end n some is_end in
        let same = gives_same p of.plain to n (sym e ∙ read_of n of) in
        let tall_same : tall none_leans p ≡ tall none_leans of.plain = ap (tall none_leans) same.0 in
        let small : tall none_leans of.plain ≤ 500 = of.stands.low in
        let low : leb (tall none_leans p) 500 ≡ true = le-leb (tall none_leans p) 500 (omega arith) in
        absurd (let bad : ⊥ = cc in bad)

    at_answer : (o : Out (Plain NodeKind)) → read_row plain K type_rule most_nodes (part_row which) at ≡ o
        → (n : Option ℕ) → end ≡ n → ends_before g K o ≡ holds_behind g K n
    at_answer nothing e None is_end = refl
    at_answer nothing e (Some n) is_end =
        nothing_gives (if_some_of (λ to. Reaches which K 500 at to) end n some is_end).plain n
        (sym e ∙ read_of n (if_some_of (λ to. Reaches which K 500 at to) end n some is_end))
    at_answer (gives p to) e n is_end = at_tree p to e (leb (tall none_leans p) 500) refl n is_end

    -- a predicate holds behind what is read exactly where it does behind the end
    pub behind : ends_before g K (read_row plain K type_rule most_nodes (part_row which) at) ≡ holds_behind g K end
    behind = at_answer (read_row plain K type_rule most_nodes (part_row which) at) refl end refl
