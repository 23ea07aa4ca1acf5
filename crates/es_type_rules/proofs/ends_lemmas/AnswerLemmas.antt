-- What the reader's answer tells of the plain trees of a part, and the other way round.
use Rattle.std.specs.Prelude.{List, Bool, true, false, Option, Some, None, IsTrue, ◌↔◌}
use Rattle.std.proofs.Common.{◌≡◌, ◌≢◌, ℕ, ◌<◌, ◌≤◌, length, refl, sym, ap, ◌∙◌, subst, arith, le-leb}
use Rattle.es_token.specs.declared.token.Token.{Token}
use Rattle.grammar_theory.specs.Key.{Key, Seen, keys_of, seen}
use Rattle.grammar_theory.specs.Plain.{Plain, plain, none_leans, tall}
use Rattle.grammar_theory.specs.Fits.{free, chosen, Under, most_nodes}
use Rattle.grammar_theory.specs.Reader.{Out, nothing, gives, only_if, read_row}
use Rattle.grammar_theory.proofs.OutLemmas.{nothing_gives, gives_same, only_if-gives}
use Rattle.grammar_theory.proofs.ReaderLemmas.{row_fits, row_reads}
use Rattle.grammar_theory.proofs.FreeLemmas as Free
use Rattle.es_lookahead.proofs.TokenLemmas.{length-keys_of}
use Rattle.es_grammar.specs.types.TypeRows.{NodeKind}
use Rattle.es_grammar.specs.types.TypeTable.{type_rule}
use Rattle.es_type_rules.specs.declared.ends.types.TypePart.{TypePart}
use Rattle.es_type_rules.specs.declared.ends.types.TypePart.TheVariants as parts
use Rattle.es_grammar.specs.declared.cst.tree.Cst.{Cst}
use Rattle.es_rules.specs.Bounded.{Read, row_at}
use Rattle.es_rules.specs.Steps.{single}
use Rattle.es_type_rules.specs.ends.Derived.{named_rule, part_row, IsType, Reaches, follows_arguments, OpensArguments}
use Rattle.es_type_rules.proofs.ends_lemmas.Claims.{sets, follow, solid, table_told}
use Rattle.es_type_rules.proofs.ends_lemmas.LowLemmas.{low, is_low, read_of, row_low}

-- anything may follow a part
follows_any : (which : TypePart) (x : Option Seen) → follow (part_row which) x ≡ true
follows_any parts.Whole x = refl
follows_any parts.Ret x = refl
follows_any parts.TParams x = refl
follows_any parts.TArgs x = refl

-- no test bars a reading
obeyed : (which : TypePart) (K : List Key) (p : Plain NodeKind) (from to : ℕ)
    → Under free K type_rule most_nodes (part_row which) p from to
    → Under chosen K type_rule most_nodes (part_row which) p from to
obeyed which K p from to under =
    Free.free_is_chosen K type_rule sets table_told most_nodes (part_row which) p from to under
    (follows_any which (seen K to))

low-gives : (o : Out (Plain NodeKind)) (v : Read) (to : ℕ) → low o ≡ gives v to
    → (p : Plain NodeKind) × (o ≡ gives p to) × (is_low p ≡ true) × (read_of p ≡ v)
low-gives nothing v to e = nothing_gives v to e
low-gives (gives p at) v to e =
    let held = only_if-gives (is_low p) (gives (read_of p) at) v to e in
    let same = gives_same (read_of p) v at to held.1 in
    (p, ap (gives p) same.1, held.0, same.0)

-- a room is within the bound of the table
within_most : (room n : ℕ) → room ≤ 500 → n ≤ room → n ≤ most_nodes
unfolding most_nodes
within_most room n small le = omega arith

module _ (which : TypePart) (ts : List Token) (room at : ℕ) where
  -- what is read is derived
  read_derived : (t : Cst) (h to : ℕ)
      → row_at named_rule (keys_of ts) most_nodes (part_row which) at ≡ gives (single t h) to → h ≤ room
      → (p : Plain NodeKind) × IsType which (keys_of ts) room at to p
  read_derived t h to read low_enough =
      let K : List Key = keys_of ts in
      let answer : low (read_row plain K type_rule most_nodes (part_row which) at) ≡ gives (single t h) to =
      sym (row_low K most_nodes (part_row which) at) ∙ read in
      let found = low-gives (read_row plain K type_rule most_nodes (part_row which) at) (single t h) to answer in
      let under = Free.chosen_is_free K type_rule most_nodes (part_row which) found.0 at to
      (row_fits K type_rule most_nodes (part_row which) at found.0 to found.1) in
      let height : tall none_leans found.0 ≡ h = ap (λ v. v.height) found.3 in (
        found.0,
        record { derived = under; low = (let le : h ≤ room = low_enough in omega (arith, height)) },
      )

  -- what is derived is read
  derived_read : (p : Plain NodeKind) (to : ℕ) → at ≤ length ts → room ≤ 500 → IsType which (keys_of ts) room at to p
      → (v : Read) × (row_at named_rule (keys_of ts) most_nodes (part_row which) at ≡ gives v to) × (v.height ≤ room)
  derived_read p to place small stands =
      let K : List Key = keys_of ts in
      let long : length K ≡ length ts = length-keys_of ts in
      let start : at ≤ length K = omega (arith, long) in
      let read : read_row plain K type_rule most_nodes (part_row which) at ≡ gives p to =
      row_reads K type_rule solid table_told.steady most_nodes (part_row which) p at to start
      (obeyed which K p at to stands.derived) in
      let low_enough : is_low p ≡ true = le-leb (tall none_leans p) most_nodes
      (within_most room (tall none_leans p) small stands.low) in (
        read_of p,
        row_low K most_nodes (part_row which) at ∙ ap low read
            ∙ ap (λ b. only_if b (gives (read_of p) to)) low_enough,
        stands.low,
      )

  -- what is read reaches its end
  pub reaches : (t : Cst) (h to : ℕ)
      → row_at named_rule (keys_of ts) most_nodes (part_row which) at ≡ gives (single t h) to → h ≤ room
      → Reaches which (keys_of ts) room at to
  reaches t h to read low_enough =
      let found = read_derived t h to read low_enough in record { plain = found.0; stands = found.1 }

  -- it ends where it was read to
  pub one_end : (t : Cst) (h to end : ℕ) → at ≤ length ts → room ≤ 500
      → row_at named_rule (keys_of ts) most_nodes (part_row which) at ≡ gives (single t h) to
      → Reaches which (keys_of ts) room at end → (to ≡ end) × (h ≤ room)
  one_end t h to end place small read of =
      let other = derived_read of.plain end place small of.stands in
      let same = gives_same (single t h) other.0 to end (sym read ∙ other.1) in
      let height : h ≡ other.0.height = ap (λ v. v.height) same.0 in
      (same.1, (let le : other.0.height ≤ room = other.2 in omega (arith, height)))

  -- what is too tall reaches nowhere
  pub no_reach : {A : Type 0} (t : Cst) (h to end : ℕ) → at ≤ length ts → room ≤ 500
      → row_at named_rule (keys_of ts) most_nodes (part_row which) at ≡ gives (single t h) to → room < h
      → Reaches which (keys_of ts) room at end → A
  no_reach t h to end place small read high of =
      let le : h ≤ room = (one_end t h to end place small read of).1 in absurd (let bad : ⊥ = omega arith in bad)

  -- what isn't read reaches nowhere
  pub none_reaches : {A : Type 0} (end : ℕ) → at ≤ length ts → room ≤ 500
      → row_at named_rule (keys_of ts) most_nodes (part_row which) at ≡ nothing → Reaches which (keys_of ts) room at end
      → A
  none_reaches end place small read of =
      let other = derived_read of.plain end place small of.stands in nothing_gives other.0 end (sym read ∙ other.1)

-- ---- type arguments behind an expression

same_some : (a b : ℕ) → Some a ≡ Some b → a ≡ b
same_some a b e = cc

module _ (in_extends : Bool) (K : List Key) (at : ℕ) where
  -- they are read up to an end
  pub opens_where : (f : Bool) (end : ℕ) → f ≡ follows_arguments in_extends (seen K end)
      → Reaches parts.TArgs K 500 at end → ((to : ℕ) → Reaches parts.TArgs K 500 at to → Some end ≡ Some to)
      → IsTrue f ↔ OpensArguments in_extends K at
  opens_where f end same there unique = (
    λ yes. record { end = end; reaches = there; follows = sym same ∙ yes },
    λ opens.
        same
        ∙ ap (λ n. follows_arguments in_extends (seen K n))
        (same_some end opens.end (unique opens.end opens.reaches))
        ∙ opens.follows,
  )

  -- they are read nowhere
  pub opens_nowhere : ((to : ℕ) → Reaches parts.TArgs K 500 at to → None ≡ Some to)
      → IsTrue false ↔ OpensArguments in_extends K at
  opens_nowhere none = (
    λ yes. absurd (let bad : ⊥ = cc in bad),
    λ opens. absurd (let e = none opens.end opens.reaches in let bad : ⊥ = cc in bad),
  )
