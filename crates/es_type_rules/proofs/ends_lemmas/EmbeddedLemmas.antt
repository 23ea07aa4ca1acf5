-- A rule of types is read in the table of programs as by itself: its rows are read as those of programs that hold them.
use Rattle.std.specs.Prelude.{Bool, true, false, List, length}
use Rattle.std.proofs.Common.{◌≡◌, ℕ, zero, suc, ◌+◌, refl, ap, ◌∙◌}
use Rattle.grammar_theory.specs.Key.{Key, seen, has_kind, is}
use Rattle.grammar_theory.specs.Productions.{Predicate, test, Rhs, done, tok, punct, row, opt, many, alt, when_, where_, Production, refuse, make, choose, as_, pick, wrap}
use Rattle.grammar_theory.specs.Reader.{Out, nothing, gives, and_then, changed, only_if, either, read_turns, read_form}
use Rattle.es_grammar.specs.declared.types.rows.TypeRow.{TypeRow}
use Rattle.es_grammar.specs.types.TypeRows.{NodeKind}
use Rattle.es_grammar.specs.declared.rows.Row.{Row}
use Rattle.es_grammar.specs.declared.rows.Row.TheVariants as rows
use Rattle.es_grammar.specs.declared.rows.NodeKind.{NodeKind as Name}
use Rattle.es_grammar.specs.TypeNames.{label_name}
use Rattle.es_grammar.specs.Embedding.{mapped_form, types_rule}
use Rattle.es_rules.specs.Bounded.{Read, makes, node_at, turned_at, form_at, wraps_at, rule_at}
use Rattle.es_rules.specs.Labelled.{labelled}

-- the same answer, and then the same
then_same : (F G : Read → ℕ → Out Read) → ((v : Read) (to : ℕ) → F v to ≡ G v to) → (a : Out Read)
    → and_then a F ≡ and_then a G
then_same F G each nothing = refl
then_same F G each (gives v to) = each v to

and_same : (a b : Out Read) (F G : Read → ℕ → Out Read) → a ≡ b → ((v : Read) (to : ℕ) → F v to ≡ G v to)
    → and_then a F ≡ and_then b G
and_same a b F G same each = then_same F G each a ∙ ap (λ x. and_then x G) same

-- one of two, each the same
either_same : (t : Bool) (a b c d : Out Read) → a ≡ c → b ≡ d → either t a b ≡ either t c d
either_same true a b c d first second = first
either_same false a b c d first second = second

module _ (K : List Key) where
  turns_same : (t : Predicate) (one two : ℕ → Out Read) → ((at : ℕ) → one at ≡ two at) → (n at : ℕ)
      → read_turns makes K t one n at ≡ read_turns makes K t two n at
  unfolding read_turns
  turns_same t one two each zero at = refl
  turns_same t one two each (suc n) at =
      either_same (t K at) (and_then (one at) (λ q mid. changed (makes.of_turn q) (read_turns makes K t one n mid)))
      (gives makes.of_nil at)
      (and_then (two at) (λ q mid. changed (makes.of_turn q) (read_turns makes K t two n mid))) (gives makes.of_nil at)
      (and_same (one at) (two at) (λ q mid. changed (makes.of_turn q) (read_turns makes K t one n mid))
      (λ q mid. changed (makes.of_turn q) (read_turns makes K t two n mid)) (each at)
      (λ q mid. ap (changed (makes.of_turn q)) (turns_same t one two each n mid)))
      refl

  wraps_same : (l : Name) (t : Predicate) (one two : ℕ → Out Read) → ((at : ℕ) → one at ≡ two at) → (from n : ℕ) (q : Read)
      (at : ℕ) → wraps_at K l t one from n q at ≡ wraps_at K l t two from n q at
  unfolding wraps_at
  wraps_same l t one two each from zero q at = refl
  wraps_same l t one two each from (suc n) q at =
      either_same (t K at)
      (and_then (one at) (λ ps to. and_then (turned_at l from to q ps) (wraps_at K l t one from n)))
      (gives q at)
      (and_then (two at) (λ ps to. and_then (turned_at l from to q ps) (wraps_at K l t two from n)))
      (gives q at)
      (and_same (one at) (two at)
      (λ ps to. and_then (turned_at l from to q ps) (wraps_at K l t one from n))
      (λ ps to. and_then (turned_at l from to q ps) (wraps_at K l t two from n)) (each at)
      (λ ps to. then_same (wraps_at K l t one from n) (wraps_at K l t two from n)
      (wraps_same l t one two each from n) (turned_at l from to q ps)))
      refl

  module _ (outer : Row → ℕ → Out Read) where
    -- a row of types is read as that of programs that holds it
    abbrev inner : TypeRow → ℕ → Out Read
    inner r at = outer (rows.TypesRow r) at

    -- what stands behind a part
    rest_same : (g : Rhs TypeRow)
        → ((at : ℕ) → read_form makes K inner g at ≡ read_form makes K outer (mapped_form rows.TypesRow g) at)
        → (a b : Out Read) → a ≡ b
        → and_then a (λ q mid. changed (makes.of_cons q) (read_form makes K inner g mid))
        ≡ and_then b (λ q mid. changed (makes.of_cons q) (read_form makes K outer (mapped_form rows.TypesRow g) mid))
    rest_same g more a b same =
        and_same a b (λ q mid. changed (makes.of_cons q) (read_form makes K inner g mid))
        (λ q mid. changed (makes.of_cons q) (read_form makes K outer (mapped_form rows.TypesRow g) mid)) same
        (λ q mid. ap (changed (makes.of_cons q)) (more mid))

    parts_same : (g : Rhs TypeRow) (at : ℕ)
        → read_form makes K inner g at ≡ read_form makes K outer (mapped_form rows.TypesRow g) at
    parts_same done at = refl
    parts_same (tok s may g) at =
        ap (λ o. only_if (has_kind may (seen K at)) (changed (makes.of_cons (makes.of_leaf s at)) o))
        (parts_same g (at + 1))
    parts_same (punct k g) at =
        ap (λ o. only_if (is k (seen K at)) (changed (makes.of_mark at) o)) (parts_same g (at + 1))
    parts_same (row r g) at = rest_same g (parts_same g) (inner r at) (outer (rows.TypesRow r) at) refl
    parts_same (opt c g h) at =
        rest_same h (parts_same h)
        (either (test c K at) (read_form makes K inner g at) (gives makes.of_nil at))
        (either (test c K at) (read_form makes K outer (mapped_form rows.TypesRow g) at) (gives makes.of_nil at))
        (ap (λ o. either (test c K at) o (gives makes.of_nil at)) (parts_same g at))
    parts_same (many c g h) at =
        rest_same h (parts_same h) (read_turns makes K (test c) (read_form makes K inner g) (length K) at)
        (read_turns makes K (test c) (read_form makes K outer (mapped_form rows.TypesRow g)) (length K) at)
        (turns_same (test c) (read_form makes K inner g) (read_form makes K outer (mapped_form rows.TypesRow g))
        (parts_same g) (length K) at)
    parts_same (alt t a b g) at =
        rest_same g (parts_same g)
        (either (t (seen K at)) (read_form makes K inner a at) (read_form makes K inner b at))
        (either (t (seen K at)) (read_form makes K outer (mapped_form rows.TypesRow a) at)
        (read_form makes K outer (mapped_form rows.TypesRow b) at))
        (either_same (t (seen K at)) (read_form makes K inner a at) (read_form makes K inner b at)
        (read_form makes K outer (mapped_form rows.TypesRow a) at)
        (read_form makes K outer (mapped_form rows.TypesRow b) at) (parts_same a at) (parts_same b at))
    parts_same (when_ t g) at = ap (only_if (t (seen K at))) (parts_same g at)
    parts_same (where_ t g) at = ap (only_if (t K at)) (parts_same g at)

    form_same : (g : Rhs TypeRow) (at : ℕ) → form_at K inner g at ≡ form_at K outer (mapped_form rows.TypesRow g) at
    unfolding form_at
    form_same g at = parts_same g at

    pub types_read : (a : Production TypeRow NodeKind) (at : ℕ)
        → rule_at K inner (labelled label_name a) at ≡ rule_at K outer (types_rule a) at
    types_read refuse at = refl
    types_read (make l g) at = ap (λ o. and_then o (λ ps to. node_at (label_name l) at to ps)) (form_same g at)
    types_read (choose t a b) at =
        either_same (t (seen K at)) (rule_at K inner (labelled label_name a) at)
        (rule_at K inner (labelled label_name b) at) (rule_at K outer (types_rule a) at)
        (rule_at K outer (types_rule b) at) (types_read a at) (types_read b at)
    types_read (as_ w a) at = ap (changed (makes.of_via (label_name w))) (types_read a at)
    types_read (pick g a b) at =
        either_same (g K at) (rule_at K inner (labelled label_name a) at) (rule_at K inner (labelled label_name b) at)
        (rule_at K outer (types_rule a) at) (rule_at K outer (types_rule b) at) (types_read a at) (types_read b at)
    types_read (wrap l a c g) at =
        and_same (rule_at K inner (labelled label_name a) at) (rule_at K outer (types_rule a) at)
        (λ q mid. wraps_at K (label_name l) (test c) (form_at K inner g) at (length K) q mid)
        (λ q mid. wraps_at K (label_name l) (test c) (form_at K outer (mapped_form rows.TypesRow g)) at (length K) q
        mid)
        (types_read a at)
        (λ q mid. wraps_same (label_name l) (test c) (form_at K inner g)
        (form_at K outer (mapped_form rows.TypesRow g)) (form_same g) at (length K) q mid)
