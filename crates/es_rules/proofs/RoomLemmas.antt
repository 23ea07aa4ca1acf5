-- A reader that answers more of the rows that a rule names answers all that it did: so more room reads what less does.
use Rattle.std.specs.Prelude.{List, Bool, true, false}
use Rattle.std.proofs.Common.{◌≡◌, ℕ, zero, suc, ◌+◌, length, refl, sym, ap, ◌∙◌, subst, arith}
use Rattle.grammar_theory.specs.Key.{Key, seen, has_kind, is}
use Rattle.grammar_theory.specs.Productions.{Predicate, test, Rhs, done, tok, punct, row, opt, many, alt, when_, where_, Production, refuse, make, choose, as_, pick, wrap}
use Rattle.grammar_theory.specs.Reader.{Out, nothing, gives, and_then, changed, only_if, either, read_turns, read_form}
use Rattle.grammar_theory.proofs.OutLemmas.{nothing_gives}
use Rattle.es_grammar.specs.declared.rows.NodeKind.{NodeKind}
use Rattle.es_rules.specs.Bounded.{Read, makes, node_at, turned_at, form_at, wraps_at, rule_at, row_at}

-- what the one answers the other answers too
abbrev pub Extends : Out Read → Out Read → Type 0
Extends a b = (v : Read) (to : ℕ) → a ≡ gives v to → b ≡ gives v to

-- each answers what the other does
pub same_answers : (a b : Out Read) → Extends a b → Extends b a → a ≡ b
same_answers nothing nothing e f = refl
same_answers nothing (gives v to) e f = nothing_gives v to (f v to refl)
same_answers (gives v to) b e f = sym (e v to refl)

then_more : (a b : Out Read) (F G : Read → ℕ → Out Read) → Extends a b
    → ((u : Read) (mid : ℕ) → Extends (F u mid) (G u mid)) → Extends (and_then a F) (and_then b G)
then_more nothing b F G e each v to h = nothing_gives v to h
then_more (gives u mid) b F G e each v to h = ap (λ o. and_then o G) (e u mid refl) ∙ each u mid v to h

either_more : (t : Bool) (a b c d : Out Read) → Extends a c → Extends b d → Extends (either t a b) (either t c d)
either_more true a b c d e f = e
either_more false a b c d e f = f

only_more : (t : Bool) (a b : Out Read) → Extends a b → Extends (only_if t a) (only_if t b)
only_more true a b e = e
only_more false a b e = λ v to h. nothing_gives v to h

changed_more : (f : Read → Read) (a b : Out Read) → Extends a b → Extends (changed f a) (changed f b)
changed_more f nothing b e v to h = nothing_gives v to h
changed_more f (gives u mid) b e v to h = ap (changed f) (e u mid refl) ∙ h

same_more : (a : Out Read) → Extends a a
same_more a v to h = h

module _ (K : List Key) where
  turns_more : (t : Predicate) (one other : ℕ → Out Read) → ((at : ℕ) → Extends (one at) (other at)) → (n at : ℕ)
      → Extends (read_turns makes K t one n at) (read_turns makes K t other n at)
  unfolding read_turns
  turns_more t one other each zero at = same_more (either (t K at) nothing (gives makes.of_nil at))
  turns_more t one other each (suc n) at =
      either_more (t K at) (and_then (one at) (λ q mid. changed (makes.of_turn q) (read_turns makes K t one n mid)))
      (gives makes.of_nil at)
      (and_then (other at) (λ q mid. changed (makes.of_turn q) (read_turns makes K t other n mid)))
      (gives makes.of_nil at)
      (then_more (one at) (other at) (λ q mid. changed (makes.of_turn q) (read_turns makes K t one n mid))
      (λ q mid. changed (makes.of_turn q) (read_turns makes K t other n mid)) (each at)
      (λ q mid. changed_more (makes.of_turn q) (read_turns makes K t one n mid) (read_turns makes K t other n mid)
      (turns_more t one other each n mid))) (same_more (gives makes.of_nil at))

  wraps_more : (l : NodeKind) (t : Predicate) (one other : ℕ → Out Read) → ((at : ℕ) → Extends (one at) (other at))
      → (from n : ℕ) (q : Read) (at : ℕ) → Extends (wraps_at K l t one from n q at) (wraps_at K l t other from n q at)
  unfolding wraps_at
  wraps_more l t one other each from zero q at = same_more (either (t K at) nothing (gives q at))
  wraps_more l t one other each from (suc n) q at =
      either_more (t K at)
      (and_then (one at) (λ ps to. and_then (turned_at l from to q ps) (wraps_at K l t one from n))) (gives q at)
      (and_then (other at) (λ ps to. and_then (turned_at l from to q ps) (wraps_at K l t other from n))) (gives q at)
      (then_more (one at) (other at)
      (λ ps to. and_then (turned_at l from to q ps) (wraps_at K l t one from n))
      (λ ps to. and_then (turned_at l from to q ps) (wraps_at K l t other from n)) (each at)
      (λ ps to. then_more (turned_at l from to q ps) (turned_at l from to q ps) (wraps_at K l t one from n)
      (wraps_at K l t other from n) (same_more (turned_at l from to q ps)) (wraps_more l t one other each from n)))
      (same_more (gives q at))

  module _ {Row : Type 0} (below more : Row → ℕ → Out Read)
      (each : (r : Row) (at : ℕ) → Extends (below r at) (more r at)) where
    rest_more : (f : Rhs Row)
        → ((at : ℕ) → Extends (read_form makes K below f at) (read_form makes K more f at)) → (a b : Out Read)
        → Extends a b
        → Extends (and_then a (λ q mid. changed (makes.of_cons q) (read_form makes K below f mid)))
        (and_then b (λ q mid. changed (makes.of_cons q) (read_form makes K more f mid)))
    rest_more f rest a b e =
        then_more a b (λ q mid. changed (makes.of_cons q) (read_form makes K below f mid))
        (λ q mid. changed (makes.of_cons q) (read_form makes K more f mid)) e
        (λ q mid. changed_more (makes.of_cons q) (read_form makes K below f mid) (read_form makes K more f mid)
        (rest mid))

    forms_more : (f : Rhs Row) (at : ℕ) → Extends (read_form makes K below f at) (read_form makes K more f at)
    forms_more done at = same_more (gives makes.of_nil at)
    forms_more (tok s may f) at =
        only_more (has_kind may (seen K at))
        (changed (makes.of_cons (makes.of_leaf s at)) (read_form makes K below f (at + 1)))
        (changed (makes.of_cons (makes.of_leaf s at)) (read_form makes K more f (at + 1)))
        (changed_more (makes.of_cons (makes.of_leaf s at)) (read_form makes K below f (at + 1))
        (read_form makes K more f (at + 1)) (forms_more f (at + 1)))
    forms_more (punct k f) at =
        only_more (is k (seen K at)) (changed (makes.of_mark at) (read_form makes K below f (at + 1)))
        (changed (makes.of_mark at) (read_form makes K more f (at + 1)))
        (changed_more (makes.of_mark at) (read_form makes K below f (at + 1)) (read_form makes K more f (at + 1))
        (forms_more f (at + 1)))
    forms_more (row r f) at = rest_more f (forms_more f) (below r at) (more r at) (each r at)
    forms_more (opt c g f) at =
        rest_more f (forms_more f) (either (test c K at) (read_form makes K below g at) (gives makes.of_nil at))
        (either (test c K at) (read_form makes K more g at) (gives makes.of_nil at))
        (either_more (test c K at) (read_form makes K below g at) (gives makes.of_nil at)
        (read_form makes K more g at) (gives makes.of_nil at) (forms_more g at) (same_more (gives makes.of_nil at)))
    forms_more (many c g f) at =
        rest_more f (forms_more f) (read_turns makes K (test c) (read_form makes K below g) (length K) at)
        (read_turns makes K (test c) (read_form makes K more g) (length K) at)
        (turns_more (test c) (read_form makes K below g) (read_form makes K more g) (forms_more g) (length K) at)
    forms_more (alt t a b f) at =
        rest_more f (forms_more f)
        (either (t (seen K at)) (read_form makes K below a at) (read_form makes K below b at))
        (either (t (seen K at)) (read_form makes K more a at) (read_form makes K more b at))
        (either_more (t (seen K at)) (read_form makes K below a at) (read_form makes K below b at)
        (read_form makes K more a at) (read_form makes K more b at) (forms_more a at) (forms_more b at))
    forms_more (when_ t f) at =
        only_more (t (seen K at)) (read_form makes K below f at) (read_form makes K more f at) (forms_more f at)
    forms_more (where_ t f) at =
        only_more (t K at) (read_form makes K below f at) (read_form makes K more f at) (forms_more f at)

    form_more : (f : Rhs Row) (at : ℕ) → Extends (form_at K below f at) (form_at K more f at)
    unfolding form_at
    form_more f at = forms_more f at

    pub rule_more : (a : Production Row NodeKind) (at : ℕ) → Extends (rule_at K below a at) (rule_at K more a at)
    rule_more refuse at = same_more nothing
    rule_more (make l f) at =
        then_more (form_at K below f at) (form_at K more f at) (λ ps to. node_at l at to ps) (λ ps to. node_at l at to ps)
        (form_more f at) (λ ps to. same_more (node_at l at to ps))
    rule_more (choose t a b) at =
        either_more (t (seen K at)) (rule_at K below a at) (rule_at K below b at) (rule_at K more a at)
        (rule_at K more b at) (rule_more a at) (rule_more b at)
    rule_more (as_ w a) at =
        changed_more (makes.of_via w) (rule_at K below a at) (rule_at K more a at) (rule_more a at)
    rule_more (pick g a b) at =
        either_more (g K at) (rule_at K below a at) (rule_at K below b at) (rule_at K more a at) (rule_at K more b at)
        (rule_more a at) (rule_more b at)
    rule_more (wrap l a c f) at =
        then_more (rule_at K below a at) (rule_at K more a at)
        (λ q mid. wraps_at K l (test c) (form_at K below f) at (length K) q mid)
        (λ q mid. wraps_at K l (test c) (form_at K more f) at (length K) q mid) (rule_more a at)
        (λ q mid. wraps_more l (test c) (form_at K below f) (form_at K more f) (form_more f) at (length K) q mid)

suc_before : (a b : ℕ) → suc (a + b) ≡ suc a + b
suc_before a b = omega arith

-- more room reads what less does
pub row_more : {Row : Type 0} (rule : Row → Production Row NodeKind) (K : List Key) (room n : ℕ) (r : Row) (at : ℕ)
    → Extends (row_at rule K room r at) (row_at rule K (room + n) r at)
unfolding row_at
row_more rule K zero n r at = λ v to h. nothing_gives v to h
row_more rule K (suc room) n r at =
    let P : ℕ → Type 0 = λ m. Extends (row_at rule K (suc room) r at) (row_at rule K m r at) in
    subst P (suc_before room n)
    (rule_more K (row_at rule K room) (row_at rule K (room + n)) (row_more rule K room n) (rule r) at)
