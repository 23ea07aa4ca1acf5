-- A reader that makes something else of each part answers what is made of the plain tree that the plain reader answers.
use Rattle.std.specs.Prelude.{List, Bool, true, false}
use Rattle.std.proofs.Common.{◌≡◌, ℕ, zero, suc, ◌+◌, length, refl, ap}
use Rattle.grammar_theory.specs.Key.{Key, seen, has_kind, is}
use Rattle.grammar_theory.specs.Productions.{Predicate, test, Rhs, done, tok, punct, row, opt, many, alt, when_, where_, Production, refuse, make, choose, as_, pick, wrap}
use Rattle.grammar_theory.specs.Plain.{Plain, node, leaf, nil, cons, mark, turn, via, Makes, made, plain}
use Rattle.grammar_theory.specs.Reader.{Out, nothing, gives, and_then, changed, only_if, either, read_turns, read_wraps, read_form, read_rule, read_row}

module _ {A B : Type 0} (f : A → B) where
  only_if-changed : (t : Bool) (out : Out B) (o : Out A) → out ≡ changed f o → only_if t out ≡ changed f (only_if t o)
  only_if-changed true out o e = e
  only_if-changed false out o e = refl

  either-changed : (t : Bool) (u v : Out B) (x y : Out A) → u ≡ changed f x → v ≡ changed f y
      → either t u v ≡ changed f (either t x y)
  either-changed true u v x y e h = e
  either-changed false u v x y e h = h

  changed-changed : (g : B → B) (h : A → A) → ((a : A) → g (f a) ≡ f (h a)) → (out : Out B) (o : Out A)
      → out ≡ changed f o
      → changed g out ≡ changed f (changed h o)
  changed-changed g h same out nothing e = rw e refl
  changed-changed g h same out (gives a to) e = rw e (ap (λ x. gives x to) (same a))

  and_then-changed : (g : B → ℕ → Out B) (h : A → ℕ → Out A) → ((a : A) (to : ℕ) → g (f a) to ≡ changed f (h a to))
      → (out : Out B) (o : Out A) → out ≡ changed f o → and_then out g ≡ changed f (and_then o h)
  and_then-changed g h same out nothing e = rw e refl
  and_then-changed g h same out (gives a to) e = rw e (same a to)

module _ {NodeKind Made : Type 0} (m : Makes NodeKind Made) (K : List Key) where
  turns_made : (t : Predicate) (one : ℕ → Out Made) (each : ℕ → Out (Plain NodeKind))
      → ((at : ℕ) → one at ≡ changed (made m) (each at))
      → (n at : ℕ) → read_turns m K t one n at ≡ changed (made m) (read_turns plain K t each n at)
  unfolding read_turns made
  turns_made t one each same zero at =
      either-changed (made m) (t K at) nothing (gives m.of_nil at) nothing (gives nil at) refl refl
  turns_made t one each same (suc n) at =
      either-changed (made m) (t K at) (and_then (one at) (λ q mid. changed (m.of_turn q) (read_turns m K t one n mid)))
      (gives m.of_nil at) (and_then (each at) (λ q mid. changed (turn q) (read_turns plain K t each n mid)))
      (gives nil at)
      (and_then-changed (made m) (λ q mid. changed (m.of_turn q) (read_turns m K t one n mid))
      (λ q mid. changed (turn q) (read_turns plain K t each n mid))
      (λ q mid. changed-changed (made m) (m.of_turn (made m q)) (turn q) (λ p. refl) (read_turns m K t one n mid)
      (read_turns plain K t each n mid) (turns_made t one each same n mid))
      (one at) (each at) (same at)) refl

  wraps_made : (l : NodeKind) (t : Predicate) (parts : ℕ → Out Made) (each : ℕ → Out (Plain NodeKind))
      → ((at : ℕ) → parts at ≡ changed (made m) (each at)) → (from n : ℕ) (q : Plain NodeKind) (at : ℕ)
      → read_wraps m K l t parts from n (made m q) at ≡ changed (made m) (read_wraps plain K l t each from n q at)
  unfolding read_wraps made
  wraps_made l t parts each same from zero q at =
      either-changed (made m) (t K at) nothing (gives (made m q) at) nothing (gives q at) refl refl
  wraps_made l t parts each same from (suc n) q at =
      either-changed (made m) (t K at)
      (and_then (parts at)
      (λ ps to. read_wraps m K l t parts from n (m.of_node l from to (m.of_cons (made m q) ps)) to))
      (gives (made m q) at)
      (and_then (each at) (λ ps to. read_wraps plain K l t each from n (node l from to (cons q ps)) to)) (gives q at)
      (and_then-changed (made m)
      (λ ps to. read_wraps m K l t parts from n (m.of_node l from to (m.of_cons (made m q) ps)) to)
      (λ ps to. read_wraps plain K l t each from n (node l from to (cons q ps)) to)
      (λ ps to. wraps_made l t parts each same from n (node l from to (cons q ps)) to)
      (parts at) (each at) (same at)) refl

module _ {Row NodeKind Made : Type 0} (m : Makes NodeKind Made) (K : List Key) (below : Row → ℕ → Out Made)
    (under : Row → ℕ → Out (Plain NodeKind)) (same : (r : Row) (at : ℕ) → below r at ≡ changed (made m) (under r at))
  where
    -- one part, and those after it
    rest_made : (f : ℕ → Out Made) (g : ℕ → Out (Plain NodeKind)) → ((at : ℕ) → f at ≡ changed (made m) (g at))
        → (out : Out Made) (o : Out (Plain NodeKind)) → out ≡ changed (made m) o
        → and_then out (λ q mid. changed (m.of_cons q) (f mid))
        ≡ changed (made m) (and_then o (λ q mid. changed (cons q) (g mid)))
    unfolding made
    rest_made f g rest out o e =
        and_then-changed (made m) (λ q mid. changed (m.of_cons q) (f mid)) (λ q mid. changed (cons q) (g mid))
        (λ q mid. changed-changed (made m) (m.of_cons (made m q)) (cons q) (λ p. refl) (f mid) (g mid) (rest mid)) out o e

    form_made : (f : Rhs Row) (at : ℕ) → read_form m K below f at ≡ changed (made m) (read_form plain K under f at)
    unfolding made
    form_made done at = refl
    form_made (tok s may f) at =
        only_if-changed (made m) (has_kind may (seen K at))
        (changed (m.of_cons (m.of_leaf s at)) (read_form m K below f (at + 1)))
        (changed (cons (leaf s at)) (read_form plain K under f (at + 1)))
        (changed-changed (made m) (m.of_cons (m.of_leaf s at)) (cons (leaf s at)) (λ p. refl)
        (read_form m K below f (at + 1))
        (read_form plain K under f (at + 1)) (form_made f (at + 1)))
    form_made (punct k f) at =
        only_if-changed (made m) (is k (seen K at)) (changed (m.of_mark at) (read_form m K below f (at + 1)))
        (changed (mark at) (read_form plain K under f (at + 1)))
        (changed-changed (made m) (m.of_mark at) (mark at) (λ p. refl) (read_form m K below f (at + 1))
        (read_form plain K under f (at + 1)) (form_made f (at + 1)))
    form_made (row r f) at =
        rest_made (read_form m K below f) (read_form plain K under f) (form_made f) (below r at) (under r at) (same r at)
    form_made (opt c g f) at =
        rest_made (read_form m K below f) (read_form plain K under f) (form_made f)
        (either (test c K at) (read_form m K below g at) (gives m.of_nil at))
        (either (test c K at) (read_form plain K under g at) (gives nil at))
        (either-changed (made m) (test c K at) (read_form m K below g at) (gives m.of_nil at)
        (read_form plain K under g at) (gives nil at) (form_made g at) refl)
    form_made (many c g f) at =
        rest_made (read_form m K below f) (read_form plain K under f) (form_made f)
        (read_turns m K (test c) (read_form m K below g) (length K) at)
        (read_turns plain K (test c) (read_form plain K under g) (length K) at)
        (turns_made m K (test c) (read_form m K below g) (read_form plain K under g) (form_made g) (length K) at)
    form_made (alt t a b f) at =
        rest_made (read_form m K below f) (read_form plain K under f) (form_made f)
        (either (t (seen K at)) (read_form m K below a at) (read_form m K below b at))
        (either (t (seen K at)) (read_form plain K under a at) (read_form plain K under b at))
        (either-changed (made m) (t (seen K at)) (read_form m K below a at) (read_form m K below b at)
        (read_form plain K under a at) (read_form plain K under b at) (form_made a at) (form_made b at))
    form_made (when_ t f) at =
        only_if-changed (made m) (t (seen K at)) (read_form m K below f at) (read_form plain K under f at)
        (form_made f at)
    form_made (where_ t f) at =
        only_if-changed (made m) (t K at) (read_form m K below f at) (read_form plain K under f at) (form_made f at)

    rule_made : (a : Production Row NodeKind) (at : ℕ)
        → read_rule m K below a at ≡ changed (made m) (read_rule plain K under a at)
    unfolding made
    rule_made refuse at = refl
    rule_made (make l f) at =
        and_then-changed (made m) (λ ps to. gives (m.of_node l at to ps) to) (λ ps to. gives (node l at to ps) to)
        (λ ps to. refl) (read_form m K below f at) (read_form plain K under f at) (form_made f at)
    rule_made (choose t a b) at =
        either-changed (made m) (t (seen K at)) (read_rule m K below a at) (read_rule m K below b at)
        (read_rule plain K under a at) (read_rule plain K under b at) (rule_made a at) (rule_made b at)
    rule_made (as_ w a) at =
        changed-changed (made m) (m.of_via w) (via w) (λ p. refl) (read_rule m K below a at)
        (read_rule plain K under a at)
        (rule_made a at)
    rule_made (pick g a b) at =
        either-changed (made m) (g K at) (read_rule m K below a at) (read_rule m K below b at)
        (read_rule plain K under a at) (read_rule plain K under b at) (rule_made a at) (rule_made b at)
    rule_made (wrap l a c f) at =
        and_then-changed (made m) (λ q mid. read_wraps m K l (test c) (read_form m K below f) at (length K) q mid)
        (λ q mid. read_wraps plain K l (test c) (read_form plain K under f) at (length K) q mid)
        (wraps_made m K l (test c) (read_form m K below f) (read_form plain K under f) (form_made f) at (length K))
        (read_rule m K below a at) (read_rule plain K under a at) (rule_made a at)

-- a row
pub row_made : {Row NodeKind Made : Type 0} (m : Makes NodeKind Made) (K : List Key)
    (rule : Row → Production Row NodeKind) (room : ℕ)
    (r : Row) (at : ℕ)
    → read_row m K rule room r at ≡ changed (made m) (read_row plain K rule room r at)
unfolding read_row
row_made m K rule zero r at = refl
row_made m K rule (suc room) r at =
    rule_made m K (read_row m K rule room) (read_row plain K rule room) (row_made m K rule room) (rule r) at
