-- A table inside a table is read as by itself: what the outer table's reader answers for a row of the inner one is what
-- the inner table's reader answers, with its alternatives named as the outer table names them.
use Rattle.std.specs.Prelude.{ℕ, zero, suc, ◌+◌, Bool, true, false, List, length}
use Rattle.std.proofs.Common.{◌≡◌, refl, ap, ◌∙◌}
use Rattle.grammar_theory.specs.Key.{Key, seen, has_kind, is}
use Rattle.grammar_theory.specs.Productions.{Predicate, test, Rhs, done, tok, punct, row, opt, many, alt, when_, where_, Production, refuse, make, choose, as_, pick, wrap}
use Rattle.grammar_theory.specs.Plain.{Makes}
use Rattle.grammar_theory.specs.Reader.{Out, nothing, gives, and_then, changed, only_if, either, read_turns, read_wraps, read_form, read_rule, read_row}
use Rattle.es_grammar.specs.Embedding.{mapped_form, mapped_rule}

-- the same answer, and then the same
then_same : {X Y : Type 0} (F G : X → ℕ → Out Y) → ((v : X) (to : ℕ) → F v to ≡ G v to) → (a : Out X)
    → and_then a F ≡ and_then a G
then_same F G each nothing = refl
then_same F G each (gives v to) = each v to

and_same : {X Y : Type 0} (a b : Out X) (F G : X → ℕ → Out Y) → a ≡ b → ((v : X) (to : ℕ) → F v to ≡ G v to)
    → and_then a F ≡ and_then b G
and_same a b F G same each = then_same F G each a ∙ ap (λ x. and_then x G) same

-- one of two, each the same
either_same : {X : Type 0} (t : Bool) (a b c d : Out X) → a ≡ c → b ≡ d → either t a b ≡ either t c d
either_same true a b c d first second = first
either_same false a b c d first second = second

module _ {A B L M Made : Type 0} (f : A → B) (w : L → M) (m : Makes M Made) (K : List Key) where
  -- what is made of the inner table's parts
  abbrev pub renamed : Makes L Made
  renamed = record {
    of_node = λ l from to v. m.of_node (w l) from to v;
    of_leaf = m.of_leaf;
    of_nil = m.of_nil;
    of_cons = m.of_cons;
    of_mark = m.of_mark;
    of_turn = m.of_turn;
    of_via = λ l v. m.of_via (w l) v;
  }

  turns_same : (t : Predicate) (one two : ℕ → Out Made) → ((at : ℕ) → one at ≡ two at) → (n at : ℕ)
      → read_turns m K t one n at ≡ read_turns renamed K t two n at
  unfolding read_turns
  turns_same t one two each zero at = refl
  turns_same t one two each (suc n) at =
      either_same (t K at) (and_then (one at) (λ q mid. changed (m.of_turn q) (read_turns m K t one n mid)))
      (gives m.of_nil at) (and_then (two at) (λ q mid. changed (m.of_turn q) (read_turns renamed K t two n mid)))
      (gives m.of_nil at)
      (and_same (one at) (two at) (λ q mid. changed (m.of_turn q) (read_turns m K t one n mid))
      (λ q mid. changed (m.of_turn q) (read_turns renamed K t two n mid)) (each at)
      (λ q mid. ap (changed (m.of_turn q)) (turns_same t one two each n mid)))
      refl

  wraps_same : (l : L) (t : Predicate) (one two : ℕ → Out Made) → ((at : ℕ) → one at ≡ two at)
      → (from n at : ℕ) (q : Made)
      → read_wraps m K (w l) t one from n q at ≡ read_wraps renamed K l t two from n q at
  unfolding read_wraps
  wraps_same l t one two each from zero at q = refl
  wraps_same l t one two each from (suc n) at q =
      either_same (t K at)
      (and_then (one at) (λ ps to. read_wraps m K (w l) t one from n (m.of_node (w l) from to (m.of_cons q ps)) to))
      (gives q at)
      (and_then (two at) (λ ps to. read_wraps renamed K l t two from n (m.of_node (w l) from to (m.of_cons q ps)) to))
      (gives q at)
      (and_same (one at) (two at)
      (λ ps to. read_wraps m K (w l) t one from n (m.of_node (w l) from to (m.of_cons q ps)) to)
      (λ ps to. read_wraps renamed K l t two from n (m.of_node (w l) from to (m.of_cons q ps)) to) (each at)
      (λ ps to. wraps_same l t one two each from n to (m.of_node (w l) from to (m.of_cons q ps))))
      refl

  module _ (outer : B → ℕ → Out Made) (inner : A → ℕ → Out Made) (each : (r : A) (at : ℕ) → outer (f r) at ≡ inner r at)
    where
      -- what stands behind a part
      rest_same : (g : Rhs A) → ((at : ℕ) → read_form m K outer (mapped_form f g) at ≡ read_form renamed K inner g at)
          → (a b : Out Made) → a ≡ b
          → and_then a (λ q mid. changed (m.of_cons q) (read_form m K outer (mapped_form f g) mid))
          ≡ and_then b (λ q mid. changed (m.of_cons q) (read_form renamed K inner g mid))
      rest_same g more a b same =
          and_same a b (λ q mid. changed (m.of_cons q) (read_form m K outer (mapped_form f g) mid))
          (λ q mid. changed (m.of_cons q) (read_form renamed K inner g mid)) same
          (λ q mid. ap (changed (m.of_cons q)) (more mid))

      form_same : (g : Rhs A) (at : ℕ) → read_form m K outer (mapped_form f g) at ≡ read_form renamed K inner g at
      form_same done at = refl
      form_same (tok s may g) at =
          ap (λ o. only_if (has_kind may (seen K at)) (changed (m.of_cons (m.of_leaf s at)) o)) (form_same g (at + 1))
      form_same (punct k g) at = ap (λ o. only_if (is k (seen K at)) (changed (m.of_mark at) o)) (form_same g (at + 1))
      form_same (row r g) at = rest_same g (form_same g) (outer (f r) at) (inner r at) (each r at)
      form_same (opt c g h) at =
          rest_same h (form_same h)
          (either (test c K at) (read_form m K outer (mapped_form f g) at) (gives m.of_nil at))
          (either (test c K at) (read_form renamed K inner g at) (gives m.of_nil at))
          (ap (λ o. either (test c K at) o (gives m.of_nil at)) (form_same g at))
      form_same (many c g h) at =
          rest_same h (form_same h) (read_turns m K (test c) (read_form m K outer (mapped_form f g)) (length K) at)
          (read_turns renamed K (test c) (read_form renamed K inner g) (length K) at)
          (turns_same (test c) (read_form m K outer (mapped_form f g)) (read_form renamed K inner g) (form_same g)
          (length K) at)
      form_same (alt t a b g) at =
          rest_same g (form_same g)
          (either (t (seen K at)) (read_form m K outer (mapped_form f a) at) (read_form m K outer (mapped_form f b) at))
          (either (t (seen K at)) (read_form renamed K inner a at) (read_form renamed K inner b at))
          (either_same (t (seen K at)) (read_form m K outer (mapped_form f a) at)
          (read_form m K outer (mapped_form f b) at) (read_form renamed K inner a at) (read_form renamed K inner b at)
          (form_same a at) (form_same b at))
      form_same (when_ t g) at = ap (only_if (t (seen K at))) (form_same g at)
      form_same (where_ t g) at = ap (only_if (t K at)) (form_same g at)

      pub rule_same : (a : Production A L) (at : ℕ)
          → read_rule m K outer (mapped_rule f w a) at ≡ read_rule renamed K inner a at
      rule_same refuse at = refl
      rule_same (make l g) at =
          ap (λ o. and_then o (λ ps to. gives (m.of_node (w l) at to ps) to)) (form_same g at)
      rule_same (choose t a b) at =
          either_same (t (seen K at)) (read_rule m K outer (mapped_rule f w a) at)
          (read_rule m K outer (mapped_rule f w b) at) (read_rule renamed K inner a at) (read_rule renamed K inner b at)
          (rule_same a at) (rule_same b at)
      rule_same (as_ l a) at = ap (changed (m.of_via (w l))) (rule_same a at)
      rule_same (pick g a b) at =
          either_same (g K at) (read_rule m K outer (mapped_rule f w a) at) (read_rule m K outer (mapped_rule f w b) at)
          (read_rule renamed K inner a at) (read_rule renamed K inner b at) (rule_same a at) (rule_same b at)
      rule_same (wrap l a c g) at =
          and_same (read_rule m K outer (mapped_rule f w a) at) (read_rule renamed K inner a at)
          (λ q mid. read_wraps m K (w l) (test c) (read_form m K outer (mapped_form f g)) at (length K) q mid)
          (λ q mid. read_wraps renamed K l (test c) (read_form renamed K inner g) at (length K) q mid) (rule_same a at)
          (λ q mid. wraps_same l (test c) (read_form m K outer (mapped_form f g)) (read_form renamed K inner g)
          (form_same g) at (length K) mid q)

  -- a table whose rows of the inner one are mapped
  pub row_same : (outer : B → Production B M) (inner : A → Production A L)
      → ((r : A) → outer (f r) ≡ mapped_rule f w (inner r))
      → (room : ℕ) (r : A) (at : ℕ) → read_row m K outer room (f r) at ≡ read_row renamed K inner room r at
  unfolding read_row
  row_same outer inner mapped zero r at = refl
  row_same outer inner mapped (suc room) r at =
      ap (λ a. read_rule m K (read_row m K outer room) a at) (mapped r)
      ∙ rule_same (read_row m K outer room) (read_row renamed K inner room) (row_same outer inner mapped room)
      (inner r) at
