-- A rule answers one tree, where it answers.
use Rattle.std.specs.Prelude.{Bool, true, false, leb, List, length}
use Rattle.std.proofs.Common.{◌≡◌, ℕ, zero, suc, refl, sym, ap, ◌∙◌}
use Rattle.grammar_theory.specs.Key.{Key, seen}
use Rattle.grammar_theory.specs.Productions.{Predicate, test, Production, refuse, make, choose, as_, pick, wrap}
use Rattle.grammar_theory.specs.Plain.{over}
use Rattle.grammar_theory.specs.Fits.{most_nodes}
use Rattle.grammar_theory.specs.Reader.{Out, nothing, gives, and_then, changed, only_if, either}
use Rattle.grammar_theory.proofs.OutLemmas.{nothing_gives, gives_same, only_if-gives, changed-gives, and_then-gives}
use Rattle.es_grammar.specs.declared.rows.NodeKind.{NodeKind}
use Rattle.es_grammar.specs.Conditions.{leans}
use Rattle.es_grammar.specs.declared.cst.tree.Cst.{Cst}
use Rattle.es_grammar.specs.cst.Slim.{one, slim, tree_in, parts_in}
use Rattle.es_rules.specs.Bounded.{Read, makes, node_at, turned, turned_at, wraps_at, form_at, rule_at, row_at}

-- one tree, wherever something is answered
pub record IsOne (out : Out Read) : Type 0 where
  pub tree : (v : Read) (to : ℕ) → out ≡ gives v to → (t : Cst) × (v.value ≡ one t)

none_one : IsOne nothing
none_one = record { tree = λ v to e. nothing_gives v to e }

gives_one : (v : Read) (to : ℕ) (t : Cst) → v.value ≡ one t → IsOne (gives v to)
gives_one v to t is = record {
  tree = λ u at e. (t, ap (λ (w : Read). w.value) (sym (gives_same v u to at e).0) ∙ is);
}

only_one : (b : Bool) (out : Out Read) → IsOne out → IsOne (only_if b out)
only_one true out is = is
only_one false out is = none_one

either_one : (b : Bool) (x y : Out Read) → IsOne x → IsOne y → IsOne (either b x y)
either_one true x y is other = is
either_one false x y is other = other

then_one : {A : Type 0} (out : Out A) (f : A → ℕ → Out Read) → ((a : A) (mid : ℕ) → IsOne (f a mid))
    → IsOne (and_then out f)
then_one nothing f each = none_one
then_one (gives a mid) f each = each a mid

node_one : (l : NodeKind) (from to : ℕ) (v : Read) → IsOne (node_at l from to v)
unfolding node_at
node_one l from to v =
    only_one (leb (suc v.height) most_nodes) (gives (makes.of_node l from to v) to)
    (gives_one (makes.of_node l from to v) to (tree_in (slim.of_node l from to v.value)) refl)

module _ (K : List Key) (l : NodeKind) (t : Predicate) (parts : ℕ → Out Read) (from : ℕ) where
  wraps_one : (n : ℕ) (q : Read) (at : ℕ) (u : Cst) → q.value ≡ one u → IsOne (wraps_at K l t parts from n q at)
  unfolding wraps_at turned_at
  wraps_one zero q at u is = either_one (t K at) nothing (gives q at) none_one (gives_one q at u is)
  wraps_one (suc n) q at u is =
      either_one (t K at)
      (and_then (parts at) (λ ps to. and_then (turned_at l from to q ps) (wraps_at K l t parts from n))) (gives q at)
      (then_one (parts at) (λ ps to. and_then (turned_at l from to q ps) (wraps_at K l t parts from n))
      (λ ps to. behind (λ v at w same. wraps_one n v at w same) ps to
      (leb (over (leans l) q.height ps.height) most_nodes))) (gives_one q at u is)
    where
      behind : ((v : Read) (at : ℕ) (w : Cst) → v.value ≡ one w → IsOne (wraps_at K l t parts from n v at))
          → (ps : Read) (to : ℕ) (b : Bool)
          → IsOne (and_then (only_if b (gives (turned l from to q ps) to)) (wraps_at K l t parts from n))
      behind again ps to false = none_one
      behind again ps to true =
          again (turned l from to q ps) to
          (tree_in (slim.of_node l from to (slim.of_cons q.value ps.value))) refl

module _ {Row : Type 0} (K : List Key) (below : Row → ℕ → Out Read) where
  pub rule_one : (a : Production Row NodeKind) (at : ℕ) → IsOne (rule_at K below a at)
  rule_one refuse at = none_one
  rule_one (make l f) at =
      then_one (form_at K below f at) (λ ps to. node_at l at to ps) (λ ps to. node_one l at to ps)
  rule_one (choose t a b) at =
      either_one (t (seen K at)) (rule_at K below a at) (rule_at K below b at) (rule_one a at) (rule_one b at)
  rule_one (as_ w a) at = changed_one (rule_at K below a at)
    where
      changed_one : (out : Out Read) → IsOne (changed (makes.of_via w) out)
      changed_one nothing = none_one
      changed_one (gives v to) =
          gives_one (makes.of_via w v) to (tree_in (slim.of_via w v.value)) refl
  rule_one (pick g a b) at =
      either_one (g K at) (rule_at K below a at) (rule_at K below b at) (rule_one a at) (rule_one b at)
  rule_one (wrap l a c f) at = operand (rule_at K below a at) (rule_one a at)
    where
      operand : (out : Out Read) → IsOne out
          → IsOne (and_then out (λ q mid. wraps_at K l (test c) (form_at K below f) at (length K) q mid))
      operand nothing is = none_one
      operand (gives q mid) is =
          let tree = is.tree q mid refl in
          wraps_one K l (test c) (form_at K below f) at (length K) q mid tree.0 tree.1

-- a row answers one tree
pub row_one : {Row : Type 0} (rule : Row → Production Row NodeKind) (K : List Key) (room : ℕ) (r : Row) (at : ℕ)
    → IsOne (row_at rule K room r at)
unfolding row_at
row_one rule K zero r at = none_one
row_one rule K (suc room) r at = rule_one K (row_at rule K room) (rule r) at
