-- The reader of a table, as the code runs it: it keeps of each part what `slim` keeps, counts the nodes on a path, and
-- makes no node that stands on a path with too many.
use Rattle.std.specs.Prelude.{ℕ, zero, suc, max, leb, List, length}
use Rattle.grammar_theory.specs.Key.{Key, seen}
use Rattle.grammar_theory.specs.Productions.{Predicate, test, Rhs, Production, refuse, make, choose, as_, pick, wrap}
use Rattle.grammar_theory.specs.Plain.{Makes, over}
use Rattle.grammar_theory.specs.Fits.{most_nodes}
use Rattle.grammar_theory.specs.Reader.{Out, nothing, gives, and_then, changed, only_if, either, read_form}
use Rattle.es_grammar.specs.declared.rows.NodeKind.{NodeKind}
use Rattle.es_grammar.specs.Conditions.{leans}
use Rattle.es_grammar.specs.cst.Slim.{Kept, slim}

-- what is read: what is kept, with the most nodes on a path
pub record Read : Type 0 where
  pub value : Kept
  pub height : ℕ

-- what is made of each part; of a node by its label and parts, where it isn't one that leans
abbrev pub makes : Makes NodeKind Read
makes = record {
  of_node = λ l from to v. record { value = slim.of_node l from to v.value; height = suc v.height };
  of_leaf = λ s n. record { value = slim.of_leaf s n; height = zero };
  of_nil = record { value = slim.of_nil; height = zero };
  of_cons = λ v vs. record { value = slim.of_cons v.value vs.value; height = max v.height vs.height };
  of_mark = λ n vs. record { value = slim.of_mark n vs.value; height = vs.height };
  of_turn = λ v vs. record { value = slim.of_turn v.value vs.value; height = max v.height vs.height };
  of_via = λ w v. record { value = slim.of_via w v.value; height = v.height };
}

-- a node, where no path of it has too many
unfoldable pub node_at : NodeKind → ℕ → ℕ → Read → Out Read
node_at l from to v = only_if (leb (suc v.height) most_nodes) (gives (makes.of_node l from to v) to)

-- the node of an operand and a turn behind it
abbrev pub turned : NodeKind → ℕ → ℕ → Read → Read → Read
turned l from to q ps = record {
  value = slim.of_node l from to (slim.of_cons q.value ps.value);
  height = over (leans l) q.height ps.height;
}

-- the same, where no path of it has too many nodes
unfoldable pub turned_at : NodeKind → ℕ → ℕ → Read → Read → Out Read
turned_at l from to q ps =
    only_if (leb (over (leans l) q.height ps.height) most_nodes) (gives (turned l from to q ps) to)

-- the turns behind an operand that was read from a place on, at most so many
unfoldable pub wraps_at : List Key → NodeKind → Predicate → (ℕ → Out Read) → ℕ → ℕ → Read → ℕ → Out Read
wraps_at K l t parts from zero q at = either (t K at) nothing (gives q at)
wraps_at K l t parts from (suc n) q at =
    either (t K at)
    (and_then (parts at) (λ ps to. and_then (turned_at l from to q ps) (wraps_at K l t parts from n))) (gives q at)

module _ {Row : Type 0} where
  -- the parts of a node
  unfoldable pub form_at : List Key → (Row → ℕ → Out Read) → Rhs Row → ℕ → Out Read
  form_at K below f at = read_form makes K below f at

  -- a rule
  abbrev pub rule_at : List Key → (Row → ℕ → Out Read) → Production Row NodeKind → ℕ → Out Read
  rule_at K below refuse at = nothing
  rule_at K below (make l f) at = and_then (form_at K below f at) (λ ps to. node_at l at to ps)
  rule_at K below (choose t a b) at = either (t (seen K at)) (rule_at K below a at) (rule_at K below b at)
  rule_at K below (as_ w a) at = changed (makes.of_via w) (rule_at K below a at)
  rule_at K below (pick g a b) at = either (g K at) (rule_at K below a at) (rule_at K below b at)
  rule_at K below (wrap l a c f) at =
      and_then (rule_at K below a at) (λ q mid. wraps_at K l (test c) (form_at K below f) at (length K) q mid)

  -- a row, with at most `room` rows on a path
  unfoldable pub row_at : (Row → Production Row NodeKind) → List Key → ℕ → Row → ℕ → Out Read
  row_at rule K zero r at = nothing
  row_at rule K (suc room) r at = rule_at K (row_at rule K room) (rule r) at
