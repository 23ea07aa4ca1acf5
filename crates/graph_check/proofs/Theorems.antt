-- The verdict is the first breach of the list that rules see.
use Rattle.std.proofs.Common.{◌≡◌, refl, ℕ, ◌+◌, List, [], ◌∷◌, map, Option, Some, None}
use Rattle.graph_policy.specs.declared.rule.Policy.{Policy}
use Rattle.graph_policy.specs.declared.rule.Breach.{Breach}
use Rattle.graph_policy.specs.declared.rule.Finding.{Finding}
use Rattle.graph_policy.specs.Breach.{breach_of, found_or, first_breach}
use Rattle.graph_builder.specs.Graph.{GraphData}
use Rattle.graph_check.specs.SeenGraph.{Thing, seen_of}
use Rattle.graph_check.specs.Check.{Look, kept, broken, looked, look_from}

-- the place and the cause
abbrev pub finding_of : Look → Option Finding
finding_of (kept n) = None
finding_of (broken n breach t) = Some (record { at = n; breach = breach })

found_of : (n : ℕ) (t : Thing) (found : Option Breach) (rest : Look) (more : Option Finding) → finding_of rest ≡ more
    → finding_of (looked n t found rest) ≡ found_or n found more
found_of n t (Some breach) rest more is = refl
found_of n t None rest more is = is

pub first_is_found : (policy : Policy) (graph : GraphData) (n : ℕ) (ts : List Thing)
    → finding_of (look_from policy graph n ts) ≡ first_breach policy n (map (seen_of graph) ts)
first_is_found policy graph n [] = refl
first_is_found policy graph n (t ∷ ts) =
    found_of n t (breach_of policy (seen_of graph t)) (look_from policy graph (n + 1) ts)
    (first_breach policy (n + 1) (map (seen_of graph) ts)) (first_is_found policy graph (n + 1) ts)
