-- The verdict of rules on a graph.
use Rattle.std.specs.Prelude.{ℕ, ◌+◌, List, [], ◌∷◌, Option, Some, None}
use Rattle.graph_policy.specs.declared.rule.Policy.{Policy}
use Rattle.graph_policy.specs.declared.rule.Breach.{Breach}
use Rattle.graph_policy.specs.Breach.{breach_of}
use Rattle.graph_builder.specs.Graph.{GraphData}
use Rattle.graph_check.specs.SeenGraph.{Thing, held, edge, seen_of}
use Rattle.graph_check.specs.declared.checking.Thing.{Thing as Found}
use Rattle.graph_check.specs.declared.checking.Thing.TheVariants as found
use Rattle.graph_check.specs.declared.checking.Verdict.{Verdict}
use Rattle.graph_check.specs.declared.checking.Verdict.TheVariants.{Kept, Broken}

-- so many things were looked at, and none breaks a rule; or this one does, for this cause, after so many that don't
pub data Look : Type 0 where
  kept : ℕ → Look
  broken : ℕ → Breach → Thing → Look

-- this one, where it breaks a rule, or else what the rest comes to
abbrev pub looked : ℕ → Thing → Option Breach → Look → Look
looked n t (Some breach) rest = broken n breach t
looked n t None rest = rest

-- the first thing of a list that breaks a rule, where the list's first has place n
abbrev pub look_from : Policy → GraphData → ℕ → List Thing → Look
look_from policy graph n [] = kept n
look_from policy graph n (t ∷ ts) = looked n t (breach_of policy (seen_of graph t)) (look_from policy graph (n + 1) ts)

-- the same behind what was looked at before
abbrev pub look_on : Policy → GraphData → Look → List Thing → Look
look_on policy graph (kept n) ts = look_from policy graph n ts
look_on policy graph (broken n breach t) ts = broken n breach t

-- what a verdict says
abbrev pub thing_of : Found → Thing
thing_of (found.Entry url entry) = held url.now entry.now
thing_of (found.Edge url dependency) = edge url.now dependency.now

abbrev pub look_of : Verdict → Look
look_of (Kept n) = kept n
look_of (Broken found) = broken found.at found.breach (thing_of found.thing)
