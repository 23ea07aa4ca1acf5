-- Looking on.
use Rattle.std.proofs.Common.{◌≡◌, refl, ◌∙◌, ap, ℕ, ◌+◌, List, [], ◌∷◌, ◌++◌, map, append-nil, Option, Some, None}
use Rattle.std.specs.List.{flat_map}
use Rattle.std.proofs.lemmas.List.{map-append}
use Rattle.std.proofs.lemmas.List.Concat.{flat_map-append}
use Rattle.url.specs.Parts.{Parts}
use Rattle.graph_entry.specs.declared.entry.Dependency.{Dependency}
use Rattle.graph_entry.specs.declared.entry.Entry.{Entry}
use Rattle.graph_policy.specs.declared.rule.Policy.{Policy}
use Rattle.graph_policy.specs.declared.rule.Breach.{Breach}
use Rattle.graph_policy.specs.Breach.{or_lacking, breach_of}
use Rattle.graph_builder.specs.Graph.{GraphData}
use Rattle.graph_check.specs.SeenGraph.{Thing, edge, outside_things, entry_things, seen_of}
use Rattle.graph_check.specs.Check.{Look, kept, broken, looked, look_from, look_on}

-- where nothing is required, the rules on modules alone count
pub nothing_lacking : (breach : Option Breach) → or_lacking breach None ≡ breach
nothing_lacking None = refl
nothing_lacking (Some breach) = refl

-- what comes behind one thing
looked_on : (policy : Policy) (graph : GraphData) (n : ℕ) (t : Thing) (found : Option Breach) (rest : Look)
    (ys : List Thing)
    → looked n t found (look_on policy graph rest ys) ≡ look_on policy graph (looked n t found rest) ys
looked_on policy graph n t (Some breach) rest ys = refl
looked_on policy graph n t None rest ys = refl

-- first a list, and then another one
pub look_joined : (policy : Policy) (graph : GraphData) (n : ℕ) (xs ys : List Thing)
    → look_from policy graph n (xs ++ ys) ≡ look_on policy graph (look_from policy graph n xs) ys
look_joined policy graph n [] ys = refl
look_joined policy graph n (x ∷ xs) ys =
    ap (looked n x (breach_of policy (seen_of graph x))) (look_joined policy graph (n + 1) xs ys)
    ∙ looked_on policy graph n x (breach_of policy (seen_of graph x)) (look_from policy graph (n + 1) xs) ys

pub look_more : (policy : Policy) (graph : GraphData) (l : Look) (xs ys : List Thing)
    → look_on policy graph l (xs ++ ys) ≡ look_on policy graph (look_on policy graph l xs) ys
look_more policy graph (kept n) xs ys = look_joined policy graph n xs ys
look_more policy graph (broken n breach t) xs ys = refl

-- ---- one more item of a list

flat_more : {A : Type 0} (f : A → List Thing) (xs : List A) (y : A)
    → flat_map f (xs ++ y ∷ []) ≡ flat_map f xs ++ f y
flat_more f xs y =
    flat_map-append f xs (y ∷ []) ∙ ap (λ (ts : List Thing). flat_map f xs ++ ts) (append-nil (f y))

pub edges_more : (policy : Policy) (graph : GraphData) (l : Look) (from : Parts) (xs : List Dependency) (y : Dependency)
    → look_on policy graph l (map (edge from) (xs ++ y ∷ []))
    ≡ look_on policy graph (look_on policy graph l (map (edge from) xs)) (edge from y ∷ [])
edges_more policy graph l from xs y =
    ap (look_on policy graph l) (map-append (edge from) xs (y ∷ []))
    ∙ look_more policy graph l (map (edge from) xs) (edge from y ∷ [])

pub entries_more : {A : Type 0} (policy : Policy) (graph : GraphData) (l : Look) (g : A → Parts × Entry) (xs : List A)
    (y : A) → look_on policy graph l (flat_map entry_things (map g (xs ++ y ∷ [])))
    ≡ look_on policy graph (look_on policy graph l (flat_map entry_things (map g xs))) (entry_things (g y))
entries_more policy graph l g xs y =
    ap (λ es. look_on policy graph l (flat_map entry_things es)) (map-append g xs (y ∷ []))
    ∙ ap (look_on policy graph l) (flat_more entry_things (map g xs) (g y))
    ∙ look_more policy graph l (flat_map entry_things (map g xs)) (entry_things (g y))

pub places_more : (policy : Policy) (graph : GraphData) (xs : List (Parts × List Dependency))
    (y : Parts × List Dependency) → look_from policy graph 0 (flat_map outside_things (xs ++ y ∷ []))
    ≡ look_on policy graph (look_from policy graph 0 (flat_map outside_things xs)) (outside_things y)
places_more policy graph xs y =
    ap (look_from policy graph 0) (flat_more outside_things xs y)
    ∙ look_joined policy graph 0 (flat_map outside_things xs) (outside_things y)
