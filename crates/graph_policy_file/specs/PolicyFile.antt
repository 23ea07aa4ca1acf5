-- Rules in JSON: what a value says of them, or where the first thing is for which it says nothing, in this order (this project's
-- profile, after the form of dependency-cruiser; JSON is that of RFC 8259, pointers are those of RFC 6901).
use Rattle.std.specs.Prelude.{ℕ, Bool, true, false, not, ◌||◌, List, [], ◌∷◌, codes, bytes_eq, Option, Some, None, option_map, is_some, Ok}
use Rattle.serde_json.specs.Data.{Data, Members}
use Rattle.serde_json.specs.Find.{get, as_str}
use Rattle.import_map.specs.json_reading.Reading.{Reading, and_then, text_of, bool_of, object_of, each_of, optional, only}
use Rattle.graph_policy.specs.declared.rule.ModuleRule.{ModuleRule}
use Rattle.graph_policy.specs.declared.rule.EdgeRule.{EdgeRule}
use Rattle.graph_policy.specs.declared.rule.ModuleRules.{ModuleRules}
use Rattle.graph_policy.specs.declared.rule.RequiredRule.{RequiredRule}
use Rattle.graph_policy.specs.declared.rule.Policy.{Policy}
use Rattle.graph_policy_file.specs.declared.target.Target.{Target}

-- what a value says, where there may be none
abbrev pub maybe : {A : Type 0} → (Data → Reading A) → Data → Reading (Option A)
maybe says value = and_then (λ x. Ok (Some x)) (says value)

abbrev pub asked : {A : Type 0} → (Data → Reading A) → List ℕ → Data → Reading (Option A)
asked says key value = optional (maybe says) None key value

-- ---- patterns: a text, or a list of texts

abbrev pub one_or_each : Option (List ℕ) → Data → Reading (List (List ℕ))
one_or_each (Some text) value = Ok (text ∷ [])
one_or_each None value = each_of text_of value

abbrev pub patterns_of : Data → Reading (List (List ℕ))
patterns_of value = one_or_each (as_str value) value

-- ---- a condition on a module

abbrev pub knows_module : List ℕ → Bool
knows_module key =
    bytes_eq key (codes "path") || bytes_eq key (codes "pathNot") || bytes_eq key (codes "scheme")
    || bytes_eq key (codes "host") || bytes_eq key (codes "package")

-- what a value says under the five keys; other keys aren't looked at here
abbrev pub condition : Data → Reading ModuleRule
condition value =
    and_then (λ p. and_then (λ n. and_then (λ s. and_then (λ h. and_then (λ k.
    Ok (record { path = p; path_not = n; scheme = s; host = h; package_name = k }))
    (asked patterns_of (codes "package") value))
    (asked patterns_of (codes "host") value))
    (asked patterns_of (codes "scheme") value))
    (optional patterns_of [] (codes "pathNot") value))
    (asked patterns_of (codes "path") value)

abbrev pub module_from : Data → Members → Reading ModuleRule
module_from value members = and_then (λ c. and_then (λ done. Ok c) (only knows_module members)) (condition value)

abbrev pub module_of : Data → Reading ModuleRule
module_of value = and_then (module_from value) (object_of value)

abbrev pub no_condition : ModuleRule
no_condition = record { path = None; path_not = []; scheme = None; host = None; package_name = None }

-- ---- a condition on a target, and on the edge itself

abbrev pub no_target : Target
no_target = record { to = None; text = None; kind = None; type_only = None; dynamic = None; resolved = None }

abbrev pub knows_target : List ℕ → Bool
knows_target key =
    knows_module key || bytes_eq key (codes "text") || bytes_eq key (codes "kind") || bytes_eq key (codes "typeOnly")
    || bytes_eq key (codes "dynamic") || bytes_eq key (codes "couldNotResolve")

-- a value has one of the five keys
abbrev pub asks_of_module : Data → Bool
asks_of_module value =
    is_some (get (codes "path") value) || is_some (get (codes "pathNot") value) || is_some (get (codes "scheme") value)
    || is_some (get (codes "host") value) || is_some (get (codes "package") value)

-- the rule on the target, where something is asked of it
abbrev pub if_asked : Bool → ModuleRule → Option ModuleRule
if_asked true rule = Some rule
if_asked false rule = None

abbrev pub target_from : Data → Members → Reading Target
target_from value members =
    and_then (λ c. and_then (λ t. and_then (λ k. and_then (λ y. and_then (λ d. and_then (λ u. and_then (λ done.
    Ok (record { to = if_asked (asks_of_module value) c; text = t; kind = k; type_only = y; dynamic = d; resolved = option_map not u }))
    (only knows_target members))
    (asked bool_of (codes "couldNotResolve") value))
    (asked bool_of (codes "dynamic") value))
    (asked bool_of (codes "typeOnly") value))
    (asked patterns_of (codes "kind") value))
    (asked patterns_of (codes "text") value))
    (condition value)

abbrev pub target_of : Data → Reading Target
target_of value = and_then (target_from value) (object_of value)

-- ---- rules

-- a rule's name and comment are texts; no verdict depends on them
abbrev pub remarks : Data → Reading (Unit {0})
remarks value =
    and_then (λ n. and_then (λ c. Ok tt) (optional text_of [] (codes "comment") value)) (optional text_of [] (codes "name") value)

abbrev pub knows_module_rule : List ℕ → Bool
knows_module_rule key =
    bytes_eq key (codes "name") || bytes_eq key (codes "comment") || bytes_eq key (codes "module")

abbrev pub module_rule_from : Data → Members → Reading ModuleRule
module_rule_from value members =
    and_then (λ said. and_then (λ m. and_then (λ done. Ok m) (only knows_module_rule members))
    (optional module_of no_condition (codes "module") value)) (remarks value)

abbrev pub knows_edge_rule : List ℕ → Bool
knows_edge_rule key =
    bytes_eq key (codes "name") || bytes_eq key (codes "comment") || bytes_eq key (codes "from") || bytes_eq key (codes "to")

-- of a condition on the edge's module and one on its target
abbrev pub edge_rule : ModuleRule → Target → EdgeRule
edge_rule f t = record {
  from = f;
  to = t.to;
  text = t.text;
  kind = t.kind;
  type_only = t.type_only;
  dynamic = t.dynamic;
  resolved = t.resolved;
}

abbrev pub edge_rule_from : Data → Members → Reading EdgeRule
edge_rule_from value members =
    and_then (λ said. and_then (λ f. and_then (λ t. and_then (λ done. Ok (edge_rule f t)) (only knows_edge_rule members))
    (optional target_of no_target (codes "to") value))
    (optional module_of no_condition (codes "from") value)) (remarks value)

abbrev pub knows_required_rule : List ℕ → Bool
knows_required_rule key =
    bytes_eq key (codes "name") || bytes_eq key (codes "comment") || bytes_eq key (codes "module") || bytes_eq key (codes "to")

abbrev pub required_rule_from : Data → Members → Reading RequiredRule
required_rule_from value members =
    and_then (λ said. and_then (λ m. and_then (λ t. and_then (λ done. Ok (record { edge = edge_rule m t }))
    (only knows_required_rule members))
    (optional target_of no_target (codes "to") value))
    (optional module_of no_condition (codes "module") value)) (remarks value)

abbrev pub module_rule_of : Data → Reading ModuleRule
module_rule_of value = and_then (module_rule_from value) (object_of value)

abbrev pub edge_rule_of : Data → Reading EdgeRule
edge_rule_of value = and_then (edge_rule_from value) (object_of value)

abbrev pub required_rule_of : Data → Reading RequiredRule
required_rule_of value = and_then (required_rule_from value) (object_of value)

-- ---- the whole: forbidden and allowed edges, in `modules` forbidden and allowed modules, and required edges

abbrev pub knows_module_rules : List ℕ → Bool
knows_module_rules key = bytes_eq key (codes "forbidden") || bytes_eq key (codes "allowed")

abbrev pub module_rules_from : Data → Members → Reading ModuleRules
module_rules_from value members =
    and_then (λ f. and_then (λ a. and_then (λ done. Ok (record { forbidden = f; allowed = a }))
    (only knows_module_rules members))
    (asked (each_of module_rule_of) (codes "allowed") value))
    (optional (each_of module_rule_of) [] (codes "forbidden") value)

abbrev pub module_rules_of : Data → Reading ModuleRules
module_rules_of value = and_then (module_rules_from value) (object_of value)

abbrev pub no_rules : ModuleRules
no_rules = record { forbidden = []; allowed = None }

abbrev pub knows_policy : List ℕ → Bool
knows_policy key =
    bytes_eq key (codes "modules") || bytes_eq key (codes "forbidden") || bytes_eq key (codes "allowed")
    || bytes_eq key (codes "required")

abbrev pub policy_from : Data → Members → Reading Policy
policy_from value members =
    and_then (λ m. and_then (λ f. and_then (λ a. and_then (λ r. and_then (λ done.
    Ok (record { modules = m; edges = record { forbidden = f; allowed = a }; required = r }))
    (only knows_policy members))
    (optional (each_of required_rule_of) [] (codes "required") value))
    (asked (each_of edge_rule_of) (codes "allowed") value))
    (optional (each_of edge_rule_of) [] (codes "forbidden") value))
    (optional module_rules_of no_rules (codes "modules") value)

abbrev pub policy_of : Data → Reading Policy
policy_of value = and_then (policy_from value) (object_of value)
