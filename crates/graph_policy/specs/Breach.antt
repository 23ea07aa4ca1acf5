-- What breaks rules: what a forbidden rule fits; where there is a list of allowed ones, what none of these fits; and a module without
-- an edge that a rule requires of it.
use Rattle.std.specs.Prelude.{ℕ, ◌+◌, Bool, true, false, not, ◌&&◌, List, [], ◌∷◌, Option, Some, None, option_map, if◌then◌else◌}
use Rattle.std.proofs.Common.{◌⊎◌, inl, inr}
use Rattle.std.specs.List.{list_any}
use Rattle.graph_policy.specs.declared.rule.ModuleRules.{ModuleRules}
use Rattle.graph_policy.specs.declared.rule.EdgeRule.{EdgeRule}
use Rattle.graph_policy.specs.declared.rule.EdgeRules.{EdgeRules}
use Rattle.graph_policy.specs.declared.rule.RequiredRule.{RequiredRule}
use Rattle.graph_policy.specs.declared.rule.Policy.{Policy}
use Rattle.graph_policy.specs.declared.rule.Breach.{Breach}
use Rattle.graph_policy.specs.declared.rule.Breach.TheVariants.{Forbidden, NotAllowed, Lacking}
use Rattle.graph_policy.specs.declared.rule.Finding.{Finding}
use Rattle.graph_policy.specs.Seen.{ModuleTexts, EdgeTexts, EntryTexts}
use Rattle.graph_policy.specs.Rules.{fits, edge_fits}

-- the place of the first item that passes, where the list's first has place n
abbrev pub first_place : {A : Type 0} → (A → Bool) → ℕ → List A → Option ℕ
first_place test n [] = None
first_place test n (x ∷ xs) = if test x then Some n else first_place test (n + 1) xs

-- a breach unless allowed
abbrev pub unless : Bool → Option Breach
unless true = None
unless false = Some NotAllowed

-- no list, or one of it fits
abbrev pub is_allowed : {A : Type 0} → (A → Bool) → Option (List A) → Bool
is_allowed test None = true
is_allowed test (Some rules) = list_any test rules

-- the first forbidden rule that fits goes before that no allowed one does
abbrev pub breach_by : Option ℕ → Bool → Option Breach
breach_by (Some n) allowed = Some (Forbidden n)
breach_by None allowed = unless allowed

-- why a module is forbidden
unfoldable pub module_breach : ModuleRules → ModuleTexts → Option Breach
module_breach rules m =
    breach_by (first_place (λ r. fits r m) 0 rules.forbidden) (is_allowed (λ r. fits r m) rules.allowed)

-- why an edge is forbidden
unfoldable pub edge_breach : EdgeRules → EdgeTexts → Option Breach
edge_breach rules e =
    breach_by (first_place (λ r. edge_fits r e) 0 rules.forbidden) (is_allowed (λ r. edge_fits r e) rules.allowed)

-- it is a module, and the rule fits none of its edges
abbrev pub has_none : EdgeRule → Option (List EdgeTexts) → Bool
has_none rule None = false
has_none rule (Some edges) = not (list_any (λ d. edge_fits rule d) edges)

-- a rule that requires an edge asks it of this entry, which lacks it
abbrev pub lacks : RequiredRule → EntryTexts → Bool
lacks rule e = fits rule.edge.from e.own && has_none rule.edge e.edges

-- this breach, or else that of the rule with this number
abbrev pub or_lacking : Option Breach → Option ℕ → Option Breach
or_lacking (Some breach) place = Some breach
or_lacking None place = option_map Lacking place

-- why an entry is forbidden: by the rules on modules, and else by the first rule whose edge it lacks
unfoldable pub entry_breach : Policy → EntryTexts → Option Breach
entry_breach policy e =
    or_lacking (module_breach policy.modules e.own) (first_place (λ r. lacks r e) 0 policy.required)

abbrev pub breach_of : Policy → (EntryTexts ⊎ EdgeTexts) → Option Breach
breach_of policy (inl e) = entry_breach policy e
breach_of policy (inr e) = edge_breach policy.edges e

-- this one, or else the first of the rest
abbrev pub found_or : ℕ → Option Breach → Option Finding → Option Finding
found_or n (Some breach) rest = Some (record { at = n; breach = breach })
found_or n None rest = rest

-- the first that is forbidden, where the list's first has place n
abbrev pub first_breach : Policy → ℕ → List (EntryTexts ⊎ EdgeTexts) → Option Finding
first_breach policy n [] = None
first_breach policy n (s ∷ rest) = found_or n (breach_of policy s) (first_breach policy (n + 1) rest)
