-- When a rule fits: when each thing that it asks is so.
use Rattle.std.specs.Prelude.{ℕ, Bool, true, false, not, ◌&&◌, List, Option, Some, None, is_some}
use Rattle.std.specs.List.{list_any}
use Rattle.graph_policy.specs.declared.rule.ModuleRule.{ModuleRule}
use Rattle.graph_policy.specs.declared.rule.EdgeRule.{EdgeRule}
use Rattle.graph_policy.specs.Pattern.{matches}
use Rattle.graph_policy.specs.Seen.{ModuleTexts, EdgeTexts}

-- one of the patterns matches the text
abbrev pub one_matches : List (List ℕ) → List ℕ → Bool
one_matches patterns text = list_any (λ p. matches p text) patterns

-- a text: nothing is asked of it, or a pattern matches it
abbrev pub passes : Option (List (List ℕ)) → List ℕ → Bool
passes None text = true
passes (Some patterns) text = one_matches patterns text

-- a text that may be absent: nothing is asked of it, or it is there and a pattern matches it
abbrev pub part_passes : Option (List (List ℕ)) → Option (List ℕ) → Bool
part_passes None part = true
part_passes (Some patterns) None = false
part_passes (Some patterns) (Some text) = one_matches patterns text

-- a flag: nothing is asked of it, or it is as asked
abbrev pub flag_passes : Option Bool → Bool → Bool
flag_passes None flag = true
flag_passes (Some true) flag = flag
flag_passes (Some false) flag = not flag

-- a module
unfoldable pub fits : ModuleRule → ModuleTexts → Bool
fits rule m =
    passes rule.path m.specifier && (not (one_matches rule.path_not m.specifier)
    && (passes rule.scheme m.scheme
    && (part_passes rule.host m.host && part_passes rule.package_name m.package_name)))

-- an edge's target: nothing is asked of it, or it is there and the rule fits it
abbrev pub target_passes : Option ModuleRule → Option ModuleTexts → Bool
target_passes None target = true
target_passes (Some rule) None = false
target_passes (Some rule) (Some m) = fits rule m

-- an edge
unfoldable pub edge_fits : EdgeRule → EdgeTexts → Bool
edge_fits rule e =
    fits rule.from e.from && (target_passes rule.to e.to
    && (passes rule.text e.text && (passes rule.kind e.kind
    && (flag_passes rule.type_only e.type_only
    && (flag_passes rule.dynamic e.dynamic && flag_passes rule.resolved (is_some e.to))))))
