-- A bundle made by number isn't too large.
use Rattle.std.proofs.Common.{ℕ, ◌≤◌, length, arith}
use Rattle.std.specs.Cmp.Lexicographic.{nat_list_eq_equiv}
use Rattle.std.proofs.lemmas.Map.Made.{length-le_from_is_member}
use Rattle.graph_builder.specs.Builder.{following_of}
use Rattle.graph_bundle.specs.Bundle.{specifiers}
use Rattle.made_bundle.specs.Made.{made_text}
use Rattle.made_laws.specs.Value.{made_value}
use Rattle.made_laws.proofs.Theorems.{made_length}
use Rattle.made_laws.specs.graph.Bundle.{modules_at, bundle_at}
use Rattle.made_laws.proofs.graph.Theorems.{made_json, made_says, specifiers_counted, reached_listed}
use Rattle.graph_run.specs.Run.{IsTooLarge, IsSmallInput}

-- its modules are as many as it allows, and nothing else is reached
few_reached : (n : ℕ) → 1 ≤ n → n ≤ 100000 → IsTooLarge (bundle_at n) → ⊥
few_reached n some few t =
    let all = specifiers (modules_at n 0 n) in
    let bound : length t.members ≤ length all
    = length-le_from_is_member nat_list_eq_equiv t.members all t.once
    (λ s h. reached_listed n some few (following_of (bundle_at n).options) s (t.reached s h)) in
    omega (arith, bound, specifiers_counted n, t.counted)

pub made_small : (n : ℕ) → 1 ≤ n → n ≤ 100000 → IsSmallInput (made_text n)
made_small n some few = record {
  bundle = bundle_at n;
  says = record {
    within = made_length n few;
    value = made_value n;
    json = made_json n few;
    says = made_says n some few;
  };
  small = few_reached n some few;
}
