-- What the definitions mean.
use Rattle.std.proofs.Common.{◌≡◌, ◌∙◌, sym, ap, refl, ℕ, ◌+◌, Bool, true, false, cond, ◌⊎◌, List, [], ◌∷◌, ◌++◌, length, take, drop}
use Rattle.std.specs.Prelude.{◌==◌, ◌&&◌, not, Option, Some, None}
use Rattle.std.specs.List.{AllByRecursion, list_any}
use Rattle.std.proofs.lemmas.Bool.{false≢true, and_parts, and_from, eq-eqb, eqb-true}
use Rattle.std.proofs.lemmas.List.{take-append-drop, drop_at}
use Rattle.graph_policy.specs.declared.rule.RequiredRule.{RequiredRule}
use Rattle.graph_policy.specs.declared.rule.Policy.{Policy}
use Rattle.graph_policy.specs.declared.rule.Breach.{Breach}
use Rattle.graph_policy.specs.declared.rule.Finding.{Finding}
use Rattle.graph_policy.specs.Seen.{ModuleTexts, EdgeTexts, EntryTexts}
use Rattle.graph_policy.specs.Pattern.{after_byte, some_end, matches, first_text, rest_texts, filled}
use Rattle.graph_policy.specs.Rules.{fits, edge_fits}
use Rattle.graph_policy.specs.Breach.{first_place, lacks, or_lacking, module_breach, entry_breach, breach_of, found_or, first_breach}
use Rattle.graph_policy.proofs.PatternLemmas.{some_end_at, some_end_from, empty_nil}

matched_part : (c : ℕ) (pattern text : List ℕ) (star : Bool)
    → ((t : List ℕ) → matches pattern t ≡ true → (texts : List (List ℕ)) × (t ≡ filled pattern texts))
    → cond star (some_end (matches pattern) text) (after_byte c (matches pattern) text) ≡ true
    → (texts : List (List ℕ))
    × (text ≡ cond star (first_text texts ++ filled pattern (rest_texts texts)) (c ∷ filled pattern texts))
matched_part c pattern text true rest e =
    let r = some_end_at (matches pattern) text e in
    let s = rest (drop r.0 text) r.2 in
    (take r.0 text ∷ s.0, sym (take-append-drop r.0 text) ∙ ap (λ l. take r.0 text ++ l) s.1)
matched_part c pattern [] false rest e = absurd (false≢true e)
matched_part c pattern (b ∷ text) false rest e =
    let k = and_parts (b == c) (matches pattern text) e in
    let s = rest text k.1 in
    (s.0, λ i. eqb-true b c k.0 i ∷ s.1 i)

-- a text that matches is the pattern with texts in place of its `*`
pub matched_is_filled : (pattern text : List ℕ) → matches pattern text ≡ true
    → (texts : List (List ℕ)) × (text ≡ filled pattern texts)
unfolding matches
matched_is_filled [] text e = ([], empty_nil text e)
matched_is_filled (c ∷ pattern) text e = matched_part c pattern text (c == 42) (matched_is_filled pattern) e

filled_part : (c : ℕ) (pattern : List ℕ) (texts : List (List ℕ)) (star : Bool)
    → ((ts : List (List ℕ)) → matches pattern (filled pattern ts) ≡ true)
    → cond star
    (some_end (matches pattern)
    (cond star (first_text texts ++ filled pattern (rest_texts texts)) (c ∷ filled pattern texts)))
    (after_byte c (matches pattern)
    (cond star (first_text texts ++ filled pattern (rest_texts texts)) (c ∷ filled pattern texts)))
    ≡ true
filled_part c pattern texts true rest =
    some_end_from (matches pattern) (first_text texts ++ filled pattern (rest_texts texts)) (length (first_text texts))
    (ap (matches pattern)
    (drop_at (first_text texts) (filled pattern (rest_texts texts)) (length (first_text texts)) refl)
    ∙ rest (rest_texts texts))
filled_part c pattern texts false rest =
    and_from (c == c) (matches pattern (filled pattern texts)) (eq-eqb c c refl) (rest texts)

-- the pattern with any texts in place of its `*` matches
pub filled_matches : (pattern : List ℕ) (texts : List (List ℕ)) → matches pattern (filled pattern texts) ≡ true
unfolding matches
filled_matches [] texts = refl
filled_matches (c ∷ pattern) texts = filled_part c pattern texts (c == 42) (filled_matches pattern)

none_of_both : (n : ℕ) (breach : Option Breach) (rest : Option Finding) → found_or n breach rest ≡ None
    → (breach ≡ None) × (rest ≡ None)
none_of_both n None rest e = (refl, e)
none_of_both n (Some breach) rest e = cc e

-- where none is found, each of the list keeps the rules
pub none_forbidden : (policy : Policy) (n : ℕ) (seen : List (EntryTexts ⊎ EdgeTexts))
    → first_breach policy n seen ≡ None
    → AllByRecursion (λ s. breach_of policy s ≡ None) seen
none_forbidden policy n [] e = tt
none_forbidden policy n (s ∷ seen) e =
    let both = none_of_both n (breach_of policy s) (first_breach policy (n + 1) seen) e in
    (both.0, none_forbidden policy (n + 1) seen both.1)

-- where each of the list keeps them, none is found
pub each_kept : (policy : Policy) (n : ℕ) (seen : List (EntryTexts ⊎ EdgeTexts))
    → AllByRecursion (λ s. breach_of policy s ≡ None) seen
    → first_breach policy n seen ≡ None
each_kept policy n [] kept = refl
each_kept policy n (s ∷ seen) kept =
    ap (λ b. found_or n b (first_breach policy (n + 1) seen)) kept.0 ∙ each_kept policy (n + 1) seen kept.1

-- ---- what rules require

-- each of these rules that fits the module fits one of its edges
abbrev pub HasEach : List RequiredRule → EntryTexts → List EdgeTexts → Type 0
HasEach rules e edges =
    AllByRecursion (λ r. fits r.edge.from e.own ≡ true → list_any (λ d. edge_fits r.edge d) edges ≡ true) rules

none_there : (b : Bool) (n : ℕ) (rest : Option ℕ) → cond b (Some n) rest ≡ None → (b ≡ false) × (rest ≡ None)
none_there true n rest is = cc
none_there false n rest is = (refl, is)

none_lacks : (rules : List RequiredRule) (n : ℕ) (e : EntryTexts) → first_place (λ r. lacks r e) n rules ≡ None
    → AllByRecursion (λ r. lacks r e ≡ false) rules
none_lacks [] n e is = tt
none_lacks (r ∷ rules) n e is =
    let both = none_there (lacks r e) n (first_place (λ r. lacks r e) (n + 1) rules) is in
    (both.0, none_lacks rules (n + 1) e both.1)

first_none : (rules : List RequiredRule) (n : ℕ) (e : EntryTexts) → AllByRecursion (λ r. lacks r e ≡ false) rules
    → first_place (λ r. lacks r e) n rules ≡ None
first_none [] n e all = refl
first_none (r ∷ rules) n e all =
    ap (λ b. cond b (Some n) (first_place (λ r. lacks r e) (n + 1) rules)) all.0 ∙ first_none rules (n + 1) e all.1

there_by : (a b : Bool) → (a && not b) ≡ false → a ≡ true → b ≡ true
there_by true true is fit = refl
there_by true false is fit = absurd (false≢true (sym is))
there_by false b is fit = absurd (false≢true fit)

lacks_by : (a b : Bool) → (a ≡ true → b ≡ true) → (a && not b) ≡ false
lacks_by true b f = ap not (f refl)
lacks_by false b f = refl

module _ (own : ModuleTexts) (edges : List EdgeTexts) where
  abbrev entry : EntryTexts
  entry = record { own = own; edges = Some edges }

  each_has : (rules : List RequiredRule) → AllByRecursion (λ r. lacks r entry ≡ false) rules
      → HasEach rules entry edges
  each_has [] all = tt
  each_has (r ∷ rules) all =
      (there_by (fits r.edge.from own) (list_any (λ d. edge_fits r.edge d) edges) all.0, each_has rules all.1)

  each_lacks : (rules : List RequiredRule) → HasEach rules entry edges
      → AllByRecursion (λ r. lacks r entry ≡ false) rules
  each_lacks [] all = tt
  each_lacks (r ∷ rules) all =
      (lacks_by (fits r.edge.from own) (list_any (λ d. edge_fits r.edge d) edges) all.0, each_lacks rules all.1)

  none_of : (b : Option Breach) (place : Option ℕ) → or_lacking b place ≡ None → (b ≡ None) × (place ≡ None)
  none_of None None is = (refl, refl)
  none_of None (Some n) is = cc
  none_of (Some breach) place is = cc

  -- a module that keeps all rules has an edge for each required rule that fits it
  pub kept_has : (policy : Policy) → entry_breach policy entry ≡ None
      → (module_breach policy.modules own ≡ None) × HasEach policy.required entry edges
  unfolding entry_breach
  kept_has policy is =
      let both = none_of (module_breach policy.modules own) (first_place (λ r. lacks r entry) 0 policy.required) is in
      (both.0, each_has policy.required (none_lacks policy.required 0 entry both.1))

  -- and one that the rules on modules allow and that has these edges keeps all rules
  pub has_kept : (policy : Policy) → module_breach policy.modules own ≡ None
      → HasEach policy.required entry edges → entry_breach policy entry ≡ None
  unfolding entry_breach
  has_kept policy allowed has =
      ap (λ b. or_lacking b (first_place (λ r. lacks r entry) 0 policy.required)) allowed
      ∙ ap (or_lacking None) (first_none policy.required 0 entry (each_lacks policy.required has))
