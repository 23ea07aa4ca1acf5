-- What is reached of a bundle made by number: its modules, and nothing else.
use Rattle.std.proofs.Common.{◌≡◌, ◌∙◌, inl, inr, refl, sym, ap, subst, ℕ, zero, suc, ◌+◌, ◌<◌, ◌≤◌, ◌^◌, Bool, true, false, ◌||◌, List, [], ◌∷◌, length, Option, Some, arith}
use Rattle.std.specs.Prelude.{bytes_eq, unwrap_or, if◌then◌else◌}
use Rattle.std.specs.Map.{lookup}
use Rattle.std.proofs.lemmas.Slice.Eq.{bytes_eq-Decides}
use Rattle.std.proofs.lemmas.List.{length-map}
use Rattle.graph_entry.specs.declared.answer.LoadAnswer.{LoadAnswer}
use Rattle.graph_entry.specs.declared.answer.LoadAnswer.TheVariants.{Content, Absent}
use Rattle.graph_entry.specs.Specifier.{text_of, loadable}
use Rattle.graph_entry.specs.Ways.{default_ways}
use Rattle.graph_entry.specs.Analysed.{AnalysedBy, media_type_at}
use Rattle.graph_builder.specs.declared.following.Following.{Following}
use Rattle.graph_builder.specs.Rules.{Rules, rules_by}
use Rattle.graph_builder.specs.Reach.{Specifier, has, IsEntry, Leads, IsWay, IsReached}
use Rattle.graph_builder.specs.Memory.{tells}
use Rattle.graph_bundle.specs.Bundle.{specifiers}
use Rattle.made_bundle.specs.Made.{module_text}
use Rattle.made_laws.specs.Value.{specifier_text}
use Rattle.made_laws.specs.Urls.{url_at}
use Rattle.made_laws.proofs.Theorems.{specifier_injective}
use Rattle.made_laws.specs.graph.Bundle.{modules_at}
use Rattle.made_laws.proofs.graph.Said.{text_at}
use Rattle.made_laws.proofs.graph.Leading.{Numbered, content_leads}

-- ---- what a module's specifier is answered with

-- a specifier stands for one number
same_number : (a i : ℕ) → a < 2 ^ 62 → i < 2 ^ 62 → bytes_eq (text_of (url_at i)) (text_of (url_at a)) ≡ true → a ≡ i
same_number a i la li is =
    specifier_injective a i (omega (arith, la)) (omega (arith, li))
    (sym (text_at a) ∙ sym ((bytes_eq-Decides (text_of (url_at i)) (text_of (url_at a))).0 is) ∙ text_at i)

other_number : (a i : ℕ) → bytes_eq (text_of (url_at i)) (text_of (url_at a)) ≡ false → a ≡ i → ⊥
other_number a i is e =
    let yes : bytes_eq (text_of (url_at i)) (text_of (url_at a)) ≡ true
    = (bytes_eq-Decides (text_of (url_at i)) (text_of (url_at a))).1 (ap (λ (n : ℕ). text_of (url_at n)) (sym e)) in
    let bad : false ≡ true = sym is ∙ yes in let none : ⊥ = cc in none

found_here : (count a i : ℕ) (rest : Option LoadAnswer) → a ≤ i → i < 2 ^ 62
    → (suc a ≤ i → rest ≡ Some (Content [] (module_text count i)))
    → (if bytes_eq (text_of (url_at i)) (text_of (url_at a)) then Some (Content [] (module_text count a)) else rest)
    ≡ Some (Content [] (module_text count i))
found_here count a i rest le few later = by (bytes_eq (text_of (url_at i)) (text_of (url_at a))) refl
  where
    by : (b : Bool) → bytes_eq (text_of (url_at i)) (text_of (url_at a)) ≡ b
        → (if b then Some (Content [] (module_text count a)) else rest) ≡ Some (Content [] (module_text count i))
    by true is =
        ap (λ (n : ℕ). Some (Content [] (module_text count n))) (same_number a i (omega (arith, le, few)) few is)
    by false is = let apart = other_number a i is in later (omega (arith, le, apart))

found : (count a k i : ℕ) → a ≤ i → i < a + k → i < 2 ^ 62
    → lookup (λ url. bytes_eq (text_of (url_at i)) (text_of url)) (modules_at count a k)
    ≡ Some (Content [] (module_text count i))
found count a zero i le below few = absurd (let none : ⊥ = omega (arith, le, below) in none)
found count a (suc k) i le below few =
    found_here count a i (lookup (λ url. bytes_eq (text_of (url_at i)) (text_of url)) (modules_at count (suc a) k)) le
    few
    (λ above. found count (suc a) k i above (omega (arith, below)) few)

pub told : (count i : ℕ) → i < count → count < 2 ^ 62
    → tells (modules_at count 0 count) (specifier_text i) ≡ Some (Content [] (module_text count i))
told count i below few =
    ap (tells (modules_at count 0 count)) (sym (text_at i))
    ∙ ap (λ (o : Option LoadAnswer). Some (unwrap_or o Absent))
    (found count 0 count i (omega arith) (omega (arith, below)) (omega (arith, below, few)))

loads : (i : ℕ) → loadable (specifier_text i) ≡ true
unfolding loadable
loads i = refl

-- ---- what is reached

module _ (count : ℕ) (few : count < 2 ^ 62) (following : Following) where
  abbrev rules : Rules
  rules = rules_by (AnalysedBy default_ways) following

  step : (from to : Specifier) → Numbered count from → Leads rules (tells (modules_at count 0 count)) from to
      → Numbered count to
  unfolding AnalysedBy
  step from to n leads = by leads.is_entry
    where
      by : IsEntry rules (tells (modules_at count 0 count)) from leads.entry → Numbered count to
      by (inl answered) =
          let same : Some answered.answer ≡ Some (Content [] (module_text count n.number))
          = sym answered.given ∙ ap (tells (modules_at count 0 count)) n.is ∙ told count n.number n.below few in
          let is : answered.answer ≡ Content [] (module_text count n.number) = cc in
          let means : AnalysedBy default_ways (specifier_text n.number)
          (Some (Content [] (module_text count n.number))) leads.entry
          = subst (λ (s : Specifier). AnalysedBy default_ways s (Some (Content [] (module_text count n.number)))
          leads.entry) n.is
          (subst (λ (a : LoadAnswer). AnalysedBy default_ways from (Some a) leads.entry) is answered.means) in
          content_leads count n.number n.below few following to (media_type_at (specifier_text n.number) [])
          leads.entry means leads.among
      by (inr unasked) =
          let bad : false ≡ true = sym unasked.0 ∙ ap loadable n.is ∙ loads n.number in absurd cc

  way_leads : (way : List Specifier) (s : Specifier) → 0 < count
      → IsWay rules (text_of (url_at 0) ∷ []) (tells (modules_at count 0 count)) way s → Numbered count s
  way_leads [] s some h = by (bytes_eq s (text_of (url_at 0))) refl h
    where
      by : (b : Bool) → bytes_eq s (text_of (url_at 0)) ≡ b → (b || false) ≡ true → Numbered count s
      by true is k =
          record { number = 0; below = some; is = (bytes_eq-Decides s (text_of (url_at 0))).0 is ∙ text_at 0 }
      by false is k = absurd cc
  way_leads (r ∷ way) s some h = step r s (way_leads way r some h.0) h.1

-- ---- how many they are

listed_here : (a i : ℕ) (rest : List Specifier) → a ≤ i → (suc a ≤ i → has rest (text_of (url_at i)) ≡ true)
    → has (text_of (url_at a) ∷ rest) (text_of (url_at i)) ≡ true
listed_here a i rest le later = by (bytes_eq (text_of (url_at i)) (text_of (url_at a))) refl
  where
    by : (b : Bool) → bytes_eq (text_of (url_at i)) (text_of (url_at a)) ≡ b
        → (b || has rest (text_of (url_at i))) ≡ true
    by true is = refl
    by false is = let apart = other_number a i is in later (omega (arith, le, apart))

listed : (count a k i : ℕ) → a ≤ i → i < a + k → has (specifiers (modules_at count a k)) (text_of (url_at i)) ≡ true
listed count a zero i le below = absurd (let none : ⊥ = omega (arith, le, below) in none)
listed count a (suc k) i le below =
    listed_here a i (specifiers (modules_at count (suc a) k)) le
    (λ above. listed count (suc a) k i above (omega (arith, below)))

pub modules_counted : (count a k : ℕ) → length (modules_at count a k) ≡ k
modules_counted count a zero = refl
modules_counted count a (suc k) = ap suc (modules_counted count (suc a) k)

pub specifiers_counted : (count : ℕ) → length (specifiers (modules_at count 0 count)) ≡ count
specifiers_counted count = length-map (modules_at count 0 count) (λ m. text_of m.0) ∙ modules_counted count 0 count

pub reached_listed : (count : ℕ) → 1 ≤ count → count ≤ 100000 → (following : Following) (s : Specifier)
    → IsReached (rules_by (AnalysedBy default_ways) following) (text_of (url_at 0) ∷ [])
    (tells (modules_at count 0 count)) s
    → has (specifiers (modules_at count 0 count)) s ≡ true
reached_listed count some few following s reached =
    let n = way_leads count (omega (arith, few)) following reached.way s (omega (arith, some)) reached.leads_here in
    subst (λ (x : Specifier). has (specifiers (modules_at count 0 count)) x ≡ true) (text_at n.number ∙ sym n.is)
    (listed count 0 count n.number (omega arith) (omega (arith, n.below)))
