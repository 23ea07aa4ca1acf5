-- A graph over a log is the graph over the answers that the loader tells, since the log's answers are those.
use Rattle.std.proofs.Common.{◌≡◌, refl, sym, ◌∙◌, ap, List, Option, Some, IsSome, None, Result, Ok, Err, IfOk, IfErr, subst, ℕ, ◌<◌, ◌≤◌, [], length, map, arith}
use Rattle.url.specs.Parts.{Parts}
use Rattle.graph_entry.specs.declared.answer.LoadAnswer.{LoadAnswer}
use Rattle.graph_builder.specs.Reach.{Rules, Specifier, Answers, Log, answer_to, IsFunctional}
use Rattle.graph_builder.specs.Graph.{GraphData, IsGraph}
use Rattle.graph_builder.specs.declared.error.BuildError.{BuildError}
use Rattle.graph_builder.specs.declared.error.BuildError.TheVariants.{NotYet, TooManyModules, UnaskedAnswer, Finished, OutOfMemory}
use Rattle.graph_builder.specs.Memory.{Memory, tells, module_answer, is_forced, data_of, new_memory}
use Rattle.graph_builder.specs.declared.memory_loader.Arrival.{Arrival}
use Rattle.std.specs.Prelude.{not, false}
use Rattle.std.specs.List.{list_any}
use Rattle.graph_builder.specs.Events.{Event, IsSettled, asked_of, log_of}
use Rattle.graph_builder.specs.Loader.{Falls, NeverRises}
use Rattle.graph_builder.specs.Builder.{Building, BuildingBy, new_building, new_building_by, IsToldLog, IsTooMany}
use Rattle.graph_entry.specs.Referrer.{referred_by}
use Rattle.graph_bundle.specs.declared.bundle.Bundle.{Bundle}
use Rattle.graph_run.specs.Run.{IsGraphOf, bundle_rules, bundle_resolves, bundle_starts}
use Rattle.graph_builder.proofs.Theorems.{graph_told, reached_grows}
use Rattle.graph_run.specs.Steps.{BundleWays, rules_in, mapped_ways, mapped_resolves, bundle_ways, IsFresh, IsNew, IsUnforced, SaysLarge, waits_left}

-- ---- a builder over a loader in memory

-- what was answered is what the modules say
within_told : (log : Log) (modules : List (Parts × LoadAnswer)) → IsToldLog (tells modules) log
    → (s : Specifier) (a : LoadAnswer) → answer_to log s ≡ Some a → tells modules s ≡ Some a
within_told log modules as_told s a given = ap Some (sym (as_told s a (module_answer modules s) given refl))

-- a graph that the builder gave is that of its roots and its loader's modules
pub built_graph : (rules : Rules) → IsFunctional rules
    → (r : Result GraphData BuildError) (from starts : List Specifier) (log : Log)
    (now modules : List (Parts × LoadAnswer))
    → from ≡ starts → tells now ≡ tells modules → IsToldLog (tells now) log
    → IfOk r (λ g. IsGraph rules from (answer_to log) g.entries)
    → IfOk r (λ g. IsGraph rules starts (tells modules) g.entries)
built_graph rules once (Ok g) from starts log now modules same_starts same_told as_told graph =
    let over_told : IsGraph rules from (tells now) g.entries =
    graph_told rules once from log (tells now) g.entries graph as_told (λ s. refl) in
    subst (λ (ss : List Specifier). IsGraph rules ss (tells modules) g.entries) same_starts
    (subst (λ (told : Answers). IsGraph rules from told g.entries) same_told over_told)
built_graph rules once (Err e) from starts log now modules same_starts same_told as_told graph = tt

-- an error that it ends with is that more is reached over its loader's modules, or that memory ran out
pub refused_large : (rules : Rules) (r : Result GraphData BuildError) (from starts : List Specifier)
    (log : Log) (now modules : List (Parts × LoadAnswer)) (limit bound : ℕ)
    → from ≡ starts → limit ≡ bound → tells now ≡ tells modules → IsToldLog (tells now) log
    → ((seen : ℕ) → r ≡ Err (TooManyModules seen) → IsTooMany rules from log limit seen)
    → (r ≡ Err NotYet → ⊥) → ((s : Parts) → r ≡ Err (UnaskedAnswer s) → ⊥) → (r ≡ Err Finished → ⊥)
    → IfErr r (SaysLarge rules starts (tells modules) bound)
refused_large rules (Ok g) from starts log now modules limit bound same_starts same_limit same_told as_told large
    no_wait no_unasked no_end = tt
refused_large rules (Err NotYet) from starts log now modules limit bound same_starts same_limit same_told as_told
    large no_wait no_unasked no_end = no_wait refl
refused_large rules (Err (TooManyModules seen)) from starts log now modules limit bound same_starts same_limit
    same_told as_told large no_wait no_unasked no_end =
    let many = large seen refl in
    let over_told : SaysLarge rules from (tells now) limit (TooManyModules seen) = (
      record {
        members = many.members;
        counted = many.counted ∙ many.above;
        once = many.once;
        reached = λ s among. reached_grows rules from (answer_to log) (tells now)
            (within_told log now as_told) s (many.reached s among);
      },
      many.above,
    ) in
    subst (λ (ss : List Specifier). SaysLarge rules ss (tells modules) bound (TooManyModules seen))
    same_starts
    (subst (λ (n : ℕ). SaysLarge rules from (tells modules) n (TooManyModules seen)) same_limit
    (subst (λ (told : Answers). SaysLarge rules from told limit (TooManyModules seen)) same_told
    over_told))
refused_large rules (Err (UnaskedAnswer url)) from starts log now modules limit bound same_starts same_limit
    same_told as_told large no_wait no_unasked no_end =
    no_unasked url refl
refused_large rules (Err Finished) from starts log now modules limit bound same_starts same_limit same_told as_told
    large no_wait no_unasked no_end = no_end refl
refused_large rules (Err OutOfMemory) from starts log now modules limit bound same_starts same_limit same_told
    as_told large no_wait no_unasked no_end = tt

-- where nothing happened to a loader, no request of it is open
pub settled_none : (events : List Event) → events ≡ [] → IsSettled events
settled_none events is = rw is (λ s. omega arith)

-- a told patience that falls leaves fewer waits
pub fewer_waits : (old new : Option ℕ) → IsSome old → Falls old new → waits_left new < waits_left old
fewer_waits None new there falls = absurd (cc)
fewer_waits (Some m) None there falls = absurd falls
fewer_waits (Some m) (Some n) there falls = falls

-- a told patience stays told
pub stays_told : (old new : Option ℕ) → IsSome old → NeverRises old new → IsSome new
stays_told None new there kept = absurd (cc)
stays_told (Some m) None there kept = absurd kept
stays_told (Some m) (Some n) there kept = refl

-- ---- the builder of a bundle

-- a new loader in memory is fresh, where no answer is forced
pub new_fresh : (modules : List (Parts × LoadAnswer)) (arrival : List Arrival) → list_any is_forced arrival ≡ false
    → IsFresh (data_of (new_memory modules arrival))
new_fresh modules arrival unforced = record { events = refl; patient = refl; fair = ap not unforced }

module _ (bundle : Bundle) where
  -- the loader of a bundle, and its builder
  abbrev pub loader_of : Memory
  loader_of = new_memory bundle.modules bundle.arrival

  abbrev pub building_of : BuildingBy Memory BundleWays
  building_of =
      new_building_by (bundle_ways bundle) (bundle_resolves bundle) bundle.roots bundle.options.imports
      bundle.options.limit loader_of (data_of loader_of)

  pub building_new : IsUnforced bundle → IsNew (data_of loader_of) building_of
  building_new unforced =
      let fresh = new_fresh bundle.modules bundle.arrival unforced in
      record {
        events = fresh.events;
        asked = ap asked_of fresh.events;
        log = ap log_of fresh.events;
        patient = fresh.patient;
        fair = fresh.fair;
        goes_on = refl;
      }

  -- a builder over the loader that is given the map is that one
  pub mapped_is : (loader : Memory) (plain : Building Memory) (b : BuildingBy Memory BundleWays) → loader ≡ loader_of
      → plain ≡ new_building bundle.roots bundle.options loader (data_of loader)
      → b ≡ new_building_by (mapped_ways plain.following bundle.import_map) (mapped_resolves bundle.import_map)
      plain.roots
      plain.imports plain.limit plain.loader (data_of plain.loader)
      → b ≡ building_of
  mapped_is loader plain b is plain_is b_is =
      b_is
      ∙ ap (λ (p : Building Memory). new_building_by (mapped_ways p.following bundle.import_map)
      (mapped_resolves bundle.import_map) p.roots p.imports p.limit p.loader (data_of p.loader))
      (plain_is ∙ ap (λ (l : Memory). new_building bundle.roots bundle.options l (data_of l)) is)

module _ (bundle : Bundle) {L : Type 0} (b : BuildingBy L BundleWays) (modules : List (Parts × LoadAnswer))
    (ways : b.following ≡ bundle_ways bundle) (starting : b.starting ≡ bundle_starts bundle)
    (limit : b.limit ≡ bundle.options.limit) (same : modules ≡ bundle.modules) where
  -- what is polled of it is the bundle's graph
  pub graph_of : (r : Result GraphData BuildError) → b.roots ≡ bundle.roots → b.imports ≡ bundle.options.imports
      → IfOk r (λ g. IsGraph (rules_in b.following) b.starting (tells modules) g.entries)
      → IfOk r (λ g. g.roots ≡ b.roots)
      → IfOk r (λ g. g.imports ≡ map (referred_by (mapped_resolves b.following.resolver.map)) b.imports)
      → IfOk r (λ g. length g.entries ≤ b.limit) → IfOk r (IsGraphOf bundle)
  graph_of (Ok g) roots imports graph its_roots its_imports within = record {
    roots = its_roots ∙ roots;
    imports = its_imports
        ∙ ap (λ (w : BundleWays). map (referred_by (mapped_resolves w.resolver.map)) b.imports) ways
        ∙ ap (map (referred_by (bundle_resolves bundle))) imports;
    entries = subst (λ (w : BundleWays). IsGraph (rules_in w) (bundle_starts bundle) (tells bundle.modules) g.entries)
        ways
        (subst (λ (ss : List Specifier). IsGraph (rules_in b.following) ss (tells bundle.modules) g.entries) starting
        (subst (λ (ms : List (Parts × LoadAnswer)). IsGraph (rules_in b.following) b.starting (tells ms) g.entries) same
        graph));
    within = subst (λ (n : ℕ). length g.entries ≤ n) limit within;
  }
  graph_of (Err e) roots imports graph its_roots its_imports within = tt

  -- or it is too large
  pub large_of : (r : Result GraphData BuildError)
      → IfErr r (SaysLarge (rules_in b.following) b.starting (tells modules) b.limit)
      → IfErr r (SaysLarge (bundle_rules bundle) (bundle_starts bundle) (tells bundle.modules) bundle.options.limit)
  large_of r large =
      subst (λ (w : BundleWays). IfErr r (SaysLarge (rules_in w) (bundle_starts bundle) (tells bundle.modules)
      bundle.options.limit)) ways
      (subst (λ (ss : List Specifier). IfErr r (SaysLarge (rules_in b.following) ss (tells bundle.modules)
      bundle.options.limit)) starting
      (subst (λ (ms : List (Parts × LoadAnswer)). IfErr r (SaysLarge (rules_in b.following) b.starting (tells ms)
      bundle.options.limit)) same
      (subst (λ (n : ℕ). IfErr r (SaysLarge (rules_in b.following) b.starting (tells modules) n)) limit large)))
