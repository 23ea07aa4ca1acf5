-- A graph under construction by calls: what each call does to it.
use Rattle.std.specs.Prelude.{◌≡◌, ◌↔◌, ℕ, ◌+◌, ◌≤◌, Bool, true, false, List, [], length, map, slice_get, Option, Some, None, IsSome, Result, Ok, Err}
use Rattle.std.specs.Result.{result_ok}
use Rattle.url.specs.Parts.{Parts}
use Rattle.graph_entry.specs.declared.answer.LoadAnswer.{LoadAnswer}
use Rattle.graph_entry.specs.Specifier.{text_of}
use Rattle.graph_entry.specs.Reading.{Reading}
use Rattle.graph_entry.specs.Resolution.{Resolves, resolve_by}
use Rattle.graph_entry.specs.Referrer.{referred_by}
use Rattle.graph_entry.specs.Ways.{ways_by}
use Rattle.graph_entry.specs.Analysed.{AnalysedBy}
use Rattle.specifier_resolver.specs.Resolver.{Resolving, resolving_or}
use Rattle.import_map.specs.ImportMap.{MapData, map_resolve}
use Rattle.graph_builder.specs.declared.error.BuildError.{BuildError}
use Rattle.graph_builder.specs.declared.error.BuildError.TheVariants as error
use Rattle.graph_builder.specs.declared.options.BuildOptions.{BuildOptions}
use Rattle.graph_builder.specs.declared.own.Own.{Own}
use Rattle.graph_builder.specs.Rules.{Rules, rules_by}
use Rattle.graph_builder.specs.Reach.{Specifier, answer_to}
use Rattle.graph_builder.specs.Graph.{GraphData, IsGraph, texts, different}
use Rattle.graph_builder.specs.Builder.{BuildingBy, new_building_by, starts, following_of, json_allowed, GoesOn, HasHistory, IsNotYet, IsTooMany, IsAskedFor, EachAnswered, IsOrderly}
use Rattle.graph_builder.specs.Events.{asked_of, log_of}
use Rattle.graph_builder.specs.Loader.{last_count}
use Rattle.graph_session.specs.declared.resolver.MapResolver.{MapResolver}
use Rattle.graph_session.specs.declared.loader.Given.{Given}
use Rattle.graph_session.specs.declared.session.Session.{Session}
use Rattle.graph_session.specs.Asking.{Asking, new_asking, data_of, events_of, answers_given, first_open, IsGiven, IsKeptAsking}

-- what a session goes by: which edges are followed, by which map specifiers lead, and what reads sources
abbrev pub SessionWays : Type 0 → Type 0
SessionWays M = Own MapResolver M

abbrev pub SessionBuild : Type 0 → Type 0
SessionBuild M = BuildingBy Asking (SessionWays M)

abbrev pub ways_with : {M : Type 0} → BuildOptions → Bool → Option MapData → M → SessionWays M
ways_with options is_allowed map reader = record {
  following = json_allowed is_allowed (following_of options);
  resolver = record { map = map };
  analyzer = reader;
}

-- what a text resolves to by the map, if there is one
abbrev pub resolving_by : {M : Type 0} → SessionWays M → List ℕ → Parts → Resolving
resolving_by ways = resolving_or map_resolve ways.resolver.map

abbrev pub resolves_by : {M : Type 0} → SessionWays M → Resolves
resolves_by ways = resolve_by (resolving_by ways)

-- the rules of its graph
abbrev pub rules_with : {M : Type 0} → (M → Reading) → SessionWays M → Rules
rules_with reads ways = rules_by (AnalysedBy (ways_by (resolving_by ways) (reads ways.analyzer))) ways.following

-- ---- a new session

-- nothing is asked yet; an import without an attribute may be of JSON, or may not
abbrev pub new_session : {M : Type 0} → List Parts → BuildOptions → Bool → Option MapData → M → Session M
new_session roots options is_allowed map reader = record {
  build = new_building_by (ways_with options is_allowed map reader) (resolves_by (ways_with options is_allowed map reader))
      roots options.imports options.limit new_asking (data_of new_asking);
  graph = None;
}

-- ---- a poll

-- its loader was new when it began: what happened to the loader happened since
abbrev pub HasNewLoader : {W : Type 0} → BuildingBy Asking W → Type 0
HasNewLoader build = build.events_before ≡ []

-- what a poll leaves of the calls before it
pub record IsHeard {W : Type 0} (old new : BuildingBy Asking W) : Type 0 where
  -- the answers that were given stay
  pub given : (s : Specifier) → answers_given new.loader s ≡ answers_given old.loader s
  -- the requests by their numbers are what was asked, each once
  pub asked : texts new.loader.asked ≡ new.asked
  -- a request is open where no answer was given for its specifier
  pub wanted : (n : ℕ) (url : Parts) → slice_get new.loader.asked n ≡ Some url
      → (slice_get new.loader.open_ones n ≡ Some true) ↔ (answers_given new.loader (text_of url) ≡ None)
  -- what the builder took is what was given
  pub taken : (s : Specifier) (a : LoadAnswer) → answer_to new.log s ≡ Some a → answers_given new.loader s ≡ Some a

-- the builder took each answer that was given, and no other
abbrev pub HasTakenAll : {W : Type 0} → BuildingBy Asking W → Type 0
HasTakenAll build = (s : Specifier) → answer_to build.log s ≡ answers_given build.loader s

-- at the graph it took all answers; where there is none yet it did too, and some request is open
abbrev pub TakesAll : {W : Type 0} → BuildingBy Asking W → Result GraphData BuildError → Type 0
TakesAll build (Ok graph) = HasTakenAll build
TakesAll build (Err error.NotYet) = HasTakenAll build × IsSome (first_open build.loader.open_ones)
TakesAll build (Err _) = Unit {0}

module _ {M : Type 0} (reads : M → Reading) where
  -- the graph that a poll gives: of the roots and of all answers so far
  pub record IsBuilt (old new : SessionBuild M) (graph : GraphData) : Type 0 where
    pub is_graph : IsGraph (rules_with reads old.following) (starts old) (answer_to new.log) graph.entries
    pub roots : graph.roots ≡ old.roots
    pub imports : graph.imports ≡ map (referred_by (resolves_by old.following)) old.imports
    -- the different roots have the first numbers
    pub firsts : GoesOn (different (texts old.roots)) (texts graph.numbered)
    pub orderly : IsOrderly (rules_with reads old.following) (starts old) new.log
    pub asked : IsAskedFor (rules_with reads old.following) (starts old) new.asked new.log
    pub answered : EachAnswered new.asked new.log
    pub within : length graph.entries ≤ old.limit

  -- why a poll ended so; no answer is unasked of its loader, which takes answers of open requests alone
  abbrev pub Ends : SessionBuild M → SessionBuild M → Result GraphData BuildError → Type 0
  Ends old new (Ok graph) = IsBuilt old new graph
  Ends old new (Err error.NotYet) = IsNotYet (rules_with reads old.following) old new
  Ends old new (Err (error.TooManyModules seen)) =
      IsTooMany (rules_with reads old.following) (starts old) new.log old.limit seen
  Ends old new (Err (error.UnaskedAnswer url)) = HasNewLoader old → ⊥
  Ends old new (Err error.Finished) = new ≡ old
  Ends old new (Err error.OutOfMemory) = Unit {0}

  -- what a poll of a builder does
  pub record PollsBuild (old new : SessionBuild M) (result : Result GraphData BuildError) : Type 0 where
    pub history : HasHistory old new
    pub ends : Ends old new result
    -- it goes on after `NotYet` alone, and answers `Finished` from its end on
    pub later : (new.finished ≡ false) ↔ (result ≡ Err error.NotYet)
    pub finished : (result ≡ Err error.Finished) ↔ (old.finished ≡ true)
    pub heard : HasNewLoader old → IsHeard old new
    pub takes : HasNewLoader old → TakesAll new result

  abbrev pub done_of : Result GraphData BuildError → Result (Unit {0}) BuildError
  done_of (Ok graph) = Ok tt
  done_of (Err e) = Err e

  -- a poll of a session that has the graph changes nothing; another one polls its builder, and keeps the graph
  abbrev pub PollsWith : Option GraphData → Session M → Session M → Result (Unit {0}) BuildError → Type 0
  PollsWith (Some graph) old new result = (result ≡ Ok tt) × (new ≡ old)
  PollsWith None old new result = (outcome : Result GraphData BuildError) × PollsBuild old.build new.build outcome
      × (new.graph ≡ result_ok outcome) × (result ≡ done_of outcome)

  abbrev pub Polls : Session M → Session M → Result (Unit {0}) BuildError → Type 0
  Polls old new result = PollsWith old.graph old new result

-- ---- an answer

-- it changes the loader alone
abbrev pub AnswersIn : {W : Type 0} → ℕ → LoadAnswer → BuildingBy Asking W → BuildingBy Asking W → Given → Type 0
AnswersIn n answer old new given =
    (loader : Asking) × IsGiven n answer old.loader loader given × (new ≡ record old { loader = loader })

abbrev pub Answers : {M : Type 0} → ℕ → LoadAnswer → Session M → Session M → Given → Type 0
Answers n answer old new given =
    AnswersIn n answer old.build new.build given × (new ≡ record old { build = new.build })

-- ---- what a builder keeps of its loader

pub record IsKnown {W : Type 0} (build : BuildingBy Asking W) : Type 0 where
  pub kept : IsKeptAsking build.loader
  pub asked : HasNewLoader build → build.asked ≡ asked_of (events_of build.loader.noted)
  pub log : HasNewLoader build → build.log ≡ log_of (events_of build.loader.noted)
  pub pending : build.pending ≡ last_count + 1 + build.loader.waits
