-- The laws of graphs and of what is reached that other crates name.
use Rattle.std.proofs.Common.{◌≡◌, ℕ, inl, inr, true, List, sym, ◌∙◌, ap, subst, refl, Option, Some, None}
use Rattle.std.specs.Prelude.{IsSome, is_some, Result, Ok, Err, IfOk}
use Rattle.url.specs.Parts.{Parts}
use Rattle.graph_entry.specs.declared.answer.LoadAnswer.{LoadAnswer}
use Rattle.graph_entry.specs.declared.entry.Entry.{Entry}
use Rattle.graph_entry.specs.declared.entry.Entry.TheVariants as entry
use Rattle.graph_entry.specs.Entry.{EdgesCut}
use Rattle.graph_builder.specs.declared.following.Following.{Following}
use Rattle.graph_builder.specs.Rules.{targets, rules_of}
use Rattle.graph_entry.proofs.Theorems.{analysed_once, analysed_cuts}
use Rattle.graph_builder.specs.Reach.{Specifier, Answers, Log, Rules, answer_to, has, IsEntry, Leads, IsReached, IsFunctional}
use Rattle.graph_builder.specs.Final.{IsFinal, redirect, too_far, with_module, same}
use Rattle.graph_builder.specs.Graph.{entry_of, GraphData, IsGraph, EachEdgeCuts}
use Rattle.graph_builder.specs.Events.{IsSettled}
use Rattle.graph_builder.specs.Builder.{IsToldLog, before_last}
use Rattle.graph_builder.specs.Progress.{At, own_count, IsUnasked, GoesOnAt, IsKeptAt}
use Rattle.graph_builder.proofs.ResultLemmas as endings
use Rattle.graph_builder.proofs.ReachLemmas.{reached_least, reached_start, reached_on, entry_once}
use Rattle.graph_builder.proofs.FinalLemmas.{first_of, final_agrees, final_cuts}
use Rattle.graph_builder.proofs.ByTextLemmas.{has-keys_at}
pub use Rattle.graph_builder.proofs.ReachLemmas.{IsWithin, reached_start, reached_on, reached_least, reached_grows, entry_once}

-- an answer means at most one entry
pub rules_once : (following : Following) → IsFunctional (rules_of following)
rules_once following = analysed_once

-- what the answers mean cuts
abbrev pub MeansCut : Rules → Type 0
MeansCut rules = (s : Specifier) (a : Option LoadAnswer) (made : Entry) → rules.means s a made → EdgesCut made

-- each edge of a graph's module cuts from the module's text the literal whose value is the edge's text
pub edges_cut : (rules : Rules) → MeansCut rules → (starts : List Specifier) (answers : Answers)
    (entries : List (Parts × Entry))
    → IsGraph rules starts answers entries
    → EachEdgeCuts entries
edges_cut rules cuts starts answers entries g s e h = by (g.each s e h)
  where
    first : (f : Entry) → IsEntry rules answers s f → EdgesCut f
    first f (inl a) = cuts s (Some a.answer) f a.means
    first f (inr u) = cuts s None f u.1

    by : IsFinal rules answers s e → EdgesCut e
    by (redirect target is_entry last leads stays is) = subst EdgesCut (sym is) tt
    by (too_far target is_entry far is) = subst EdgesCut (sym is) tt
    by (with_module m is_entry edges all is) =
        subst EdgesCut (sym is) (final_cuts rules answers m edges (first (entry.Module m) is_entry) all)
    by (same f is_entry stays plain is) = subst EdgesCut (sym is) (first f is_entry)

-- the same of a graph that is answered
pub answered_cut : {Refused : Type 0} (rules : Rules) → MeansCut rules → (starts : List Specifier) (answers : Answers)
    (result : Result GraphData Refused)
    → IfOk result (λ g. IsGraph rules starts answers g.entries)
    → IfOk result (λ g. EachEdgeCuts g.entries)
answered_cut rules cuts starts answers (Ok g) graph = edges_cut rules cuts starts answers g.entries graph
answered_cut rules cuts starts answers (Err e) graph = tt

-- ---- the graph over answers that were told

-- whatever has an entry over the first answers has it over the second
pub entry_agrees : (rules : Rules) (few many : Answers) (s : Specifier) (e : Entry)
    → ((a : LoadAnswer) → few s ≡ Some a → many s ≡ Some a) → IsEntry rules few s e → IsEntry rules many s e
entry_agrees rules few many s e alike (inl a) =
    inl (record { loads = a.loads; answer = a.answer; given = alike a.answer a.given; means = a.means })
entry_agrees rules few many s e alike (inr u) = inr u

module _ (rules : Rules) (once : IsFunctional rules) (starts : List Specifier) (log told : Answers)
    (entries : List (Parts × Entry))
    (g : IsGraph rules starts log entries)
    (alike : (s : Specifier) → IsReached rules starts log s → (a : LoadAnswer) → log s ≡ Some a → told s ≡ Some a) where
  -- what is reached over the log is reached over what was told
  there : (s : Specifier) → IsReached rules starts log s → IsReached rules starts log s × IsReached rules starts told s
  there = reached_least rules starts log (λ s. IsReached rules starts log s × IsReached rules starts told s)
      (λ s h. (reached_start rules starts log s h, reached_start rules starts told s h))
      (λ r s p l. (
        reached_on rules starts log r s p.0 l,
        reached_on rules starts told r s p.1
            (record {
              entry = l.entry;
              is_entry =
                  entry_agrees rules log told r l.entry (alike r p.0) l.is_entry;
              among = l.among;
            }),
      ))

  -- whatever has an entry over what was told has it over the log, where it's reached
  own_entry : (s : Specifier) (e : Entry) → IsReached rules starts log s → IsEntry rules told s e
      → IsEntry rules log s e
  own_entry s e p is_entry = by (entry_of entries s) refl
    where
      by : (o : Option Entry) → entry_of entries s ≡ o → IsEntry rules log s e
      by None d =
          let there : is_some (entry_of entries s) ≡ true = sym (has-keys_at entries s) ∙ g.members.all s p in
          let nothing = ap is_some d in absurd cc
      by (Some f) d =
          let own = first_of rules log s f (g.each s f d) in
          subst (IsEntry rules log s)
          (entry_once rules once told s own.0 e (entry_agrees rules log told s own.0 (alike s p) own.1) is_entry) own.1

  -- and back
  back : (s : Specifier) → IsReached rules starts told s → IsReached rules starts log s
  back = reached_least rules starts told (IsReached rules starts log) (reached_start rules starts log)
      (λ r s p l. reached_on rules starts log r s p
      (record { entry = l.entry; is_entry = own_entry r l.entry p l.is_entry; among = l.among }))

  -- the graph over the log is the graph over what was told, where they agree on all that is reached
  pub graph_agrees : IsGraph rules starts told entries
  graph_agrees = record {
    ascending = g.ascending;
    members = record {
      once = g.members.once;
      reached = λ s h. (there s (g.members.reached s h)).1;
      all = λ s p. g.members.all s (back s p);
    };
    each = λ s e h. final_agrees rules starts log told (λ r f p. entry_agrees rules log told r f (alike r p)) own_entry
        s e
        (g.members.reached s (has-keys_at entries s ∙ ap is_some h)) (g.each s e h);
  }

-- the same for a log of answers that were told, where each was
pub graph_told : (rules : Rules) → IsFunctional rules → (starts : List Specifier) (log : Log) (told : Answers)
    (entries : List (Parts × Entry)) → IsGraph rules starts (answer_to log) entries
    → IsToldLog told log → ((s : Specifier) → IsSome (told s)) → IsGraph rules starts told entries
graph_told rules once starts log told entries g is all =
    graph_agrees rules once starts (answer_to log) told entries g
    (λ s p a h. by s a h (told s) refl)
  where
    by : (s : Specifier) (a : LoadAnswer) → answer_to log s ≡ Some a → (o : Option LoadAnswer) → told s ≡ o
        → told s ≡ Some a
    by s a h None d = absurd (let n = all s in let m = ap is_some d in cc)
    by s a h (Some b) d = d ∙ ap Some (sym (is s a b h d))

-- ---- a loader that answers open requests alone

-- between two states of a builder no answer is unasked, where the loader says that it answers open requests alone, and had
-- none open when the builder was made
pub fairly : {rules : Rules} → (batch : ℕ) (x y : At) (s : Specifier) → IsKeptAt rules x → IsKeptAt rules y → GoesOnAt x y
    → IsUnasked rules batch x y s → x.loader.fair ≡ true
    → IsSettled (before_last (own_count x) x.loader.events) → ⊥
fairly {rules} batch x y s kept later goes unasked fair none_open =
    endings.fairly {rules = rules} batch x y s kept later goes unasked fair none_open
