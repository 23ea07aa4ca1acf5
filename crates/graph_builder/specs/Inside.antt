-- What holds of a builder's inner part.
use Rattle.std.specs.Prelude.{◌≡◌, Bool, false, List, Some}
use Rattle.url.specs.Parts.{Parts}
use Rattle.graph_entry.specs.declared.referrer.ReferrerImports.{ReferrerImports}
use Rattle.graph_entry.specs.Resolution.{Resolves}
use Rattle.graph_entry.specs.Referrer.{starts_by}
use Rattle.graph_builder.specs.declared.slot.Slot.{Slot}
use Rattle.graph_builder.specs.declared.slot.Slot.TheVariants.{Queued, Asked}
use Rattle.graph_builder.specs.Reach.{Specifier, Rules}
use Rattle.graph_builder.specs.ByText.{value_at}
pub use Rattle.graph_builder.specs.Slots.{all_done, AreDone}
use Rattle.graph_builder.specs.Events.{asked_of, log_of}
use Rattle.graph_builder.specs.Builder.{BuildingBy, before_last}
use Rattle.graph_builder.specs.Progress.{At, IsKeptAt, IsLive, own_count, own_events, starts_at}

-- what contracts see of a builder
abbrev pub seen_of : {L W : Type 0} → L → W → List Parts → List ReferrerImports → At → Bool → BuildingBy L W
seen_of given followed given_roots outside x over = record {
  loader = given;
  following = followed;
  roots = given_roots;
  imports = outside;
  starting = starts_at x;
  limit = x.progress.reaching.limit;
  events = own_events x;
  events_before = before_last (own_count x) x.loader.events;
  asked = asked_of (own_events x);
  log = log_of (own_events x);
  asked_before = asked_of (before_last (own_count x) x.loader.events);
  log_before = log_of (before_last (own_count x) x.loader.events);
  pending = x.loader.pending;
  standing = x.loader.standing;
  patience = x.loader.patience;
  finished = over;
}

-- until it is finished, the builder can go on; it starts at its roots and where the referrer imports lead
pub record IsInside (rules : Rules) (resolves : Resolves) (given_roots : List Parts) (outside : List ReferrerImports) (x : At)
    (finished : Bool) : Type 0 where
  pub starting : starts_at x ≡ starts_by resolves given_roots outside
  pub kept : IsKeptAt rules x
  pub live : finished ≡ false → IsLive rules x

-- no slot of a specifier waits for its entry
abbrev pub HaveEntries : List (Parts × Slot) → Type 0
HaveEntries slots = (s : Specifier) (x : Slot) → value_at slots s ≡ Some x → (x ≡ Queued → ⊥) × (x ≡ Asked → ⊥)
