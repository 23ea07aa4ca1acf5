-- A loader that never runs out, as contracts see it: by what happened to it. It tells nothing beforehand, and is never
-- without an answer.
use Rattle.std.specs.Prelude.{List, map, None, false}
use Rattle.graph_entry.specs.Specifier.{text_of}
use Rattle.graph_builder.specs.Events.{Event, Requested, Answered}
use Rattle.graph_builder.specs.Loader.{LoaderData}
use Rattle.test_graphs.specs.declared.endless.Happening.{Happening}
use Rattle.test_graphs.specs.declared.endless.Happening.TheVariants as happening

abbrev pub event_of : Happening → Event
event_of (happening.Asked url) = Requested (text_of url)
event_of (happening.Answered url answer) = Answered (text_of url) answer

abbrev pub data_of : List (Happening × Unit {0}) → LoaderData
data_of items = record {
  events = map (λ e. event_of e.0) items;
  pending = 0;
  standing = (0, 0);
  patience = None;
  told = λ s. None;
  fair = false;
}
