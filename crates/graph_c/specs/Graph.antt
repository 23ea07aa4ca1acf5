-- What the calls of a graph's handle do.
use Rattle.std.specs.Prelude.{◌≡◌, ℕ, List, [], length, nat_le, Option, Some, None, if◌then◌else◌}
use Rattle.graph_entry.specs.Reading.{Reading, ReadsSource}
use Rattle.deno_graph.specs.declared.analyzer.analyzer.ParserModuleAnalyzer.{ParserModuleAnalyzer}
use Rattle.graph_bundle.specs.declared.bundle.BundleFault.{BundleFault}
use Rattle.graph_bundle.specs.declared.bundle.BundleFault.TheVariants.{NotJson, Pointer, OutOfMemory}
use Rattle.graph_run.specs.Run.{not_json_line, no_bundle_line}
use Rattle.graph_session.specs.declared.session.Session.{Session}
use Rattle.graph_session.specs.declared.calls.Wanted.{Wanted}
use Rattle.graph_session.specs.declared.calls.PlaceRecord.{PlaceRecord}
use Rattle.graph_session.specs.declared.records.EntryRecord.{EntryRecord}
use Rattle.graph_session.specs.declared.records.EdgeRecord.{EdgeRecord}
use Rattle.graph_session.specs.Calls.{IsNewBy, IsRefused, PollsBy, ReportsWanted, AnswersBy, ReportsEntry, Refuses, ReportsPlace, nowhere}
use Rattle.graph_session.specs.Records.{none}
use Rattle.graph_c.specs.declared.held.Held.{Held}
use Rattle.graph_c.specs.Told.{after}
use Rattle.std.specs.Global.{Box}

abbrev pub Reader : Type 0
Reader = Session ParserModuleAnalyzer

abbrev pub reads : ParserModuleAnalyzer → Reading
reads reader = ReadsSource

-- ---- a new graph

-- the line of a refusal
abbrev pub line_of : BundleFault → List ℕ
line_of NotJson = not_json_line
line_of (Pointer at) = no_bundle_line at
line_of OutOfMemory = []

-- the line is written where it fits, and its length is reported
abbrev pub WritesLine : List ℕ → List ℕ → List ℕ → ℕ → Type 0
WritesLine line old new needed = (needed ≡ length line)
    × (new ≡ after (nat_le (length line) (length old)) line old)

-- the line of a refusal is reported, or memory ran out
pub data IsRefusal (why : BundleFault) (old_line new_line : List ℕ) (before needed status : ℕ) : Type 0 where
  says : WritesLine (line_of why) old_line new_line needed → status ≡ 2
      → IsRefusal why old_line new_line before needed status
  no_room_left : needed ≡ before → new_line ≡ old_line → status ≡ 5 → IsRefusal why old_line new_line before needed status

-- what a handle held, in a box
abbrev pub IsTaken : Option Held → Option (Box Held) → Type 0
IsTaken None None = Unit {0}
IsTaken (Some held) (Some box) = box.value ≡ held
IsTaken _ _ = ⊥

-- what a call for a new graph leaves, where the handle had none
pub data Begins (settings : List ℕ) (new : Option Held) (old_line new_line : List ℕ) (needed status : ℕ) : Type 0 where
  begun : (session : Reader) → IsNewBy settings (record {}) session → new ≡ Some (record { session = session })
      → needed ≡ 0 → new_line ≡ old_line → status ≡ 0 → Begins settings new old_line new_line needed status
  refused : (why : BundleFault) → IsRefused settings why → new ≡ None → WritesLine (line_of why) old_line new_line needed
      → status ≡ 2 → Begins settings new old_line new_line needed status
  no_memory : new ≡ None → needed ≡ 0 → new_line ≡ old_line → status ≡ 5
      → Begins settings new old_line new_line needed status

-- a handle that has a graph keeps it
abbrev pub News : List ℕ → Option Held → Option Held → List ℕ → List ℕ → ℕ → ℕ → Type 0
News settings None new old_line new_line needed status = Begins settings new old_line new_line needed status
News settings (Some held) new old_line new_line needed status =
    (new ≡ Some held) × (needed ≡ 0) × (new_line ≡ old_line) × (status ≡ 26)

-- ---- calls of a handle: `None` where it has no graph

abbrev pub AtPoll : Option Held → Option Held → ℕ → ℕ → Type 0
AtPoll None new seen status = (new ≡ None) × (seen ≡ 0) × (status ≡ 18)
AtPoll (Some held) new seen status =
    (session : Reader) × (new ≡ Some (record { session = session })) × PollsBy reads held.session session seen status

abbrev pub AtWanted : Option Held → Option Held → ℕ → List ℕ → List ℕ → Wanted → ℕ → Type 0
AtWanted None new from old_room new_room wanted status =
    (new ≡ None) × (new_room ≡ old_room) × (wanted ≡ record { number = none; needed = 0 }) × (status ≡ 18)
AtWanted (Some held) new from old_room new_room wanted status =
    (new ≡ Some held) × ReportsWanted held.session.build.loader from old_room new_room wanted status

abbrev pub AtAnswer : Option Held → Option Held → ℕ → ℕ → List ℕ → List ℕ → ℕ → Type 0
AtAnswer None new number kind bytes content_type status = (new ≡ None) × (status ≡ 18)
AtAnswer (Some held) new number kind bytes content_type status = (session : Reader)
    × (new ≡ Some (record { session = session })) × AnswersBy number kind bytes content_type held.session session status

abbrev pub AtEntry : Option Held → Option Held → ℕ → List EdgeRecord → List EdgeRecord → List ℕ → List ℕ → EntryRecord → ℕ
    → Type 0
AtEntry None new number edges new_edges texts new_texts reported status =
    (new ≡ None) × Refuses 18 edges new_edges texts new_texts reported status
AtEntry (Some held) new number edges new_edges texts new_texts reported status =
    (new ≡ Some held) × ReportsEntry held.session.graph number edges new_edges texts new_texts reported status

abbrev pub AtPlace : Option Held → Option Held → ℕ → ℕ → PlaceRecord → ℕ → Type 0
AtPlace None new number place reported status = (new ≡ None) × (reported ≡ nowhere) × (status ≡ 18)
AtPlace (Some held) new number place reported status = (new ≡ Some held) × ReportsPlace held.session.graph number place reported status
