-- The calls of a session by numbers and buffers of the caller's.
use Rattle.std.specs.Prelude.{◌≡◌, ℕ, ◌<◌, Bool, true, false, ◌&&◌, nat_le, List, [], ◌∷◌, ◌++◌, length, drop, codes, Option, Some, None, Result, Ok, Err, IsUtf8, IsCharBoundary, slice_get, if◌then◌else◌}
use Rattle.std.specs.declared.alloc.AllocError.{AllocError}
use Rattle.serde_json.specs.Data.{Data}
use Rattle.url.specs.Parts.{Parts}
use Rattle.url.specs.Parser.{Parsed, parse_url}
use Rattle.source_text.specs.declared.display.LineAndColumnDisplay.{LineAndColumnDisplay}
use Rattle.source_text.specs.Lines.{IsDisplay}
use Rattle.graph_entry.specs.declared.answer.LoadAnswer.{LoadAnswer}
use Rattle.graph_entry.specs.declared.answer.LoadAnswer.TheVariants.{Content, Redirect, External, Absent, Failed}
use Rattle.graph_entry.specs.declared.entry.Entry.{Entry}
use Rattle.graph_entry.specs.declared.entry.Entry.TheVariants as entry
use Rattle.graph_entry.specs.declared.entry.Module.TheVariants as made
use Rattle.graph_entry.specs.Headers.{HeaderList, with_header}
use Rattle.graph_entry.specs.Reading.{Reading}
use Rattle.graph_entry.specs.Specifier.{text_of}
use Rattle.graph_builder.specs.declared.error.BuildError.{BuildError}
use Rattle.graph_builder.specs.declared.error.BuildError.TheVariants as error
use Rattle.graph_builder.specs.Graph.{GraphData, entry_of}
use Rattle.graph_bundle.specs.declared.bundle.BundleFault.{BundleFault}
use Rattle.graph_bundle.specs.declared.bundle.BundleFault.TheVariants as fault
use Rattle.graph_bundle.specs.declared.chosen.ChosenBundle.{ChosenBundle}
use Rattle.graph_bundle.specs.Bundle.{IsJson, chosen_of}
use Rattle.graph_session.specs.declared.loader.Given.{Given}
use Rattle.graph_session.specs.declared.loader.Given.TheVariants as given
use Rattle.graph_session.specs.declared.session.Session.{Session}
use Rattle.graph_session.specs.declared.calls.Wanted.{Wanted}
use Rattle.graph_session.specs.declared.calls.PlaceRecord.{PlaceRecord}
use Rattle.graph_session.specs.declared.records.EntryRecord.{EntryRecord}
use Rattle.graph_session.specs.declared.records.EdgeRecord.{EdgeRecord}
use Rattle.graph_session.specs.declared.records.LaidEntry.{LaidEntry}
use Rattle.graph_session.specs.Asking.{Asking, first_open_from}
use Rattle.graph_session.specs.Session.{new_session, Polls, Answers}
use Rattle.graph_session.specs.Records.{none, IsLaid}

-- a buffer with the items in its front, where they fit
abbrev pub after : {A : Type 0} → Bool → List A → List A → List A
after true items room = items ++ drop (length items) room
after false items room = room

-- ---- a new session

-- it is that of the bundle with choices that the settings say
abbrev pub IsNewBy : {M : Type 0} → List ℕ → M → Session M → Type 0
IsNewBy settings reader session = (value : Data) × (chosen : ChosenBundle) × IsJson settings value
    × (chosen_of value ≡ Ok chosen)
    × (session ≡ new_session chosen.bundle.roots chosen.bundle.options chosen.json_without_attribute
    chosen.bundle.import_map reader)

-- the settings are no JSON, or say no bundle
abbrev pub IsRefused : List ℕ → BundleFault → Type 0
IsRefused settings fault.NotJson = (value : Data) → ¬ IsJson settings value
IsRefused settings (fault.Pointer at) = (value : Data) × IsJson settings value × (chosen_of value ≡ Err at)
IsRefused settings fault.OutOfMemory = Unit {0}

-- ---- a poll

abbrev pub poll_status : Result (Unit {0}) BuildError → ℕ
poll_status (Ok done) = 0
poll_status (Err (error.TooManyModules seen)) = 1
poll_status (Err error.NotYet) = 16
poll_status (Err error.Finished) = 17
poll_status (Err (error.UnaskedAnswer url)) = 20
poll_status (Err error.OutOfMemory) = 5

-- where too much is reached, how much was seen
abbrev pub seen_of : Result (Unit {0}) BuildError → ℕ
seen_of (Err (error.TooManyModules seen)) = seen
seen_of _ = 0

abbrev pub PollsBy : {M : Type 0} → (M → Reading) → Session M → Session M → ℕ → ℕ → Type 0
PollsBy reads old new seen status = (result : Result (Unit {0}) BuildError) × Polls reads old new result
    × (seen ≡ seen_of result) × (status ≡ poll_status result)

-- ---- what is wanted

-- a specifier is written where it fits
abbrev pub PutsText : List ℕ → List ℕ → List ℕ → ℕ → Type 0
PutsText text old new status = (new ≡ after (nat_le (length text) (length old)) text old)
    × (status ≡ (if nat_le (length text) (length old) then 0 else 4))

-- the request with a number is reported
abbrev pub ReportsRequest : Option Parts → ℕ → List ℕ → List ℕ → Wanted → ℕ → Type 0
ReportsRequest (Some url) n old new wanted status =
    (wanted ≡ record { number = n; needed = length (text_of url) }) × PutsText (text_of url) old new status
ReportsRequest None n old new wanted status = ⊥

-- the first one, if there is one
abbrev pub ReportsFirst : Asking → Option ℕ → List ℕ → List ℕ → Wanted → ℕ → Type 0
ReportsFirst loader (Some n) old new wanted status = ReportsRequest (slice_get loader.asked n) n old new wanted status
ReportsFirst loader None old new wanted status = (wanted ≡ record { number = none; needed = 0 }) × (new ≡ old) × (status ≡ 19)

-- the first request from a number on that has no answer yet
abbrev pub ReportsWanted : Asking → ℕ → List ℕ → List ℕ → Wanted → ℕ → Type 0
ReportsWanted loader from old new wanted status =
    ReportsFirst loader (first_open_from from loader.open_ones) old new wanted status

-- ---- an answer

-- the header `content-type`, where it isn't empty
abbrev pub headers_with : List ℕ → HeaderList
headers_with [] = []
headers_with (b ∷ rest) = with_header [] (codes "content-type") (b ∷ rest)

-- an answer, or the status that says why there is none
abbrev pub Answer : Type 0
Answer = Result LoadAnswer ℕ

pub data IsContent (bytes content_type : List ℕ) (answer : Answer) : Type 0 where
  has_type : IsUtf8 content_type
      → answer ≡ Ok (Content (headers_with content_type) bytes) → IsContent bytes content_type answer
  no_type : ¬ IsUtf8 content_type → answer ≡ Err 7 → IsContent bytes content_type answer

-- to the URL that a text is
abbrev pub redirect_to : Parsed Parts → Answer
redirect_to (Ok target) = Ok (Redirect target)
redirect_to (Err why) = Err 23

pub data IsRedirect (bytes : List ℕ) (answer : Answer) : Type 0 where
  has_target : IsUtf8 bytes → answer ≡ redirect_to (parse_url None bytes) → IsRedirect bytes answer
  no_target : ¬ IsUtf8 bytes → answer ≡ Err 7 → IsRedirect bytes answer

-- by the number of the header
pub data IsAnswer (kind : ℕ) (bytes content_type : List ℕ) (answer : Answer) : Type 0 where
  of_content : kind ≡ 0 → IsContent bytes content_type answer → IsAnswer kind bytes content_type answer
  of_redirect : kind ≡ 1 → IsRedirect bytes answer → IsAnswer kind bytes content_type answer
  of_external : kind ≡ 2 → answer ≡ Ok External → IsAnswer kind bytes content_type answer
  of_absent : kind ≡ 3 → answer ≡ Ok Absent → IsAnswer kind bytes content_type answer
  of_failed : kind ≡ 4 → answer ≡ Ok Failed → IsAnswer kind bytes content_type answer
  -- there is no such kind
  of_none : 4 < kind → answer ≡ Err 22 → IsAnswer kind bytes content_type answer

abbrev pub given_status : Result Given AllocError → ℕ
given_status (Ok given.Taken) = 0
given_status (Ok given.NotAsked) = 20
given_status (Ok given.Answered) = 21
given_status (Err e) = 5

-- what a call with this answer does
abbrev pub AnswersWith : {M : Type 0} → ℕ → Answer → Session M → Session M → ℕ → Type 0
AnswersWith number (Ok answer) old new status =
    (given : Given) × Answers number answer old new given × (status ≡ given_status (Ok given))
AnswersWith number (Err why) old new status = (new ≡ old) × (status ≡ why)

pub data AnswersBy {M : Type 0} (number kind : ℕ) (bytes content_type : List ℕ) (old new : Session M) (status : ℕ) :
    Type 0 where
  with_answer : (answer : Answer) → IsAnswer kind bytes content_type answer → AnswersWith number answer old new status
      → AnswersBy number kind bytes content_type old new status
  -- memory ran out
  no_memory : new ≡ old → status ≡ 5 → AnswersBy number kind bytes content_type old new status

-- ---- an entry

-- no entry is reported
abbrev pub no_entry : EntryRecord
no_entry = record {
  state = 0;
  media_type = 21;
  fault = 0;
  place = 0;
  size = 0;
  specifier_end = 0;
  target_end = 0;
  target = none;
  edges = 0;
  text_bytes = 0;
}

-- the entry with a number
abbrev pub entry_at : GraphData → Option Parts → Option (Parts × Entry)
entry_at graph None = None
entry_at graph (Some url) = with_entry (entry_of graph.entries (text_of url))
  where
    with_entry : Option Entry → Option (Parts × Entry)
    with_entry None = None
    with_entry (Some e) = Some (url, e)

abbrev pub IsLaidOf : GraphData → Option (Parts × Entry) → Option LaidEntry → Type 0
IsLaidOf graph (Some e) (Some laid) = IsLaid graph.numbered e.0 e.1 laid
IsLaidOf graph None None = Unit {0}
IsLaidOf graph _ _ = ⊥

abbrev pub IsLaidAt : GraphData → ℕ → Option LaidEntry → Type 0
IsLaidAt graph number laid = IsLaidOf graph (entry_at graph (slice_get graph.numbered number)) laid

-- both buffers are large enough
abbrev pub fits : LaidEntry → List EdgeRecord → List ℕ → Bool
fits laid edges texts = nat_le (length laid.edges.items) (length edges) && nat_le (length laid.texts.items) (length texts)

-- its record is reported, and its edges and texts are written where both fit
abbrev pub PutsLaid : LaidEntry → List EdgeRecord → List EdgeRecord → List ℕ → List ℕ → EntryRecord → ℕ → Type 0
PutsLaid laid edges new_edges texts new_texts reported status = (reported ≡ laid.entry)
    × (new_edges ≡ after (fits laid edges texts) laid.edges.items edges)
    × (new_texts ≡ after (fits laid edges texts) laid.texts.items texts)
    × (status ≡ (if fits laid edges texts then 0 else 4))

-- nothing is written, for this cause
abbrev pub Refuses : ℕ → List EdgeRecord → List EdgeRecord → List ℕ → List ℕ → EntryRecord → ℕ → Type 0
Refuses cause edges new_edges texts new_texts reported status =
    (reported ≡ no_entry) × (new_edges ≡ edges) × (new_texts ≡ texts) × (status ≡ cause)

abbrev pub WritesLaid : Option LaidEntry → List EdgeRecord → List EdgeRecord → List ℕ → List ℕ → EntryRecord → ℕ → Type 0
WritesLaid (Some laid) = PutsLaid laid
WritesLaid None = Refuses 24

-- of a graph, if there is one
pub data ReportsEntry (graph : Option GraphData) (number : ℕ) (edges new_edges : List EdgeRecord) (texts new_texts : List ℕ)
    (reported : EntryRecord) (status : ℕ) : Type 0 where
  is_laid : (g : GraphData) (it : Option LaidEntry) → graph ≡ Some g → IsLaidAt g number it
      → WritesLaid it edges new_edges texts new_texts reported status
      → ReportsEntry graph number edges new_edges texts new_texts reported status
  not_yet : graph ≡ None → Refuses 16 edges new_edges texts new_texts reported status
      → ReportsEntry graph number edges new_edges texts new_texts reported status
  no_memory : Refuses 5 edges new_edges texts new_texts reported status
      → ReportsEntry graph number edges new_edges texts new_texts reported status

-- ---- a place

-- the text of a module of text
abbrev pub text_in : Option (Parts × Entry) → Option (List ℕ)
text_in (Some (url, entry.Module (made.Js m))) = Some m.text
text_in (Some (url, entry.Module (made.Json m))) = Some m.text
text_in _ = None

abbrev pub text_at : GraphData → ℕ → Option (List ℕ)
text_at graph number = text_in (entry_at graph (slice_get graph.numbered number))

-- line and column, where a character begins at the place or the text ends
abbrev pub IsDisplayIn : List ℕ → ℕ → Option LineAndColumnDisplay → Type 0
IsDisplayIn text place (Some shown) = IsCharBoundary text place × IsDisplay text place shown
IsDisplayIn text place None = ¬ IsCharBoundary text place

abbrev pub nowhere : PlaceRecord
nowhere = record { line = 0; column = 0 }

pub data ReportsPlace (graph : Option GraphData) (number place : ℕ) (reported : PlaceRecord) (status : ℕ) : Type 0 where
  is_shown : (g : GraphData) (text : List ℕ) (shown : LineAndColumnDisplay) → graph ≡ Some g → text_at g number ≡ Some text
      → IsCharBoundary text place → IsDisplay text place shown
      → reported ≡ record { line = shown.line_number; column = shown.column_number } → status ≡ 0
      → ReportsPlace graph number place reported status
  -- there is no such place, or no text
  no_place : (g : GraphData) (text : List ℕ) → graph ≡ Some g → text_at g number ≡ Some text → ¬ IsCharBoundary text place
      → reported ≡ nowhere → status ≡ 25 → ReportsPlace graph number place reported status
  no_text : (g : GraphData) → graph ≡ Some g → text_at g number ≡ None → reported ≡ nowhere → status ≡ 25
      → ReportsPlace graph number place reported status
  not_yet : graph ≡ None → reported ≡ nowhere → status ≡ 16 → ReportsPlace graph number place reported status
  no_memory : reported ≡ nowhere → status ≡ 5 → ReportsPlace graph number place reported status
