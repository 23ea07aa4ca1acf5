-- What the calls of a graph's handle rest on.
use Rattle.std.proofs.Common.{◌≡◌, ◌↔◌, ℕ, List, refl, sym, ap, subst, Bool, false, IsTrue, IsSome, Some, None}
use Rattle.std.specs.Prelude.{Option}
use Rattle.std.specs.Global.{Box}
use Rattle.graph_bundle.specs.declared.bundle.BundleFault.{BundleFault}
use Rattle.graph_bundle.specs.declared.bundle.BundleFault.TheVariants.{NotJson, Pointer, OutOfMemory}
use Rattle.graph_run.specs.declared.status.Status.{Status}
use Rattle.graph_run.specs.Steps.{OfFault}
use Rattle.graph_session.specs.declared.calls.PlaceRecord.{PlaceRecord}
use Rattle.graph_session.specs.declared.records.EntryRecord.{EntryRecord}
use Rattle.graph_session.specs.declared.records.EdgeRecord.{EdgeRecord}
use Rattle.graph_session.specs.Calls.{IsNewBy, IsRefused, PollsBy, AnswersBy, ReportsEntry, ReportsPlace}
use Rattle.graph_c.specs.declared.held.Held.{Held}
use Rattle.graph_c.specs.Graph.{Reader, reads, line_of, IsTaken, IsRefusal, says, no_room_left, begun, refused, no_memory, News, AtPoll, AtAnswer, AtEntry, AtPlace}

-- what is due for a fault is its line
pub line_is : (why : BundleFault) (status : Status) (text : List ℕ) → OfFault why status text → text ≡ line_of why
line_is NotJson status text due = due.1
line_is (Pointer at) status text due = due.1
line_is OutOfMemory status text due = absurd due

-- what was taken from a handle was there
pub was_there : (old : Option Held) (box : Box Held) → IsTaken old (Some box) → old ≡ Some box.value
was_there None box h = absurd h
was_there (Some held) box h = ap Some (sym h)

-- a handle that isn't live has nothing
pub has_none : (old : Option Held) (live : Bool) → live ≡ false → (IsTrue live ↔ IsSome old) → old ≡ None
has_none None live off agrees = refl
has_none (Some held) live off agrees = let on : IsTrue live = agrees.1 refl in absurd cc

-- ---- a new graph

pub news_done : (settings line : List ℕ) (old new : Option Held) (held : Held) → old ≡ None → new ≡ Some held
    → IsNewBy settings (record {}) held.session → News settings old new line line 0 0
news_done settings line old new held none is session =
    subst (λ (o : Option Held). News settings o new line line 0 0) (sym none) (begun held.session session is refl refl refl)

pub news_refused : (settings line new_line : List ℕ) (old : Option Held) (why : BundleFault) (needed status : ℕ) → old ≡ None
    → IsRefused settings why → IsRefusal why line new_line 0 needed status
    → News settings old old line new_line needed status
news_refused settings line new_line old why needed status none why_refused (says written two) =
    subst (λ (o : Option Held). News settings o o line new_line needed status) (sym none) (refused why why_refused refl written two)
news_refused settings line new_line old why needed status none why_refused (no_room_left zero kept five) =
    subst (λ (o : Option Held). News settings o o line new_line needed status) (sym none) (no_memory refl zero kept five)

-- ---- calls that change a session

pub at_poll : (old new : Option Held) (held : Held) (session : Reader) (seen status : ℕ) → old ≡ Some held
    → new ≡ Some (record { session = session }) → PollsBy reads held.session session seen status → AtPoll old new seen status
at_poll old new held session seen status was is polls =
    subst (λ (o : Option Held). AtPoll o new seen status) (sym was) (session, is, polls)

pub at_answer : (old new : Option Held) (held : Held) (session : Reader) (number kind : ℕ) (bytes content_type : List ℕ)
    (status : ℕ) → old ≡ Some held → new ≡ Some (record { session = session })
    → AnswersBy number kind bytes content_type held.session session status
    → AtAnswer old new number kind bytes content_type status
at_answer old new held session number kind bytes content_type status was is answers =
    subst (λ (o : Option Held). AtAnswer o new number kind bytes content_type status) (sym was) (session, is, answers)

-- ---- calls that only read one

pub at_entry : (old new : Option Held) (held : Held) (number : ℕ) (edges new_edges : List EdgeRecord)
    (texts new_texts : List ℕ) (reported : EntryRecord) (status : ℕ) → old ≡ Some held → new ≡ Some held
    → ReportsEntry held.session.graph number edges new_edges texts new_texts reported status
    → AtEntry old new number edges new_edges texts new_texts reported status
at_entry old new held number edges new_edges texts new_texts reported status was is reports =
    subst (λ (o : Option Held). AtEntry o new number edges new_edges texts new_texts reported status) (sym was) (is, reports)

pub at_place : (old new : Option Held) (held : Held) (number place : ℕ) (reported : PlaceRecord) (status : ℕ)
    → old ≡ Some held → new ≡ Some held → ReportsPlace held.session.graph number place reported status
    → AtPlace old new number place reported status
at_place old new held number place reported status was is reports =
    subst (λ (o : Option Held). AtPlace o new number place reported status) (sym was) (is, reports)
