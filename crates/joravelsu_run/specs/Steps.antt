-- What the crate's functions promise each other.
use Rattle.std.specs.Prelude.{◌≡◌, ℕ, Bool, List, Option, Result, Ok, Err, ◌++◌, String, string_bytes}
use Rattle.std.specs.Io.KnownBytes.{Appends, Keeps}
use Rattle.graph_builder.specs.Graph.{GraphData}
use Rattle.graph_builder.specs.declared.error.BuildError.{BuildError}
use Rattle.graph_builder.specs.declared.error.BuildError.TheVariants.{NotYet, TooManyModules, UnaskedAnswer, Finished, OutOfMemory}
use Rattle.graph_run.specs.declared.status.Status.{Status}
use Rattle.graph_run.specs.declared.status.Status.TheVariants.{Done, BuildRefused, BadInput, ReadFault, WriteFault, NoMemory, Usage}
use Rattle.counted_io.specs.Transfer.{TookPart}
use Rattle.graph_run.specs.Run.{too_many_line}
use Rattle.graph_run.specs.Steps.{IsUnforced}
use Rattle.joravelsu_run.specs.declared.words.Form.{Form}
use Rattle.joravelsu_run.specs.declared.asked.Telling.{Telling}
use Rattle.joravelsu_run.specs.declared.asked.Asked.{Asked}
use Rattle.joravelsu_run.specs.Due.{Tells, IsDueForm}

-- no answer comes in any case
abbrev pub IsFree : Asked → Type 0
IsFree asked = IsUnforced asked.forms.chosen.bundle

-- what is due for an end of its builder
abbrev pub OfEnd : Telling → Result GraphData BuildError → Status → List ℕ → Type 0
OfEnd telling (Ok graph) status text = Tells telling graph status text
OfEnd telling (Err (TooManyModules seen)) status text = (status ≡ BuildRefused) × (text ≡ too_many_line seen)
OfEnd telling (Err e) status text = ⊥

-- a text of which this is so was put behind other bytes, and behind a string
abbrev pub AddsTo : (List ℕ → Type 0) → List ℕ → List ℕ → Type 0
AddsTo P old new = (text : List ℕ) × P text × (new ≡ old ++ text)

abbrev pub AddsOne : {A : Type 0} → (List ℕ → Type 0) → String A → String A → Type 0
AddsOne P old new = AddsTo P (string_bytes old) (string_bytes new)

-- ---- a run of a form

-- the text that is due for it was written whole
abbrev pub WroteWhole : Form → Option (List ℕ) → Option (List ℕ) → Option (List ℕ) → Status → Type 0
WroteWhole form input old new status = (text : List ℕ) × IsDueForm form input status text × Appends old new text

-- what was written, by the status
abbrev pub WroteForm : Form → Option (List ℕ) → Option (List ℕ) → Option (List ℕ) → Status → Type 0
WroteForm form input old new Done = WroteWhole form input old new Done
WroteForm form input old new BuildRefused = WroteWhole form input old new BuildRefused
WroteForm form input old new BadInput = WroteWhole form input old new BadInput
WroteForm form input old new ReadFault = Keeps old new
WroteForm form input old new WriteFault =
    (status : Status) × (text : List ℕ) × IsDueForm form input status text × TookPart old new text
WroteForm form input old new NoMemory = Keeps old new
WroteForm form input old new Usage = ⊥
