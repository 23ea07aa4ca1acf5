-- What the program does, for all its words.
use Rattle.std.specs.Prelude.{◌≡◌, ◌⊎◌, ℕ, List, Option}
use Rattle.std.specs.Io.KnownBytes.{Appends, Keeps}
use Rattle.url.specs.Parts.{Parts}
use Rattle.counted_io.specs.Transfer.{TookPart}
use Rattle.graph_run.specs.declared.words.words.Form.{Form}
use Rattle.graph_run.specs.declared.status.Status.{Status}
use Rattle.graph_run.specs.declared.status.Status.TheVariants.{Done, BuildRefused, BadInput, ReadFault, WriteFault, NoMemory, Usage}
use Rattle.graph_run.specs.words.Words.{IsForm, IsNoForm}
use Rattle.graph_run.specs.words.Words as graph
use Rattle.graph_run.specs.Run.{IsDueForm, usage_line}
use Rattle.vendor_run.specs.Words.{IsVendor, NamesFolder}
use Rattle.vendor_run.specs.Due as due

-- the words are no form: neither one of a graph nor `vendor` and a folder
abbrev pub IsNone : List (List ℕ) → Type 0
IsNone words = IsNoForm words × ((base : Parts) → ¬ IsVendor base words)

-- the words are a form whose input is read
abbrev pub IsReading : List (List ℕ) → Type 0
IsReading words = graph.IsReading words ⊎ ((base : Parts) × IsVendor base words)

-- the words are `vendor` and another one
abbrev pub AsksFolder : List (List ℕ) → Type 0
AsksFolder words = (word : List ℕ) × NamesFolder word words

-- what is due for words
pub data IsDueFor (words : List (List ℕ)) (input : Option (List ℕ)) (status : Status) (text : List ℕ) : Type 0 where
  -- they are no form
  usage : IsNone words → status ≡ Usage → text ≡ usage_line → IsDueFor words input status text
  -- they are this form of a graph
  form : (form : Form) → IsForm form words → IsDueForm form input status text → IsDueFor words input status text
  -- they name this folder
  vendor : (base : Parts) → IsVendor base words → due.IsDueFor base input status text
      → IsDueFor words input status text

-- the due text was written whole
abbrev pub WroteDue : List (List ℕ) → Option (List ℕ) → Option (List ℕ) → Option (List ℕ) → Status → Type 0
WroteDue words input old new status = (text : List ℕ) × IsDueFor words input status text × Appends old new text

-- a part from the front of the due text was written
abbrev pub WrotePart : List (List ℕ) → Option (List ℕ) → Option (List ℕ) → Option (List ℕ) → Type 0
WrotePart words input old new =
    (status : Status) × (text : List ℕ) × IsDueFor words input status text × TookPart old new text

-- what was written, by the status: the due text, nothing, or a part of what was due
abbrev pub Wrote : List (List ℕ) → Option (List ℕ) → Option (List ℕ) → Option (List ℕ) → Status → Type 0
Wrote words input old new Done = WroteDue words input old new Done
Wrote words input old new BuildRefused = WroteDue words input old new BuildRefused
Wrote words input old new BadInput = WroteDue words input old new BadInput
Wrote words input old new ReadFault = Keeps old new
Wrote words input old new WriteFault = WrotePart words input old new
Wrote words input old new NoMemory = Keeps old new
Wrote words input old new Usage = WroteDue words input old new Usage
