-- What the program writes, for all its arguments.
use Rattle.std.specs.Prelude.{◌≡◌, ◌⊎◌, ℕ, List, ◌++◌, codes, Option}
use Rattle.std.specs.Io.KnownBytes.{Appends, Keeps}
use Rattle.graph_report.specs.Report.{line_end}
use Rattle.counted_io.specs.Transfer.{TookPart}
use Rattle.graph_run.specs.declared.status.Status.{Status}
use Rattle.graph_run.specs.declared.status.Status.TheVariants.{Done, BuildRefused, BadInput, ReadFault, WriteFault, NoMemory, Usage}
use Rattle.joravelsu_run.specs.declared.words.Form.{Form}
use Rattle.joravelsu_run.specs.Words.{IsForm, IsNoForm}
use Rattle.joravelsu_run.specs.Due.{IsDueForm}

abbrev pub usage_line : List ℕ
usage_line = codes "usage: joravelsu_tool build | order | groups | faults | why | gone | policy | declarations" ++ line_end

-- what is due for words
pub data IsDueFor (words : List (List ℕ)) (input : Option (List ℕ)) (status : Status) (text : List ℕ) : Type 0 where
  -- they are no form
  usage : IsNoForm words → status ≡ Usage → text ≡ usage_line → IsDueFor words input status text
  -- they are this one
  form : (form : Form) → IsForm form words → IsDueForm form input status text → IsDueFor words input status text

-- the due text was written whole
abbrev pub WroteDue : List (List ℕ) → Option (List ℕ) → Option (List ℕ) → Option (List ℕ) → Status → Type 0
WroteDue words input old new status = (text : List ℕ) × IsDueFor words input status text × Appends old new text

-- a part from the front of the due text was written
abbrev pub WrotePart : List (List ℕ) → Option (List ℕ) → Option (List ℕ) → Option (List ℕ) → Type 0
WrotePart words input old new =
    (status : Status) × (text : List ℕ) × IsDueFor words input status text × TookPart old new text

-- what was written, by the status: the due text, nothing, or a part of what was due
abbrev pub Wrote : List (List ℕ) → Option (List ℕ) → Option (List ℕ) → Option (List ℕ) → Status → Type 0
Wrote words input old new Done = WroteDue words input old new Done
Wrote words input old new BuildRefused = WroteDue words input old new BuildRefused
Wrote words input old new BadInput = WroteDue words input old new BadInput
Wrote words input old new ReadFault = Keeps old new
Wrote words input old new WriteFault = WrotePart words input old new
Wrote words input old new NoMemory = Keeps old new
Wrote words input old new Usage = WroteDue words input old new Usage

-- where no count of faults rose and memory sufficed, this is so of the status
abbrev pub Comes : ℕ → ℕ → ℕ → ℕ → Status → (Status → Type 0) → Type 0
Comes reads_old reads_new writes_old writes_new result due =
    reads_new ≡ reads_old → writes_new ≡ writes_old → due result ⊎ (result ≡ NoMemory)
