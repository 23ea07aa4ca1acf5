-- What a run that vendors writes.
use Rattle.std.specs.Prelude.{◌≡◌, ◌⊎◌, ℕ, List, Option}
use Rattle.std.specs.Io.KnownBytes.{Appends, Keeps}
use Rattle.url.specs.Parts.{Parts}
use Rattle.counted_io.specs.Transfer.{TookPart}
use Rattle.graph_run.specs.declared.status.Status.{Status}
use Rattle.graph_run.specs.declared.status.Status.TheVariants.{Done, BuildRefused, BadInput, ReadFault, WriteFault, NoMemory, Usage}
use Rattle.vendor_run.specs.Due.{IsDueFor}

-- the due text was written whole
abbrev pub WroteDue : Parts → Option (List ℕ) → Option (List ℕ) → Option (List ℕ) → Status → Type 0
WroteDue base input old new status = (text : List ℕ) × IsDueFor base input status text × Appends old new text

-- a part from the front of the due text was written
abbrev pub WrotePart : Parts → Option (List ℕ) → Option (List ℕ) → Option (List ℕ) → Type 0
WrotePart base input old new =
    (status : Status) × (text : List ℕ) × IsDueFor base input status text × TookPart old new text

-- what was written, by the status: the due text, nothing, or a part of what was due
abbrev pub Wrote : Parts → Option (List ℕ) → Option (List ℕ) → Option (List ℕ) → Status → Type 0
Wrote base input old new Done = WroteDue base input old new Done
Wrote base input old new BuildRefused = WroteDue base input old new BuildRefused
Wrote base input old new BadInput = WroteDue base input old new BadInput
Wrote base input old new ReadFault = Keeps old new
Wrote base input old new WriteFault = WrotePart base input old new
Wrote base input old new NoMemory = Keeps old new
Wrote base input old new Usage = ⊥

-- where no count of faults rose and memory sufficed, the status has this fact
abbrev pub Comes : (Status → Type 0) → ℕ → ℕ → ℕ → ℕ → Status → Type 0
Comes P reads_old reads_new writes_old writes_new result =
    reads_new ≡ reads_old → writes_new ≡ writes_old → P result ⊎ (result ≡ NoMemory)

-- the graph was vendored, or it is refused
abbrev pub IsOutcome : Status → Type 0
IsOutcome status = (status ≡ Done) ⊎ (status ≡ BuildRefused)
