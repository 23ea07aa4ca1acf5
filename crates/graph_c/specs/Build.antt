-- What joravelsu_build leaves in the caller's buffer.
use Rattle.std.specs.Prelude.{◌≡◌, ℕ, ◌<◌, ◌≤◌, List, ◌++◌, length, drop}
use Rattle.graph_run.specs.declared.status.Status.{Status}
use Rattle.graph_run.specs.declared.status.Status.TheVariants.{WriteFault, NoMemory}
use Rattle.graph_run.specs.Status.{code_of}
use Rattle.graph_run.specs.Run.{IsDue}

-- by what is due for the bundle: its length is told, and it is written whole or not at all
pub data Builds (bundle : List ℕ) (old new : List ℕ) (needed status : ℕ) : Type 0 where
  -- it fits
  written : (due : Status) (text : List ℕ) → IsDue bundle due text → length text ≤ length old → needed ≡ length text
      → new ≡ text ++ drop (length text) old → status ≡ code_of due → Builds bundle old new needed status
  -- the buffer is too small
  no_room : (due : Status) (text : List ℕ) → IsDue bundle due text → length old < length text → needed ≡ length text
      → new ≡ old → status ≡ code_of WriteFault → Builds bundle old new needed status
  -- memory ran out
  no_memory : needed ≡ 0 → new ≡ old → status ≡ code_of NoMemory → Builds bundle old new needed status
