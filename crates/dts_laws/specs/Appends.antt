-- Steps that only append to what was found, and whose answers don't depend on it.
use Rattle.std.specs.Prelude.{◌≡◌, List, ◌++◌}
use Rattle.dts_rules.specs.declared.found.Found.{Found}
use Rattle.dts_rules.specs.Rules.{State, Run}

-- the state where this was found before
abbrev pub ahead : List Found → State → State
ahead f s = record { found = f ++ s.found; made = s.made }

abbrev pub moved : {A : Type 0} → List Found → A × State → A × State
moved f p = (p.0, ahead f p.1)

abbrev pub Appends : {A : Type 0} → Run A → Type 0
Appends run = (f : List Found) (s : State) → run (ahead f s) ≡ moved f (run s)
