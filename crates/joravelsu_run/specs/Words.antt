-- The arguments that the program is started with, and the forms that they have (this project's profile).
use Rattle.std.specs.Prelude.{◌≡◌, ℕ, List, [], ◌∷◌, codes}
use Rattle.joravelsu_run.specs.declared.words.Form.{Form}
use Rattle.joravelsu_run.specs.declared.words.Form.TheVariants.{Build, Order, Groups, Faults, Why, Gone, Policy, Declarations}

-- the words are this form
abbrev pub IsForm : Form → List (List ℕ) → Type 0
IsForm Build words = words ≡ codes "build" ∷ []
IsForm Order words = words ≡ codes "order" ∷ []
IsForm Groups words = words ≡ codes "groups" ∷ []
IsForm Faults words = words ≡ codes "faults" ∷ []
IsForm Why words = words ≡ codes "why" ∷ []
IsForm Gone words = words ≡ codes "gone" ∷ []
IsForm Policy words = words ≡ codes "policy" ∷ []
IsForm Declarations words = words ≡ codes "declarations" ∷ []

-- they are none of the forms
abbrev pub IsNoForm : List (List ℕ) → Type 0
IsNoForm words = (form : Form) → ¬ IsForm form words

-- they are one of them
abbrev pub IsReading : List (List ℕ) → Type 0
IsReading words = (form : Form) × IsForm form words
