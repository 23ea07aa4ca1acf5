-- What a draft of the declarations of a program holds.
use Rattle.std.specs.Prelude.{◌≡◌, ℕ, List, [], Option, Some}
use Rattle.base.specs.declared.range.Range.{Range}
use Rattle.es_token.specs.declared.token.Token.{Token}
use Rattle.es_ast.specs.declared.ast.Program.{Program}
use Rattle.es_lowering.specs.Value.{part}
use Rattle.es_syntax.specs.Roles.{program_in}
use Rattle.es_changed.specs.Changed.{held_in}
use Rattle.es_changed.specs.Formed.{made_symbol}
use Rattle.dts_rules.specs.declared.found.Found.{Found}
use Rattle.dts_rules.specs.Sets.{Numbers, no_sets}
use Rattle.dts_rules.specs.Rules.{Env, State}
use Rattle.dts_rules.specs.Ranges.{has_range}
use Rattle.dts_rules.specs.Programs.{declared, with_sets}
use Rattle.dts_draft.specs.declared.draft.Draft.{Draft}
use Rattle.dts_draft.specs.Drafts.{state_of}
use Rattle.dts_draft.specs.Written.{IfThere}
use Rattle.dts_sets.specs.declared.known.Known.{Known}
use Rattle.dts_sets.specs.Ids.{Numbered}
use Rattle.dts_module_sets.specs.Items.{program_sets, Knows as KnowsSets}
use Rattle.dts_names.specs.declared.env.Env as names
use Rattle.dts_names.specs.Names.{Knows}
use Rattle.dts_members.specs.Overloads.{Overloads}

-- what the rules go by: the numbers of names, the number of those that are declared nowhere, and the bodies of overloads; `declared`
-- puts the sets of the program in
abbrev pub env_with : Numbers → ℕ → List Range → Env
env_with number unresolved ranges = record {
  number = number;
  unresolved = unresolved;
  sets = no_sets;
  implements = has_range ranges;
  name = made_symbol;
}

abbrev pub state_after : List Found → ℕ → State
state_after found made = record { found = found; made = made }

-- so many names were made before: the draft is the program's declarations, with what was found
pub record DraftIs (x : List ℕ) (ts : List Token) (env : Env) (made : ℕ) (draft : Draft) (it : Program) : Type 0 where
  pub state : state_of draft ≡ (declared env it (state_after [] made)).1
  pub tree : program_in (part (held_in x ts draft.row) 0) ≡ Some (declared env it (state_after [] made)).0

-- for whatever numbers of names are at the tokens
abbrev pub Drafted : List ℕ → List Token → List ℕ → List Range → ℕ → ℕ → Draft → Option Program → Type 0
Drafted x ts ids ranges unresolved made draft o =
    (number : Numbers) → Numbered ts ids number
    → IfThere (DraftIs x ts (env_with number unresolved ranges) made draft) o

-- the sets are those of the program
abbrev pub HasSets : List ℕ → List Token → List ℕ → Known → Option Program → Type 0
HasSets x ts ids known o =
    (number : Numbers) → Numbered ts ids number → IfThere (λ it. KnowsSets known (program_sets number it)) o

-- with the sets of the program the rules go by what is known
abbrev pub DraftedWith : names.Env → List Range → ℕ → Draft → Option Program → Type 0
DraftedWith it ranges made draft o =
    (by : Env) → Overloads ranges by
    → IfThere (λ program. Knows it (with_sets by (program_sets by.number program))
    → DraftIs it.text.now it.tokens.now by made draft program) o
