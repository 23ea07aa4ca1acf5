-- What is written of programs.
use Rattle.std.specs.Prelude.{List, Option}
use Rattle.base.specs.declared.range.Range.{Range}
use Rattle.es_ast.specs.declared.ast.Program.{Program}
use Rattle.es_syntax.specs.Roles.{program_in}
use Rattle.dts_rules.specs.Rules as rules
use Rattle.dts_rules.specs.Programs.{declared, with_sets}
use Rattle.dts_draft.specs.declared.draft.Draft.{Draft}
use Rattle.dts_draft.specs.Written.{IfThere}
use Rattle.dts_names.specs.declared.env.Env.{Env}
use Rattle.dts_names.specs.Names.{Knows}
use Rattle.dts_module_sets.specs.Items.{program_sets}
use Rattle.dts_members.specs.Overloads.{Overloads}
use Rattle.dts_parts.specs.Params.{Made}

-- with the sets of this program the rules go by what is known: its declarations are written
abbrev pub ProgramMade : Env → List Range → Draft → Draft → Option Program → Type 0
ProgramMade it ranges old new o =
    (by : rules.Env) → Overloads ranges by
    → IfThere (λ program. Knows it (with_sets by (program_sets by.number program))
    → Made it.text.now it.tokens.now program_in (declared by) old new program) o
