-- Faults of parameters with another text.
use Rattle.std.specs.Prelude.{Result}
use Rattle.std.specs.Result.{IfErr}
use Rattle.std.proofs.Common.{◌≡◌, subst, ℕ, List}
use Rattle.grammar_theory.specs.declared.error.Mode.{Mode}
use Rattle.parse_diagnostic.specs.declared.diagnostic.ParseFault.{ParseFault}
use Rattle.source_reading.specs.Fault.{Refuses}
use Rattle.deno_ast.specs.declared.params.ParseParams.{ParseParams}
use Rattle.deno_ast.specs.Source.{IsFault}
use Rattle.deno_ast.specs.Steps.{with_text}

-- a fault of the changed parameters is one of those that were given, with this text
pub other_text : (modes : List Mode) (params p : ParseParams) (text : List ℕ) (f : ParseFault)
    → p ≡ with_text params text → Refuses (IsFault modes p p.text) f → Refuses (IsFault modes params text) f
other_text modes params p text f is told =
    subst (λ (q : ParseParams). Refuses (IsFault modes q q.text) f) is told

pub other_text_if : {T : Type 0} (modes : List Mode) (params p : ParseParams) (text : List ℕ)
    (r : Result T ParseFault) → p ≡ with_text params text → IfErr r (Refuses (IsFault modes p p.text))
    → IfErr r (Refuses (IsFault modes params text))
other_text_if modes params p text r is told =
    subst (λ (q : ParseParams). IfErr r (Refuses (IsFault modes q q.text))) is told
