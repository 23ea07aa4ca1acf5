use Rattle.std.specs.Arc.{arc_value}
use Rattle.std.proofs.Common.{subst}
use Rattle.es_ast.specs.declared.ast.Program.TheVariants as vProgram
use Rattle.es_ast.specs.declared.ast.Script.{Script}
use Rattle.es_program.specs.Owned.{Owned}
use Rattle.es_program.specs.Sources.{Keeps}
use Rattle.es_program.proofs.script.Script.source.Goals as goal

-- the value is what is kept
pub returns-clause-keeps : goal.returns-clause-keeps
returns-clause-keeps c =
    let held : Keeps (arc_value c.self.inside.source) (vProgram.Script c.args.self.now.typed) =
    subst (λ (it : Owned Script). Keeps (arc_value c.self.inside.source) (vProgram.Script it.typed)) c.self.view_is
    c.self.invariant in
    rw (c.deref.ensures) held
