use Rattle.std.proofs.Common.{sym}
use Rattle.es_ast.specs.declared.ast.Program.TheVariants as vProgram
use Rattle.es_program.proofs.script.Script.span.Goals as goal

-- the span of the node
pub returns : goal.returns
returns c = sym (c.span.ensures (vProgram.Script c.args.self.now.typed) c.source.ensures.keeps.typed)
