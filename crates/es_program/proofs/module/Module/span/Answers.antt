use Rattle.std.proofs.Common.{sym}
use Rattle.es_ast.specs.declared.ast.Program.TheVariants as vProgram
use Rattle.es_program.proofs.module.Module.span.Goals as goal

-- the span of the node
pub returns : goal.returns
returns c = sym (c.span.ensures (vProgram.Module c.args.self.now.typed) c.source.ensures.keeps.typed)
