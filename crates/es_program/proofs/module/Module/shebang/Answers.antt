use Rattle.es_ast.specs.declared.ast.Program.TheVariants as vProgram
use Rattle.es_program.proofs.module.Module.shebang.Goals as goal

-- the line of the node
pub returns : goal.returns
returns c = c.shebang.ensures (vProgram.Module c.args.self.now.typed) c.source.ensures.keeps.typed
