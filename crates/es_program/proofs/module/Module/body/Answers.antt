use Rattle.es_ast.specs.declared.ast.Program.TheVariants as vProgram
use Rattle.es_program.proofs.module.Module.body.Goals as goal

-- the parts of the node
pub returns : goal.returns
returns c =
    rw (c.as_str.ensures, c.as_slice.ensures)
    (c.body.ensures (vProgram.Module c.args.self.now.typed) c.source-source.ensures.keeps.typed)
