use Rattle.std.proofs.Common.{sym, ap, ◌∙◌}
use Rattle.deno_ast.proofs.ModeLemmas.{is_decl_ref, item_told}
use Rattle.deno_ast.proofs.decls.is_decl.Goals as goal

pub returns-in-ModuleDecl : goal.returns-in-ModuleDecl
returns-in-ModuleDecl c = sym (ap is_decl_ref c.in-ModuleDecl.is) ∙ item_told c.args.item

pub returns-in-Stmt : goal.returns-in-Stmt
returns-in-Stmt c = sym (ap is_decl_ref c.in-Stmt.is) ∙ item_told c.args.item
