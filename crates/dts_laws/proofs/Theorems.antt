-- Laws of the declarations of a program.
use Rattle.std.proofs.Common.{◌≡◌, refl, ap, true, List, [], ◌∷◌}
use Rattle.es_ast.specs.declared.ast.ModuleItem.{ModuleItem}
use Rattle.es_ast.specs.declared.ast.Program.{Program}
use Rattle.es_ast.specs.declared.ast.Program.TheVariants as vProgram
use Rattle.es_ast.specs.declared.ast.Stmt.{Stmt}
use Rattle.dts_rules.specs.Rules.{Env, State, after, flat, some}
use Rattle.dts_rules.specs.Programs.{declared, shown_item, shown_stmt, with_sets}
use Rattle.dts_rules.specs.Sets.{no_sets, sets_of}
use Rattle.dts_laws.specs.Appends.{Appends}
use Rattle.dts_laws.specs.Stays.{items_of, staying}
use Rattle.dts_laws.proofs.StepLemmas.{AllAppend, turn_appends}
use Rattle.dts_laws.proofs.Nodes.{item_appends, stmt_appends}
use Rattle.dts_laws.proofs.Staying.{items_staying}

all_items : (env : Env) (them : List ModuleItem) → AllAppend (λ item. shown_item env item true) them
all_items env [] = tt
all_items env (it ∷ others) = (item_appends env it true, all_items env others)

all_stmts : (env : Env) (them : List Stmt) → AllAppend (λ stmt. shown_stmt env stmt true) them
all_stmts env [] = tt
all_stmts env (it ∷ others) = (stmt_appends env it true, all_stmts env others)

-- what was found before neither changes the declarations nor what is found now
pub program_appends : (env : Env) (program : Program) → Appends (declared env program)
unfolding declared
program_appends env (vProgram.Module it) = λ f s.
    let by = with_sets env (sets_of env.number it.body) in
    ap (λ p. after (λ body. vProgram.Module (record { shebang = it.shebang; body = body; span = it.span }))
    (after (λ items. flat items) p))
    (turn_appends (λ item. shown_item by item true) it.body (all_items by it.body) f s)
program_appends env (vProgram.Script it) = λ f s.
    let by = with_sets env no_sets in
    ap (λ p. after (λ body. vProgram.Script (record { shebang = it.shebang; body = body; span = it.span }))
    (after (λ stmts. some stmts) p))
    (turn_appends (λ stmt. shown_stmt by stmt true) it.body (all_stmts by it.body) f s)

-- the imports of a module, its exports from others and of names stay, in order and unchanged
pub imports_stay : (env : Env) (program : Program) (s : State)
    → staying (items_of (declared env program s).0) ≡ staying (items_of program)
unfolding declared
imports_stay env (vProgram.Module it) s = items_staying (with_sets env (sets_of env.number it.body)) it.body s
imports_stay env (vProgram.Script it) s = refl
