use Rattle.std.proofs.Common.{sym, ◌∙◌, ap, ◌++◌, codes, nat_eq, [], get_or, Bor, List, ℕ, arith}
use Rattle.std.specs.Bool.{if◌then◌else◌}
use Rattle.lexical_path.proofs.PathsLemmas.{path_of_next}
use Rattle.lexical_path.proofs.normalize.path_of.Goals as goal

-- one more name is joined to the path
pub loop-i-preserved : goal.loop-i-preserved
loop-i-preserved c =
    let names = c.args.names.now in
    let i = c.loop-i.i in
    let d : Bor (List ℕ) = record { ref_ptr = (0, 0); now = [] } in
    c.in_ok-push_name.ensures
    ∙ ap (λ front. (front ++ (if nat_eq i 0 then [] else codes "/")) ++ (get_or names i d).now) c.loop-i.invariant
    ∙ sym (path_of_next c.args.absolute names i d (omega arith))
