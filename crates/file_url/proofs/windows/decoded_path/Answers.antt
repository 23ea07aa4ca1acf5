use Rattle.std.proofs.Common.{sym, ◌∙◌, ap, ◌++◌, codes, nat_eq, [], get_or, Bor, List, ℕ, arith}
use Rattle.std.specs.Bool.{if◌then◌else◌}
use Rattle.file_url.specs.WindowsPaths.{decoded}
use Rattle.file_url.proofs.TextsLemmas.{path_of_mapped}
use Rattle.file_url.proofs.windows.decoded_path.Goals as goal

-- one more segment is joined to the path
pub loop-i-preserved : goal.loop-i-preserved
loop-i-preserved c =
    let segments = c.args.segments.now in
    let i = c.loop-i.i in
    let d : Bor (List ℕ) = record { ref_ptr = (0, 0); now = [] } in
    c.in_ok-push_segment.ensures
    ∙ ap (λ front. (front ++ (if nat_eq i 0 then [] else codes "/")) ++ decoded (get_or segments i d).now)
    c.loop-i.invariant
    ∙ sym (path_of_mapped decoded c.args.absolute segments i d (omega arith))
