-- The files so far are those that stand at none of the folders so far.
use Rattle.std.proofs.Common.{◌+◌, ℕ, List, sym, ◌∙◌, ap}
use Rattle.std.specs.Prelude.{bytes_eq, ◌||◌}
use Rattle.std.proofs.Math.Bool.{or-false}
use Rattle.std.proofs.lemmas.List.{take_all}
use Rattle.sys_traits.specs.Paths.{Path, root, is_at_or_below}
use Rattle.sys_traits.specs.State.{Files}
use Rattle.sys_traits.specs.Files.{without_file}
use Rattle.sys_traits.specs.Memory.{placed_files, is_folder}
use Rattle.sys_traits.proofs.GivenLemmas.{without, without_alike, without_both, is_folder_of, folder_added}
use Rattle.sys_traits.proofs.in_memory.given.files.Goals as goal

pub loop-path-init : goal.loop-path-init
loop-path-init c =
    let placed : Files = placed_files c.args.folder.now c.args.files.now in
    c.take.ensures.files
    ∙ ap (λ (fs : Files). without_file fs root) c.in_ok-kept.ensures
    ∙ without_alike (λ q. bytes_eq q root) (is_folder_of c.args.made.now 0) (λ q. sym (or-false (bytes_eq q root)))
    placed

pub loop-path-preserved : goal.loop-path-preserved
loop-path-preserved c =
    let placed : Files = placed_files c.args.folder.now c.args.files.now in
    let made : List Path = c.args.made.now in
    let i : ℕ = c.loop-path.path-index in
    let folder : Path = c.path-item.result in
    c.take_at_or_above.ensures
    ∙ ap (λ (p : Path). without (λ q. is_at_or_below q p) c.loop-path.kept) c.as_str.ensures
    ∙ ap (λ (fs : Files). without (λ q. is_at_or_below q folder) fs) c.loop-path.invariant
    ∙ without_both (is_folder_of made i) (λ q. is_at_or_below q folder) placed
    ∙ without_alike (λ q. is_folder_of made i q || is_at_or_below q folder) (is_folder_of made (i + 1))
    (folder_added made i folder c.loop-path-test.true c.path-item.is) placed

pub returns : goal.returns
returns c =
    let placed : Files = placed_files c.args.folder.now c.args.files.now in
    c.loop-path.invariant
    ∙ ap (λ (m : List Path). without (is_folder m) placed)
    (take_all c.loop-path.path-index c.args.made.now c.loop-path-test.false)
