-- The files so far are those that stand at no front so far.
use Rattle.std.proofs.Common.{◌≡◌, ◌≢◌, ◌<◌, ◌≤◌, ◌+◌, ℕ, false, List, length, get_or, take, subst, sym, ◌∙◌, ap}
use Rattle.std.specs.Prelude.{bytes_eq, ◌||◌, slice_index}
use Rattle.sys_traits.specs.Paths.{Path, is_at_or_below}
use Rattle.sys_traits.specs.State.{Files}
use Rattle.sys_traits.specs.Files.{without_file}
use Rattle.sys_traits.proofs.FilesLemmas.{slice_range-start}
use Rattle.sys_traits.proofs.GivenLemmas.{without_none, without_alike, without_both, is_front, front_none, front_skipped, front_added, front_all}
use Rattle.sys_traits.proofs.in_memory.given.take_at_or_above.Goals as goal
use Rattle.sys_traits.proofs.in_memory.given.take_at_or_above.Goals.{then-byte-eq47, else-byte-eq47}

pub loop-end-init : goal.loop-end-init
loop-end-init c =
    sym (without_alike (is_front 0 c.args.folder.now) (λ q. false) (front_none c.args.folder.now) c.args.files.now
    ∙ without_none c.args.files.now)

-- a `/` adds the front before it, and another byte adds none
pub loop-end-preserved : goal.loop-end-preserved
loop-end-preserved c =
    let folder : Path = c.args.folder.now in
    let end : ℕ = c.loop-end.end in
    let same : c.as_bytes-byte-items.result.now ≡ folder = c.as_bytes-byte-items.ensures.value in
    elim c.if-byte-eq47.branch [
      | then-byte-eq47 w ↦
          let inside : end < length folder = subst (λ (b : List ℕ). end < length b) same c.loop-end-test.true in
          let slash : get_or folder end 0 ≡ 47 = subst (λ (b : List ℕ). get_or b end 0 ≡ 47) same w.if-byte-eq47.true in
          w.files-is ∙ w.take.ensures.files
          ∙ ap (λ (p : Path). without_file c.loop-end.files p) (w.range.ensures.value ∙ slice_range-start folder end)
          ∙ ap (λ (fs : Files). without_file fs (take end folder)) c.loop-end.invariant
          ∙ without_both (is_front end folder) (λ q. bytes_eq q (take end folder)) c.args.files.now
          ∙ without_alike (λ q. is_front end folder q || bytes_eq q (take end folder)) (is_front (end + 1) folder)
          (front_added folder end inside slash) c.args.files.now
      | else-byte-eq47 w ↦
          let plain : slice_index folder end ≢ 47 =
          λ is. w.if-byte-eq47.false (subst (λ (b : List ℕ). get_or b end 0 ≡ 47) (sym same) is) in
          w.files-is ∙ c.loop-end.invariant
          ∙ without_alike (is_front end folder) (is_front (end + 1) folder) (front_skipped folder end plain)
          c.args.files.now
    ]

-- all fronts and the folder itself
pub returns : goal.returns
returns c =
    let folder : Path = c.args.folder.now in
    let end : ℕ = c.loop-end.end in
    let whole : length folder ≤ end =
    subst (λ (b : List ℕ). length b ≤ end) c.as_bytes-byte-items.ensures.value c.loop-end-test.false in
    c.take-2.ensures.files
    ∙ ap (λ (fs : Files). without_file fs folder) c.loop-end.invariant
    ∙ without_both (is_front end folder) (λ q. bytes_eq q folder) c.args.files.now
    ∙ without_alike (λ q. is_front end folder q || bytes_eq q folder) (λ q. is_at_or_below q folder)
    (front_all folder end whole) c.args.files.now
