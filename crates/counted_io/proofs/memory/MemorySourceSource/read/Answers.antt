-- The bytes given stand in front of those left, and none are given only at the end.
use Rattle.std.proofs.Common.{rules, ◌≡◌, ◌-◌, ◌≤◌, min, length, take, drop, ◌∙◌, arith}
use Rattle.std.proofs.lemmas.Grind.{common_steps}
use Rattle.counted_io.proofs.MemoryLemmas.{given_piece, none_left}
use Rattle.counted_io.proofs.memory.MemorySourceSource.read.Goals as goal

pub returns-clause-bytes : goal.returns-clause-bytes
returns-clause-bytes c =
    let part = c.copy_from_slice.new.self in
    let bytes = c.self.inside.bytes.items in
    let at = c.self.inside.at in
    let n = c.min-n.result in
    let is : part ≡ take n (drop at bytes) =
    grind (arith, common_steps, c.copy_from_slice.ensures.after, c.deref.ensures.value) in
    let fits : n ≤ length bytes - at = grind (arith, common_steps, c.min-n.ensures, c.len.ensures) in
    let left : c.args.self.now.left ≡ drop at bytes = search rules in
    let is_n : n ≡ min c.min.result (length bytes - at) =
    grind (arith, common_steps, c.min-n.ensures, c.len.ensures) in (
      left ∙ given_piece bytes part (drop n c.args.buffer.now) at n is fits,
      λ zero _. none_left bytes c.args.buffer.now at c.self.inside.piece n c.min.result c.self.invariant.1 is_n
          c.min.ensures zero c.requires,
    )
