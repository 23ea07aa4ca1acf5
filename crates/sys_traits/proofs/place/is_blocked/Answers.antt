use Rattle.std.proofs.Common.{◌≡◌, ◌<◌, ◌≤◌, ℕ, List, true, false, inl, inr, sym, ◌∙◌, ap, is_some, length, take, get_or, subst, lt_of_lt_of_le, eq-or-lt_of_le, arith}
use Rattle.sys_traits.specs.Paths.{Path}
use Rattle.sys_traits.specs.State.{file_at}
use Rattle.sys_traits.proofs.FilesLemmas.{blocked_at, not_blocked, is_some-copied, slice_range-start}
use Rattle.sys_traits.proofs.place.is_blocked.Goals as goal
use Rattle.sys_traits.proofs.place.is_blocked.Goals.{else-byte-eq47-via-then-byte-eq47+else-is_some, else-byte-eq47-via-else-byte-eq47}

-- a file stands at this front
pub returns-then-is_some : goal.returns-then-is_some
returns-then-is_some c =
    let same = c.as_bytes-byte-items.ensures.value in
    let inside : c.loop-end.end < length c.args.path.now =
    subst (λ (b : List ℕ). c.loop-end.end < length b) same c.loop-end-test.true in
    let slash : get_or c.args.path.now c.loop-end.end 0 ≡ 47 =
    subst (λ (b : List ℕ). get_or b c.loop-end.end 0 ≡ 47) same c.if-byte-eq47.true in
    let there : is_some (file_at c.args.files.now (take c.loop-end.end c.args.path.now)) ≡ true =
    sym (ap is_some (c.get.ensures
    ∙ ap (λ (p : Path). file_at c.args.files.now p)
    (c.range.ensures.value ∙ slice_range-start c.args.path.now c.loop-end.end)))
    ∙ is_some-copied c.get.result ∙ sym c.is_some.ensures ∙ c.if-is_some.true in
    sym (blocked_at c.args.files.now c.args.path.now c.loop-end.end inside slash there)

-- none stands at any front
pub returns : goal.returns
returns c =
    let whole : length c.args.path.now ≤ c.loop-end.end =
    subst (λ (b : List ℕ). length b ≤ c.loop-end.end) c.as_bytes-byte-items.ensures.value c.loop-end-test.false in
    sym (not_blocked c.args.files.now c.args.path.now
    (λ k inside. c.loop-end.invariant k (lt_of_lt_of_le inside whole)))

-- the front at this place is clear, as those before are
pub loop-end-preserved : goal.loop-end-preserved
loop-end-preserved c = λ k below slash.
    let not_past : k ≤ c.loop-end.end = omega arith in
    elim (eq-or-lt_of_le not_past) [
      | inl e ↦
          let slash_here : get_or c.as_bytes-byte-items.result.now c.loop-end.end 0 ≡ 47 =
          subst (λ (b : List ℕ). get_or b c.loop-end.end 0 ≡ 47) (sym c.as_bytes-byte-items.ensures.value)
          (subst (λ (j : ℕ). get_or c.args.path.now j 0 ≡ 47) e slash) in
          let clear : is_some (file_at c.args.files.now (take c.loop-end.end c.args.path.now)) ≡ false =
          elim c.else-byte-eq47.branch [
            | else-byte-eq47-via-then-byte-eq47+else-is_some w ↦
                sym (ap is_some (w.get.ensures
                ∙ ap (λ (p : Path). file_at c.args.files.now p)
                (w.range.ensures.value ∙ slice_range-start c.args.path.now c.loop-end.end)))
                ∙ is_some-copied w.get.result ∙ sym w.is_some.ensures ∙ w.if-is_some.false
            | else-byte-eq47-via-else-byte-eq47 w ↦ absurd (w.if-byte-eq47.false slash_here)
          ] in
          subst (λ (j : ℕ). is_some (file_at c.args.files.now (take j c.args.path.now)) ≡ false) (sym e) clear
      | inr less ↦ c.loop-end.invariant k less slash
    ]
