use Rattle.dts_enums.proofs.PostLemmas.{lean_optional}
use Rattle.dts_enums.proofs.posts.is_optional.Goals as goal

-- `a?.[b + c]`
pub returns-in-Lean : goal.returns-in-Lean
returns-in-Lean c = λ x ts env r.
    let i = c.args.inner.now in
    rw c.in-Lean.is (lean_optional env x ts r c.in-Lean.field-0 i.from i.parts.entries.now)
